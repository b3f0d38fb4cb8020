use Rattle.std.proofs.Common.{[]}
use Rattle.netlist_spec.specs.Written.{file_of}
use Rattle.elaborated.proofs.FlatIsFlat.{is-flat, is-text}
use Rattle.elaborated.proofs.laws.flat_netlists_are_flat.Goals as goal

pub returns-clause-flat : goal.returns-clause-flat
returns-clause-flat c file library m e g stands named is =
    is-flat file library m e g stands named is (c.named_files_are_ordered.ensures g named)
    (λ xs states outs. c.named_files_run_as_gates.ensures.runs g named [] tt xs states outs) (c.named_files_have_written_form.ensures.gates g named)

pub returns-clause-text : goal.returns-clause-text
returns-clause-text c file library m e g stands named is = is-text file library m e g stands named is (c.named_texts_are_read.ensures g named)

pub returns-clause-flat_text : goal.returns-clause-flat_text
returns-clause-flat_text c netlist file library m e g reads stands named is =
    record {
      source = file;
      is_source = reads;
      g = file_of g;
      text_of_g = is-text file library m e g stands named is (c.named_texts_are_read.ensures g named);
      flat =
          is-flat file library m e g stands named is (c.named_files_are_ordered.ensures g named)
          (λ xs states outs. c.named_files_run_as_gates.ensures.runs g named [] tt xs states outs) (c.named_files_have_written_form.ensures.gates g named);
    }
