-- None of the statements so far has a name that means nothing.
use Rattle.std.proofs.Common.{◌≡◌, drop}
use Rattle.netlist_spec.specs.Covers.{Library}
use Rattle.netlist_spec.specs.FileOrder.{a_statement}
use Rattle.netlist_spec.specs.Netlist.{File}
use Rattle.netlist_spec.specs.SoundFaults.{no_such_model_at}
use Rattle.blif_read.specs.declared.file.Located.{Located}
use Rattle.blif_read.specs.View.{model_of, statement_of}
use Rattle.source_nets.specs.Survey.{IsModelSurvey}
use Rattle.source_placements.proofs.FirstLemmas.{first_some}
use Rattle.source_placements.proofs.names.no_such_model.Given as goal

abbrev pub invariant-loop-i : goal.invariant-loop-i
invariant-loop-i l =
    (file : File) (library : Library) → IsModelSurvey file library (model_of l.m) l.survey
    → first_some (λ (s : Located). no_such_model_at file library (a_statement (statement_of l.m.names s.what))) (drop l.i l.s-items)
    ≡ first_some (λ (s : Located). no_such_model_at file library (a_statement (statement_of l.m.names s.what))) l.s-items
