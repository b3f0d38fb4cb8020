use Rattle.std.proofs.Common.{◌≡◌, ◌∙◌, sym, ap, List, Some, map, slice_get}
use Rattle.netlist_spec.specs.Netlist.{Name, Located}
use Rattle.netlist_spec.specs.Sound.{reads}
use Rattle.imp_text.specs.declared.names.NameId.{NameId}
use Rattle.blif_read.specs.Ids.{IsIdOf}
use Rattle.blif_read.specs.View.{name_at}
use Rattle.line_order.proofs.MarkLemmas.{all_of}
use Rattle.source_nets.proofs.SurveyLemmas.{all_at, row_at, same_at}
use Rattle.source_nets.proofs.types.ModelSurvey.reads.Goals as goal

pub returns-clause-names : goal.returns-clause-names
returns-clause-names c = λ file library m s is at.
    same_at _ _ c.args.i _ _ is.reads (row_at (map (name_at m.names)) c.args.self.now.reads c.args.i c.row.result.now c.row.ensures)
    (row_at (λ (l : Located). reads file library l.what) m.statements c.args.i s at)

pub returns-clause-within : goal.returns-clause-within
returns-clause-within c = λ file library m is.
    all_of (IsIdOf m.names) c.row.result.now (all_at _ c.args.self.now.reads c.args.i c.row.result.now is.reads_within c.row.ensures)
