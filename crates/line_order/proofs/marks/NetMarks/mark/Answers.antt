use Rattle.std.proofs.Common.{◌<◌, sym, subst, List, Bool, length}
use Rattle.line_order.specs.Marks.{Marks}
use Rattle.line_order.proofs.MarkLemmas.{mark_set}
use Rattle.line_order.proofs.marks.NetMarks.mark.Goals as goal

pub returns-clause-marked : goal.returns-clause-marked
returns-clause-marked c = λ all listed m.
    mark_set all c.self.inside.marks.items listed c.args.id (subst (λ (l : List Bool). c.args.id.0 < length l) (sym c.self.view_is) c.requires)
    (subst (λ (l : List Bool). Marks all l listed) (sym c.self.view_is) m)
