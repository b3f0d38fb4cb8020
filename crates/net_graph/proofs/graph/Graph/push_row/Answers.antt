use Rattle.std.proofs.Common.{◌∙◌, ap, ◌++◌, ◌∷◌, [], arith}
use Rattle.net_graph.proofs.RowLemmas.{pushed_rise, pushed_rows}
use Rattle.net_graph.proofs.graph.Graph.push_row.Goals as goal

pub invariant_of-self-2 : goal.invariant_of-self-2
invariant_of-self-2 c =
    pushed_rise c.self.inside.stops.items c.reserve.new.self.items c.push.new.self.items c.self.inside.ends.items c.extend_from_slice.new.self.items c.args.row.now c.len.result
    c.in_ok-reserve.ensures.items c.in_ok-push.ensures.items c.in_ok-extend_from_slice.ensures.items (omega (arith, c.len.ensures, c.extend_from_slice.new.self.ok.0)) c.self.invariant

pub returns-clause-ok : goal.returns-clause-ok
returns-clause-ok c =
    pushed_rows c.self.inside.stops.items c.reserve.new.self.items c.push.new.self.items c.self.inside.ends.items c.extend_from_slice.new.self.items c.args.row.now c.len.result
    c.in_ok-reserve.ensures.items c.in_ok-push.ensures.items c.in_ok-extend_from_slice.ensures.items (omega (arith, c.len.ensures, c.extend_from_slice.new.self.ok.0)) c.self.invariant
    ∙ ap (λ l. l ++ c.args.row.now ∷ []) c.self.view_is
