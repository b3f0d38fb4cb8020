use Rattle.std.proofs.Common.{◌≤◌, length, sym, ◌∙◌, ap, arith}
use Rattle.sim_text.specs.Rows.{Rows}
use Rattle.sim_text.proofs.RowLemmas.{rows_count}
use Rattle.sim_text.proofs.stimulus.Stimulus.cycles.Goals as goal

pub returns-clause-count : goal.returns-clause-count
returns-clause-count c = sym (rows_count c.self.inside.inputs c.self.inside.cycles c.self.inside.bits) ∙ ap (λ (r : Rows). length r.cycles) c.self.view_is

pub returns-clause-few : goal.returns-clause-few
returns-clause-few c =
    let e = returns-clause-count c in
    let few : c.self.inside.cycles ≤ 1000000 = c.self.invariant.0 in
    omega arith
