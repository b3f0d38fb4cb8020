use Rattle.std.proofs.Common.{◌<◌, ◌≤◌, ◌+◌, ◌*◌, ◌≡◌, Some, length, sym, ◌∙◌, ap, arith}
use Rattle.std.specs.Prelude.{slice_get, slice_range}
use Rattle.sim_text.specs.Rows.{Rows}
use Rattle.sim_text.proofs.RowLemmas.{rows_count, row_inside, row_at}
use Rattle.sim_text.proofs.stimulus.Stimulus.row.Goals as goal

pub copy_to-requires-clause-inside : goal.copy_to-requires-clause-inside
copy_to-requires-clause-inside c =
    let count = rows_count c.self.inside.inputs c.self.inside.cycles c.self.inside.bits in
    let all = ap (λ (r : Rows). length r.cycles) c.self.view_is in
    let below : c.args.c < c.self.inside.cycles = omega (arith, count, all, c.requires.cycle) in
    let wide = ap (λ (r : Rows). r.inputs) c.self.view_is in
    let inside : c.args.c * c.self.inside.inputs + c.self.inside.inputs ≤ length c.self.inside.bits = row_inside c.self.inside.inputs c.self.inside.cycles c.self.inside.bits c.args.c c.self.invariant.1 below in
    omega (arith, inside, wide, c.requires.width)

pub returns : goal.returns
returns c =
    let count = rows_count c.self.inside.inputs c.self.inside.cycles c.self.inside.bits in
    let all = ap (λ (r : Rows). length r.cycles) c.self.view_is in
    let below : c.args.c < c.self.inside.cycles = omega (arith, count, all, c.requires.cycle) in
    let wide : length c.args.x.now ≡ c.self.inside.inputs = c.requires.width ∙ sym (ap (λ (r : Rows). r.inputs) c.self.view_is) in
    let start = c.args.c * c.self.inside.inputs in
    let part = c.copy_to.ensures ∙ ap (λ w. slice_range c.self.inside.bits start (start + w)) wide in
    sym (ap (λ (r : Rows). slice_get r.cycles c.args.c) c.self.view_is)
    ∙ (row_at c.self.inside.inputs c.self.inside.cycles c.self.inside.bits c.args.c c.self.invariant.1 below ∙ ap Some (sym part))
