use Rattle.std.proofs.Common.{sym, subst, ℕ, ◌^◌, ◌<◌, ◌≤◌, length}
use Rattle.std.proofs.lemmas.List.{length-map}
use Rattle.guard_spec.specs.Codes.{Code, data_places, bits_of}
use Rattle.block_code.proofs.Shapes.{is_code, All_take, sum_is_checks}
use Rattle.block_code.proofs.code.Code.check_bits.Goals as goal

fits : (c : goal.After-sum_at) → c.args.m ≤ length c.self.inside.rows.items
fits c =
    let rows = c.self.inside.rows.items in
    let places = subst (λ (code : Code). c.args.m ≤ data_places code) (sym c.self.view_is) c.requires in
    subst (λ (n : ℕ). c.args.m ≤ n) (length-map rows (bits_of c.self.inside.r)) places

pub returns-clause-valid : goal.returns-clause-valid
returns-clause-valid c = rw (← c.self.view_is) (is_code _ _ c.self.invariant)

pub returns-clause-sum : goal.returns-clause-sum
returns-clause-sum c = rw (← c.self.view_is) (sum_is_checks c.self.inside.r c.args.m c.self.inside.rows.items _ _ (fits c) (rw c.deref.ensures.0 at (c.sum_at.ensures.sum c.self.inside.r)))

pub returns-clause-within : goal.returns-clause-within
returns-clause-within c = rw (← c.self.view_is) (c.sum_at.ensures.within c.self.inside.r (rw c.deref.ensures.0 (All_take (λ row. row < 2 ^ c.self.inside.r) c.args.m c.self.inside.rows.items (fits c) c.self.invariant.each)))
