-- None of the ports so far is missing.
use Rattle.std.proofs.Common.{◌≡◌, ◌∷◌, ◌-◌, find, map, not, decimal}
use Rattle.std.specs.List.{range_with_len}
use Rattle.netlist_spec.specs.Netlist.{stands_in}
use Rattle.source_placements.proofs.missing.missing_number.Given as goal

abbrev pub invariant-loop-i : goal.invariant-loop-i
invariant-loop-i l =
    find (λ p. not (stands_in p l.given)) (map (λ i. 105 ∷ decimal i) (range_with_len l.i (l.count - l.i)))
    ≡ find (λ p. not (stands_in p l.given)) (map (λ i. 105 ∷ decimal i) (range_with_len 0 l.count))
