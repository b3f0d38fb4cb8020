use Rattle.std.proofs.Common.{◌≡◌, ◌+◌, ◌^◌, ◌++◌, map, drop, take_while, nat_lt}
use Rattle.distance.proofs.error_patterns.push_with.Given as goal

abbrev pub invariant-loop-word : goal.invariant-loop-word
invariant-loop-word l =
    l.raised.items ++ map (λ x. 2 ^ l.place + x) (take_while (λ x. nat_lt x (2 ^ l.place)) (drop l.word-index l.words))
    ≡ l.initial.raised.items ++ map (λ x. 2 ^ l.place + x) (take_while (λ x. nat_lt x (2 ^ l.place)) l.words)
