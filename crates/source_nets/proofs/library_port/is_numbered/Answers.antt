use Rattle.std.proofs.Common.{◌≡◌, ◌∙◌, sym, ap, ℕ, ◌<◌, ◌≤◌, ◌^◌, ◌∷◌, length, get_or, drop, decimal, arith, rules}
use Rattle.source_nets.proofs.PortLemmas.{not_among, headed, numbered, behind_first}
use Rattle.source_nets.proofs.library_port.is_numbered.Goals as goal
use Rattle.source_nets.proofs.library_port.is_numbered.Goals.{then-is_empty-via-then-is_empty, then-is_empty-via-else-is_empty+then-name-letter}

pub returns-then-is_empty : goal.returns-then-is_empty
returns-then-is_empty c =
    let name = c.args.name.now in
    elim c.then-is_empty.branch [
      | then-is_empty-via-then-is_empty w ↦
          let empty : length name ≡ 0 = search rules in
          sym (not_among (λ i. c.args.letter ∷ decimal i) name 0 c.args.count (λ i a b e. let same = ap length e in omega arith))
      | then-is_empty-via-else-is_empty+then-name-letter w ↦
          let other : (get_or name 0 0 ≡ c.args.letter) → ⊥ = search rules in
          sym (not_among (λ i. c.args.letter ∷ decimal i) name 0 c.args.count (λ i a b e. other (sym (ap (λ n. get_or n 0 0) e))))
    ]

pub returns-in-Some : goal.returns-in-Some
returns-in-Some c =
    let name = c.args.name.now in
    let some : 0 < length name = search rules in
    let first : get_or name 0 0 ≡ c.args.letter = search rules in
    let digits : decimal c.in-Some.number ≡ drop 1 name = c.in-Some.ensures.written ∙ behind_first name in
    let far : c.in-Some.number < 2 ^ 64 = search rules in
    numbered c.args.letter c.args.count c.in-Some.number name (ap (λ w. c.args.letter ∷ w) digits ∙ sym (headed name c.args.letter some first)) far c.requires

pub returns-in-None : goal.returns-in-None
returns-in-None c =
    let name = c.args.name.now in
    sym (not_among (λ i. c.args.letter ∷ decimal i) name 0 c.args.count (λ i a b e. c.in-None.ensures.none i (let few = c.requires in omega arith) (ap (drop 1) e ∙ sym (behind_first name))))
