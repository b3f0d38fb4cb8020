use Rattle.std.proofs.Common.{◌≡◌, ◌∙◌, sym, ap, ◌<◌, ◌≤◌, ◌^◌, ◌∷◌, length, get_or, drop, decimal, arith, rules}
use Rattle.std.proofs.lemmas.Fmt.{decimal_injective}
use Rattle.source_nets.proofs.PortLemmas.{not_among, is_among, headed, behind_first}
use Rattle.lowering.proofs.PortLemmas.{placed_at_number}
use Rattle.lowering.proofs.ports.port_place.Goals as goal
use Rattle.lowering.proofs.ports.port_place.Goals.{then-is_empty-via-then-is_empty, then-is_empty-via-else-is_empty+then-name-letter}

pub returns-then-is_empty-clause-none : goal.returns-then-is_empty-clause-none
returns-then-is_empty-clause-none c =
    let name = c.args.name.now in
    elim c.then-is_empty.branch [
      | then-is_empty-via-then-is_empty w ↦
          let empty : length name ≡ 0 = search rules in
          not_among (λ i. c.args.letter ∷ decimal i) name 0 c.args.count (λ i a b e. let same = ap length e in omega arith)
      | then-is_empty-via-else-is_empty+then-name-letter w ↦
          let other : (get_or name 0 0 ≡ c.args.letter) → ⊥ = search rules in
          not_among (λ i. c.args.letter ∷ decimal i) name 0 c.args.count (λ i a b e. other (sym (ap (λ n. get_or n 0 0) e)))
    ]

pub returns-in_err-number-clause-none : goal.returns-in_err-number-clause-none
returns-in_err-number-clause-none c =
    let name = c.args.name.now in
    rw c.from_residual.ensures
    (not_among (λ i. c.args.letter ∷ decimal i) name 0 c.args.count (λ i a b e. c.in_err-number.ensures.none i (let few = c.requires in omega arith) (ap (drop 1) e ∙ sym (behind_first name))))

pub returns-then-number-count-clause-place : goal.returns-then-number-count-clause-place
returns-then-number-count-clause-place c =
    let name = c.args.name.now in
    let some : 0 < length name = search rules in
    let first : get_or name 0 0 ≡ c.args.letter = search rules in
    let k = c.in_ok-number.field-0 in
    let below : k < c.args.count = search rules in
    let digits : decimal k ≡ drop 1 name = c.in_ok-number.ensures.written ∙ behind_first name in
    placed_at_number c.args.letter c.args.count k name c.requires below (ap (λ w. c.args.letter ∷ w) digits ∙ sym (headed name c.args.letter some first))

pub returns-then-number-count-clause-port : goal.returns-then-number-count-clause-port
returns-then-number-count-clause-port c =
    let name = c.args.name.now in
    let some : 0 < length name = search rules in
    let first : get_or name 0 0 ≡ c.args.letter = search rules in
    let k = c.in_ok-number.field-0 in
    let below : k < c.args.count = search rules in
    let digits : decimal k ≡ drop 1 name = c.in_ok-number.ensures.written ∙ behind_first name in
    is_among (λ i. c.args.letter ∷ decimal i) name 0 c.args.count k (omega arith) (omega arith) (ap (λ w. c.args.letter ∷ w) digits ∙ sym (headed name c.args.letter some first))

pub returns-else-number-count-clause-none : goal.returns-else-number-count-clause-none
returns-else-number-count-clause-none c =
    let name = c.args.name.now in
    let k = c.in_ok-number.field-0 in
    let above : c.args.count ≤ k = search rules in
    let far : k < 2 ^ 64 = search rules in
    let few = c.requires in
    let digits : decimal k ≡ drop 1 name = c.in_ok-number.ensures.written ∙ behind_first name in
    not_among (λ i. c.args.letter ∷ decimal i) name 0 c.args.count (λ i a b e.
    let same : i ≡ k = decimal_injective i k (omega arith) far (ap (drop 1) e ∙ sym digits) in
    omega arith)
