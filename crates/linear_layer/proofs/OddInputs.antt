-- The gates of parities.
use Rattle.std.proofs.Common.{◌≡◌, sym, ◌∙◌, ap, refl, ℕ, ◌+◌, ◌*◌, ◌/◌, ◌^◌, ◌<◌, ◌≤◌, Bool, true, false, ◌&&◌, List, [], ◌∷◌, ◌++◌, length, map, take, get_or, arith, Option, Some}
use Rattle.std.specs.Prelude.{count_ones}
use Rattle.std.specs.Int.{bit_at}
use Rattle.std.proofs.lemmas.List.{map_push}
use Rattle.std.proofs.lemmas.Nat.{shr-shr}
use Rattle.std.specs.Int.Count.{ones_step}
use Rattle.std.proofs.lemmas.Bool.{eqb-true}
use Rattle.std.specs.List.{enumerate_from}
use Rattle.netlist_spec.specs.Covers.{has_bit, differ, parity, selected}
use Rattle.netlist_spec.specs.Gates.{GateList, bit_number}
use Rattle.gate_net.specs.declared.gate.NetId.{NetId}
use Rattle.gate_net.specs.GateNet.{net_count}
use Rattle.reduction.specs.Appended.{Extends, HasBit, bit_so_far}
use Rattle.reduction.proofs.Appended.{IsJoined, joined_same, joined_more}
use Rattle.reduction.proofs.Inputs.{bits_at, numbered_more}

differ_assoc : (a b c : Bool) → differ a (differ b c) ≡ differ (differ a b) c
differ_assoc false b c = refl
differ_assoc true false c = refl
differ_assoc true true false = refl
differ_assoc true true true = refl

differ_false : (a : Bool) → differ a false ≡ a
differ_false false = refl
differ_false true = refl

parity_push : (bs : List Bool) (b : Bool) → parity (bs ++ b ∷ []) ≡ differ (parity bs) b
parity_push [] b = differ_false b
parity_push (x ∷ bs) b = ap (differ x) (parity_push bs b) ∙ differ_assoc x (parity bs) b

xor_answer : (a b : Bool) → has_bit 6 (2 * bit_number a + bit_number b) ≡ differ a b
xor_answer false false = refl
xor_answer false true = refl
xor_answer true false = refl
xor_answer true true = refl

-- The parity of the inputs in front of one, and this one.
module _ (old now : GateList) (row : ℕ) (ins : List NetId) (i : ℕ) (d : NetId) (there : i < length ins) (so_far : Option NetId) where
  abbrev Odd : ℕ → (ℕ → Bool) → Bool
  Odd k v = parity (selected row (bits_at v (take k ins)))

  odd_more : (v : ℕ → Bool) → Odd (i + 1) v ≡ differ (Odd i v) (has_bit row i && v (get_or ins i d).0)
  odd_more v =
      let at : ℕ × Bool → Bool = λ p. has_bit row p.0 && p.1 in
      ap (λ (ps : List (ℕ × Bool)). parity (map at ps)) (numbered_more v ins i d there)
      ∙ (ap parity (map_push at (enumerate_from 0 (bits_at v (take i ins))) (i, v (get_or ins i d).0))
      ∙ parity_push (map at (enumerate_from 0 (bits_at v (take i ins)))) (at (i, v (get_or ins i d).0)))

  pub parity_same : has_bit row i ≡ false → IsJoined old now false so_far (Odd i) → IsJoined old now false so_far (Odd (i + 1))
  parity_same clear h =
      joined_same old now false so_far (Odd i) (Odd (i + 1))
      (λ v. sym (odd_more v ∙ (ap (λ b. differ (Odd i v) (b && v (get_or ins i d).0)) clear ∙ differ_false (Odd i v))))
      h

  pub parity_more : (new : GateList) (m : NetId) → has_bit row i ≡ true
      → Extends now new → m.0 ≡ net_count now → net_count new ≡ net_count now + 1
      → HasBit now new m.0 (λ v. has_bit 6 (2 * bit_number (bit_so_far false so_far v) + bit_number (v (get_or ins i d).0)))
      → IsJoined old now false so_far (Odd i) → IsJoined old new false (Some m) (Odd (i + 1))
  parity_more new m set e number count has h =
      joined_more old now new 6 false so_far m (get_or ins i d).0 (Odd i) (Odd (i + 1)) h e number count has
      (λ v a. xor_answer (Odd i v) (v (get_or ins i d).0) ∙ sym (odd_more v ∙ ap (λ b. differ (Odd i v) (b && v (get_or ins i d).0)) set))

-- The ones of a row from one place on, and from the next.

pub ones_next : (n i : ℕ) → count_ones (n / 2 ^ i) ≡ count_ones (n / 2 ^ (i + 1)) + bit_at n i
ones_next n i =
    let step = ones_step (n / 2 ^ i) in
    let half = ap count_ones (shr-shr n i 1) in
    omega arith

pub ones_set : (n i : ℕ) → has_bit n i ≡ true → count_ones (n / 2 ^ i) ≡ count_ones (n / 2 ^ (i + 1)) + 1
ones_set n i set = ones_next n i ∙ ap (λ b. count_ones (n / 2 ^ (i + 1)) + b) (eqb-true (bit_at n i) 1 set)

pub ones_below : (n i : ℕ) → count_ones (n / 2 ^ (i + 1)) ≤ count_ones (n / 2 ^ i)
ones_below n i = let e = ones_next n i in omega arith
