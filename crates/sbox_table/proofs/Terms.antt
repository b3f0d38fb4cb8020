-- The gates of minterms and outputs.
use Rattle.std.proofs.Common.{◌≡◌, sym, ◌∙◌, ap, ap₂, refl, ℕ, zero, suc, ◌+◌, ◌*◌, ◌<◌, Bool, true, false, ◌&&◌, ◌||◌, not, eqb, List, [], ◌∷◌, length, map, get_or, arith, Option, Some}
use Rattle.std.proofs.lemmas.List.Folds.{list_any-append}
use Rattle.std.proofs.lemmas.List.FromFn.{get_or-map-range_with_len}
use Rattle.std.specs.List.{list_any, range_with_len}
use Rattle.netlist_spec.specs.Covers.{has_bit}
use Rattle.netlist_spec.specs.Gates.{GateList, bit_number}
use Rattle.gate_net.specs.declared.gate.NetId.{NetId}
use Rattle.gate_net.specs.GateNet.{net_count}
use Rattle.reduction.specs.Appended.{Extends, HasBit, bit_so_far}
use Rattle.reduction.proofs.Appended.{IsJoined, joined_same, joined_more}
use Rattle.reduction.proofs.Inputs.{bits_at}
use Rattle.sbox_table.specs.Tables.{output_bit}
use Rattle.sbox_table.proofs.Numbers.{range_push, any_same, any_picks, or_false}

pub and_answer : (b c : Bool) → has_bit 8 (2 * bit_number b + bit_number c) ≡ (b && c)
and_answer false false = refl
and_answer false true = refl
and_answer true false = refl
and_answer true true = refl

pub and_not_answer : (b c : Bool) → has_bit 4 (2 * bit_number b + bit_number c) ≡ (b && not c)
and_not_answer false false = refl
and_not_answer false true = refl
and_not_answer true false = refl
and_not_answer true true = refl

or_answer : (a b : Bool) → has_bit 14 (2 * bit_number a + bit_number b) ≡ (a || b)
or_answer false false = refl
or_answer false true = refl
or_answer true false = refl
or_answer true true = refl

pub map_each : {X Y : Type 0} (f g : X → Y) → ((x : X) → f x ≡ g x) → (xs : List X) → map f xs ≡ map g xs
map_each f g same [] = refl
map_each f g same (x ∷ xs) = ap₂ (λ y rest. y ∷ rest) (same x) (map_each f g same xs)

bit_at_place : (v : ℕ → Bool) (terms : List NetId) (k : ℕ) (d : NetId) → k < length terms → get_or (bits_at v terms) k false ≡ v (get_or terms k d).0
bit_at_place v [] k d h = absurd (omega arith)
bit_at_place v (x ∷ terms) zero d h = refl
bit_at_place v (x ∷ terms) (suc k) d h = bit_at_place v terms k d (omega arith)

-- Some minterm in front of one at which the output is 1, and this one.
module _ (old now : GateList) (rows : List ℕ) (j : ℕ) (terms : List NetId) (i : ℕ) (d : NetId) (there : i < length terms) (so_far : Option NetId) where
  abbrev At : ℕ → (ℕ → Bool) → Bool
  At k v = list_any (λ q. has_bit (get_or rows q 0) j && get_or (bits_at v terms) q false) (range_with_len 0 k)

  at_more : (v : ℕ → Bool) → At (i + 1) v ≡ (At i v || (has_bit (get_or rows i 0) j && v (get_or terms i d).0))
  at_more v =
      let test : ℕ → Bool = λ q. has_bit (get_or rows q 0) j && get_or (bits_at v terms) q false in
      ap (list_any test) (range_push i)
      ∙ (list_any-append test (range_with_len 0 i) (i ∷ [])
      ∙ ap (λ b. At i v || b) (or_false (test i) ∙ ap (λ b. has_bit (get_or rows i 0) j && b) (bit_at_place v terms i d there)))

  pub output_same : has_bit (get_or rows i 0) j ≡ false → IsJoined old now false so_far (At i) → IsJoined old now false so_far (At (i + 1))
  output_same clear h =
      joined_same old now false so_far (At i) (At (i + 1))
      (λ v. sym (at_more v ∙ (ap (λ b. At i v || (b && v (get_or terms i d).0)) clear ∙ or_false (At i v))))
      h

  pub output_more : (new : GateList) (m : NetId) → has_bit (get_or rows i 0) j ≡ true
      → Extends now new → m.0 ≡ net_count now → net_count new ≡ net_count now + 1
      → HasBit now new m.0 (λ v. has_bit 14 (2 * bit_number (bit_so_far false so_far v) + bit_number (v (get_or terms i d).0)))
      → IsJoined old now false so_far (At i) → IsJoined old new false (Some m) (At (i + 1))
  output_more new m set e number count has h =
      joined_more old now new 14 false so_far m (get_or terms i d).0 (At i) (At (i + 1)) h e number count has
      (λ v a. or_answer (At i v) (v (get_or terms i d).0) ∙ sym (at_more v ∙ ap (λ b. At i v || (b && v (get_or terms i d).0)) set))

-- an output, where the minterms of a number below their count have their bits
pub output_at : (rows : List ℕ) (number j n : ℕ) → number < n → length rows ≡ n
    → output_bit rows (map (λ k. eqb number k) (range_with_len 0 n)) j ≡ has_bit (get_or rows number 0) j
output_at rows number j n small long =
    let test : ℕ → Bool = λ k. has_bit (get_or rows k 0) j in
    ap (λ m. list_any (λ k. test k && get_or (map (λ q. eqb number q) (range_with_len 0 n)) k false) (range_with_len 0 m)) long
    ∙ (any_same (λ k. test k && get_or (map (λ q. eqb number q) (range_with_len 0 n)) k false) (λ k. test k && eqb number k) 0 n
    (λ k l h. ap (λ b. test k && b) (get_or-map-range_with_len (λ q. eqb number q) 0 n k k false (omega arith) (omega arith)))
    ∙ any_picks test number 0 n (omega arith) (omega arith))
