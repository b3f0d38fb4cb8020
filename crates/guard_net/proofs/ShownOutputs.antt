-- The outputs of the source, one behind the other.
use Rattle.std.proofs.Common.{◌≡◌, refl, sym, ◌∙◌, ap, subst, ℕ, zero, suc, ◌+◌, ◌-◌, ◌<◌, ◌≤◌, Bool, true, false, cond, Some, List, [], ◌∷◌, ◌++◌, length, map, get_or, take, slice_get, arith, append_assoc, length-append}
use Rattle.std.specs.Prelude.{nat_lt, sum}
use Rattle.std.specs.List.{AllByRecursion, AllZip, zip}
use Rattle.std.proofs.lemmas.Bool.{lt-ltb, le-ltb}
use Rattle.std.proofs.lemmas.List.{get_or_at, get_or-map, length-map, map_push}
use Rattle.std.proofs.lemmas.List.Sums.{sum_by_push, sum_by_more_le, sum-map}
use Rattle.netlist_spec.specs.CellBits.{output_bit}
use Rattle.netlist_spec.specs.Gates.{GateList, Machine}
use Rattle.guard_spec.specs.Codes.{Code, IsCode, hamming_code}
use Rattle.guard_spec.specs.Words.{Layout}
use Rattle.gate_net.specs.declared.gate.NetId.{NetId}
use Rattle.gate_net.specs.Gate.{net_number}
use Rattle.gate_net.specs.GateNet.{net_count}
use Rattle.cone_split.specs.Ranges.{KeepsGates}
use Rattle.guard_laws.specs.Places.{HavePlaces}
use Rattle.guard_cells.specs.Cells.{Cell, GivesCosts, bit_costs}
use Rattle.guard_made.specs.Made.{IsShown, gate_output_cells}
use Rattle.guard_net.specs.Built.{AreRight, GainsOutput, GainsOutputs}
use Rattle.guard_net.proofs.Lists.{keeps_itself, keeps_leaves, keeps_trans}
use Rattle.guard_net.proofs.RightCells.{RowsJoin, CopiesAreRight}

-- ---- cells of outputs that are gates

abbrev with_gate : Bool → Cell → List Cell → List Cell
with_gate b c cs = cond b cs (c ∷ cs)

gates_join : (leaves a b : ℕ) (xs ys : List ℕ) → b ≡ a + length xs → gate_output_cells leaves a (xs ++ ys) ≡ gate_output_cells leaves a xs ++ gate_output_cells leaves b ys
gates_join leaves a b [] ys e = ap (λ (k : ℕ). gate_output_cells leaves k ys) (let g : a ≡ b = omega arith in g)
gates_join leaves a b (x ∷ xs) ys e = by_test (nat_lt x leaves) (gate_output_cells leaves (a + 1) (xs ++ ys)) (gate_output_cells leaves (a + 1) xs) (gates_join leaves (a + 1) b xs ys (omega arith))
  where
    by_test : (t : Bool) (all front : List Cell) → all ≡ front ++ gate_output_cells leaves b ys → with_gate t (output_bit a, x) all ≡ with_gate t (output_bit a, x) front ++ gate_output_cells leaves b ys
    by_test true all front f = f
    by_test false all front f = ap (λ (cs : List Cell). (output_bit a, x) ∷ cs) f

no_gate : (leaves i n : ℕ) → n < leaves → gate_output_cells leaves i (n ∷ []) ≡ []
no_gate leaves i n h = ap (λ (b : Bool). with_gate b (output_bit i, n) []) (lt-ltb n leaves h)

one_gate : (leaves i n : ℕ) → leaves ≤ n → gate_output_cells leaves i (n ∷ []) ≡ (output_bit i, n) ∷ []
one_gate leaves i n h = ap (λ (b : Bool). with_gate b (output_bit i, n) []) (le-ltb n leaves h)

-- ---- one output

pub passed_on : (source m : Machine) (leaf : List ℕ) (x o : ℕ) (net : GateList) → x < source.inputs → source.inputs ≤ net.leaves → GainsOutput source m leaf x o x net net
passed_on source m leaf x o net h k = record {
  kept = keeps_itself net;
  shows = λ i at. record { passed = λ g. refl; own = λ g. absurd (omega arith) };
  right = λ code l i is_code at. subst (λ (cs : List Cell). AreRight m code l leaf (net_count net) cs net) (sym (no_gate net.leaves i x (omega arith))) (record { ranges = tt; end = refl });
  few = λ cost gives. omega arith;
}

hamming_is_code : IsCode hamming_code
hamming_is_code = record { rows = (omega arith, omega arith); columns = (omega arith, omega arith); full = (refl, (refl, (refl, (refl, tt)))) }

pub single : (nets : List ℕ) → length nets ≡ 1 → (k : ℕ) × (nets ≡ k ∷ [])
single [] e = absurd (omega arith)
single (k ∷ []) e = (k, refl)
single (k ∷ j ∷ nets) e = absurd (omega arith)

-- the last of some cells, behind which there is one
pub last_cell : (cells : List NetId) (before nets : List ℕ) (i k : ℕ) (n : NetId) → nets ≡ k ∷ [] → map net_number cells ≡ before ++ nets → i ≡ length cells - 1 → n ≡ get_or cells i n → n.0 ≡ k
last_cell cells before nets i k n one are at is =
    let all : map net_number cells ≡ before ++ k ∷ [] = are ∙ ap (λ (ns : List ℕ). before ++ ns) one in
    let long : length cells ≡ length before + 1 = sym (length-map cells net_number) ∙ (ap length all ∙ length-append before (k ∷ [])) in
    ap net_number is ∙ (sym (get_or-map net_number cells i n 0 (omega arith)) ∙ (ap (λ (ns : List ℕ). get_or ns i 0) all ∙ get_or_at before k [] 0 i (omega arith)))

module _ (have : (m : Machine) (code : Code) (l : Layout) → IsCode code → HavePlaces m code l) (m : Machine) (leaf : List ℕ) (o : ℕ) (old new : GateList) (nets : List ℕ) (k : ℕ) (one : nets ≡ k ∷ []) (copies : CopiesAreRight m leaf (o ∷ []) old new nets) where
  own_cell : (code : Code) (l : Layout) (i : ℕ) → IsCode code → slice_get m.outputs i ≡ Some o → AreRight m code l leaf (net_count old) ((output_bit i, k) ∷ []) new
  own_cell code l i is_code at =
      subst (λ (ns : List ℕ). AreRight m code l leaf (net_count old) (zip (output_bit i ∷ []) ns) new) one
      (copies code l (output_bit i ∷ []) ((λ u. (have m code l is_code).output i o u at), tt))

  above : (i : ℕ) → slice_get m.outputs i ≡ Some o → net_count old ≤ k
  above i at = let row = own_cell hamming_code (record { state = []; output = [] }) i hamming_is_code at in let h = row.ranges.0.0 in omega arith

  pub copied : (source : Machine) (x : ℕ) → KeepsGates old new → source.inputs ≤ x → ((cost : ℕ → ℕ) → GivesCosts m cost → net_count new ≤ net_count old + sum (bit_costs cost (o ∷ []))) → GainsOutput source m leaf x o k old new
  copied source x keep h few = record {
    kept = keep;
    shows = λ i at. let g = above i at in record { passed = λ p. absurd (omega arith); own = λ p. omega arith };
    right = λ code l i is_code at.
        let g = above i at in
        subst (λ (cs : List Cell). AreRight m code l leaf (net_count old) cs new) (sym (one_gate old.leaves i k (omega arith))) (own_cell code l i is_code at);
    few = λ cost gives. let a = few cost gives in omega arith;
  }

-- ---- all of them

pub no_outputs : (source m : Machine) (leaf : List ℕ) (net : GateList) → GainsOutputs source m leaf [] [] [] net net
no_outputs source m leaf net = record {
  kept = keeps_itself net;
  shows = λ back e. tt;
  count = refl;
  right = λ code l back is_code e. record { ranges = tt; end = refl };
  few = λ cost gives. omega arith;
}

pub all_zip_push : {A B : Type 0} (R : A → B → Type 0) (xs : List A) (ys : List B) (x : A) (y : B) → AllZip R xs ys → R x y → AllZip R (xs ++ x ∷ []) (ys ++ y ∷ [])
all_zip_push R [] [] x y a r = (r, tt)
all_zip_push R [] (z ∷ ys) x y a r = absurd a
all_zip_push R (z ∷ xs) [] x y a r = absurd a
all_zip_push R (z ∷ xs) (w ∷ ys) x y a r = (a.0, all_zip_push R xs ys x y a.1 r)

-- where the next one stands
next_at : (all front back : List ℕ) (o : ℕ) → all ≡ front ++ o ∷ back → slice_get all (length front) ≡ Some o
next_at all front back o e = ap (λ (ns : List ℕ). slice_get ns (length front)) e ∙ here front
  where
    here : (xs : List ℕ) → slice_get (xs ++ o ∷ back) (length xs) ≡ Some o
    here [] = refl
    here (x ∷ xs) = here xs

pub output_gained : RowsJoin → (source m : Machine) (leaf sources longer outputs all shown more : List ℕ) (x o n : ℕ) (old mid new : GateList) → longer ≡ sources ++ x ∷ [] → all ≡ outputs ++ o ∷ [] → more ≡ shown ++ n ∷ []
    → GainsOutputs source m leaf sources outputs shown old mid → GainsOutput source m leaf x o n mid new → GainsOutputs source m leaf longer all more old new
output_gained join source m leaf sources longer outputs all shown more x o n old mid new long is are front one =
    let same : mid.leaves ≡ old.leaves = keeps_leaves old mid front.kept in
    subst (λ (xs : List ℕ). GainsOutputs source m leaf xs all more old new) (sym long) (subst (λ (os : List ℕ). GainsOutputs source m leaf (sources ++ x ∷ []) os more old new) (sym is) (subst (λ (ns : List ℕ). GainsOutputs source m leaf (sources ++ x ∷ []) (outputs ++ o ∷ []) ns old new) (sym are) (record {
      kept = keeps_trans old mid new front.kept one.kept;
      shows = λ back e.
          let split : m.outputs ≡ outputs ++ o ∷ back = e ∙ append_assoc outputs (o ∷ []) back in
          all_zip_push (IsShown source.inputs old.leaves) sources shown x n (front.shows (o ∷ back) split)
          (subst (λ (k : ℕ). IsShown source.inputs k x n) same (one.shows (length outputs) (next_at m.outputs outputs back o split)));
      count = length-append shown (n ∷ []) ∙ (ap (λ (k : ℕ). k + 1) front.count ∙ sym (length-append outputs (o ∷ [])));
      right = λ code l back is_code e.
          let split : m.outputs ≡ outputs ++ o ∷ back = e ∙ append_assoc outputs (o ∷ []) back in
          let last : AreRight m code l leaf (net_count mid) (gate_output_cells old.leaves (length outputs) (n ∷ [])) new
          = subst (λ (k : ℕ). AreRight m code l leaf (net_count mid) (gate_output_cells k (length outputs) (n ∷ [])) new) same (one.right code l (length outputs) is_code (next_at m.outputs outputs back o split)) in
          subst (λ (cs : List Cell). AreRight m code l leaf (net_count old) cs new) (sym (gates_join old.leaves 0 (length outputs) shown (n ∷ []) (let c = front.count in omega (arith, c))))
          (join leaf m code l (net_count old) (gate_output_cells old.leaves 0 shown) (gate_output_cells old.leaves (length outputs) (n ∷ [])) mid new (front.right code l (o ∷ back) is_code split) one.kept last);
      few = λ cost gives.
          let a = front.few cost gives in
          let b = one.few cost gives in
          let c : sum (bit_costs cost (outputs ++ o ∷ [])) ≡ sum (bit_costs cost outputs) + (2 + cost o) = ap sum (map_push (λ (k : ℕ). 2 + cost k) outputs o) ∙ sum_by_push (λ (k : ℕ). k) (bit_costs cost outputs) (2 + cost o) in
          omega (arith, a, b, c);
    })))

pub room_for_output : (cost : ℕ → ℕ) (outputs : List ℕ) (i o n first most : ℕ) → i < length outputs → o ≡ get_or outputs i 0 → n ≤ first + sum (bit_costs cost (take i outputs)) → first + sum (bit_costs cost outputs) ≤ most → n + (2 + cost o) ≤ most
room_for_output cost outputs i o n first most h is so_far all =
    let a = sum_by_more_le (λ (k : ℕ). 2 + cost k) outputs i 0 h in
    let b = sum-map (λ (k : ℕ). 2 + cost k) (take i outputs) in
    let c = sum-map (λ (k : ℕ). 2 + cost k) outputs in
    let d = ap cost is in
    omega (arith, a, b, c, d, so_far, all)

-- an output of a machine is a net
pub output_below : (n : ℕ) (outputs : List ℕ) (items : List NetId) (i : ℕ) (d : NetId) → AllByRecursion (λ k. k < n) outputs → outputs ≡ map net_number items → i < length items → (get_or items i d).0 < n
output_below n outputs items i d all are h = at items i (subst (λ (ns : List ℕ). AllByRecursion (λ k. k < n) ns) are all) h
  where
    at : (xs : List NetId) (j : ℕ) → AllByRecursion (λ k. k < n) (map net_number xs) → j < length xs → (get_or xs j d).0 < n
    at [] j a g = absurd (omega arith)
    at (x ∷ xs) zero a g = a.0
    at (x ∷ xs) (suc j) a g = at xs j a.1 (omega arith)
