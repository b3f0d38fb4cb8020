-- One place, one column and one word more: what the loops keep.
use Rattle.std.proofs.Common.{◌≡◌, ◌∙◌, ap, subst, ℕ, zero, suc, ◌+◌, ◌<◌, ◌≤◌, Bool, true, false, cond, List, [], ◌∷◌, ◌++◌, length, map, get_or, take, arith, Some, slice_get}
use Rattle.std.specs.List.{AllByRecursion}
use Rattle.std.proofs.lemmas.List.{append-nil, length-append}
use Rattle.std.proofs.lemmas.Option.{slice_get-get_or}
use Rattle.netlist_spec.specs.SourceRun.{Bits}
use Rattle.netlist_spec.specs.Gates.{GateList}
use Rattle.guard_spec.specs.Codes.{Code}
use Rattle.gate_net.specs.declared.gate.NetId.{NetId}
use Rattle.gate_net.specs.Gate.{net_number}
use Rattle.gate_net.specs.GateNet.{net_count}
use Rattle.gate_net.specs.Words.{WordNets}
use Rattle.predictor.specs.Columns.{column_roots}
use Rattle.predictor.proofs.Checks.{chosen_roots, one_root, first_root, chosen_more}
use Rattle.alarm_rails.specs.Rail.{FitsCode, rail_cells}
use Rattle.alarm_rails.specs.Syndromes.{syndrome_bits, alarm_gates, rail_gates}
use Rattle.alarm_rails.proofs.Sums.{grown_count}
use Rattle.alarm_rails.proofs.Alarms.{cells, cells_at, alarm_length}
use Rattle.alarm_rails.proofs.Counts.{words_room}
use Rattle.alarm_rails.proofs.Bits.{column_bit, word_bit}
use Rattle.alarm_rails.proofs.Ranges.{rail_count}

pub take_next : {X : Type 0} (xs : List X) (i : ℕ) (x : X) → slice_get xs i ≡ Some x → take (i + 1) xs ≡ take i xs ++ x ∷ []
take_next [] i x e = cc e
take_next (y ∷ xs) zero x e = let same : y ≡ x = cc e in ap (λ z. z ∷ []) same
take_next (y ∷ xs) (suc i) x e =
    ap (λ (n : ℕ). take n (y ∷ xs)) (let z : suc i + 1 ≡ suc (i + 1) = omega arith in z) ∙ ap (λ ys. y ∷ ys) (take_next xs i x e)

pub all_more : (a b : ℕ) (xs : List ℕ) → a ≤ b → AllByRecursion (λ n. n < a) xs → AllByRecursion (λ n. n < b) xs
all_more a b [] h all = tt
all_more a b (x ∷ xs) h all = (let l = all.0 in omega arith, all_more a b xs h all.1)

pub all_at : {X : Type 0} (P : X → Type 0) (xs : List X) (i : ℕ) (x : X) → AllByRecursion P xs → slice_get xs i ≡ Some x → P x
all_at P [] i x all e = cc e
all_at P (y ∷ xs) zero x all e = let same : y ≡ x = cc e in subst P same all.0
all_at P (y ∷ xs) (suc i) x all e = all_at P xs i x all.1 e

pub get_map : {A B : Type 0} (f : A → B) (xs : List A) (i : ℕ) (x : A) → slice_get xs i ≡ Some x → slice_get (map f xs) i ≡ Some (f x)
get_map f [] i x e = cc e
get_map f (a ∷ xs) zero x e = let same : a ≡ x = cc e in ap (λ y. Some (f y)) same
get_map f (a ∷ xs) (suc i) x e = get_map f xs i x e

-- the number at a place of some nets
pub number_at : (all nets : List NetId) (i : ℕ) (d : NetId) → all ≡ nets → i < length all → slice_get (map net_number nets) i ≡ Some (get_or all i d).0
number_at all nets i d e h =
    subst (λ (ns : List NetId). slice_get (map net_number ns) i ≡ Some (get_or all i d).0) e (get_map net_number all i (get_or all i d) (slice_get-get_or all i d h))

-- ---- a place

-- the first places choose no more than all
pub chosen_take : (rows : List Bits) (j : ℕ) (roots : List ℕ) (i : ℕ) → length (chosen_roots rows j (take i roots)) ≤ length (chosen_roots rows j roots)
chosen_take rows j [] zero = omega arith
chosen_take rows j [] (suc i) = omega arith
chosen_take rows j (n ∷ roots) zero = omega arith
chosen_take [] j (n ∷ roots) (suc i) = omega arith
chosen_take (row ∷ rows) j (n ∷ roots) (suc i) =
    let a = ap length (first_root row rows j n (take i roots)) ∙ length-append (one_root row j n) (chosen_roots rows j (take i roots)) in
    let b = ap length (first_root row rows j n roots) ∙ length-append (one_root row j n) (chosen_roots rows j roots) in
    let h = chosen_take rows j roots i in
    omega arith

module _ (rows : List Bits) (j : ℕ) (roots : List ℕ) (i n : ℕ) (row : Bits) (at_row : slice_get rows i ≡ Some row) (at : slice_get roots i ≡ Some n) where
  pub chosen_one : get_or row j false ≡ true → chosen_roots rows j (take (i + 1) roots) ≡ chosen_roots rows j (take i roots) ++ n ∷ []
  chosen_one e = chosen_more rows j roots i n row at_row at ∙ ap (λ (b : Bool). chosen_roots rows j (take i roots) ++ cond b (n ∷ []) []) e

  pub chosen_none : get_or row j false ≡ false → chosen_roots rows j (take (i + 1) roots) ≡ chosen_roots rows j (take i roots)
  chosen_none e =
      chosen_more rows j roots i n row at_row at
      ∙ (ap (λ (b : Bool). chosen_roots rows j (take i roots) ++ cond b (n ∷ []) []) e ∙ append-nil (chosen_roots rows j (take i roots)))

  pub one_fits : get_or row j false ≡ true → length (chosen_roots rows j (take i roots)) + 1 ≤ length (chosen_roots rows j roots)
  one_fits e =
      let a = ap length (chosen_one e) ∙ length-append (chosen_roots rows j (take i roots)) (n ∷ []) in
      let b = chosen_take rows j roots (i + 1) in
      omega arith

-- ---- a column

module _ (code : Code) (w : WordNets) (old now : GateList) (start j check : ℕ) (begin : net_count old ≡ start + 1) (so_far : now ≡ record old { gates = old.gates ++ alarm_gates start (take j (syndrome_bits code w)) }) (at : slice_get w.checks j ≡ Some check) where
  far : net_count now ≡ net_count old + cells (take j (syndrome_bits code w))
  far = grown_count old now (alarm_gates start (take j (syndrome_bits code w))) so_far ∙ ap (λ (n : ℕ). net_count old + n) (alarm_length start (take j (syndrome_bits code w)))

  pub column_grows : net_count old ≤ net_count now
  column_grows = let f = far in omega arith

  pub column_room : (bound : ℕ) → net_count old + length (alarm_gates start (syndrome_bits code w)) ≤ bound → net_count now + length (column_roots code j w.places) + 1 ≤ bound
  column_room bound room =
      let f = far in
      let l = alarm_length start (syndrome_bits code w) in
      let c = cells_at (syndrome_bits code w) j (column_bit code w.places (j, check)) (word_bit code w j check at) in
      omega arith

  pub column_next : take (j + 1) (syndrome_bits code w) ≡ take j (syndrome_bits code w) ++ column_bit code w.places (j, check) ∷ []
  column_next = take_next (syndrome_bits code w) j (column_bit code w.places (j, check)) (word_bit code w j check at)

-- ---- a word

module _ (code : Code) (words : List WordNets) (old now : GateList) (alarm i : ℕ) (w : WordNets) (fits : AllByRecursion (FitsCode code) words) (so_far : now ≡ record old { gates = old.gates ++ rail_gates code (net_count old) (take i words) }) (here : net_count now ≡ alarm + 1) (at : slice_get words i ≡ Some w) where
  pub word_grows : net_count old ≤ net_count now
  word_grows = let f = rail_count code old now (take i words) so_far in omega arith

  pub word_room : (bound : ℕ) → net_count old + rail_cells code words ≤ bound → net_count now + length (alarm_gates alarm (syndrome_bits code w)) ≤ bound
  word_room bound room =
      let f = rail_count code old now (take i words) so_far in
      let l = alarm_length alarm (syndrome_bits code w) in
      let h = words_room code words i w fits at in
      omega arith
