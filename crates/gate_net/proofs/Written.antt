-- The valuations of a written file are those of its gate list.
use Rattle.std.proofs.Common.{◌≡◌, ◌≢◌, refl, sym, ◌∙◌, ap, ap₂, subst, ℕ, zero, suc, ◌+◌, ◌<◌, ◌≤◌, ◌↔◌, List, [], ◌∷◌, length, map, take, drop, get_or, zip, Bool, true, false, cond, ◌==◌, ◌⊎◌, inl, inr, Option, Some, None, arith, find, eq-eqb, ne_eqb, length-drop}
use Rattle.std.proofs.lemmas.Bool.{cases_eq}
use Rattle.std.specs.Prelude.{IsSomeAnd}
use Rattle.std.proofs.lemmas.List.{length-map, take_all}
use Rattle.std.specs.List.{AllByRecursion, AllZip, enumerate_from, range_with_len}
use Rattle.std.specs.Cmp.Lexicographic.{bytes_decides}
use Rattle.netlist_spec.specs.Netlist.{Name, same_name, Model}
use Rattle.netlist_spec.specs.Covers.{cover_value}
use Rattle.netlist_spec.specs.Models.{main_model, Latch, latches_of, Gate, gates_of, data_inputs, latch_inputs, output_nets}
use Rattle.netlist_spec.specs.SourceRun.{Bits}
use Rattle.netlist_spec.specs.Fits.{Valuation}
use Rattle.netlist_spec.specs.Values.{shown, Values}
use Rattle.netlist_spec.specs.Gates.{GateForm, constant, one, two, gate_answer, gate_reads, gate_cover, ReadsBelow, LatchRow, ForcedNets, shown_net, GateValues}
use Rattle.netlist_spec.specs.Written.{Named, label_name, net_name, latch_labels, gate_labels, file_of}
use Rattle.gate_net.specs.GateNet.{net_count}
use Rattle.gate_net.specs.Written.{named_machine, HasOwnNames, SameBits, named_faults, AreFaultsOf}
use Rattle.gate_net.proofs.Evaluation.{AllRead}
use Rattle.gate_net.proofs.OneEvaluation.{stored_nets}
use Rattle.netlist_spec.proofs.WrittenFiles.{cover_answers, AreApart, apart_from, one_entry, part_as_map, latch_for, gate_for, Facts, facts}

-- two nets have one name exactly where they have one number
same_test : (ns : List Name) → AreApart ns → (p q : ℕ) → p < length ns → q < length ns → same_name (get_or ns p []) (get_or ns q []) ≡ (p == q)
same_test ns apart p q hp hq = by_case (cases_eq p q)
  where
    unequal : (t : Bool) → same_name (get_or ns p []) (get_or ns q []) ≡ t → p ≢ q → t ≡ false
    unequal true e n = absurd (n (apart p q hp hq ((bytes_decides (get_or ns p []) (get_or ns q [])).0 e)))
    unequal false e n = refl

    by_case : (p ≡ q) ⊎ (p ≢ q) → same_name (get_or ns p []) (get_or ns q []) ≡ (p == q)
    by_case (inl e) = (bytes_decides (get_or ns p []) (get_or ns q [])).1 (ap (λ (k : ℕ). get_or ns k []) e) ∙ sym (eq-eqb p q e)
    by_case (inr n) = unequal _ refl n ∙ sym (ne_eqb p q n)

-- What a fault shows at a net, by name and by number.

same_shown : (ns : List Name) → AreApart ns → (q : ℕ) → q < length ns → (own : Bool) (fs : ForcedNets) → AllByRecursion (λ (e : ℕ × Bool). e.0 < length ns) fs
    → shown (map (λ (e : ℕ × Bool). (get_or ns e.0 [], e.1)) fs) (get_or ns q []) own ≡ shown_net fs q own
same_shown ns apart q h own [] all = refl
same_shown ns apart q h own ((k, bit) ∷ fs) all =
    one_entry own bit (get_or ns k []) k _ _ (same_test ns apart k q all.0 h)
    (find (λ (e : Name × Bool). same_name e.0 (get_or ns q [])) (map (λ (e : ℕ × Bool). (get_or ns e.0 [], e.1)) fs)) (find (λ (e : ℕ × Bool). e.0 == q) fs) (same_shown ns apart q h own fs all.1)

-- The latches of the model.

module _ (g : Named) where
  shows_back : (a : ℕ) (ls : List LatchRow) → map (λ l. l.q) (map (latch_for g) (zip (map (net_name g) (range_with_len a (length ls))) ls)) ≡ map (net_name g) (range_with_len a (length ls))
  shows_back a [] = refl
  shows_back a (r ∷ ls) = ap (λ (rest : List Name). net_name g a ∷ rest) (shows_back (a + 1) ls)

  stores_back : (a : ℕ) (ls : List LatchRow) → map (λ l. l.d) (map (latch_for g) (zip (map (net_name g) (range_with_len a (length ls))) ls)) ≡ map (net_name g) (map (λ r. r.d) ls)
  stores_back a [] = refl
  stores_back a (r ∷ ls) = ap (λ (rest : List Name). net_name g r.d ∷ rest) (stores_back (a + 1) ls)

same_equation : {A : Type 0} (a b c d : A) → a ≡ c → b ≡ d → (a ≡ b) ↔ (c ≡ d)
same_equation a b c d p q = (λ h. sym p ∙ (h ∙ q), λ h. p ∙ (h ∙ sym q))

-- a gate reads nets
reads_are_nets : (k n : ℕ) (x : GateForm) → k ≤ n → ReadsBelow k x → AllByRecursion (λ i. i < n) (gate_reads x)
reads_are_nets k n (constant b) h r = tt
reads_are_nets k n (one inv a) h r = (omega arith, tt)
reads_are_nets k n (two op a b) h r = (omega arith, (omega arith, tt))

range_below : (n a k : ℕ) → a + k ≤ n → AllByRecursion (λ i. i < n) (range_with_len a k)
range_below n a zero h = tt
range_below n a (suc k) h = (omega arith, range_below n (a + 1) k (omega arith))

module _ (g : Named) (well : HasOwnNames g) where
  long : length (map label_name g.labels) ≡ net_count g.net
  long = length-map g.labels label_name ∙ well.labels

  apart : AreApart (map label_name g.labels)
  apart = apart_from (map label_name g.labels) well.apart

  part_names : (a n : ℕ) → a + n ≤ net_count g.net → take n (drop a (map label_name g.labels)) ≡ map (net_name g) (range_with_len a n)
  part_names a n h = part_as_map (map label_name g.labels) a n (let e = long in omega arith)

  latch_labels_are : latch_labels g ≡ map (net_name g) (range_with_len g.data_inputs (length g.latches))
  latch_labels_are = part_names g.data_inputs (length g.latches) (let e = well.machine.leaves in omega arith)

  gate_labels_are : gate_labels g ≡ map (net_name g) (range_with_len g.net.leaves (length g.net.gates))
  gate_labels_are =
      sym (take_all (length g.net.gates) (drop g.net.leaves (map label_name g.labels)) (let a = long in let b = length-drop g.net.leaves (map label_name g.labels) in omega arith))
      ∙ part_names g.net.leaves (length g.net.gates) (omega arith)

  module _ (w : Valuation) (v : ℕ → Bool) (same : SameBits g w v) where
    same_map : (ks : List ℕ) → AllByRecursion (λ k. k < net_count g.net) ks → map w (map (net_name g) ks) ≡ map v ks
    same_map [] below = refl
    same_map (k ∷ ks) below = ap₂ (λ (b : Bool) (bs : Bits). b ∷ bs) (same k below.0) (same_map ks below.1)

    module _ (faults : ForcedNets) (nets : AreFaultsOf g faults) where
      shows : (q : ℕ) → q < net_count g.net → (bit : Bool) → shown (named_faults g faults) (net_name g q) bit ≡ shown_net faults q bit
      shows q h bit =
          same_shown (map label_name g.labels) apart q (let e = long in omega arith) bit faults
          (let P : ℕ → Type 0 = λ n. AllByRecursion (λ (e : ℕ × Bool). e.0 < n) faults in subst P (sym long) nets)

      latches_same : (n a : ℕ) → a + n ≤ net_count g.net → (stored : Bits)
          → AllZip (λ q bit. w q ≡ shown (named_faults g faults) q bit) (map (net_name g) (range_with_len a n)) stored ↔ AllZip (λ q bit. v q ≡ shown_net faults q bit) (range_with_len a n) stored
      latches_same zero a fits [] = (λ h. h, λ h. h)
      latches_same zero a fits (b ∷ stored) = (λ h. absurd h, λ h. absurd h)
      latches_same (suc n) a fits [] = (λ h. absurd h, λ h. absurd h)
      latches_same (suc n) a fits (b ∷ stored) =
          let here = same_equation (w (net_name g a)) (shown (named_faults g faults) (net_name g a) b) (v a) (shown_net faults a b) (same a (omega arith)) (shows a (omega arith) b) in
          let rest = latches_same n (a + 1) (omega arith) stored in
          (λ h. (here.0 h.0, rest.0 h.1), λ h. (here.1 h.0, rest.1 h.1))

      gates_same : (gs : List GateForm) (k : ℕ) → k + length gs ≤ net_count g.net → AllRead k gs
          → AllByRecursion (λ (x : Gate). w x.out ≡ shown (named_faults g faults) x.out (cover_value x.cover (map w x.ins))) (map (gate_for g) (zip (map (net_name g) (range_with_len k (length gs))) gs))
          ↔ AllByRecursion (λ (p : ℕ × GateForm). v p.0 ≡ shown_net faults p.0 (gate_answer p.1 v)) (enumerate_from k gs)
      gates_same [] k fits r = (λ h. tt, λ h. tt)
      gates_same (x ∷ gs) k fits r =
          let bits = same_map (gate_reads x) (reads_are_nets k (net_count g.net) x (omega arith) r.0) in
          let answer = ap (λ (bs : Bits). cover_value (gate_cover x) bs) bits ∙ cover_answers x v in
          let here = same_equation (w (net_name g k)) (shown (named_faults g faults) (net_name g k) (cover_value (gate_cover x) (map w (map (net_name g) (gate_reads x))))) (v k) (shown_net faults k (gate_answer x v)) (same k (omega arith))
          (shows k (omega arith) (cover_value (gate_cover x) (map w (map (net_name g) (gate_reads x)))) ∙ ap (shown_net faults k) answer)
          in
          let rest = gates_same gs (k + 1) (omega arith) r.1 in
          (λ h. (here.0 h.0, rest.0 h.1), λ h. (here.1 h.0, rest.1 h.1))

    module _ (m : Model) (are : Facts g m) (inputs : data_inputs m ≡ take g.data_inputs (map label_name g.labels)) where
      latches_are : latches_of m ≡ map (latch_for g) (zip (map (net_name g) (range_with_len g.data_inputs (length g.latches))) g.latches)
      latches_are = are.0 ∙ ap (λ (ns : List Name). map (latch_for g) (zip ns g.latches)) latch_labels_are

      gates_are : gates_of m ≡ map (gate_for g) (zip (map (net_name g) (range_with_len g.net.leaves (length g.net.gates))) g.net.gates)
      gates_are = are.1 ∙ ap (λ (ns : List Name). map (gate_for g) (zip ns g.net.gates)) gate_labels_are

      inputs_same : map w (data_inputs m) ≡ map v (range_with_len 0 g.data_inputs)
      inputs_same =
          ap (λ (ns : List Name). map w ns) (inputs ∙ part_names 0 g.data_inputs (let e = well.machine.leaves in omega arith))
          ∙ same_map (range_with_len 0 g.data_inputs) (range_below (net_count g.net) 0 g.data_inputs (let e = well.machine.leaves in omega arith))

      outputs_same : map w (output_nets m) ≡ map v g.outputs
      outputs_same = ap (λ (ns : List Name). map w ns) are.2 ∙ same_map g.outputs well.machine.outputs

      stores_same : map w (latch_inputs m) ≡ map v (map (λ l. l.d) g.latches)
      stores_same =
          ap (λ (ns : List Name). map w ns) (ap (λ (ls : List Latch). map (λ l. l.d) ls) latches_are ∙ stores_back g g.data_inputs g.latches)
          ∙ same_map (map (λ l. l.d) g.latches) (stored_nets (net_count g.net) g.latches well.machine.stores)

      values_same : (faults : ForcedNets) → AreFaultsOf g faults → (s x : Bits) → Values m s x (named_faults g faults) w ↔ GateValues (named_machine g) s x faults v
      values_same faults nets s x =
          let Latches : List Name → Type 0 = λ ns. AllZip (λ q bit. w q ≡ shown (named_faults g faults) q bit) ns s in
          let Gates : List Gate → Type 0 = λ gs. AllByRecursion (λ (y : Gate). w y.out ≡ shown (named_faults g faults) y.out (cover_value y.cover (map w y.ins))) gs in
          let shows_are = ap (λ (ls : List Latch). map (λ l. l.q) ls) latches_are ∙ shows_back g g.data_inputs g.latches in
          let ins = same_equation (map w (data_inputs m)) x (map v (range_with_len 0 g.data_inputs)) x inputs_same refl in
          let latches = latches_same faults nets (length g.latches) g.data_inputs (let e = well.machine.leaves in omega arith) s in
          let gates = gates_same faults nets g.net.gates g.net.leaves (omega arith) well.machine.gates in (
            λ h. record { inputs = ins.0 h.inputs; latches = latches.0 (subst Latches shows_are h.latches); gates = gates.0 (subst Gates gates_are h.gates) },
            λ h. record { inputs = ins.1 h.inputs; latches = subst Latches (sym shows_are) (latches.1 h.latches); gates = subst Gates (sym gates_are) (gates.1 h.gates) },
          )

with_main : (o : Option Model) (P Q R : Model → Type 0) → IsSomeAnd o P → IsSomeAnd o Q → ((m : Model) → P m → Q m → R m) → IsSomeAnd o R
with_main None P Q R p q f = absurd p
with_main (Some m) P Q R p q f = f m p q

-- The valuations of a written file are those of its gate list.
pub same_values : (g : Named) → HasOwnNames g → (w : Valuation) (v : ℕ → Bool) → SameBits g w v → (faults : ForcedNets) → AreFaultsOf g faults → (stored x : Bits)
    → IsSomeAnd (main_model (file_of g)) (λ m. Values m stored x (named_faults g faults) w ↔ GateValues (named_machine g) stored x faults v)
same_values g well w v same faults nets stored x =
    with_main (main_model (file_of g)) (Facts g) (λ m. data_inputs m ≡ take g.data_inputs (map label_name g.labels)) (λ m. Values m stored x (named_faults g faults) w ↔ GateValues (named_machine g) stored x faults v) (facts g) well.inputs
    (λ m are inputs. values_same g well w v same m are inputs faults nets stored x)

pub same_outputs : (g : Named) → HasOwnNames g → (w : Valuation) (v : ℕ → Bool) → SameBits g w v
    → IsSomeAnd (main_model (file_of g)) (λ m. (map w (output_nets m) ≡ map v g.outputs) × (map w (latch_inputs m) ≡ map v (map (λ l. l.d) g.latches)))
same_outputs g well w v same =
    with_main (main_model (file_of g)) (Facts g) (λ m. data_inputs m ≡ take g.data_inputs (map label_name g.labels)) (λ m. (map w (output_nets m) ≡ map v g.outputs) × (map w (latch_inputs m) ≡ map v (map (λ l. l.d) g.latches))) (facts g) well.inputs
    (λ m are inputs. (outputs_same g well w v same m are inputs, stores_same g well w v same m are inputs))

-- Bits by number as bits by name.

place_in : List Name → Name → ℕ
place_in [] n = 0
place_in (m ∷ ms) n = cond (same_name n m) 0 (suc (place_in ms n))

place_back : (ns : List Name) → AreApart ns → (q : ℕ) → q < length ns → place_in ns (get_or ns q []) ≡ q
unfolding place_in
place_back [] apart q h = absurd (omega arith)
place_back (m ∷ ms) apart zero h = rw ((bytes_decides m m).1 refl) refl
place_back (m ∷ ms) apart (suc q) h =
    by_test (same_name (get_or ms q []) m) refl (place_back ms (λ i j hi hj e. let k = apart (suc i) (suc j) (omega arith) (omega arith) e in omega arith) q (omega arith))
  where
    by_test : (t : Bool) → same_name (get_or ms q []) m ≡ t → place_in ms (get_or ms q []) ≡ q → cond t 0 (suc (place_in ms (get_or ms q []))) ≡ suc q
    by_test true e back = absurd (let k : suc q ≡ 0 = apart (suc q) 0 h (omega arith) ((bytes_decides (get_or ms q []) m).0 e) in omega arith)
    by_test false e back = ap suc back

pub some_names : (g : Named) → HasOwnNames g → (v : ℕ → Bool) → (w : Valuation) × SameBits g w v
some_names g well v = (
  λ n. v (place_in (map label_name g.labels) n),
  λ q h. ap v (place_back (map label_name g.labels) (apart g well) q (let e = long g well in omega arith)),
)
