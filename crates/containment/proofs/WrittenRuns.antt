-- The runs of a written file are runs of its gate list.
use Rattle.std.proofs.Common.{◌≡◌, ◌≢◌, refl, sym, ◌∙◌, ap, ap₂, subst, ℕ, zero, suc, ◌+◌, ◌<◌, ◌≤◌, List, [], ◌∷◌, length, map, take, drop, get_or, zip, Bool, true, false, cond, ◌==◌, ◌⊎◌, inl, inr, Option, Some, None, arith, find, eq-eqb, ne_eqb, length-drop}
use Rattle.std.proofs.lemmas.Bool.{cases_eq}
use Rattle.std.specs.Prelude.{IsSomeAnd}
use Rattle.std.proofs.lemmas.List.{length-map, take_all}
use Rattle.std.specs.List.{AllByRecursion, AllZip, enumerate_from, range_with_len}
use Rattle.std.specs.Cmp.Lexicographic.{bytes_decides}
use Rattle.netlist_spec.specs.Netlist.{Name, same_name, Model}
use Rattle.netlist_spec.specs.Covers.{cover_value}
use Rattle.netlist_spec.specs.Models.{main_model, Latch, latches_of, Gate, gates_of, init_bit, init_bits, data_inputs}
use Rattle.netlist_spec.specs.SourceRun.{Bits, Stream, RunsFrom}
use Rattle.netlist_spec.specs.Values.{shown, Values}
use Rattle.netlist_spec.specs.Runs.{Fault, faults_at, FaultyCycle}
use Rattle.netlist_spec.specs.Gates.{GateForm, gate_answer, gate_reads, gate_cover, LatchRow, ForcedNets, shown_net, GateValues, forced_nets_at, GateStep, GateRun}
use Rattle.netlist_spec.specs.Written.{Named, label_name, net_name, latch_labels, gate_labels, written_init_of, file_of}
use Rattle.containment.specs.Written.{net_faults, IsWritten, place_in, machine_of, net_of, IsWellNamed}
use Rattle.containment.proofs.Text.{same_faults, runs_by}
use Rattle.netlist_spec.proofs.WrittenFiles.{cover_answers, AreApart, apart_from, one_entry, part_as_map, maps, latch_for, gate_for, Facts, facts}

-- The number of a name.

suc_test : (a b : ℕ) → (a == b) ≡ (suc a == suc b)
suc_test a b = by_case (cases_eq a b)
  where
    by_case : (a ≡ b) ⊎ (a ≢ b) → (a == b) ≡ (suc a == suc b)
    by_case (inl e) = eq-eqb a b e ∙ sym (eq-eqb (suc a) (suc b) (ap suc e))
    by_case (inr n) = ne_eqb a b n ∙ sym (ne_eqb (suc a) (suc b) (λ e. n (omega arith)))

-- a name is that of a place exactly where its number is that place
pub place_tells : (ns : List Name) → AreApart ns → (n : Name) (q : ℕ) → q < length ns → same_name n (get_or ns q []) ≡ (place_in ns n == q)
place_tells [] apart n q h = absurd (omega arith)
place_tells (m ∷ ms) apart n zero h = by_test (same_name n m) refl
  where
    by_test : (t : Bool) → same_name n m ≡ t → same_name n m ≡ (cond t 0 (suc (place_in ms n)) == 0)
    by_test true e = e ∙ sym (eq-eqb 0 0 refl)
    by_test false e = e ∙ sym (ne_eqb (suc (place_in ms n)) 0 (λ k. absurd (omega arith)))
place_tells (m ∷ ms) apart n (suc q) h = by_test (same_name n m) refl (place_tells ms (λ i j hi hj e. let k = apart (suc i) (suc j) (omega arith) (omega arith) e in omega arith) n q (omega arith))
  where
    other : same_name n m ≡ true → (t : Bool) → same_name n (get_or ms q []) ≡ t → t ≡ false
    other e true f = let k : 0 ≡ suc q = apart 0 (suc q) (omega arith) h (sym ((bytes_decides n m).0 e) ∙ (bytes_decides n (get_or ms q [])).0 f) in absurd (omega arith)
    other e false f = refl

    by_test : (t : Bool) → same_name n m ≡ t → same_name n (get_or ms q []) ≡ (place_in ms n == q) → same_name n (get_or ms q []) ≡ (cond t 0 (suc (place_in ms n)) == suc q)
    by_test true e later = other e (same_name n (get_or ms q [])) refl ∙ sym (ne_eqb 0 (suc q) (λ k. absurd (omega arith)))
    by_test false e later = later ∙ suc_test (place_in ms n) q

-- What a fault shows at a net, by name and by number.

same_shown : (ns : List Name) → AreApart ns → (q : ℕ) → q < length ns → (own : Bool) (fs : List Fault) → shown (map (λ a. (a.cell, a.bit)) fs) (get_or ns q []) own ≡ shown_net (map (λ a. (place_in ns a.cell, a.bit)) fs) q own
same_shown ns apart q h own [] = refl
same_shown ns apart q h own (a ∷ fs) =
    one_entry own a.bit a.cell (place_in ns a.cell) _ _ (place_tells ns apart a.cell q h)
    (find (λ (e : Name × Bool). same_name e.0 (get_or ns q [])) (map (λ a. (a.cell, a.bit)) fs)) (find (λ (e : ℕ × Bool). e.0 == q) (map (λ a. (place_in ns a.cell, a.bit)) fs)) (same_shown ns apart q h own fs)

module _ (g : Named) where
  abbrev all_names : List Name
  all_names = map label_name g.labels

  abbrev pub LatchesFrom : ℕ → List LatchRow → List Latch
  LatchesFrom a ls = map (latch_for g) (zip (map (λ k. get_or (map label_name g.labels) k []) (range_with_len a (length ls))) ls)

  written_init : (b : Bool) → init_bit (written_init_of b) ≡ b
  written_init true = refl
  written_init false = refl

  inits_back : (a : ℕ) (ls : List LatchRow) → map (λ l. init_bit l.init) (LatchesFrom a ls) ≡ map (λ r. r.init) ls
  inits_back a [] = refl
  inits_back a (r ∷ ls) = ap₂ (λ (b : Bool) (bs : Bits). b ∷ bs) (written_init r.init) (inits_back (a + 1) ls)

  pub shows_back : (a : ℕ) (ls : List LatchRow) → map (λ l. l.q) (LatchesFrom a ls) ≡ map (λ k. get_or (map label_name g.labels) k []) (range_with_len a (length ls))
  shows_back a [] = refl
  shows_back a (r ∷ ls) = ap (λ (rest : List Name). get_or (map label_name g.labels) a [] ∷ rest) (shows_back (a + 1) ls)

  pub stores_back : (a : ℕ) (ls : List LatchRow) → map (λ l. l.d) (LatchesFrom a ls) ≡ map (net_name g) (map (λ r. r.d) ls)
  stores_back a [] = refl
  stores_back a (r ∷ ls) = ap (λ (rest : List Name). net_name g r.d ∷ rest) (stores_back (a + 1) ls)

  module _ (well : IsWellNamed g) where
    pub names_long : length (map label_name g.labels) ≡ g.net.leaves + length g.net.gates
    names_long = length-map g.labels label_name ∙ well.labels

    pub apart : AreApart (map label_name g.labels)
    apart = apart_from (map label_name g.labels) well.apart

    pub latch_labels_are : latch_labels g ≡ map (λ k. get_or (map label_name g.labels) k []) (range_with_len g.data_inputs (length g.latches))
    latch_labels_are = part_as_map (map label_name g.labels) g.data_inputs (length g.latches) (let a = names_long in let b = well.leaves in omega arith)

    pub gate_labels_are : gate_labels g ≡ map (λ k. get_or (map label_name g.labels) k []) (range_with_len g.net.leaves (length g.net.gates))
    gate_labels_are =
        sym (take_all (length g.net.gates) (drop g.net.leaves (map label_name g.labels)) (let a = names_long in let b = length-drop g.net.leaves (map label_name g.labels) in omega arith))
        ∙ part_as_map (map label_name g.labels) g.net.leaves (length g.net.gates) (let a = names_long in omega arith)

    module _ (fs : List Fault) (v : Name → Bool) where
      gates_hold : (gs : List GateForm) (k : ℕ) → k + length gs ≤ length (map label_name g.labels)
          → AllByRecursion (λ (x : Gate). v x.out ≡ shown (map (λ a. (a.cell, a.bit)) fs) x.out (cover_value x.cover (map v x.ins))) (map (gate_for g) (zip (map (λ k. get_or (map label_name g.labels) k []) (range_with_len k (length gs))) gs))
          → AllByRecursion (λ (p : ℕ × GateForm). v (net_name g p.0) ≡ shown_net (map (λ a. (net_of g a.cell, a.bit)) fs) p.0 (gate_answer p.1 (λ n. v (net_name g n)))) (enumerate_from k gs)
      gates_hold [] k fits a = tt
      gates_hold (x ∷ gs) k fits a = (
        a.0
            ∙ (same_shown (map label_name g.labels) apart k (omega arith) (cover_value (gate_cover x) (map v (map (net_name g) (gate_reads x)))) fs
            ∙ ap (λ (b : Bool). shown_net (map (λ a. (net_of g a.cell, a.bit)) fs) k b) (ap (λ (bs : Bits). cover_value (gate_cover x) bs) (maps v (net_name g) (gate_reads x)) ∙ cover_answers x (λ n. v (net_name g n)))),
        gates_hold gs (k + 1) (omega arith) a.1,
      )

      latches_hold : (n a : ℕ) → a + n ≤ length (map label_name g.labels) → (stored : Bits)
          → AllZip (λ q bit. v q ≡ shown (map (λ a. (a.cell, a.bit)) fs) q bit) (map (λ k. get_or (map label_name g.labels) k []) (range_with_len a n)) stored
          → AllZip (λ q bit. v (net_name g q) ≡ shown_net (map (λ a. (net_of g a.cell, a.bit)) fs) q bit) (range_with_len a n) stored
      latches_hold zero a fits [] z = tt
      latches_hold zero a fits (b ∷ stored) z = absurd z
      latches_hold (suc n) a fits [] z = absurd z
      latches_hold (suc n) a fits (b ∷ stored) z = (z.0 ∙ same_shown (map label_name g.labels) apart a (omega arith) b fs, latches_hold n (a + 1) (omega arith) stored z.1)

    module _ (m : Model) (are : Facts g m) (inputs : data_inputs m ≡ take g.data_inputs (map label_name g.labels)) where
      pub latches_are : latches_of m ≡ LatchesFrom g.data_inputs g.latches
      latches_are = are.0 ∙ ap (λ (ns : List Name). map (latch_for g) (zip ns g.latches)) latch_labels_are

      pub gates_are : gates_of m ≡ map (gate_for g) (zip (map (λ k. get_or (map label_name g.labels) k []) (range_with_len g.net.leaves (length g.net.gates))) g.net.gates)
      gates_are = are.1 ∙ ap (λ (ns : List Name). map (gate_for g) (zip ns g.net.gates)) gate_labels_are

      inputs_are : data_inputs m ≡ map (net_name g) (range_with_len 0 g.data_inputs)
      inputs_are = inputs ∙ part_as_map (map label_name g.labels) 0 g.data_inputs (let a = names_long in let b = well.leaves in omega arith)

      -- values of the text are values of the gate list
      pub gate_values : (fs : List Fault) (x s : Bits) (v : Name → Bool) → Values m s x (map (λ a. (a.cell, a.bit)) fs) v → GateValues (machine_of g) s x (map (λ a. (net_of g a.cell, a.bit)) fs) (λ n. v (net_name g n))
      gate_values fs x s v values = record {
        inputs = sym (maps v (net_name g) (range_with_len 0 g.data_inputs)) ∙ (ap (λ (ns : List Name). map v ns) (sym inputs_are) ∙ values.inputs);
        latches = latches_hold fs v (length g.latches) g.data_inputs fits s
            (subst (λ (ns : List Name). AllZip (λ q bit. v q ≡ shown (map (λ a. (a.cell, a.bit)) fs) q bit) ns s) (ap (λ (ls : List Latch). map (λ l. l.q) ls) latches_are ∙ shows_back g.data_inputs g.latches) values.latches);
        gates = gates_hold fs v g.net.gates g.net.leaves (let a = names_long in omega arith)
            (subst (λ (gs : List Gate). AllByRecursion (λ (x : Gate). v x.out ≡ shown (map (λ a. (a.cell, a.bit)) fs) x.out (cover_value x.cover (map v x.ins))) gs) gates_are values.gates);
      }
        where
          fits : g.data_inputs + length g.latches ≤ length (map label_name g.labels)
          fits = let a = names_long in let b = well.leaves in omega arith

      one_gate_cycle : (faults : List Fault) (c : ℕ) (x s y next : Bits) → FaultyCycle m faults c x s y next → GateStep (machine_of g) (forced_nets_at c (net_faults (net_of g) faults)) x s y next
      one_gate_cycle faults c x s y next step = record {
        values = λ n. step.values (net_name g n);
        agrees = subst (λ (fs : ForcedNets). GateValues (machine_of g) s x fs (λ n. step.values (net_name g n))) (sym (same_faults (net_of g) c faults)) (gate_values (faults_at c faults) x s step.values step.agrees);
        outputs = sym (maps step.values (net_name g) g.outputs) ∙ (ap (λ (ns : List Name). map step.values ns) (sym are.2) ∙ step.outputs);
        stores =
            sym (maps step.values (net_name g) (map (λ r. r.d) g.latches))
            ∙ (ap (λ (ns : List Name). map step.values ns) (sym (ap (λ (ls : List Latch). map (λ l. l.d) ls) latches_are ∙ stores_back g.data_inputs g.latches)) ∙ step.stores);
      }

      run_of_gates : (xs : Stream) (faults : List Fault) (states outs : List Bits) → RunsFrom (λ c x s y next. FaultyCycle m faults c x s y next) 0 (init_bits m) xs states outs → GateRun (machine_of g) xs (net_faults (net_of g) faults) states outs
      run_of_gates xs faults states outs r =
          runs_by (λ c x s y next. FaultyCycle m faults c x s y next) (λ c x s y next. GateStep (machine_of g) (forced_nets_at c (net_faults (net_of g) faults)) x s y next) (one_gate_cycle faults) 0 (map (λ r. r.init) g.latches) xs states outs
          (subst (λ (s : Bits). RunsFrom (λ c x s y next. FaultyCycle m faults c x s y next) 0 s xs states outs) (ap (λ (ls : List Latch). map (λ l. init_bit l.init) ls) latches_are ∙ inits_back g.data_inputs g.latches) r)

with_main : (o : Option Model) (P Q D : Model → Type 0) (R : Type 0) → IsSomeAnd o P → IsSomeAnd o Q → IsSomeAnd o D → ((m : Model) → P m → Q m → D m → R) → R
with_main None P Q D R p q d f = absurd p
with_main (Some m) P Q D R p q d f = f m p q d

-- The runs of the written file are runs of the gate list.
pub written_runs : (g : Named) → IsWellNamed g → IsWritten (file_of g) (machine_of g) (net_of g)
written_runs g well = record {
  runs = λ xs faults states outs r.
      with_main (main_model (file_of g)) (Facts g) (λ m. data_inputs m ≡ take g.data_inputs (map label_name g.labels)) (λ m. RunsFrom (λ c x s y next. FaultyCycle m faults c x s y next) 0 (init_bits m) xs states outs)
      (GateRun (machine_of g) xs (net_faults (net_of g) faults) states outs)
      (facts g) well.inputs r (λ m are inputs run. run_of_gates g well m are inputs xs faults states outs run);
}
