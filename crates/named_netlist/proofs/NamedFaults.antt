-- Faults at names that are no nets have no effect, and those at nets are faults by number.
use Rattle.std.proofs.Common.{◌≡◌, refl, sym, ◌∙◌, ap, subst, ℕ, zero, suc, ◌+◌, ◌<◌, ◌≤◌, ◌↔◌, List, [], ◌∷◌, length, map, filter, get_or, Bool, true, false, ◌||◌, cond, ◌==◌, Some, find, option_map, unwrap_or, arith}
use Rattle.std.specs.List.{AllByRecursion, AllZip, enumerate_from}
use Rattle.std.specs.Cmp.Lexicographic.{bytes_decides}
use Rattle.std.proofs.lemmas.List.{length-map}
use Rattle.netlist_spec.specs.Netlist.{Name, same_name, stands_in, Model}
use Rattle.netlist_spec.specs.Covers.{cover_value}
use Rattle.netlist_spec.specs.Models.{Latch, Gate, gates_of, init_bits, latch_outputs}
use Rattle.netlist_spec.specs.Fits.{Valuation}
use Rattle.netlist_spec.specs.SourceRun.{Bits, Stream, CycleStep}
use Rattle.netlist_spec.specs.Values.{Forced, shown, Values}
use Rattle.netlist_spec.specs.Runs.{Fault, forced_at, FaultyCycle, Run}
use Rattle.netlist_spec.specs.Gates.{GateForm, LatchRow, NetFault}
use Rattle.netlist_spec.specs.Written.{Named, IsNamed, label_name, file_of}
use Rattle.named_netlist.specs.Laws.{faults_by_name, AreOfNets, faults_of_nets}
use Rattle.named_netlist.proofs.WrittenModel.{written_model}
use Rattle.named_netlist.proofs.NamedFiles.{latch_at, gate_at, gates-of}
use Rattle.named_netlist.proofs.NamedModels.{first_statement, same-latches}
use Rattle.named_netlist.proofs.NamedRuns.{runs_over}

-- ---- a fault at another name

first_of : (k n : Name) (bit own : Bool) (fs gs : Forced) → shown fs n own ≡ shown gs n own → shown ((k, bit) ∷ fs) n own ≡ shown ((k, bit) ∷ gs) n own
first_of k n bit own fs gs h = by_test (same_name k n)
  where
    by_test : (b : Bool) → unwrap_or (option_map (λ (e : Name × Bool). e.1) (cond b (Some (k, bit)) (find (λ (e : Name × Bool). same_name e.0 n) fs))) own
        ≡ unwrap_or (option_map (λ (e : Name × Bool). e.1) (cond b (Some (k, bit)) (find (λ (e : Name × Bool). same_name e.0 n) gs))) own
    by_test true = refl
    by_test false = h

passed_over : (k n : Name) (bit own : Bool) (fs gs : Forced) → same_name k n ≡ false → shown fs n own ≡ shown gs n own → shown ((k, bit) ∷ fs) n own ≡ shown gs n own
passed_over k n bit own fs gs other h = ap (λ (b : Bool). unwrap_or (option_map (λ (e : Name × Bool). e.1) (cond b (Some (k, bit)) (find (λ (e : Name × Bool). same_name e.0 n) fs))) own) other ∙ h

unlike : (k n : Name) (ns : List Name) → stands_in n ns ≡ true → stands_in k ns ≡ false → same_name k n ≡ false
unlike k n ns s f = by_test (same_name k n) refl
  where
    by_test : (b : Bool) → same_name k n ≡ b → b ≡ false
    by_test true e = absurd (cc (ap (λ (x : Name). stands_in x ns) ((bytes_decides k n).0 e), s, f))
    by_test false e = refl

module _ (g : Named) where
  abbrev all_names : List Name
  all_names = map label_name g.labels

  same_shown : (c : ℕ) (n : Name) (own : Bool) → stands_in n all_names ≡ true → (faults : List Fault) → shown (forced_at c faults) n own ≡ shown (forced_at c (faults_of_nets g faults)) n own
  same_shown c n own s [] = refl
  same_shown c n own s (a ∷ faults) = by_test (stands_in a.cell all_names) (a.cycle == c) refl refl (same_shown c n own s faults)
    where
      by_test : (b t : Bool) → stands_in a.cell all_names ≡ b → (a.cycle == c) ≡ t → shown (forced_at c faults) n own ≡ shown (forced_at c (faults_of_nets g faults)) n own
          → shown (map (λ x. (x.cell, x.bit)) (cond t (a ∷ filter (λ x. x.cycle == c) faults) (filter (λ x. x.cycle == c) faults))) n own
          ≡ shown (forced_at c (cond b (a ∷ faults_of_nets g faults) (faults_of_nets g faults))) n own
      by_test true t e f h =
          ap (λ (u : Bool). shown (map (λ x. (x.cell, x.bit)) (cond u (a ∷ filter (λ x. x.cycle == c) faults) (filter (λ x. x.cycle == c) faults))) n own) (sym f)
          ∙ in_cycle (a.cycle == c)
        where
          in_cycle : (u : Bool) → shown (map (λ x. (x.cell, x.bit)) (cond u (a ∷ filter (λ x. x.cycle == c) faults) (filter (λ x. x.cycle == c) faults))) n own
              ≡ shown (map (λ x. (x.cell, x.bit)) (cond u (a ∷ filter (λ x. x.cycle == c) (faults_of_nets g faults)) (filter (λ x. x.cycle == c) (faults_of_nets g faults)))) n own
          in_cycle true = first_of a.cell n a.bit own (forced_at c faults) (forced_at c (faults_of_nets g faults)) h
          in_cycle false = h
      by_test false true e f h = passed_over a.cell n a.bit own (forced_at c faults) (forced_at c (faults_of_nets g faults)) (unlike a.cell n all_names s e) h
      by_test false false e f h = h

  -- the cells of the file are nets
  stands_at : (ns : List Name) (i : ℕ) → i < length ns → stands_in (get_or ns i []) ns ≡ true
  stands_at [] i h = absurd (omega arith)
  stands_at (n ∷ ns) zero h = ap (λ (b : Bool). b || stands_in n ns) ((bytes_decides n n).1 refl)
  stands_at (n ∷ ns) (suc i) h = ap (λ (b : Bool). same_name (get_or ns i []) n || b) (stands_at ns i (omega arith)) ∙ either (same_name (get_or ns i []) n)
    where
      either : (b : Bool) → (b || true) ≡ true
      either true = refl
      either false = refl

  abbrev IsNet : Name → Type 0
  IsNet n = stands_in n all_names ≡ true

  latches_are_nets : (a : ℕ) (ls : List LatchRow) → a + length ls ≤ length all_names → AllByRecursion IsNet (map (λ (l : Latch). l.q) (map (latch_at g) (enumerate_from a ls)))
  latches_are_nets a [] fits = tt
  latches_are_nets a (l ∷ ls) fits = (stands_at all_names a (omega arith), latches_are_nets (a + 1) ls (omega arith))

  gates_are_nets : (a : ℕ) (xs : List GateForm) → a + length xs ≤ length all_names → AllByRecursion (λ (x : Gate). IsNet x.out) (map (gate_at g) (enumerate_from a xs))
  gates_are_nets a [] fits = tt
  gates_are_nets a (x ∷ xs) fits = (stands_at all_names a (omega arith), gates_are_nets (a + 1) xs (omega arith))

  module _ (named : IsNamed g) where
    abbrev m : Model
    m = written_model g

    long : length all_names ≡ g.net.leaves + length g.net.gates
    long = length-map g.labels label_name ∙ named.labels

    latch_nets : AllByRecursion IsNet (latch_outputs m)
    latch_nets = subst (λ (ls : List Latch). AllByRecursion IsNet (map (λ (l : Latch). l.q) ls)) (sym (same-latches g named)) (latches_are_nets g.data_inputs g.latches (let e = long in let l = named.leaves in omega arith))

    gate_nets : AllByRecursion (λ (x : Gate). IsNet x.out) (gates_of m)
    gate_nets = subst (λ (xs : List Gate). AllByRecursion (λ (x : Gate). IsNet x.out) xs) (sym (gates-of g named (first_statement g))) (gates_are_nets g.net.leaves g.net.gates (let e = long in omega arith))

    -- two lists of faults that show the same at each net
    module _ (fs gs : Forced) (same : (n : Name) (own : Bool) → IsNet n → shown fs n own ≡ shown gs n own) (w : Valuation) where
      latches_shown : (qs : List Name) (stored : Bits) → AllByRecursion IsNet qs → AllZip (λ q bit. w q ≡ shown fs q bit) qs stored → AllZip (λ q bit. w q ≡ shown gs q bit) qs stored
      latches_shown [] [] h z = z
      latches_shown [] (b ∷ stored) h z = absurd z
      latches_shown (q ∷ qs) [] h z = absurd z
      latches_shown (q ∷ qs) (b ∷ stored) h z = (z.0 ∙ same q b h.0, latches_shown qs stored h.1 z.1)

      gates_shown : (xs : List Gate) → AllByRecursion (λ (x : Gate). IsNet x.out) xs → AllByRecursion (λ (x : Gate). w x.out ≡ shown fs x.out (cover_value x.cover (map w x.ins))) xs
          → AllByRecursion (λ (x : Gate). w x.out ≡ shown gs x.out (cover_value x.cover (map w x.ins))) xs
      gates_shown [] h z = tt
      gates_shown (x ∷ xs) h z = (z.0 ∙ same x.out (cover_value x.cover (map w x.ins)) h.0, gates_shown xs h.1 z.1)

      values_shown : (s x : Bits) → Values m s x fs w → Values m s x gs w
      values_shown s x h = record { inputs = h.inputs; latches = latches_shown (latch_outputs m) s latch_nets h.latches; gates = gates_shown (gates_of m) gate_nets h.gates }

    cycle_over : (faults others : List Fault) → ((c : ℕ) (n : Name) (own : Bool) → IsNet n → shown (forced_at c faults) n own ≡ shown (forced_at c others) n own) → (c : ℕ) (x s y next : Bits)
        → FaultyCycle m faults c x s y next → FaultyCycle m others c x s y next
    cycle_over faults others same c x s y next h =
        record { values = h.values; agrees = values_shown (forced_at c faults) (forced_at c others) (same c) h.values s x h.agrees; outputs = h.outputs; stores = h.stores }

    same_runs : (faults : List Fault) (xs : Stream) (states outs : List Bits) → Run (file_of g) xs faults states outs ↔ Run (file_of g) xs (faults_of_nets g faults) states outs
    same_runs faults xs states outs =
        let others = faults_of_nets g faults in
        let first : CycleStep = λ c x s y next. FaultyCycle m faults c x s y next in
        let second : CycleStep = λ c x s y next. FaultyCycle m others c x s y next in (
          λ r. runs_over first second (cycle_over faults others (λ c n own s. same_shown c n own s faults)) 0 (init_bits m) xs states outs r,
          λ r. runs_over second first (cycle_over others faults (λ c n own s. sym (same_shown c n own s faults))) 0 (init_bits m) xs states outs r,
        )

pub others-have_no_effect : (g : Named) → IsNamed g → (faults : List Fault) (xs : Stream) (states outs : List Bits)
    → Run (file_of g) xs faults states outs ↔ Run (file_of g) xs (faults_of_nets g faults) states outs
others-have_no_effect g named = same_runs g named

-- ---- the numbers of faults at nets

record PlaceOf (ns : List Name) (n : Name) : Type 0 where
  place : ℕ
  within : place < length ns
  is : get_or ns place [] ≡ n

place_of : (ns : List Name) (n : Name) → stands_in n ns ≡ true → PlaceOf ns n
place_of [] n s = cc s
place_of (k ∷ ns) n s = by_test (same_name n k) refl s (place_of ns n)
  where
    by_test : (b : Bool) → same_name n k ≡ b → (b || stands_in n ns) ≡ true → (stands_in n ns ≡ true → PlaceOf ns n) → PlaceOf (k ∷ ns) n
    by_test true e h rest = record { place = 0; within = omega arith; is = sym ((bytes_decides n k).0 e) }
    by_test false e h rest = let p = rest h in record { place = suc p.place; within = let w = p.within in omega arith; is = p.is }

pub some-nets : (g : Named) → IsNamed g → (faults : List Fault) → (nets : List NetFault) × AreOfNets g nets × (faults_by_name g nets ≡ faults_of_nets g faults)
some-nets g named [] = ([], tt, refl)
some-nets g named (a ∷ faults) = by_test (stands_in a.cell (map label_name g.labels)) refl (some-nets g named faults)
  where
    by_test : (b : Bool) → stands_in a.cell (map label_name g.labels) ≡ b → ((nets : List NetFault) × AreOfNets g nets × (faults_by_name g nets ≡ faults_of_nets g faults))
        → (nets : List NetFault) × AreOfNets g nets × (faults_by_name g nets ≡ cond b (a ∷ faults_of_nets g faults) (faults_of_nets g faults))
    by_test true e rest =
        let p = place_of (map label_name g.labels) a.cell e in
        let long = length-map g.labels label_name ∙ named.labels in
        let w = p.within in (
          record { cycle = a.cycle; cell = p.place; bit = a.bit } ∷ rest.0,
          (omega arith, rest.1),
          λ i. record { cycle = a.cycle; cell = p.is i; bit = a.bit } ∷ rest.2 i,
        )
    by_test false e rest = rest
