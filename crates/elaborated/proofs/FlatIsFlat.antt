-- What is built for an elaborated source is a flat netlist of it.
use Rattle.std.proofs.Common.{◌≡◌, refl, sym, ◌∙◌, ap, ap₂, subst, ℕ, suc, ◌+◌, ◌≤◌, ◌↔◌, Bool, true, false, not, List, [], ◌∷◌, length, map, filter, take, drop, get_or, Option, Some, None, arith, drop-cons, add-one}
use Rattle.std.specs.Prelude.{IsTrue, IsSomeAnd}
use Rattle.std.specs.Bool.{beq}
use Rattle.std.specs.List.{AllByRecursion, range_with_len, enumerate_from}
use Rattle.std.proofs.lemmas.Bool.{and_parts}
use Rattle.std.proofs.lemmas.List.{length-map, take_all, length-drop}
use Rattle.std.proofs.lemmas.List.FromFn.{length-range_with_len, length-enumerate_from}
use Rattle.netlist_spec.specs.Netlist.{Name, stands_in, Clocking, plain, edge, Model, File}
use Rattle.netlist_spec.specs.Covers.{Library}
use Rattle.netlist_spec.specs.Models.{main_model, first_model, Latch, latches_of, gates_of, first_clocking, same_control, same_clocking, init_bit, init_bits, latch_outputs, output_nets}
use Rattle.netlist_spec.specs.SourceRun.{Bits, Stream, CycleStep, RunsFrom, SourceCycle, SourceRun}
use Rattle.netlist_spec.specs.Ordered.{IsOrdered}
use Rattle.netlist_spec.specs.Runs.{FreeRun}
use Rattle.netlist_spec.specs.Size.{whole_cost}
use Rattle.netlist_spec.specs.Sound.{IsSound, is_clocked}
use Rattle.netlist_spec.specs.Flat.{HasSourcePorts, IsFlat}
use Rattle.netlist_spec.specs.Gates.{LatchRow, GateStep, GateRun}
use Rattle.netlist_spec.specs.GuardNames.{inner_name}
use Rattle.netlist_spec.specs.Elaborated.{Elaborated, IsElaborated}
use Rattle.netlist_spec.specs.Text.{text_of}
use Rattle.netlist_spec.specs.Written.{Named, IsNamed, label_name, output_names, latch_labels, gate_labels, ports_from, written_init_of, file_of}
use Rattle.netlist_spec.specs.WrittenForm.{HasGateForm, inner_outputs}
use Rattle.netlist_spec.specs.WrittenText.{IsOneReading, IsTextOf}
use Rattle.imp_text.proofs.NamesLemmas.{same_name-true}
use Rattle.gate_net.specs.Written.{named_machine}
use Rattle.named_netlist.proofs.NamedFiles.{names-back, latches-of, gates-of, latch_at, gate_at, numbered_latches, numbered_gates}
use Rattle.elaborated.specs.Flat.{AreClockedAlike, StandsForSource, IsFlatNamed}

-- ---- lists

maps : {A B C : Type 0} (f : B → C) (h : A → B) (xs : List A) → map f (map h xs) ≡ map (λ x. f (h x)) xs
maps f h [] = refl
maps f h (x ∷ xs) = ap (λ l. f (h x) ∷ l) (maps f h xs)

-- the names from a place on, one for each item
numbered_names : {A : Type 0} (names : List Name) (a : ℕ) (xs : List A) → a + length xs ≤ length names → map (λ (p : ℕ × A). get_or names p.0 []) (enumerate_from a xs) ≡ take (length xs) (drop a names)
numbered_names names a [] fits = refl
numbered_names names a (x ∷ xs) fits =
    ap (λ (rest : List Name). get_or names a [] ∷ rest) (numbered_names names (a + 1) xs (omega arith) ∙ ap (λ (k : ℕ). take (length xs) (drop k names)) (add-one a))
    ∙ ap (take (suc (length xs))) (sym (drop-cons names a [] (omega arith)))

-- the items themselves, without their numbers
items_back : {A B : Type 0} (f : A → B) (a : ℕ) (xs : List A) → map (λ (p : ℕ × A). f p.1) (enumerate_from a xs) ≡ map f xs
items_back f a [] = refl
items_back f a (x ∷ xs) = ap (λ l. f x ∷ l) (items_back f (a + 1) xs)

-- one and the same for each of as many items
all_alike : {A B C : Type 0} (f : A → C) (h : B → C) (c : C) (xs : List A) (ys : List B) → length xs ≡ length ys → AllByRecursion (λ x. f x ≡ c) xs → AllByRecursion (λ y. h y ≡ c) ys → map f xs ≡ map h ys
all_alike f h c [] [] e p q = refl
all_alike f h c [] (y ∷ ys) e p q = absurd (omega arith)
all_alike f h c (x ∷ xs) [] e p q = absurd (omega arith)
all_alike {C} f h c (x ∷ xs) (y ∷ ys) e p q = ap₂ (λ (k : C) (l : List C). k ∷ l) (p.0 ∙ sym q.0) (all_alike f h c xs ys (omega arith) p.1 q.1)

each_alike : {A : Type 0} (c : Clocking) (f : A → Latch) → ((x : A) → (f x).clocking ≡ c) → (xs : List A) → AllByRecursion (λ (l : Latch). l.clocking ≡ c) (map f xs)
each_alike c f h [] = tt
each_alike c f h (x ∷ xs) = (h x, each_alike c f h xs)

length-ports : (k : ℕ) (ns : List Name) → length (ports_from k ns) ≡ length ns
length-ports k [] = refl
length-ports k (n ∷ ns) = ap suc (length-ports (k + 1) ns)

-- where one step goes over to another, so do the runs
runs_by : (step other : CycleStep) → ((c : ℕ) (x s y next : Bits) → step c x s y next → other c x s y next) → (c : ℕ) (s : Bits) (xs : Stream) (states outs : List Bits) → RunsFrom step c s xs states outs → RunsFrom other c s xs states outs
runs_by step other f c s [] [] outs r = absurd r
runs_by step other f c s [] (now ∷ []) [] r = r
runs_by step other f c s [] (now ∷ []) (y ∷ outs) r = absurd r
runs_by step other f c s [] (now ∷ k ∷ states) outs r = absurd r
runs_by step other f c s (x ∷ xs) [] outs r = absurd r
runs_by step other f c s (x ∷ xs) (now ∷ states) [] r = absurd r
runs_by step other f c s (x ∷ xs) (now ∷ states) (y ∷ outs) r = (r.0, r.1, f c x s y r.1 r.2, runs_by step other f (c + 1) r.1 xs states outs r.3)

-- ---- the file

abbrev no_model : Model
no_model = record { name = []; line = 0; names = []; inputs = []; outputs = []; clocks = []; statements = [] }

-- the model of the file
abbrev named_model : Named → Model
named_model g = get_or (file_of g).models 0 no_model

module _ (g : Named) (named : IsNamed g) where
  latches_are : latches_of (named_model g) ≡ map (latch_at g) (numbered_latches g)
  latches_are = latches-of g named (3 + length g.inputs + length g.outputs + length g.clocks)

  gates_are : gates_of (named_model g) ≡ map (gate_at g) (numbered_gates g)
  gates_are = gates-of g named (3 + length g.inputs + length g.outputs + length g.clocks)

  names_long : length (map label_name g.labels) ≡ g.net.leaves + length g.net.gates
  names_long = length-map g.labels label_name ∙ named.labels

  latches_named : latch_outputs (named_model g) ≡ latch_labels g
  latches_named =
      ap (map (λ (l : Latch). l.q)) latches_are ∙ maps (λ (l : Latch). l.q) (latch_at g) (numbered_latches g)
      ∙ numbered_names (map label_name g.labels) g.data_inputs g.latches (let a = names_long in let b = named.leaves in omega arith)

  gates_named : map (λ k. k.out) (gates_of (named_model g)) ≡ gate_labels g
  gates_named =
      ap (map (λ k. k.out)) gates_are ∙ maps (λ k. k.out) (gate_at g) (numbered_gates g)
      ∙ numbered_names (map label_name g.labels) g.net.leaves g.net.gates (let a = names_long in omega arith)
      ∙ take_all (length g.net.gates) (drop g.net.leaves (map label_name g.labels)) (let a = names_long in let b = length-drop g.net.leaves (map label_name g.labels) in omega arith)

  latches_start : map (λ (l : Latch). l.init) (latches_of (named_model g)) ≡ map (λ (r : LatchRow). written_init_of r.init) g.latches
  latches_start = ap (map (λ (l : Latch). l.init)) latches_are ∙ maps (λ (l : Latch). l.init) (latch_at g) (numbered_latches g) ∙ items_back (λ (r : LatchRow). written_init_of r.init) g.data_inputs g.latches

  latches_clocked : AllByRecursion (λ (l : Latch). l.clocking ≡ g.clocking) (latches_of (named_model g))
  latches_clocked = subst (λ (ls : List Latch). AllByRecursion (λ (l : Latch). l.clocking ≡ g.clocking) ls) (sym latches_are) (each_alike g.clocking (latch_at g) (λ p. refl) (numbered_latches g))

  latches_counted : length (latches_of (named_model g)) ≡ length g.latches
  latches_counted = ap length latches_are ∙ length-map (numbered_latches g) (latch_at g) ∙ length-enumerate_from g.data_inputs g.latches

  gates_counted : length (gates_of (named_model g)) ≡ length g.net.gates
  gates_counted = ap length gates_are ∙ length-map (numbered_gates g) (gate_at g) ∙ length-enumerate_from g.net.leaves g.net.gates

-- ---- the theorem

module _ (file : File) (library : Library) (m : Model) (e : Elaborated) (g : Named) (stands : StandsForSource file library m e) (named : IsNamed g) (is : IsFlatNamed e g) where
  outputs_are : output_nets (named_model g) ≡ output_nets m
  outputs_are = names-back (3 + length g.inputs) (output_names g) ∙ is.output_names ∙ stands.output_names

  as_many : length g.latches ≡ length (latches_of m)
  as_many = ap length is.latches ∙ sym (length-map e.machine.latches (λ r. r.init)) ∙ ap length stands.inits ∙ length-map (latches_of m) (λ l. init_bit l.init)

  ports_are : HasSourcePorts (named_model g) m
  ports_are =
      record {
        name = is.model ∙ stands.model;
        inputs = names-back 3 g.inputs ∙ is.inputs ∙ stands.input_ports;
        outputs = outputs_are;
        clocks = names-back (3 + length g.inputs + length g.outputs) g.clocks ∙ is.clocks ∙ stands.clock_ports;
        latches = latches_named g named ∙ is.latch_names ∙ stands.latch_names;
        clocking =
            all_alike (λ (l : Latch). l.clocking) (λ (l : Latch). l.clocking) e.clocking (latches_of (named_model g)) (latches_of m) (latches_counted g named ∙ as_many)
            (subst (λ (c : Clocking). AllByRecursion (λ (l : Latch). l.clocking ≡ c) (latches_of (named_model g))) is.clocking (latches_clocked g named)) stands.clocking;
        inits =
            latches_start g named ∙ sym (maps written_init_of (λ (r : LatchRow). r.init) g.latches)
            ∙ ap (map written_init_of) (ap (map (λ (r : LatchRow). r.init)) is.latches ∙ stands.inits) ∙ maps written_init_of (λ (l : Latch). init_bit l.init) (latches_of m);
      }

  inner_are : inner_outputs (named_model g) (output_nets (named_model g)) ≡ map inner_name (range_with_len 0 (length e.machine.net.gates))
  inner_are =
      ap (λ (ns : List Name). filter (λ n. not (stands_in n ns)) (map (λ k. k.out) (gates_of (named_model g)))) (outputs_are ∙ sym stands.output_names)
      ∙ ap (filter (λ n. not (stands_in n e.output_names))) (gates_named g named) ∙ is.inner

  inner_numbered : inner_outputs (named_model g) (output_nets (named_model g)) ≡ map inner_name (range_with_len 0 (length (inner_outputs (named_model g) (output_nets (named_model g)))))
  inner_numbered =
      let count = ap length inner_are ∙ length-map (range_with_len 0 (length e.machine.net.gates)) inner_name ∙ length-range_with_len 0 (length e.machine.net.gates) in
      inner_are ∙ ap (λ (k : ℕ). map inner_name (range_with_len 0 k)) (sym count)

  few_gates : length (gates_of (named_model g)) ≤ whole_cost file library + length (named_model g).outputs
  few_gates =
      let outs = length-ports (3 + length g.inputs) (output_names g) in
      let same = ap length is.output_names in
      omega (arith, gates_counted g named, is.size, stands.size, outs, same)

  abbrev Source : CycleStep
  Source c x s y next = SourceCycle file library m x s y next

  abbrev Flat : CycleStep
  Flat c x s y next = GateStep (named_machine g) [] x s y next

  starts_are : map (λ (r : LatchRow). r.init) g.latches ≡ init_bits m
  starts_are = ap (map (λ (r : LatchRow). r.init)) is.latches ∙ stands.inits

  source_runs : (xs : Stream) (states outs : List Bits) → SourceRun file library xs states outs ↔ GateRun (named_machine g) xs [] states outs
  source_runs xs states outs = (there, back)
    where
      there : SourceRun file library xs states outs → GateRun (named_machine g) xs [] states outs
      there r =
          let run = subst (λ (o : Option Model). IsSomeAnd o (λ k. RunsFrom (λ c x s y next. SourceCycle file library k x s y next) 0 (init_bits k) xs states outs)) stands.is_main r in
          subst (λ (s : Bits). RunsFrom Flat 0 s xs states outs) (sym starts_are)
          (runs_by Source Flat (λ c x s y next h. (is.steps x s y next).1 ((stands.steps x s y next).0 h)) 0 (init_bits m) xs states outs run)

      back : GateRun (named_machine g) xs [] states outs → SourceRun file library xs states outs
      back r =
          subst (λ (o : Option Model). IsSomeAnd o (λ k. RunsFrom (λ c x s y next. SourceCycle file library k x s y next) 0 (init_bits k) xs states outs)) (sym stands.is_main)
          (runs_by Flat Source (λ c x s y next h. (stands.steps x s y next).1 ((is.steps x s y next).0 h)) 0 (init_bits m) xs states outs (subst (λ (s : Bits). RunsFrom Flat 0 s xs states outs) starts_are r))

  -- what holds of each file that a gate list with names is written as
  module _ (ordered : IsOrdered (file_of g)) (runs : (xs : Stream) (states outs : List Bits) → FreeRun (file_of g) xs states outs ↔ GateRun (named_machine g) xs [] states outs)
      (forms : AllByRecursion HasGateForm (gates_of (named_model g)) × AllByRecursion (λ gate. length gate.ins ≤ 2) (gates_of (named_model g))) where
    pub is-flat : IsFlat (file_of g) file library
    is-flat =
        record {
          ordered = ordered;
          flat_model = named_model g;
          is_flat_model = refl;
          source_model = m;
          is_source_model = stands.is_main;
          ports = ports_are;
          narrow = forms.1;
          written = record { gates = forms.0; inner = inner_numbered };
          same_runs = λ xs states outs. (λ r. (runs xs states outs).1 ((source_runs xs states outs).0 r), λ r. (source_runs xs states outs).1 ((runs xs states outs).0 r));
          size = few_gates;
        }

  pub is-text : IsOneReading (text_of g.unknown_inits (file_of g)) (file_of g) → IsTextOf (text_of g.unknown_inits (file_of g)) file (file_of g)
  is-text reading =
      record {
        unknown = g.unknown_inits;
        has_unknown = (m, stands.is_main, is.unknown_inits ∙ stands.unknown_inits);
        written = refl;
        reading = reading;
      }

-- ---- sources

pub stands-for : (file : File) (library : Library) (m : Model) (e : Elaborated) → main_model file ≡ Some m → AreClockedAlike m → IsElaborated file library m e → StandsForSource file library m e
stands-for file library m e main alike h =
    record {
      is_main = main;
      model = h.model;
      input_ports = h.input_ports;
      clock_ports = h.clock_ports;
      output_names = h.output_names;
      latch_names = h.latch_names;
      clocking = subst (λ (c : Clocking). AllByRecursion (λ (l : Latch). l.clocking ≡ c) (latches_of m)) (sym h.clocking) alike;
      inits = h.machine.inits;
      unknown_inits = h.unknown_inits;
      steps = h.machine.steps;
      size = h.machine.size;
    }

same_bits : (a b : Bool) → beq a b ≡ true → a ≡ b
same_bits true true h = refl
same_bits true false h = cc h
same_bits false true h = cc h
same_bits false false h = refl

one_control : (a b : Option Name) → same_control a b ≡ true → a ≡ b
one_control None None h = refl
one_control None (Some b) h = cc h
one_control (Some a) None h = cc h
one_control (Some a) (Some b) h = ap Some (same_name-true a b h)

one_clocking : (a b : Clocking) → same_clocking a b ≡ true → a ≡ b
one_clocking plain plain h = refl
one_clocking plain (edge r c) h = cc h
one_clocking (edge r c) plain h = cc h
one_clocking (edge r c) (edge s d) h =
    let parts = and_parts (beq r s) (same_control c d) h in
    ap₂ edge (same_bits r s parts.0) (one_control c d parts.1)

alike_by : (first : Clocking) (P : Latch → Type 0) → ((l : Latch) → P l → l.clocking ≡ first) → (ls : List Latch) → AllByRecursion P ls → AllByRecursion (λ (l : Latch). l.clocking ≡ first) ls
alike_by first P f [] h = tt
alike_by first P f (l ∷ ls) h = (f l h.0, alike_by first P f ls h.1)

pub sound-alike : (file : File) (library : Library) (m : Model) → IsSound file library → main_model file ≡ Some m → AreClockedAlike m
sound-alike file library m sound main =
    alike_by (first_clocking (latches_of m)) (λ l. IsTrue (is_clocked m l)) (λ l h. one_clocking l.clocking (first_clocking (latches_of m)) (and_parts _ _ h).0) (latches_of m) (sound.main m main).clocking

-- A file that has a model has a main one.
pub main-of : (file : File) → 1 ≤ length file.models → (m : Model) × (main_model file ≡ Some m)
main-of file h = first file.models h
  where
    first : (ms : List Model) → 1 ≤ length ms → (m : Model) × (first_model ms ≡ Some m)
    first [] few = absurd (omega arith)
    first (m ∷ ms) few = (m, refl)
