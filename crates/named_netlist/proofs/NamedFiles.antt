-- The latches and the gates of the file that a gate list is written as, in order with the numbers of their nets.
use Rattle.std.proofs.Common.{◌≡◌, ℕ, ◌+◌, ◌≤◌, List, [], ◌∷◌, ◌++◌, length, map, filter_map, take, drop, get_or, zip, Option, refl, sym, ap, ◌∙◌, arith, drop-cons, add-one, suc, length-append}
use Rattle.std.specs.List.{enumerate_from, cons_option}
use Rattle.std.proofs.lemmas.List.{length-map}
use Rattle.netlist_spec.specs.Netlist.{Name, Statement, Located}
use Rattle.netlist_spec.specs.Models.{Latch, as_latch, Gate, as_gate}
use Rattle.netlist_spec.specs.Gates.{GateForm, LatchRow, gate_cover, gate_reads}
use Rattle.netlist_spec.specs.Written.{Named, IsNamed, label_name, net_name, latch_labels, gate_labels, latch_statement, gate_statement, latch_statements, gate_statements, written_init_of, statements_from, line_count, ports_from}

pub names-back : (k : ℕ) (ns : List Name) → map (λ p. p.name) (ports_from k ns) ≡ ns
names-back k [] = refl
names-back k (n ∷ ns) = ap (λ (rest : List Name). n ∷ rest) (names-back (k + 1) ns)

pub without-lines : {A : Type 0} (h : Statement → Option A) (k : ℕ) (ss : List Statement) → filter_map (λ (s : Located). h s.what) (statements_from k ss) ≡ filter_map h ss
without-lines h k [] = refl
without-lines h k (s ∷ ss) = ap (λ rest. cons_option (h s) rest) (without-lines h (k + line_count s) ss)

-- the items beside the names from a place on
pub zip-from : {A : Type 0} (names : List Name) (a : ℕ) (xs : List A) → a + length xs ≤ length names → zip (drop a names) xs ≡ map (λ (p : ℕ × A). (get_or names p.0 [], p.1)) (enumerate_from a xs)
zip-from names a [] fits = none (drop a names)
  where
    none : {A : Type 0} (ns : List Name) → zip {X = A} ns [] ≡ []
    none [] = refl
    none (n ∷ ns) = refl
zip-from {A} names a (x ∷ xs) fits =
    ap (λ (rest : List Name). zip rest (x ∷ xs)) (drop-cons names a [] (omega arith))
    ∙ ap (λ (rest : List (Name × A)). (get_or names a [], x) ∷ rest) (ap (λ (k : ℕ). zip (drop k names) xs) (sym (add-one a)) ∙ zip-from names (a + 1) xs (omega arith))

zip-taken : {A : Type 0} (ns : List Name) (xs : List A) → zip (take (length xs) ns) xs ≡ zip ns xs
zip-taken [] [] = refl
zip-taken [] (x ∷ xs) = refl
zip-taken (n ∷ ns) [] = refl
zip-taken {A} (n ∷ ns) (x ∷ xs) = ap (λ (rest : List (Name × A)). (n, x) ∷ rest) (zip-taken ns xs)

module _ (g : Named) where
  -- a latch and a gate with the numbers of their nets
  abbrev pub latch_at : ℕ × LatchRow → Latch
  latch_at l = record { d = net_name g l.1.d; q = net_name g l.0; clocking = g.clocking; init = written_init_of l.1.init }

  abbrev pub gate_at : ℕ × GateForm → Gate
  gate_at p = record { ins = map (net_name g) (gate_reads p.1); out = net_name g p.0; cover = gate_cover p.1 }

  abbrev named_row : {A : Type 0} → ℕ × A → Name × A
  named_row p = (net_name g p.0, p.1)

  abbrev pub latch_written : ℕ × LatchRow → Statement
  latch_written p = latch_statement g (named_row p)

  abbrev pub gate_written : ℕ × GateForm → Statement
  gate_written p = gate_statement g (named_row p)

  no_latches : (ys : List (ℕ × GateForm)) → filter_map as_latch (map gate_written ys) ≡ []
  no_latches [] = refl
  no_latches (y ∷ ys) = no_latches ys

  only_latches : (zs : List (ℕ × LatchRow)) (ys : List (ℕ × GateForm)) → filter_map as_latch (map latch_written zs ++ map gate_written ys) ≡ map latch_at zs
  only_latches [] ys = no_latches ys
  only_latches (z ∷ zs) ys = ap (λ (rest : List Latch). latch_at z ∷ rest) (only_latches zs ys)

  all_gates : (ys : List (ℕ × GateForm)) → filter_map as_gate (map gate_written ys) ≡ map gate_at ys
  all_gates [] = refl
  all_gates (y ∷ ys) = ap (λ (rest : List Gate). gate_at y ∷ rest) (all_gates ys)

  only_gates : (zs : List (ℕ × LatchRow)) (ys : List (ℕ × GateForm)) → filter_map as_gate (map latch_written zs ++ map gate_written ys) ≡ map gate_at ys
  only_gates [] ys = all_gates ys
  only_gates (z ∷ zs) ys = only_gates zs ys

  -- the numbered latches and gates
  abbrev pub numbered_latches : List (ℕ × LatchRow)
  numbered_latches = enumerate_from g.data_inputs g.latches

  abbrev pub numbered_gates : List (ℕ × GateForm)
  numbered_gates = enumerate_from g.net.leaves g.net.gates

  abbrev pub written_statements : List Statement
  written_statements = map latch_written numbered_latches ++ map gate_written numbered_gates

  mapped : {A B C : Type 0} (f : B → C) (h : A → B) (xs : List A) → map f (map h xs) ≡ map (λ x. f (h x)) xs
  mapped f h [] = refl
  mapped f h (x ∷ xs) = ap (λ l. f (h x) ∷ l) (mapped f h xs)

  module _ (named : IsNamed g) where
    names_long : length (map label_name g.labels) ≡ g.net.leaves + length g.net.gates
    names_long = length-map g.labels label_name ∙ named.labels

    latches_zipped : zip (latch_labels g) g.latches ≡ map named_row numbered_latches
    latches_zipped =
        zip-taken (drop g.data_inputs (map label_name g.labels)) g.latches
        ∙ zip-from (map label_name g.labels) g.data_inputs g.latches (let e = names_long in let l = named.leaves in omega arith)

    gates_zipped : zip (gate_labels g) g.net.gates ≡ map named_row numbered_gates
    gates_zipped = zip-from (map label_name g.labels) g.net.leaves g.net.gates (let e = names_long in omega arith)

    -- the statements of the file, by number
    pub statements-numbered : latch_statements g ++ gate_statements g ≡ written_statements
    statements-numbered =
        ap (λ (l : List Statement). l ++ map (gate_statement g) (zip (gate_labels g) g.net.gates)) (ap (map (latch_statement g)) latches_zipped ∙ mapped (latch_statement g) named_row numbered_latches)
        ∙ ap (λ (l : List Statement). map latch_written numbered_latches ++ l) (ap (map (gate_statement g)) gates_zipped ∙ mapped (gate_statement g) named_row numbered_gates)

    -- its latches and its gates
    pub latches-of : (k : ℕ) → filter_map (λ (s : Located). as_latch s.what) (statements_from k (latch_statements g ++ gate_statements g)) ≡ map latch_at numbered_latches
    latches-of k = without-lines as_latch k (latch_statements g ++ gate_statements g) ∙ ap (filter_map as_latch) statements-numbered ∙ only_latches numbered_latches numbered_gates

    pub gates-of : (k : ℕ) → filter_map (λ (s : Located). as_gate s.what) (statements_from k (latch_statements g ++ gate_statements g)) ≡ map gate_at numbered_gates
    gates-of k = without-lines as_gate k (latch_statements g ++ gate_statements g) ∙ ap (filter_map as_gate) statements-numbered ∙ only_gates numbered_latches numbered_gates

-- ---- how many statements are written

pub items_long : {A B : Type 0} (f : ℕ × A → B) (a : ℕ) (xs : List A) → length (map f (enumerate_from a xs)) ≡ length xs
items_long f a [] = refl
items_long f a (x ∷ xs) = ap suc (items_long f (a + 1) xs)

pub statements-long : (g : Named) → IsNamed g → length (latch_statements g ++ gate_statements g) ≡ length g.latches + length g.net.gates
statements-long g named =
    ap length (statements-numbered g named)
    ∙ (let e = length-append (map (latch_written g) (numbered_latches g)) (map (gate_written g) (numbered_gates g)) in
    let a = items_long (latch_written g) g.data_inputs g.latches in
    let b = items_long (gate_written g) g.net.leaves g.net.gates in
    let sum : length (map (latch_written g) (numbered_latches g) ++ map (gate_written g) (numbered_gates g)) ≡ length g.latches + length g.net.gates = omega arith in
    sum)
