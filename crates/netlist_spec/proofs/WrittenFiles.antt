-- The cover of a gate, and what stands in the file that a gate list is written as.
use Rattle.std.proofs.Common.{◌≡◌, refl, sym, ◌∙◌, ap, ℕ, zero, suc, ◌+◌, ◌<◌, ◌≤◌, List, [], ◌∷◌, ◌++◌, length, map, filter_map, take, drop, get_or, zip, Bool, true, false, cond, ◌&&◌, Option, Some, arith, rules, option_map, unwrap_or, drop-cons, add-one}
use Rattle.std.proofs.lemmas.Bool.{or_parts}
use Rattle.std.specs.Prelude.{IsSomeAnd}
use borrow.Author.Tests.{not-true}
use Rattle.std.specs.List.{range_with_len, cons_option}
use Rattle.std.specs.Cmp.Lexicographic.{bytes_decides}
use Rattle.netlist_spec.specs.Netlist.{Name, same_name, stands_in, are_distinct, Statement, Located, Model}
use Rattle.netlist_spec.specs.Covers.{cover_value}
use Rattle.netlist_spec.specs.Models.{main_model, Latch, as_latch, latches_of, Gate, as_gate, gates_of, output_nets}
use Rattle.netlist_spec.specs.Gates.{GateForm, gate_answer, gate_reads, gate_cover, LatchRow}
use Rattle.netlist_spec.specs.Written.{Named, net_name, output_names, latch_labels, gate_labels, latch_statement, latch_statements, gate_statement, gate_statements, written_init_of, statements_from, line_count, ports_from, file_of}

pub cover_answers : (g : GateForm) (v : ℕ → Bool) → cover_value (gate_cover g) (map v (gate_reads g)) ≡ gate_answer g v
cover_answers = search rules

-- ---- names that stand at one place each

abbrev pub AreApart : List Name → Type 0
AreApart ns = (i j : ℕ) → i < length ns → j < length ns → get_or ns i [] ≡ get_or ns j [] → i ≡ j

both : (a b : Bool) → (a && b) ≡ true → (a ≡ true) × (b ≡ true)
both true b h = (refl, h)
both false b h = cc h

stands_nowhere : (n : Name) (ns : List Name) → stands_in n ns ≡ false → (i : ℕ) → i < length ns → n ≡ get_or ns i [] → ⊥
stands_nowhere n [] none i h e = absurd (omega arith)
stands_nowhere n (m ∷ ms) none zero h e =
    let t : true ≡ false = sym ((bytes_decides n m).1 e) ∙ (or_parts (same_name n m) (stands_in n ms) none).0 in
    cc t
stands_nowhere n (m ∷ ms) none (suc i) h e = stands_nowhere n ms (or_parts (same_name n m) (stands_in n ms) none).1 i (omega arith) e

pub apart_from : (ns : List Name) → are_distinct ns ≡ true → AreApart ns
apart_from [] d i j hi hj e = absurd (omega arith)
apart_from (n ∷ ns) d zero zero hi hj e = refl
apart_from (n ∷ ns) d zero (suc j) hi hj e = absurd (stands_nowhere n ns (not-true _ (both _ _ d).0) j (omega arith) e)
apart_from (n ∷ ns) d (suc i) zero hi hj e = absurd (stands_nowhere n ns (not-true _ (both _ _ d).0) i (omega arith) (sym e))
apart_from (n ∷ ns) d (suc i) (suc j) hi hj e = ap suc (apart_from ns (both _ _ d).1 i j (omega arith) (omega arith) e)

-- what the first fault of a place shows, by name and by number
pub one_entry : (own bit : Bool) (n : Name) (k : ℕ) (t t' : Bool) → t ≡ t' → (o : Option (Name × Bool)) (o' : Option (ℕ × Bool)) → unwrap_or (option_map (λ (e : Name × Bool). e.1) o) own ≡ unwrap_or (option_map (λ (e : ℕ × Bool). e.1) o') own
    → unwrap_or (option_map (λ (e : Name × Bool). e.1) (cond t (Some (n, bit)) o)) own ≡ unwrap_or (option_map (λ (e : ℕ × Bool). e.1) (cond t' (Some (k, bit)) o')) own
one_entry own bit n k true true e o o' h = refl
one_entry own bit n k true false e o o' h = cc e
one_entry own bit n k false true e o o' h = cc e
one_entry own bit n k false false e o o' h = h

-- ---- lists of the model

pub part_as_map : (ns : List Name) (a n : ℕ) → a + n ≤ length ns → take n (drop a ns) ≡ map (λ k. get_or ns k []) (range_with_len a n)
part_as_map ns a zero fits = refl
part_as_map ns a (suc n) fits =
    ap (λ (rest : List Name). take (suc n) rest) (drop-cons ns a [] (omega arith))
    ∙ ap (λ (rest : List Name). get_or ns a [] ∷ rest) (ap (λ (k : ℕ). take n (drop k ns)) (sym (add-one a)) ∙ part_as_map ns (a + 1) n (omega arith))

names_back : (k : ℕ) (ns : List Name) → map (λ p. p.name) (ports_from k ns) ≡ ns
names_back k [] = refl
names_back k (n ∷ ns) = ap (λ (rest : List Name). n ∷ rest) (names_back (k + 1) ns)

without_lines : {A : Type 0} (h : Statement → Option A) (k : ℕ) (ss : List Statement) → filter_map (λ (s : Located). h s.what) (statements_from k ss) ≡ filter_map h ss
without_lines h k [] = refl
without_lines h k (s ∷ ss) = ap (λ rest. cons_option (h s) rest) (without_lines h (k + line_count s) ss)

pub maps : {A B C : Type 0} (v : B → C) (f : A → B) (ks : List A) → map v (map f ks) ≡ map (λ k. v (f k)) ks
maps v f [] = refl
maps v f (k ∷ ks) = ap (λ rest. v (f k) ∷ rest) (maps v f ks)

module _ (g : Named) where
  abbrev pub latch_for : Name × LatchRow → Latch
  latch_for z = record { d = net_name g z.1.d; q = z.0; clocking = g.clocking; init = written_init_of z.1.init }

  abbrev pub gate_for : Name × GateForm → Gate
  gate_for z = record { ins = map (net_name g) (gate_reads z.1); out = z.0; cover = gate_cover z.1 }

  no_latches : (ys : List (Name × GateForm)) → filter_map as_latch (map (gate_statement g) ys) ≡ []
  no_latches [] = refl
  no_latches (y ∷ ys) = no_latches ys

  only_latches : (zs : List (Name × LatchRow)) (ys : List (Name × GateForm)) → filter_map as_latch (map (latch_statement g) zs ++ map (gate_statement g) ys) ≡ map latch_for zs
  only_latches [] ys = no_latches ys
  only_latches (z ∷ zs) ys = ap (λ (rest : List Latch). latch_for z ∷ rest) (only_latches zs ys)

  all_gates : (ys : List (Name × GateForm)) → filter_map as_gate (map (gate_statement g) ys) ≡ map gate_for ys
  all_gates [] = refl
  all_gates (y ∷ ys) = ap (λ (rest : List Gate). gate_for y ∷ rest) (all_gates ys)

  only_gates : (zs : List (Name × LatchRow)) (ys : List (Name × GateForm)) → filter_map as_gate (map (latch_statement g) zs ++ map (gate_statement g) ys) ≡ map gate_for ys
  only_gates [] ys = all_gates ys
  only_gates (z ∷ zs) ys = only_gates zs ys

  -- what the model of the file has
  abbrev pub Facts : Model → Type 0
  Facts m =
      (latches_of m ≡ map latch_for (zip (latch_labels g) g.latches))
      × (gates_of m ≡ map gate_for (zip (gate_labels g) g.net.gates))
      × (output_nets m ≡ output_names g)

  pub facts : IsSomeAnd (main_model (file_of g)) Facts
  facts = (
    without_lines as_latch _ (latch_statements g ++ gate_statements g) ∙ only_latches (zip (latch_labels g) g.latches) (zip (gate_labels g) g.net.gates),
    without_lines as_gate _ (latch_statements g ++ gate_statements g) ∙ only_gates (zip (latch_labels g) g.latches) (zip (gate_labels g) g.net.gates),
    names_back _ (output_names g),
  )
