-- The faults of a cycle among those of a list.
use Rattle.std.proofs.Common.{◌≡◌, ◌≢◌, refl, sym, ◌∙◌, ap, ap₂, subst, ℕ, zero, suc, ◌+◌, ◌<◌, List, [], ◌∷◌, ◌++◌, map, length, Bool, true, false, ◌||◌, ◌&&◌, get_or, slice_get, cond, Option, None, Some, arith, inl, inr, ◌⊎◌, append-nil}
use Rattle.std.specs.Prelude.{All, filter, count_by, nat_le, ◌==◌}
use Rattle.std.specs.List.{list_any}
use Rattle.std.proofs.lemmas.Bool.Decides.{eqb_tells}
use Rattle.std.proofs.lemmas.List.{length-map, map-append}
use Rattle.std.proofs.lemmas.List.Elements.{All-append, filter-append}
use Rattle.std.proofs.lemmas.List.Sums.{length-filter}
use Rattle.netlist_spec.specs.Netlist.{Name, same_name, are_distinct, stands_in}
use Rattle.netlist_spec.specs.Runs.{Fault, same_place, faults_at, forced_at}
use Rattle.stimulus_spec.specs.Stimulus.{ScriptFault, bad_script, more_than_sixteen, no_such_cell, entry_fault}
use Rattle.imp_text.proofs.NamesLemmas.{stands_in-at}
use Rattle.line_order.proofs.MarkLemmas.{each_of}
use Rattle.fault_sim.specs.declared.faults.CellFault.{CellFault}
use Rattle.fault_sim.specs.Faults.{named_fault, named_faults}
use Rattle.fault_script.specs.Refusals.{cell_fault}
use Rattle.fault_script.specs.Scripts.{Scripted, HasFaults, faults_in}
use Rattle.fault_script.proofs.CellLemmas.{place_of, same_cell, all_of_one}

eq_sym : (x y : ℕ) → (x == y) ≡ (y == x)
eq_sym x y = at (eqb_tells x y) (eqb_tells y x)
  where
    at : (((x == y) ≡ true) × (x ≡ y)) ⊎ (((x == y) ≡ false) × (x ≢ y)) → (((y == x) ≡ true) × (y ≡ x)) ⊎ (((y == x) ≡ false) × (y ≢ x)) → (x == y) ≡ (y == x)
    at (inl a) (inl b) = a.0 ∙ sym b.0
    at (inl a) (inr b) = absurd (b.1 (sym a.1))
    at (inr a) (inl b) = absurd (a.1 (sym b.1))
    at (inr a) (inr b) = a.0 ∙ sym b.0

-- the name and the bit of a fault
abbrev forced : Fault → Name × Bool
forced a = (a.cell, a.bit)

-- whether some fault of the list has the cycle and the cell of another
same_places : (a : Fault) (faults : List Fault) → list_any (same_place a) faults ≡ list_any (λ (e : Name × Bool). same_name a.cell e.0) (forced_at a.cycle faults)
same_places a [] = refl
same_places a (f ∷ faults) = at (a.cycle == f.cycle) (f.cycle == a.cycle) (eq_sym a.cycle f.cycle) (same_places a faults)
  where
    at : (p q : Bool) → p ≡ q → list_any (same_place a) faults ≡ list_any (λ (e : Name × Bool). same_name a.cell e.0) (forced_at a.cycle faults)
        → ((p && same_name a.cell f.cell) || list_any (same_place a) faults)
        ≡ list_any (λ (e : Name × Bool). same_name a.cell e.0) (map forced (cond q (f ∷ faults_at a.cycle faults) (faults_at a.cycle faults)))
    at true true e h = ap (λ (b : Bool). same_name a.cell f.cell || b) h
    at false false e h = h
    at true false e h = absurd (cc e)
    at false true e h = absurd (cc e)

-- the faults of a cycle, with one more in the list
abbrev with_last : Bool → Fault → List (Name × Bool)
with_last b a = map forced (cond b (a ∷ []) [])

one_more : (c : ℕ) (a : Fault) (faults : List Fault) → forced_at c (faults ++ a ∷ []) ≡ forced_at c faults ++ with_last (a.cycle == c) a
one_more c a faults = ap (map forced) (filter-append (λ (b : Fault). b.cycle == c) faults (a ∷ [])) ∙ map-append forced (faults_at c faults) (faults_at c (a ∷ []))

module _ (cells : List Name) (earlier : List Fault) (s : Scripted) (has : HasFaults cells earlier s) (a : Fault) (f : CellFault) (cell : slice_get cells f.cell.0 ≡ Some a.cell) where
  -- One more fault of one cycle.
  pub has_more : (new : Scripted) → f.value ≡ a.bit → faults_in new a.cycle ≡ faults_in s a.cycle ++ f ∷ [] → ((c : ℕ) → c ≢ a.cycle → faults_in new c ≡ faults_in s c) → HasFaults cells (earlier ++ a ∷ []) new
  has_more new bit here others = record { each_cycle = λ c. each c (eqb_tells a.cycle c); exist = λ c. exists c (eqb_tells a.cycle c) }
    where
      place : (get_or cells f.cell.0 [] ≡ a.cell) × (f.cell.0 < length cells)
      place = place_of cells f.cell.0 a.cell cell

      named : named_fault cells f ≡ forced a
      named = ap₂ (λ (n : Name) (b : Bool). (n, b)) place.0 bit

      at : (c : ℕ) → a.cycle ≡ c → faults_in new c ≡ faults_in s c ++ f ∷ []
      at c e = subst (λ k. faults_in new k ≡ faults_in s k ++ f ∷ []) e here

      each : (c : ℕ) → (((a.cycle == c) ≡ true) × (a.cycle ≡ c)) ⊎ (((a.cycle == c) ≡ false) × (a.cycle ≢ c)) → named_faults cells (faults_in new c) ≡ forced_at c (earlier ++ a ∷ [])
      each c (inl same) =
          ap (named_faults cells) (at c same.1)
          ∙ (map-append (named_fault cells) (faults_in s c) (f ∷ [])
          ∙ (ap₂ (λ (xs : List (Name × Bool)) (x : Name × Bool). xs ++ x ∷ []) (has.each_cycle c) named
          ∙ sym (one_more c a earlier ∙ ap (λ (b : Bool). forced_at c earlier ++ with_last b a) same.0)))
      each c (inr other) =
          ap (named_faults cells) (others c (λ e. other.1 (sym e)))
          ∙ (has.each_cycle c
          ∙ sym (one_more c a earlier ∙ (ap (λ (b : Bool). forced_at c earlier ++ with_last b a) other.0 ∙ append-nil (forced_at c earlier))))

      exists : (c : ℕ) → (((a.cycle == c) ≡ true) × (a.cycle ≡ c)) ⊎ (((a.cycle == c) ≡ false) × (a.cycle ≢ c)) → All (λ (g : CellFault). g.cell.0 < length cells) (faults_in new c)
      exists c (inl same) =
          subst (All (λ (g : CellFault). g.cell.0 < length cells)) (sym (at c same.1))
          (All-append (λ (g : CellFault). g.cell.0 < length cells) (faults_in s c) (f ∷ []) (has.exist c) (all_of_one (λ (g : CellFault). g.cell.0 < length cells) f place.1))
      exists c (inr other) = subst (All (λ (g : CellFault). g.cell.0 < length cells)) (sym (others c (λ e. other.1 (sym e)))) (has.exist c)

  count : count_by (λ (b : Fault). b.cycle == a.cycle) earlier ≡ length (faults_in s a.cycle)
  count =
      sym (length-filter (λ (b : Fault). b.cycle == a.cycle) earlier)
      ∙ (sym (length-map (faults_at a.cycle earlier) forced)
      ∙ (sym (ap length (has.each_cycle a.cycle)) ∙ length-map (faults_in s a.cycle) (named_fault cells)))

  -- what is wrong with a fault of a cell, by the cell's number
  pub fault_by_number : are_distinct cells ≡ true → (line : ℕ) → entry_fault cells earlier line a ≡ cell_fault (faults_in s a.cycle) f line
  fault_by_number distinct line =
      ap (λ (b : Bool). cond b (tested (list_any (same_place a) earlier) (count_by (λ (b : Fault). b.cycle == a.cycle) earlier)) (Some (no_such_cell line))) (stands_in-at cells f.cell.0 a.cell cell)
      ∙ ap₂ tested
      (same_places a earlier
      ∙ (ap (list_any (λ (e : Name × Bool). same_name a.cell e.0)) (sym (has.each_cycle a.cycle))
      ∙ same_cell cells f.cell.0 a.cell (faults_in s a.cycle) distinct cell (each_of (λ (g : CellFault). g.cell.0 < length cells) (faults_in s a.cycle) (has.exist a.cycle))))
      count
    where
      tested : Bool → ℕ → Option ScriptFault
      tested twice n = cond twice (Some (bad_script line)) (cond (nat_le 16 n) (Some (more_than_sixteen line)) None)
