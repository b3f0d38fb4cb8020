-- Faults by the numbers of cells, and by the names of their nets.
use Rattle.std.proofs.Common.{◌≡◌, ◌≢◌, refl, sym, ◌∙◌, ap, ap₂, subst, ℕ, zero, suc, ◌+◌, ◌<◌, List, [], ◌∷◌, map, length, Bool, true, false, ◌||◌, get_or, slice_get, Some, arith, inl, inr, ◌⊎◌}
use Rattle.std.specs.Prelude.{All, ◌==◌}
use Rattle.std.specs.List.{list_any, AllByRecursion}
use Rattle.std.proofs.lemmas.Bool.Decides.{eqb_tells}
use Rattle.netlist_spec.specs.Netlist.{Name, same_name, are_distinct}
use Rattle.imp_text.proofs.NamesLemmas.{same_name_self}
use Rattle.line_order.proofs.MarkLemmas.{apart}
use Rattle.fault_sim.specs.declared.faults.CellFault.{CellFault}
use Rattle.fault_sim.specs.Faults.{named_faults}

pub place_of : (cells : List Name) (k : ℕ) (n : Name) → slice_get cells k ≡ Some n → (get_or cells k [] ≡ n) × (k < length cells)
place_of [] k n h = absurd (cc h)
place_of (m ∷ cells) zero n h = (cc h, omega arith)
place_of (m ∷ cells) (suc k) n h = let r = place_of cells k n h in (r.0, let b : k < length cells = r.1 in omega arith)

-- a cell's number tells it from the others, as its net does
pub same_number : (cells : List Name) (i j : ℕ) (n : Name) → are_distinct cells ≡ true → i < length cells → slice_get cells j ≡ Some n → same_name n (get_or cells i []) ≡ (i == j)
same_number cells i j n distinct inside at = go (eqb_tells i j)
  where
    place : (get_or cells j [] ≡ n) × (j < length cells)
    place = place_of cells j n at

    go : (((i == j) ≡ true) × (i ≡ j)) ⊎ (((i == j) ≡ false) × (i ≢ j)) → same_name n (get_or cells i []) ≡ (i == j)
    go (inl same) =
        ap (λ k. same_name n (get_or cells k [])) same.1 ∙ (ap (same_name n) place.0 ∙ (same_name_self n ∙ sym same.0))
    go (inr other) =
        ap (λ m. same_name m (get_or cells i [])) (sym place.0)
        ∙ (apart cells j i distinct place.1 inside (λ e. other.1 (sym e)) ∙ sym other.0)

-- whether some fault names a cell
pub same_cell : (cells : List Name) (j : ℕ) (n : Name) (faults : List CellFault) → are_distinct cells ≡ true → slice_get cells j ≡ Some n → AllByRecursion (λ (f : CellFault). f.cell.0 < length cells) faults
    → list_any (λ (e : Name × Bool). same_name n e.0) (named_faults cells faults) ≡ list_any (λ (f : CellFault). f.cell.0 == j) faults
same_cell cells j n [] distinct at inside = refl
same_cell cells j n (f ∷ faults) distinct at inside =
    ap₂ (λ a b. a || b) (same_number cells f.cell.0 j n distinct inside.0 at) (same_cell cells j n faults distinct at inside.1)

pub all_of_one : {A : Type 0} (P : A → Type 0) (x : A) → P x → All P (x ∷ [])
all_of_one P x h zero d inside = h
all_of_one P x h (suc k) d inside = absurd (omega arith)
