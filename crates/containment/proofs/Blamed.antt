-- The cells to blame in each cycle, for each kind of fault list.
use Rattle.std.proofs.Common.{◌≡◌, refl, ℕ, zero, suc, ◌*◌, ◌≤◌, List, [], ◌∷◌, ◌++◌, length, map, filter, Bool, true, false, cond, ◌==◌, arith, Contains, length-append}
use Rattle.std.proofs.lemmas.Bool.{or_parts}
use Rattle.std.proofs.lemmas.List.{length-map}
use Rattle.std.proofs.lemmas.List.Elements.{Contains-append_left}
use Rattle.std.specs.List.{AllByRecursion, list_any}
use Rattle.netlist_spec.specs.Gates.{ForcedNets, NetFault, forced_nets_at}
use Rattle.containment.specs.Nets.{AreWithin, AreSteady, AreMoving}
use Rattle.containment.specs.Cycles.{AreAmong}
use Rattle.containment.proofs.Cycle.{each_passes}
use Rattle.containment.proofs.AllCycles.{Blame}

one_entry : (cells : List ℕ) (a : NetFault) (rest : List NetFault) (b : Bool) → Contains cells a.cell → AreAmong cells (map (λ a. (a.cell, a.bit)) rest) → AreAmong cells (map (λ a. (a.cell, a.bit)) (cond b (a ∷ rest) rest))
one_entry cells a rest true h all = (h, all)
one_entry cells a rest false h all = all

among_at : (c : ℕ) (cells : List ℕ) (faults : List NetFault) → AllByRecursion (λ a. Contains cells a.cell) faults → AreAmong cells (forced_nets_at c faults)
among_at c cells [] all = tt
among_at c cells (a ∷ faults) all = one_entry cells a (filter (λ a. a.cycle == c) faults) (a.cycle == c) all.0 (among_at c cells faults all.1)

-- The set is to blame in each cycle.
pub steady_blame : (t : ℕ) (faults : List NetFault) → AreSteady t faults → Blame t t faults
steady_blame t faults s = record {
  now = λ c. s.cells;
  shown = λ c. s.cells;
  few_now = λ c. s.few;
  few_shown = λ c. s.few;
  faulty_now = λ c. among_at c s.cells faults s.named;
  faulty_shown = λ c. among_at c s.cells faults s.named;
  later = λ c p h. h;
}

pub behind : (ks : List ℕ) (k n : ℕ) → Contains ks n → Contains (k ∷ ks) n
behind ks k n (i, inside, e) = (suc i, omega arith, e)

named_cells : (faults : List NetFault) → AllByRecursion (λ a. Contains (map (λ a. a.cell) faults) a.cell) faults
named_cells [] = tt
named_cells (a ∷ faults) = (
  (0, omega arith, refl),
  each_passes _ _ (λ b h. behind (map (λ a. a.cell) faults) a.cell b.cell h) faults (named_cells faults),
)

-- A few entries of one cycle name a few cells.
pub within_is_steady : (t : ℕ) (faults : List NetFault) → AreWithin t faults → AreSteady t faults
within_is_steady t faults w = record {
  cells = map (λ a. a.cell) faults;
  few = let e = length-map faults (λ (a : NetFault). a.cell) in let h = w.few in omega arith;
  named = named_cells faults;
}

entries_among : (fs : ForcedNets) → AreAmong (map (λ (e : ℕ × Bool). e.0) fs) fs
entries_among [] = tt
entries_among (e ∷ fs) = (
  (0, omega arith, refl),
  each_passes _ _ (λ (b : ℕ × Bool) h. behind (map (λ (e : ℕ × Bool). e.0) fs) e.0 b.0 h) fs (entries_among fs),
)

abbrev pub cells_at : List NetFault → ℕ → List ℕ
cells_at faults c = map (λ (e : ℕ × Bool). e.0) (forced_nets_at c faults)

-- Wrong shown latches come from the latches of the cycle and from the cells of the cycle before.
abbrev pub cells_shown : List NetFault → ℕ → List ℕ
cells_shown faults zero = cells_at faults 0
cells_shown faults (suc c) = cells_at faults (suc c) ++ cells_at faults c

few_cells : (t : ℕ) (faults : List NetFault) → AreMoving t faults → (c : ℕ) → length (cells_at faults c) ≤ t
few_cells t faults m c = let e = length-map (forced_nets_at c faults) (λ (e : ℕ × Bool). e.0) in let h = m c in omega arith

few_cells_shown : (t : ℕ) (faults : List NetFault) → AreMoving t faults → (c : ℕ) → length (cells_shown faults c) ≤ 2 * t
few_cells_shown t faults m zero = let h = few_cells t faults m 0 in omega arith
few_cells_shown t faults m (suc c) =
    let h = few_cells t faults m (suc c) in
    let k = few_cells t faults m c in
    let e = length-append (cells_at faults (suc c)) (cells_at faults c) in
    omega arith

shown_among : (faults : List NetFault) (c : ℕ) → AreAmong (cells_shown faults c) (forced_nets_at c faults)
shown_among faults zero = entries_among (forced_nets_at 0 faults)
shown_among faults (suc c) = each_passes _ _ (λ (b : ℕ × Bool) h. Contains-append_left (cells_at faults (suc c)) (cells_at faults c) b.0 h) (forced_nets_at (suc c) faults) (entries_among (forced_nets_at (suc c) faults))

none_behind : (p : ℕ → Bool) (xs ys : List ℕ) → list_any p (xs ++ ys) ≡ false → list_any p ys ≡ false
none_behind p [] ys h = h
none_behind p (x ∷ xs) ys h = none_behind p xs ys (or_parts (p x) (list_any p (xs ++ ys)) h).1

pub moving_blame : (t : ℕ) (faults : List NetFault) → AreMoving t faults → Blame t (2 * t) faults
moving_blame t faults m = record {
  now = cells_at faults;
  shown = cells_shown faults;
  few_now = few_cells t faults m;
  few_shown = few_cells_shown t faults m;
  faulty_now = λ c. entries_among (forced_nets_at c faults);
  faulty_shown = shown_among faults;
  later = λ c p h. none_behind p (cells_at faults (suc c)) (cells_at faults c) h;
}
