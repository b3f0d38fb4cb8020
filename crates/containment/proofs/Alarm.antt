-- Among more rails than faulty cells one works, and tells.
use Rattle.std.proofs.Common.{◌≡◌, refl, sym, ◌∙◌, ap, subst, ℕ, zero, suc, ◌+◌, ◌*◌, ◌<◌, ◌≤◌, List, [], ◌∷◌, length, map, drop, get_or, slice_get, Bool, true, false, ◌||◌, ◌⊎◌, ◌↔◌, inl, inr, Some, arith, IsTrue, get_or-drop}
use Rattle.std.proofs.lemmas.Bool.{or_right, or_left, or_from}
use Rattle.std.proofs.lemmas.Option.{slice_get-get_or}
use Rattle.std.proofs.lemmas.List.{length-map, get_or-map, get_or_past}
use Rattle.std.specs.List.{list_any, range_with_len}
use Rattle.netlist_spec.specs.SourceRun.{Bits}
use Rattle.netlist_spec.specs.Gates.{IsMachine, ForcedNets, GateValues}
use Rattle.guard_spec.specs.Codes.{Code}
use Rattle.guard_spec.specs.Words.{Layout}
use Rattle.netlist_spec.specs.CellBits.{output_bit}
use Rattle.guard_spec.specs.Contained.{is_alarmed}
use Rattle.containment.specs.Cycles.{AreAmong}
use Rattle.containment.proofs.Counting.{number_of_cells, ranges_are_distinct, some_fails}
use Rattle.containment.proofs.Owners.{owned, untouched, one_output}
use Rattle.guard_spec.specs.Rails.{RailsTellOf}
use Rattle.guard_spec.specs.Regions.{Guarded, CoversGates, IsUntouched}

pub any_at : (xs : Bits) (i : ℕ) → get_or xs i false ≡ true → list_any (λ b. b) xs ≡ true
any_at [] i h = cc h
any_at (x ∷ xs) zero h = or_left x _ h
any_at (x ∷ xs) (suc i) h = or_right x _ (any_at xs i h)

pub none_at : (xs : Bits) → ((i : ℕ) → get_or xs i false ≡ false) → list_any (λ b. b) xs ≡ false
none_at [] h = refl
none_at (x ∷ xs) h = or_from x _ (h 0) (none_at xs (λ i. h (suc i)))

module _ (g : Guarded) (is_machine : IsMachine g.machine) (covers : CoversGates g) where
  -- Where there are more rails than cells to blame, one rail is untouched.
  pub some_rail : (first : ℕ) → length g.machine.outputs ≡ first + g.rails → (cells : List ℕ) → length cells < g.rails → (faults : ForcedNets) → AreAmong cells faults
      → (i : ℕ) × (first ≤ i) × (i < first + g.rails) × IsUntouched g faults (output_bit i)
  some_rail first long cells few faults among =
      let bound = number_of_cells (λ k n. owned g (output_bit k) n) (range_with_len first g.rails) (one_output g _ (ranges_are_distinct first g.rails)) cells in
      let (i, low, high, none) = some_fails (λ k. list_any (owned g (output_bit k)) cells) first g.rails (omega arith) in
      (i, low, high, untouched g is_machine covers (output_bit i) cells none faults among)

  module _ (code : Code) (l : Layout) (p : ℕ) (Bad : (ℕ → Bool) → Type 0) (tell : RailsTellOf g Bad) (long : length g.machine.outputs ≡ (p + length l.output * code.columns) + g.rails) (x stored : Bits) (faults : ForcedNets) (v : ℕ → Bool) (values : GateValues g.machine stored x faults v) where
    pub sounds : (cells : List ℕ) → length cells < g.rails → AreAmong cells faults → Bad v → IsTrue (is_alarmed code l p (map v g.machine.outputs))
    sounds cells few among some =
        let (i, low, high, free) = some_rail (p + length l.output * code.columns) long cells few faults among in
        let inside : i < length g.machine.outputs = omega arith in
        let up = (tell x stored faults v values i (get_or g.machine.outputs i 0) (slice_get-get_or g.machine.outputs i 0 inside) (omega arith) free).1 some in
        let gap = i_from i low in
        any_at (drop (p + length l.output * code.columns) (map v g.machine.outputs)) gap.0
        (get_or-drop (p + length l.output * code.columns) (map v g.machine.outputs) gap.0 false ∙ (ap (λ (k : ℕ). get_or (map v g.machine.outputs) k false) gap.1 ∙ (get_or-map v g.machine.outputs i 0 false inside ∙ up)))
      where
        i_from : (i : ℕ) → p + length l.output * code.columns ≤ i → (j : ℕ) × ((p + length l.output * code.columns) + j ≡ i)
        i_from i h = (Rattle.std.proofs.Common.◌-◌ i (p + length l.output * code.columns), omega arith)

    -- Without a faulty cell and a wrong word no rail is up.
    pub stays_quiet : faults ≡ [] → (Bad v → ⊥) → is_alarmed code l p (map v g.machine.outputs) ≡ false
    stays_quiet free none = none_at (drop (p + length l.output * code.columns) (map v g.machine.outputs)) (λ j. get_or-drop (p + length l.output * code.columns) (map v g.machine.outputs) j false ∙ at j (order ((p + length l.output * code.columns) + j) (length g.machine.outputs)))
      where
        order : (a b : ℕ) → (a < b) ⊎ (b ≤ a)
        order a b = grind arith

        not_up : (b : Bool) → (b ≡ true → ⊥) → b ≡ false
        not_up true h = absurd (h refl)
        not_up false h = refl

        at : (j : ℕ) → ((p + length l.output * code.columns) + j < length g.machine.outputs) ⊎ (length g.machine.outputs ≤ (p + length l.output * code.columns) + j) → get_or (map v g.machine.outputs) ((p + length l.output * code.columns) + j) false ≡ false
        at j (inr past) = get_or_past (map v g.machine.outputs) _ false (let e = length-map g.machine.outputs v in omega arith)
        at j (inl inside) =
            let i = (p + length l.output * code.columns) + j in
            get_or-map v g.machine.outputs i 0 false inside
            ∙ not_up (v (get_or g.machine.outputs i 0)) (λ up. none ((tell x stored faults v values i (get_or g.machine.outputs i 0) (slice_get-get_or g.machine.outputs i 0 inside) (omega arith) (subst (λ (fs : ForcedNets). IsUntouched g fs (output_bit i)) (sym free) tt)).0 up))
