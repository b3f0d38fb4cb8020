-- What the rails of a gate list tell, they tell on its text.
use Rattle.std.proofs.Common.{◌≡◌, refl, sym, ◌∙◌, ap, subst, ℕ, suc, ◌+◌, ◌-◌, ◌<◌, ◌≤◌, List, [], ◌∷◌, ◌++◌, length, map, get_or, slice_get, Bool, false, ◌↔◌, inl, inr, Some, arith, Contains, IsTrue, eq-eqb}
use Rattle.std.specs.Prelude.{IsSomeAnd}
use Rattle.std.proofs.lemmas.Option.{slice_get-get_or}
use Rattle.std.proofs.lemmas.List.{length-map}
use Rattle.std.specs.List.{range_with_len, zip}
use Rattle.std.specs.Cmp.Lexicographic.{bytes_decides}
use Rattle.netlist_spec.specs.Netlist.{Name, Statement}
use Rattle.netlist_spec.specs.Models.{main_model, latch_outputs, output_nets}
use Rattle.netlist_spec.specs.SourceRun.{Bits}
use Rattle.netlist_spec.specs.Values.{Forced, Values}
use Rattle.netlist_spec.specs.Runs.{Fault}
use Rattle.netlist_spec.specs.Gates.{GateForm, constant, Machine, IsMachine, latch_nets}
use Rattle.guard_spec.specs.Codes.{Code}
use Rattle.guard_spec.specs.Words.{Layout}
use Rattle.netlist_spec.specs.CellBits.{Bit, output_bit, IsBitOf, cells_of}
use Rattle.guard_spec.specs.Regions.{Guarded, CoversGates, HaveOwnNets, AreSeparate, IsCellOf, IsUntouched}
use Rattle.netlist_spec.specs.GateRanges.{Region}
use Rattle.guard_spec.specs.Rails.{SomeWord, RailsTellOf, IsUntouchedIn, RailsTellIn}
use Rattle.netlist_spec.specs.Written.{Named, label_name, net_name, latch_statement, gate_statement, file_of}
use Rattle.containment.specs.Written.{machine_of, net_of, place_in, IsWellNamed, IsNamedGuard}
use Rattle.containment.proofs.WrittenRuns.{apart, names_long, gate_values, place_tells}
use Rattle.netlist_spec.proofs.WrittenFiles.{AreApart, facts, maps}
use Rattle.containment.proofs.TextBits.{slice_map, from_slice, slice_zip, region_has, gates_above, ends}
use Rattle.containment.proofs.IndependentTexts.{text_main, text_model}

-- a name that has a place is the name there
placed_name : (ns : List Name) → AreApart ns → (x : Name) → place_in ns x < length ns → x ≡ get_or ns (place_in ns x) []
placed_name ns apart x h = (bytes_decides x (get_or ns (place_in ns x) [])).0 (place_tells ns apart x (place_in ns x) h ∙ eq-eqb (place_in ns x) (place_in ns x) refl)

abbrev as_fault : Name × Bool → Fault
as_fault e = record { cycle = 0; cell = e.0; bit = e.1 }

same_forced : (faults : Forced) → map {B = Name × Bool} (λ (a : Fault). (a.cell, a.bit)) (map as_fault faults) ≡ faults
same_forced [] = refl
same_forced (e ∷ faults) = ap (λ (fs : Forced). e ∷ fs) (same_forced faults)

inside_front : (xs ys : List Statement) (s : Statement) → Contains ys s → Contains (xs ++ ys) s
inside_front [] ys s c = c
inside_front (x ∷ xs) ys s c = let (k, inside, e) = inside_front xs ys s c in (suc k, omega arith, e)

module _ (n : Named) (well : IsWellNamed n) (rails : ℕ) (regions : List Region) (source : Machine) where
  abbrev guard : Guarded
  guard = record { machine = machine_of n; rails = rails; regions = regions }

  module _ (is_machine : IsMachine (machine_of n)) (covers : CoversGates guard) (have : HaveOwnNets guard source) (separate : AreSeparate guard) (ends : (r : Region) → Contains regions r → (n.net.leaves ≤ r.first) × (r.end ≤ n.net.leaves + length n.net.gates)) where
    -- the statement of a gate
    cell_at : (k : ℕ) → n.net.leaves ≤ k → k < n.net.leaves + length n.net.gates → (form : GateForm) × Contains (cells_of (text_main n)) (gate_statement n (net_name n k, form))
    cell_at k low high =
        let p = k - n.net.leaves in
        let form = get_or n.net.gates (k - n.net.leaves) (constant false) in
        let at = slice_get-get_or n.net.gates (k - n.net.leaves) (constant false) (omega arith) in
        let back : n.net.leaves + (k - n.net.leaves) ≡ k = omega arith in
        let text = text_model n well in (
          get_or n.net.gates (k - n.net.leaves) (constant false),
          subst (λ (cells : List Statement). Contains cells (gate_statement n (net_name n k, get_or n.net.gates (k - n.net.leaves) (constant false)))) (sym text.cells)
              (inside_front (map (latch_statement n) (zip (map (net_name n) (range_with_len n.data_inputs (length n.latches))) n.latches)) (map (gate_statement n) (zip (map (net_name n) (range_with_len n.net.leaves (length n.net.gates))) n.net.gates)) _
              (from_slice (map (gate_statement n) (zip (map (net_name n) (range_with_len n.net.leaves (length n.net.gates))) n.net.gates)) (k - n.net.leaves) (gate_statement n (net_name n k, get_or n.net.gates (k - n.net.leaves) (constant false)))
              (slice_zip (gate_statement n) (net_name n) n.net.leaves n.net.gates (k - n.net.leaves) (get_or n.net.gates (k - n.net.leaves) (constant false)) at ∙ ap (λ (z : ℕ). Some (gate_statement n (net_name n z, get_or n.net.gates (k - n.net.leaves) (constant false)))) back))),
        )

    -- A bit that is untouched on the text is untouched on the gate list.
    untouched_gates : (i : ℕ) (faults : Forced) → IsUntouchedIn (text_main n) faults (output_bit i) → IsUntouched guard (map {B = ℕ × Bool} (λ (a : Fault). (net_of n a.cell, a.bit)) (map as_fault faults)) (output_bit i)
    untouched_gates i [] free = tt
    untouched_gates i (e ∷ faults) free = (not_cell, untouched_gates i faults free.1)
      where
        not_cell : IsCellOf guard (output_bit i) (net_of n e.0) → ⊥
        not_cell (inr none) = none
        not_cell (inl (r, in_r, bit, low, high)) =
            let (leaves, last) = ends r in_r in
            let long = names_long n well in
            let is = placed_name (map label_name n.labels) (apart n well) e.0 (omega arith) in
            let (form, listed) = cell_at (net_of n e.0) (omega arith) (omega arith) in
            let has = region_has n (text_main n) (text_model n well) rails regions source is_machine covers have separate r in_r (net_of n e.0) (low, high) in
            free.0 (gate_statement n (net_name n (net_of n e.0), form)) listed (ap (λ (x : Name). x ∷ []) (sym is))
            (subst (λ (b : Bit). IsBitOf (text_main n) (gate_statement n (net_name n (net_of n e.0), form)) b) bit has)

    pub tells_on_text : (code : Code) (l : Layout) (p : ℕ) (Bad : List ℕ → Bits → Type 0) → RailsTellOf guard (λ v. SomeWord code l p Bad (map v (latch_nets guard.machine)) (map v n.outputs)) → RailsTellIn (text_main n) code l p rails Bad
    tells_on_text code l p Bad tell x stored faults v values i o at past free =
        let text = text_model n well in
        let (k, at_k, is) = slice_map (net_name n) n.outputs i o (sym (ap (λ (ns : List Name). slice_get ns i) text.outputs) ∙ at) in
        let long = ap (λ (ns : List Name). length ns) text.outputs ∙ length-map n.outputs (net_name n) in
        let on_gates = gate_values n well (text_main n) (facts n) well.inputs (map as_fault faults) x stored v (subst (λ (fs : Forced). Values (text_main n) stored x fs v) (sym (same_forced faults)) values) in
        let told = tell x stored (map {B = ℕ × Bool} (λ (a : Fault). (net_of n a.cell, a.bit)) (map as_fault faults)) (λ j. v (net_name n j)) on_gates i k at_k (omega arith) (untouched_gates i faults free) in
        subst (λ (z : Name). IsTrue (v z) ↔ SomeWord code l p Bad (map v (latch_outputs (text_main n))) (map v (output_nets (text_main n)))) (sym is)
        (subst (λ (shown : Bits). IsTrue (v (net_name n k)) ↔ SomeWord code l p Bad shown (map v (output_nets (text_main n)))) (sym (maps v (net_name n) (range_with_len n.data_inputs (length n.latches))) ∙ ap (λ (ns : List Name). map v ns) (sym text.shows))
        (subst (λ (z : Bits). IsTrue (v (net_name n k)) ↔ SomeWord code l p Bad (map (λ j. v (net_name n j)) (range_with_len n.data_inputs (length n.latches))) z) (sym (maps v (net_name n) n.outputs) ∙ ap (λ (ns : List Name). map v ns) (sym text.outputs))
        told))

-- what the text tells where a guard has this machine
abbrev Telling : Named → Guarded → Machine → Code → Layout → ℕ → (List ℕ → Bits → Type 0) → Machine → Type 0
Telling n g source code l p Bad k =
    IsMachine k → CoversGates record { machine = k; rails = g.rails; regions = g.regions } → HaveOwnNets record { machine = k; rails = g.rails; regions = g.regions } source → AreSeparate record { machine = k; rails = g.rails; regions = g.regions }
    → RailsTellOf record { machine = k; rails = g.rails; regions = g.regions } (λ v. SomeWord code l p Bad (map v (latch_nets k)) (map v k.outputs)) → RailsTellIn (text_main n) code l p g.rails Bad

-- The same of a guard that has the machine of the text.
pub telling_text : (n : Named) (g : Guarded) (source : Machine) → IsNamedGuard n g source → (code : Code) (l : Layout) (p : ℕ) (Bad : List ℕ → Bits → Type 0)
    → RailsTellOf g (λ v. SomeWord code l p Bad (map v (latch_nets g.machine)) (map v g.machine.outputs)) → IsSomeAnd (main_model (file_of n)) (λ m. RailsTellIn m code l p g.rails Bad)
telling_text n g source named code l p Bad = subst (Telling n g source code l p Bad) named.same on_own named.is_machine named.covers named.own_nets named.separate
  where
    on_own : Telling n g source code l p Bad (machine_of n)
    on_own is_machine covers have separate =
        tells_on_text n named.names g.rails g.regions source is_machine covers have separate
        (λ r in_r. (
          gates_above n (text_main n) (text_model n named.names) g.rails g.regions source is_machine covers have separate r in_r,
          ends n (text_main n) (text_model n named.names) g.rails g.regions source is_machine covers have separate r in_r,
        )) code l p Bad
