-- A lane of a cycle with many lanes is a cycle.
use Rattle.std.proofs.Common.{◌≡◌, refl, sym, ◌∙◌, ap, ap₂, subst, ℕ, zero, suc, ◌<◌, List, [], ◌∷◌, length, map, get_or, Bool, true, false, not, cond, find, filter, option_map, unwrap_or, Some, arith, replicate}
use Rattle.std.proofs.lemmas.Bool.{or_parts}
use Rattle.std.proofs.lemmas.List.FromFn.{length-map-range_with_len, get_or-map-range_with_len}
use Rattle.std.specs.List.{AllByRecursion, AllZip}
use Rattle.std.specs.Cmp.Lexicographic.{bytes_decides}
use Rattle.netlist_spec.specs.Netlist.{Name, same_name, stands_in, are_distinct, Model}
use Rattle.netlist_spec.specs.Covers.{cover_value}
use Rattle.netlist_spec.specs.Models.{Gate, gates_of, data_inputs, latch_outputs, latch_inputs, output_nets}
use Rattle.netlist_spec.specs.SourceRun.{Bits}
use Rattle.netlist_spec.specs.Values.{Forced, shown}
use Rattle.netlist_spec.specs.Lanes.{Lanes, lane, cover_mean, LaneFault, masked, with_fault, shown_lanes, LaneCycle, lane_forced, AreLaneFaults, IsLaneOf}
use Rattle.netlist_spec.proofs.ListTests.{both}

-- the bits of a lane where a mask chooses
masked_at : (j : ℕ) (m b o : Bits) → j < length m → j < length b → j < length o → get_or (masked m b o) j false ≡ cond (get_or m j false) (get_or b j false) (get_or o j false)
masked_at j [] b o hm hb ho = absurd (omega arith)
masked_at j (x ∷ m) [] o hm hb ho = absurd (omega arith)
masked_at j (x ∷ m) (y ∷ b) [] hm hb ho = absurd (omega arith)
masked_at zero (x ∷ m) (y ∷ b) (z ∷ o) hm hb ho = refl
masked_at (suc j) (x ∷ m) (y ∷ b) (z ∷ o) hm hb ho = masked_at j m b o (omega arith) (omega arith) (omega arith)

abbrev entries_of : ℕ → List LaneFault → Forced
entries_of j faults = map (λ f. (f.cell, get_or f.bits j false)) faults

-- no entry names a cell that none of the faults names
shows_own : (j : ℕ) (q : Name) (own : Bool) (faults : List LaneFault) → stands_in q (map (λ f. f.cell) faults) ≡ false → shown (lane_forced j faults) q own ≡ own
shows_own j q own [] none = refl
shows_own j q own (f ∷ faults) none =
    let (a, b) = or_parts (same_name q f.cell) (stands_in q (map (λ f. f.cell) faults)) none in
    by_mask (get_or f.mask j false) (other a) (shows_own j q own faults b)
  where
    other : same_name q f.cell ≡ false → same_name f.cell q ≡ false
    other e = by_test (same_name f.cell q) refl
      where
        by_test : (t : Bool) → same_name f.cell q ≡ t → t ≡ false
        by_test false k = refl
        by_test true k = let back : same_name q f.cell ≡ true = (bytes_decides q f.cell).1 (sym ((bytes_decides f.cell q).0 k)) in sym back ∙ e

    by_mask : (t : Bool) → same_name f.cell q ≡ false → shown (lane_forced j faults) q own ≡ own → shown (entries_of j (cond t (f ∷ filter (λ f. get_or f.mask j false) faults) (filter (λ f. get_or f.mask j false) faults))) q own ≡ own
    by_mask false e h = h
    by_mask true e h = ap (λ (t : Bool). unwrap_or (option_map (λ (e : Name × Bool). e.1) (cond t (Some (f.cell, get_or f.bits j false)) (find (λ (e : Name × Bool). same_name e.0 q) (lane_forced j faults)))) own) e ∙ h

-- What a fault shows, lane by lane.
shown_at : (lanes j : ℕ) (q : Name) (own : Lanes) → j < lanes → j < length own → (faults : List LaneFault) → AllByRecursion (λ f. (length f.mask ≡ lanes) × (length f.bits ≡ lanes)) faults → are_distinct (map (λ f. f.cell) faults) ≡ true
    → get_or (shown_lanes faults q own) j false ≡ shown (lane_forced j faults) q (get_or own j false)
shown_at lanes j q own inside long [] masks distinct = refl
shown_at lanes j q own inside long (f ∷ faults) masks distinct =
    let (first, rest) = both (not (stands_in f.cell (map (λ f. f.cell) faults))) _ distinct in
    by_name (same_name f.cell q) refl first (shown_at lanes j q own inside long faults masks.1 rest)
  where
    not_there : (t : Bool) → not t ≡ true → t ≡ false
    not_there true h = cc h
    not_there false h = refl

    entry : (t u : Bool) → same_name f.cell q ≡ t → (t ≡ true → shown (lane_forced j faults) q (get_or own j false) ≡ get_or own j false)
        → cond t (cond u (get_or f.bits j false) (get_or own j false)) (shown (lane_forced j faults) q (get_or own j false))
        ≡ shown (entries_of j (cond u (f ∷ filter (λ f. get_or f.mask j false) faults) (filter (λ f. get_or f.mask j false) faults))) q (get_or own j false)
    entry true true e none = sym (ap (λ (t : Bool). unwrap_or (option_map (λ (e : Name × Bool). e.1) (cond t (Some (f.cell, get_or f.bits j false)) (find (λ (e : Name × Bool). same_name e.0 q) (lane_forced j faults)))) (get_or own j false)) e)
    entry true false e none = sym (none refl)
    entry false true e none = sym (ap (λ (t : Bool). unwrap_or (option_map (λ (e : Name × Bool). e.1) (cond t (Some (f.cell, get_or f.bits j false)) (find (λ (e : Name × Bool). same_name e.0 q) (lane_forced j faults)))) (get_or own j false)) e)
    entry false false e none = refl

    by_name : (t : Bool) → same_name f.cell q ≡ t → not (stands_in f.cell (map (λ f. f.cell) faults)) ≡ true → get_or (shown_lanes faults q own) j false ≡ shown (lane_forced j faults) q (get_or own j false)
        → get_or (with_fault (cond t (Some f) (find (λ f. same_name f.cell q) faults)) own) j false ≡ shown (lane_forced j (f ∷ faults)) q (get_or own j false)
    by_name true e first later =
        let here = masks.0 in
        masked_at j f.mask f.bits own (let k = here.0 in omega arith) (let k = here.1 in omega arith) long
        ∙ entry true (get_or f.mask j false) e (λ same. shows_own j q (get_or own j false) faults (subst (λ (n : Name). stands_in n (map (λ f. f.cell) faults) ≡ false) ((bytes_decides f.cell q).0 e) (not_there _ first)))
    by_name false e first later = later ∙ entry false (get_or f.mask j false) e (λ same. cc same)

maps : {A B C : Type 0} (v : B → C) (f : A → B) (ks : List A) → map v (map f ks) ≡ map (λ k. v (f k)) ks
maps v f [] = refl
maps v f (k ∷ ks) = ap (λ rest. v (f k) ∷ rest) (maps v f ks)

copies_at : (n j : ℕ) (b : Bool) → j < n → get_or (replicate n b) j false ≡ b
copies_at zero j b h = absurd (omega arith)
copies_at (suc n) zero b h = refl
copies_at (suc n) (suc j) b h = copies_at n j b (omega arith)

each_copy : (lanes j : ℕ) → j < lanes → (x : Bits) → map (λ (row : Lanes). get_or row j false) (map (λ b. replicate lanes b) x) ≡ x
each_copy lanes j h [] = refl
each_copy lanes j h (b ∷ x) = ap₂ (λ (c : Bool) (cs : Bits). c ∷ cs) (copies_at lanes j b h) (each_copy lanes j h x)

module _ (m : Model) (lanes j : ℕ) (inside : j < lanes) (x : Bits) (stored : List Lanes) (wide : AllByRecursion (λ row. length row ≡ lanes) stored) (faults : List LaneFault) (are : AreLaneFaults lanes faults) (y next : List Lanes) (step : LaneCycle m lanes (cover_mean lanes) x stored faults y next) where
  abbrev in_lane : Name → Bool
  in_lane n = get_or (step.values n) j false

  each_latch : (qs : List Name) (rows : List Lanes) → AllByRecursion (λ row. length row ≡ lanes) rows → AllZip (λ q own. step.values q ≡ shown_lanes faults q own) qs rows → AllZip (λ q bit. in_lane q ≡ shown (lane_forced j faults) q bit) qs (lane j rows)
  each_latch [] [] w z = tt
  each_latch [] (r ∷ rows) w z = absurd z
  each_latch (q ∷ qs) [] w z = absurd z
  each_latch (q ∷ qs) (r ∷ rows) w z = (
    ap (λ (row : Lanes). get_or row j false) z.0 ∙ shown_at lanes j q r inside (let e = w.0 in omega arith) faults are.masks are.cells,
    each_latch qs rows w.1 z.1,
  )

  each_gate : (gs : List Gate) → AllByRecursion (λ g. step.values g.out ≡ shown_lanes faults g.out (cover_mean lanes g.cover (map step.values g.ins))) gs → AllByRecursion (λ g. in_lane g.out ≡ shown (lane_forced j faults) g.out (cover_value g.cover (map in_lane g.ins))) gs
  each_gate [] a = tt
  each_gate (g ∷ gs) a = (
    ap (λ (row : Lanes). get_or row j false) a.0
        ∙ (shown_at lanes j g.out (cover_mean lanes g.cover (map step.values g.ins)) inside (let e = length-map-range_with_len (λ j. cover_value g.cover (lane j (map step.values g.ins))) 0 lanes in omega arith) faults are.masks are.cells
        ∙ ap (λ (b : Bool). shown (lane_forced j faults) g.out b)
        (get_or-map-range_with_len (λ j. cover_value g.cover (lane j (map step.values g.ins))) 0 lanes j j false inside (omega arith)
        ∙ ap (λ (bs : Bits). cover_value g.cover bs) (maps (λ (row : Lanes). get_or row j false) step.values g.ins))),
    each_gate gs a.1,
  )

  -- Each lane is a cycle under its own faults.
  pub lane_is : IsLaneOf m j x stored faults y next
  lane_is = record {
    values = λ n. in_lane n;
    agrees = record {
      inputs = sym (maps (λ (row : Lanes). get_or row j false) step.values (data_inputs m)) ∙ (ap (λ (rows : List Lanes). map (λ (row : Lanes). get_or row j false) rows) step.agrees.inputs ∙ each_copy lanes j inside x);
      latches = each_latch (latch_outputs m) stored wide step.agrees.latches;
      gates = each_gate (gates_of m) step.agrees.gates;
    };
    outputs = sym (maps (λ (row : Lanes). get_or row j false) step.values (output_nets m)) ∙ ap (λ (rows : List Lanes). lane j rows) step.outputs;
    stores = sym (maps (λ (row : Lanes). get_or row j false) step.values (latch_inputs m)) ∙ ap (λ (rows : List Lanes). lane j rows) step.stores;
  }
