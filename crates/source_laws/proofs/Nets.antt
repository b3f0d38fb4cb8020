-- Nets that fit a model, and the bits that they have.
use Rattle.std.proofs.Common.{◌≡◌, refl, sym, ◌∙◌, ap, subst, ℕ, ◌+◌, ◌<◌, ◌≤◌, List, [], ◌∷◌, ◌++◌, length, map, filter, Bool, true, false, not, cond, inl, inr}
use Rattle.std.specs.Prelude.{IsTrue, ◌↔◌}
use Rattle.std.specs.List.{AllByRecursion, AllZip, enumerate_from, flat_map, range_with_len}
use Rattle.netlist_spec.specs.Netlist.{Name, stands_in, Bind, Statement, names, latch, subckt, Model, File}
use Rattle.netlist_spec.specs.Covers.{Library, Table, Linear, cover_value, table_value, linear_value}
use Rattle.netlist_spec.specs.Placed.{Placed, a_table, a_linear, placed, port_names, input_ports, output_ports, actuals_among}
use Rattle.netlist_spec.specs.Models.{clock_nets, data_inputs, latch_inputs, latch_outputs, output_nets}
use Rattle.netlist_spec.specs.Fits.{Valuation, port_bits, OutputsHave, Fits, FitsEach, fits, none, fits_names, fits_latch, fits_table, fits_linear, fits_model}
use Rattle.netlist_spec.specs.SourceRun.{Bits}
use Rattle.netlist_spec.specs.Sound.{combines, drives, reads, read_nets, PlacesWell, IsMain, IsSoundModel, IsSoundMain, IsSound}
use Rattle.netlist_spec.specs.Gates.{GateForm, gate_answer, shown_net, Machine, AnswersWithin, GateValues, latch_nets}
use Rattle.source_laws.specs.Settling.{given_nets}
use Rattle.source_laws.specs.Agreement.{AgreeOn}
use Rattle.source_laws.specs.Holding.{Holds}
use Rattle.source_laws.specs.Lowered.{HasBitsOf}
use Rattle.source_laws.specs.Nets.{Nets, bits_at, NetsFit, nets_fit, NetsFitEach, no_statement, net_of_names, net_of_latch, nets_of_table, nets_of_linear, nets_of_model, NetsHold}
use Rattle.source_laws.proofs.Lists.{Among, all_among, among_all, among_map, among_filter, among_front, among_back, among_either, stands, standing}
use Rattle.source_laws.proofs.Statements.{statements_hold, fits_by_each}
use Rattle.source_laws.proofs.Local.{outputs_are_local, holding_is_local}
use Rattle.source_laws.proofs.Drivers.{given_is_not_driven}
use Rattle.source_laws.proofs.Agree.{read_by, well_placed}
use Rattle.source_laws.proofs.OneOutcome.{mapped_alike, stored_is_read}
use Rattle.source_laws.proofs.SomeCycle.{clock_is_port, clock_is_no_leaf}

maps_twice : (v : ℕ → Bool) (nets : Nets) (ns : List Name) → map v (map nets ns) ≡ map (bits_at v nets) ns
maps_twice v nets [] = refl
maps_twice v nets (n ∷ ns) = ap (λ (bs : List Bool). v (nets n) ∷ bs) (maps_twice v nets ns)

module _ (file : File) (library : Library) (Answer : (ℕ → Bool) → Type 0) where
  -- ---- statement by statement

  each_hold : {ss : List Statement} {nets : Nets} → NetsFitEach file library Answer ss nets → AllByRecursion (NetsHold file library Answer nets) ss
  each_hold no_statement = tt
  each_hold (net_of_names e f) = (net_of_names e no_statement, each_hold f)
  each_hold (net_of_latch f) = (net_of_latch no_statement, each_hold f)
  each_hold (nets_of_table t p o f) = (nets_of_table t p o no_statement, each_hold f)
  each_hold (nets_of_linear l p o f) = (nets_of_linear l p o no_statement, each_hold f)
  each_hold (nets_of_model k inside p i b f) = (nets_of_model k inside p i b no_statement, each_hold f)

  joined : {s : Statement} {ss : List Statement} {nets : Nets} → NetsHold file library Answer nets s → NetsFitEach file library Answer ss nets → NetsFitEach file library Answer (s ∷ ss) nets
  joined (net_of_names e f) rest = net_of_names e rest
  joined (net_of_latch f) rest = net_of_latch rest
  joined (nets_of_table t p o f) rest = nets_of_table t p o rest
  joined (nets_of_linear l p o f) rest = nets_of_linear l p o rest
  joined (nets_of_model k inside p i b f) rest = nets_of_model k inside p i b rest

  from_each : (ss : List Statement) (nets : Nets) → AllByRecursion (NetsHold file library Answer nets) ss → NetsFitEach file library Answer ss nets
  from_each [] nets a = no_statement
  from_each (s ∷ ss) nets a = joined a.0 (from_each ss nets a.1)

  each_of : {m : Model} {nets : Nets} → NetsFit file library Answer m nets → NetsFitEach file library Answer (map (λ s. s.what) m.statements) nets
  each_of (nets_fit f) = f

  pub nets_by_each : (m : Model) (nets : Nets) → NetsFit file library Answer m nets ↔ AllByRecursion (NetsHold file library Answer nets) (map (λ l. l.what) m.statements)
  nets_by_each m nets = ((λ (f : NetsFit file library Answer m nets). each_hold (each_of f)), λ a. nets_fit (from_each (map (λ l. l.what) m.statements) nets a))

  -- ---- the bits of nets that fit

  mutual
    pub bits_fit : (v : ℕ → Bool) → Answer v → {m : Model} {nets : Nets} → NetsFit file library Answer m nets → Fits file library m (bits_at v nets)
    bits_fit v a (nets_fit f) = fits (bits_fit_each v a f)

    bits_fit_each : (v : ℕ → Bool) → Answer v → {ss : List Statement} {nets : Nets} → NetsFitEach file library Answer ss nets → FitsEach file library ss (bits_at v nets)
    bits_fit_each v a no_statement = none
    bits_fit_each v a (net_of_names {ins = ins} {cover = cover} {nets = nets} e f) = fits_names (e v a ∙ ap (cover_value cover) (maps_twice v nets ins)) (bits_fit_each v a f)
    bits_fit_each v a (net_of_latch f) = fits_latch (bits_fit_each v a f)
    bits_fit_each v a (nets_of_table t p o f) = fits_table t p (o v a) (bits_fit_each v a f)
    bits_fit_each v a (nets_of_linear l p o f) = fits_linear l p (o v a) (bits_fit_each v a f)
    bits_fit_each v a (nets_of_model {binds = binds} {nets = nets} k inside p i b f) =
        fits_model k (bits_at v inside) p (bits_fit v a i)
        (among_all (λ (b : Bind). v (inside b.formal) ≡ v (nets b.actual)) binds (λ c h. ap v (all_among (λ (b : Bind). inside b.formal ≡ nets b.actual) binds b c h))) (bits_fit_each v a f)

module _ (file : File) (library : Library) (Answer More : (ℕ → Bool) → Type 0) (fewer : (v : ℕ → Bool) → More v → Answer v) where
  mutual
    pub more_fit : {m : Model} {nets : Nets} → NetsFit file library Answer m nets → NetsFit file library More m nets
    more_fit (nets_fit f) = nets_fit (more_fit_each f)

    pub more_fit_each : {ss : List Statement} {nets : Nets} → NetsFitEach file library Answer ss nets → NetsFitEach file library More ss nets
    more_fit_each no_statement = no_statement
    more_fit_each (net_of_names e f) = net_of_names (λ v a. e v (fewer v a)) (more_fit_each f)
    more_fit_each (net_of_latch f) = net_of_latch (more_fit_each f)
    more_fit_each (nets_of_table t p o f) = nets_of_table t p (λ v a. o v (fewer v a)) (more_fit_each f)
    more_fit_each (nets_of_linear l p o f) = nets_of_linear l p (λ v a. o v (fewer v a)) (more_fit_each f)
    more_fit_each (nets_of_model k inside p i b f) = nets_of_model k inside p (more_fit i) b (more_fit_each f)

-- ---- names that a statement doesn't read or drive

module _ (file : File) (library : Library) (Answer : (ℕ → Bool) → Type 0) (nets other : Nets) where
  maps_same : (ns : List Name) → AllByRecursion (λ n. nets n ≡ other n) ns → map nets ns ≡ map other ns
  maps_same [] a = refl
  maps_same (n ∷ ns) a = λ i. a.0 i ∷ maps_same ns a.1 i

  bits_agree : (v : ℕ → Bool) (ns : List Name) → AllByRecursion (λ n. nets n ≡ other n) ns → AgreeOn (bits_at v nets) (bits_at v other) ns
  bits_agree v ns a = among_all (λ n. v (nets n) ≡ v (other n)) ns (λ n h. ap v (all_among (λ n. nets n ≡ other n) ns a n h))

  -- the net of an actual of some ports
  net_at : (ports : List Name) (binds : List Bind) → AllByRecursion (λ n. nets n ≡ other n) (actuals_among ports binds) → (b : Bind) → Among b binds → stands_in b.formal ports ≡ true → nets b.actual ≡ other b.actual
  net_at ports binds a b h s =
      all_among (λ n. nets n ≡ other n) (actuals_among ports binds) a b.actual
      (among_map (λ (b : Bind). b.actual) (filter (λ b. stands_in b.formal ports) binds) b (among_filter (λ (b : Bind). stands_in b.formal ports) binds b h s))

  pub nets_hold_locally : (s : Statement) → PlacesWell file library s → AllByRecursion (λ n. nets n ≡ other n) (reads file library s) → AllByRecursion (λ n. nets n ≡ other n) (drives file library s)
      → NetsHold file library Answer nets s → NetsHold file library Answer other s
  nets_hold_locally (names ins out cover) p r d (net_of_names e f) =
      net_of_names (λ v a. ap v (sym d.0) ∙ (e v a ∙ ap (λ (ks : List ℕ). cover_value cover (map v ks)) (maps_same ins r))) no_statement
  nets_hold_locally (latch q o clocking init) p r d h = net_of_latch no_statement
  nets_hold_locally (subckt name binds) p r d (nets_of_table t e o f) = nets_of_table t e (λ v a. moved_table v t e (o v a)) no_statement
    where
      at_actuals : (x : Placed) → placed file library name ≡ x → (v : ℕ → Bool) → AgreeOn (bits_at v nets) (bits_at v other) (actuals_among (input_ports x) binds) × AgreeOn (bits_at v nets) (bits_at v other) (actuals_among (output_ports x) binds)
      at_actuals x e v = (
        subst (λ y. AgreeOn (bits_at v nets) (bits_at v other) (actuals_among (input_ports y) binds)) e (bits_agree v (reads file library (subckt name binds)) r),
        subst (λ y. AgreeOn (bits_at v nets) (bits_at v other) (actuals_among (output_ports y) binds)) e (bits_agree v (drives file library (subckt name binds)) d),
      )

      moved_table : (v : ℕ → Bool) (t : Table) → placed file library name ≡ a_table t → OutputsHave (bits_at v nets) binds (output_ports (a_table t)) (table_value t (port_bits (bits_at v nets) binds (input_ports (a_table t))))
          → OutputsHave (bits_at v other) binds (output_ports (a_table t)) (table_value t (port_bits (bits_at v other) binds (input_ports (a_table t))))
      moved_table v t e o = let at = at_actuals (a_table t) e v in outputs_are_local (bits_at v nets) (bits_at v other) binds (input_ports (a_table t)) (output_ports (a_table t)) (table_value t) at.0 at.1 o
  nets_hold_locally (subckt name binds) p r d (nets_of_linear t e o f) = nets_of_linear t e (λ v a. moved_linear v t e (o v a)) no_statement
    where
      at_actuals : (x : Placed) → placed file library name ≡ x → (v : ℕ → Bool) → AgreeOn (bits_at v nets) (bits_at v other) (actuals_among (input_ports x) binds) × AgreeOn (bits_at v nets) (bits_at v other) (actuals_among (output_ports x) binds)
      at_actuals x e v = (
        subst (λ y. AgreeOn (bits_at v nets) (bits_at v other) (actuals_among (input_ports y) binds)) e (bits_agree v (reads file library (subckt name binds)) r),
        subst (λ y. AgreeOn (bits_at v nets) (bits_at v other) (actuals_among (output_ports y) binds)) e (bits_agree v (drives file library (subckt name binds)) d),
      )

      moved_linear : (v : ℕ → Bool) (t : Linear) → placed file library name ≡ a_linear t → OutputsHave (bits_at v nets) binds (output_ports (a_linear t)) (linear_value t (port_bits (bits_at v nets) binds (input_ports (a_linear t))))
          → OutputsHave (bits_at v other) binds (output_ports (a_linear t)) (linear_value t (port_bits (bits_at v other) binds (input_ports (a_linear t))))
      moved_linear v t e o = let at = at_actuals (a_linear t) e v in outputs_are_local (bits_at v nets) (bits_at v other) binds (input_ports (a_linear t)) (output_ports (a_linear t)) (linear_value t) at.0 at.1 o
  nets_hold_locally (subckt name binds) p r d (nets_of_model k inside e i b f) =
      nets_of_model k inside e i (among_all (λ (b : Bind). inside b.formal ≡ other b.actual) binds (λ c h. all_among (λ (b : Bind). inside b.formal ≡ nets b.actual) binds b c h ∙ at_bind c h)) no_statement
    where
      at_bind : (c : Bind) → Among c binds → nets c.actual ≡ other c.actual
      at_bind c h =
          let port = all_among (λ (b : Bind). IsTrue (stands_in b.formal (input_ports (placed file library name) ++ output_ports (placed file library name)))) binds p.ports c h in
          elim (among_either (input_ports (placed file library name)) (output_ports (placed file library name)) c.formal (standing c.formal (input_ports (placed file library name) ++ output_ports (placed file library name)) port)) [
            | inl i ↦ net_at (input_ports (placed file library name)) binds r c h (stands c.formal (input_ports (placed file library name)) i)
            | inr o ↦ net_at (output_ports (placed file library name)) binds d c h (stands c.formal (output_ports (placed file library name)) o)
          ]

-- ---- a machine

module _ (file : File) (library : Library) (m : Model) (machine : Machine) (nets : Nets) (sound : IsSound file library) (main : IsMain file m) where
  is : IsSoundModel file library m
  is = sound.used m (m, main, 0, refl)

  is_main : IsSoundMain file library m
  is_main = sound.main m main

  -- the clock nets are 0
  abbrev shown : (ℕ → Bool) → Valuation
  shown v = λ n. cond (stands_in n (clock_nets m)) false (v (nets n))

  off_clocks : (v : ℕ → Bool) (n : Name) → (Among n (clock_nets m) → ⊥) → v (nets n) ≡ shown v n
  off_clocks v n f = by_case (stands_in n (clock_nets m)) refl
    where
      by_case : (b : Bool) → stands_in n (clock_nets m) ≡ b → v (nets n) ≡ cond b false (v (nets n))
      by_case true e = absurd (f (standing n (clock_nets m) e))
      by_case false e = refl

  pub read_off_clocks : (n : Name) → Among n (read_nets file library m) → Among n (clock_nets m) → ⊥
  read_off_clocks n h c =
      let off = all_among (λ n. IsTrue (not (stands_in n (read_nets file library m)))) (clock_nets m) is_main.clocks_unread n c in
      clash (stands_in n (read_nets file library m)) (stands n (read_nets file library m) h) off
    where
      clash : (b : Bool) → b ≡ true → not b ≡ true → ⊥
      clash true e f = cc f
      clash false e f = cc e

  clock_is_given : (n : Name) → Among n (clock_nets m) → Among n (given_nets m)
  clock_is_given n c = among_front (port_names m.inputs ++ port_names m.clocks) (latch_outputs m) n (clock_is_port file library m is is_main n c)

  shown_holds : (v : ℕ → Bool) (s : Statement) → Among s (map (λ l. l.what) m.statements) → Holds file library (bits_at v nets) s → Holds file library (shown v) s
  shown_holds v s in_s h = by_case (combines s) refl
    where
      latch_holds : (s : Statement) → combines s ≡ false → Holds file library (shown v) s
      latch_holds (names ins out cover) e = cc e
      latch_holds (latch d q clocking init) e = tt
      latch_holds (subckt name binds) e = cc e

      by_case : (b : Bool) → combines s ≡ b → Holds file library (shown v) s
      by_case false e = latch_holds s e
      by_case true e =
          holding_is_local file library (bits_at v nets) (shown v) s (well_placed file library m is s in_s)
          (among_all (λ n. v (nets n) ≡ shown v n) (reads file library s) (λ n r. off_clocks v n (read_off_clocks n (read_by file library m is s in_s n r))))
          (among_all (λ n. v (nets n) ≡ shown v n) (drives file library s) (λ n d. off_clocks v n (λ c. given_is_not_driven file library m is.drivers n s (clock_is_given n c) in_s e d))) h

  answers : (v : ℕ → Bool) (a : ℕ) (gates : List GateForm) (first end : ℕ) → AllByRecursion (λ (p : ℕ × GateForm). v p.0 ≡ shown_net [] p.0 (gate_answer p.1 v)) (enumerate_from a gates) → AllByRecursion (λ (p : ℕ × GateForm). first ≤ p.0 → p.0 < end → v p.0 ≡ gate_answer p.1 v) (enumerate_from a gates)
  answers v a [] first end h = tt
  answers v a (g ∷ gates) first end h = ((λ x y. h.0), answers v (a + 1) gates first end h.1)

  stored_bits : (v : ℕ → Bool) (ks : List ℕ) (s : Bits) → AllZip (λ q bit. v q ≡ shown_net [] q bit) ks s → map v ks ≡ s
  stored_bits v [] [] z = refl
  stored_bits v [] (b ∷ s) z = absurd z
  stored_bits v (k ∷ ks) [] z = absurd z
  stored_bits v (k ∷ ks) (b ∷ s) z = λ i. z.0 i ∷ stored_bits v ks s z.1 i

  pub has_bits : NetsFit file library (AnswersWithin machine.net machine.net.leaves (machine.net.leaves + length machine.net.gates)) m nets
      → map nets (data_inputs m) ≡ range_with_len 0 machine.inputs → map nets (latch_outputs m) ≡ range_with_len machine.inputs (length machine.latches)
      → map nets (output_nets m) ≡ machine.outputs → map nets (latch_inputs m) ≡ map (λ r. r.d) machine.latches
      → (x s : Bits) (v : ℕ → Bool) → GateValues machine s x [] v → HasBitsOf file library m machine x s v
  has_bits fit inputs_are latches_are outputs_are stores_are x s v g =
      let answer : AnswersWithin machine.net machine.net.leaves (machine.net.leaves + length machine.net.gates) v =
      answers v machine.net.leaves machine.net.gates machine.net.leaves (machine.net.leaves + length machine.net.gates) g.gates in
      let inner = bits_fit file library (AnswersWithin machine.net machine.net.leaves (machine.net.leaves + length machine.net.gates)) v answer fit in
      let at : (ns : List Name) → ((n : Name) → Among n ns → Among n (clock_nets m) → ⊥) → map (shown v) ns ≡ map v (map nets ns) =
      λ ns off. mapped_alike (shown v) (bits_at v nets) ns (λ n h. sym (off_clocks v n (off n h))) ∙ sym (maps_twice v nets ns) in
      record {
        values = shown v;
        fits = (fits_by_each file library m (shown v)).1 (among_all (Holds file library (shown v)) (map (λ l. l.what) m.statements) (λ t h. shown_holds v t h (all_among (Holds file library (bits_at v nets)) (map (λ l. l.what) m.statements) (statements_hold file library inner) t h)));
        inputs = at (data_inputs m) (λ n h c. clock_is_no_leaf file library m is is_main n c (among_front (data_inputs m) (latch_outputs m) n h)) ∙ (ap (map v) inputs_are ∙ g.inputs);
        state = at (latch_outputs m) (λ n h c. clock_is_no_leaf file library m is is_main n c (among_back (data_inputs m) (latch_outputs m) n h)) ∙ (ap (map v) latches_are ∙ stored_bits v (latch_nets machine) s g.latches);
        clocks = among_all (λ n. shown v n ≡ false) (clock_nets m) (λ n h. ap (λ (b : Bool). cond b false (v (nets n))) (stands n (clock_nets m) h));
        outputs = at (output_nets m) (λ n h. read_off_clocks n (among_back (flat_map (λ s. reads file library s.what) m.statements) (port_names m.outputs) n h)) ∙ ap (map v) outputs_are;
        stores = at (latch_inputs m) (λ n h. read_off_clocks n (among_front (flat_map (λ s. reads file library s.what) m.statements) (port_names m.outputs) n (stored_is_read file library m.statements n h))) ∙ ap (map v) stores_are;
      }
