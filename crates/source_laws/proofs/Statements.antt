-- What a valuation that fits owes to each statement, and that the reads of a statement determine what it drives.
use Rattle.std.proofs.Common.{◌≡◌, refl, sym, ◌∙◌, ap, subst, ℕ, ◌+◌, List, [], ◌∷◌, map, filter, find, Bool, true, false, cond, ◌⊎◌, inl, inr, Some, option_map}
use Rattle.std.specs.Prelude.{◌↔◌, IsTrue, IfSome}
use Rattle.std.specs.List.{AllByRecursion, enumerate_from}
use Rattle.std.specs.Cmp.Lexicographic.{bytes_decides}
use Rattle.netlist_spec.specs.Netlist.{Name, same_name, stands_in, are_distinct, Bind, Statement, names, latch, subckt, Model, File}
use Rattle.netlist_spec.specs.Covers.{Library, cover_value, table_value, linear_value}
use Rattle.netlist_spec.specs.Placed.{a_model, a_table, a_linear, placed, input_ports, output_ports, actual_of, actuals_among}
use Rattle.netlist_spec.specs.Fits.{Valuation, bit_of, port_bits, OutputsHave, Fits, FitsEach, fits, none, fits_names, fits_latch, fits_table, fits_linear, fits_model}
use Rattle.netlist_spec.specs.Sound.{combines, drives, reads, PlacesWell, IsPlacement}
use Rattle.source_laws.specs.Agreement.{AgreeOn}
use Rattle.source_laws.specs.Holding.{PlacedFits, by_table, by_linear, by_model, Holds}
use Rattle.source_laws.proofs.Lists.{Among, all_among, among_all, among_map, map_among, among_filter, filter_among, stands, standing, both}

pub each_holds : (file : File) (library : Library) {ss : List Statement} {v : Valuation} → FitsEach file library ss v → AllByRecursion (Holds file library v) ss
each_holds file library none = tt
each_holds file library (fits_names e f) = (e, each_holds file library f)
each_holds file library (fits_latch f) = (tt, each_holds file library f)
each_holds file library (fits_table t p o f) = (by_table t p o, each_holds file library f)
each_holds file library (fits_linear l p o f) = (by_linear l p o, each_holds file library f)
each_holds file library (fits_model k inside p i b f) = (by_model k inside p i b, each_holds file library f)

pub statements_hold : (file : File) (library : Library) {m : Model} {v : Valuation} → Fits file library m v → AllByRecursion (Holds file library v) (map (λ s. s.what) m.statements)
statements_hold file library (fits f) = each_holds file library f

pub each_fits : (file : File) (library : Library) (ss : List Statement) (v : Valuation) → AllByRecursion (Holds file library v) ss → FitsEach file library ss v
each_fits file library [] v a = none
each_fits file library (names ins out cover ∷ ss) v a = fits_names a.0 (each_fits file library ss v a.1)
each_fits file library (latch d q clocking init ∷ ss) v a = fits_latch (each_fits file library ss v a.1)
each_fits file library (subckt name binds ∷ ss) v a = by_case a.0 (each_fits file library ss v a.1)
  where
    by_case : PlacedFits file library name binds v → FitsEach file library ss v → FitsEach file library (subckt name binds ∷ ss) v
    by_case (by_table t p o) f = fits_table t p o f
    by_case (by_linear l p o) f = fits_linear l p o f
    by_case (by_model k inside p i b) f = fits_model k inside p i b f

pub fits_by_each : (file : File) (library : Library) (m : Model) (v : Valuation) → Fits file library m v ↔ AllByRecursion (Holds file library v) (map (λ s. s.what) m.statements)
fits_by_each file library m v = (statements_hold file library, λ a. fits (each_fits file library (map (λ s. s.what) m.statements) v a))

-- ---- ports and their actuals

module _ (v w : Valuation) where
  bit_agrees : (p : Name) (binds : List Bind) → ((b : Bind) → Among b binds → same_name b.formal p ≡ true → v b.actual ≡ w b.actual) → bit_of v (actual_of binds p) ≡ bit_of w (actual_of binds p)
  bit_agrees p [] f = refl
  bit_agrees p (b ∷ bs) f = by_case (same_name b.formal p) refl (bit_agrees p bs (λ c h. f c (inr h)))
    where
      by_case : (t : Bool) → same_name b.formal p ≡ t → bit_of v (actual_of bs p) ≡ bit_of w (actual_of bs p)
          → bit_of v (option_map (λ c. c.actual) (cond t (Some b) (find (λ c. same_name c.formal p) bs))) ≡ bit_of w (option_map (λ c. c.actual) (cond t (Some b) (find (λ c. same_name c.formal p) bs)))
      by_case true e later = f b (inl refl) e
      by_case false e later = later

  -- the actuals of some ports
  pub at_actual : (ports : List Name) (binds : List Bind) → AgreeOn v w (actuals_among ports binds) → (b : Bind) → Among b binds → stands_in b.formal ports ≡ true → v b.actual ≡ w b.actual
  at_actual ports binds a b h s =
      all_among (λ n. v n ≡ w n) (actuals_among ports binds) a b.actual
      (among_map (λ (b : Bind). b.actual) (filter (λ b. stands_in b.formal ports) binds) b (among_filter (λ (b : Bind). stands_in b.formal ports) binds b h s))

  bits_agree : (ports : List Name) (binds : List Bind) → AgreeOn v w (actuals_among ports binds) → (some : List Name) → ((p : Name) → Among p some → stands_in p ports ≡ true) → port_bits v binds some ≡ port_bits w binds some
  bits_agree ports binds a [] f = refl
  bits_agree ports binds a (p ∷ ps) f =
      let first = bit_agrees p binds (λ b h e. at_actual ports binds a b h (subst (λ n. stands_in n ports ≡ true) (sym ((bytes_decides b.formal p).0 e)) (f p (inl refl)))) in
      let rest = bits_agree ports binds a ps (λ q h. f q (inr h)) in
      λ i. first i ∷ rest i

  pub ports_agree : (ports : List Name) (binds : List Bind) → AgreeOn v w (actuals_among ports binds) → port_bits v binds ports ≡ port_bits w binds ports
  ports_agree ports binds a = bits_agree ports binds a ports (λ p h. stands p ports h)

  pub maps_agree : (ns : List Name) → AgreeOn v w ns → map v ns ≡ map w ns
  maps_agree [] a = refl
  maps_agree (n ∷ ns) a = λ i. a.0 i ∷ maps_agree ns a.1 i

-- the bind of a port that has an actual
pub actual_found : (binds : List Bind) (p n : Name) → actual_of binds p ≡ Some n → (b : Bind) × Among b binds × (b.formal ≡ p) × (b.actual ≡ n)
actual_found [] p n e = cc e
actual_found (c ∷ cs) p n e = by_case (same_name c.formal p) refl e (actual_found cs p n)
  where
    by_case : (t : Bool) → same_name c.formal p ≡ t → option_map (λ (b : Bind). b.actual) (cond t (Some c) (find (λ b. same_name b.formal p) cs)) ≡ Some n
        → (actual_of cs p ≡ Some n → (b : Bind) × Among b cs × (b.formal ≡ p) × (b.actual ≡ n)) → (b : Bind) × ((c ≡ b) ⊎ Among b cs) × (b.formal ≡ p) × (b.actual ≡ n)
    by_case true t e later = (c, inl refl, (bytes_decides c.formal p).0 t, (let same : c.actual ≡ n = cc e in same))
    by_case false t e later = let f = later e in (f.0, inr f.1, f.2, f.3)

-- where formals are distinct, each bind gives the actual of its port
pub actual_at : (binds : List Bind) → are_distinct (map (λ b. b.formal) binds) ≡ true → (b : Bind) → Among b binds → actual_of binds b.formal ≡ Some b.actual
actual_at [] d b h = absurd h
actual_at (c ∷ cs) d b h =
    let parts = both (stands_in c.formal (map (λ b. b.formal) cs)) _ d in
    by_case (same_name c.formal b.formal) refl parts.0 h (actual_at cs parts.1 b)
  where
    by_case : (t : Bool) → same_name c.formal b.formal ≡ t → stands_in c.formal (map (λ b. b.formal) cs) ≡ false → (c ≡ b) ⊎ Among b cs → (Among b cs → actual_of cs b.formal ≡ Some b.actual)
        → option_map (λ (e : Bind). e.actual) (cond t (Some c) (find (λ e. same_name e.formal b.formal) cs)) ≡ Some b.actual
    by_case true e absent (inl q) later = ap (λ (x : Bind). Some x.actual) q
    by_case true e absent (inr k) later =
        let same : b.formal ≡ c.formal = sym ((bytes_decides c.formal b.formal).0 e) in
        let here : stands_in c.formal (map (λ b. b.formal) cs) ≡ true = stands c.formal (map (λ b. b.formal) cs) (subst (λ n. Among n (map (λ b. b.formal) cs)) same (among_map (λ (b : Bind). b.formal) cs b k)) in
        cc (here, absent)
    by_case false e absent (inl q) later = let t : same_name c.formal b.formal ≡ true = (bytes_decides c.formal b.formal).1 (ap (λ (x : Bind). x.formal) q) in cc (t, e)
    by_case false e absent (inr k) later = later k

-- one output port's bit under two valuations
outputs_at : (v w : Valuation) (binds : List Bind) (f g : ℕ → Bool) → f ≡ g → (start : ℕ) (ports : List Name)
    → AllByRecursion (λ (p : ℕ × Name). IfSome (actual_of binds p.1) (λ n. v n ≡ f p.0)) (enumerate_from start ports)
    → AllByRecursion (λ (p : ℕ × Name). IfSome (actual_of binds p.1) (λ n. w n ≡ g p.0)) (enumerate_from start ports)
    → (p n : Name) → Among p ports → actual_of binds p ≡ Some n → v n ≡ w n
outputs_at v w binds f g same start [] a b p n h e = absurd h
outputs_at v w binds f g same start (q ∷ ports) a b p n (inl d) e =
    let here : actual_of binds q ≡ Some n = ap (actual_of binds) d ∙ e in
    let x : v n ≡ f start = subst (λ o. IfSome o (λ n. v n ≡ f start)) here a.0 in
    let y : w n ≡ g start = subst (λ o. IfSome o (λ n. w n ≡ g start)) here b.0 in
    x ∙ (ap (λ (k : ℕ → Bool). k start) same ∙ sym y)
outputs_at v w binds f g same start (q ∷ ports) a b p n (inr h) e = outputs_at v w binds f g same (start + 1) ports a.1 b.1 p n h e

-- each net that the binds of output ports give
at_outputs : (v w : Valuation) (binds : List Bind) (ports : List Name) → are_distinct (map (λ b. b.formal) binds) ≡ true → (f g : ℕ → Bool) → f ≡ g
    → OutputsHave v binds ports f → OutputsHave w binds ports g → (n : Name) → Among n (actuals_among ports binds) → v n ≡ w n
at_outputs v w binds ports d f g same a b n h =
    let (c, in_filter, is_n) = map_among (λ (b : Bind). b.actual) (filter (λ b. stands_in b.formal ports) binds) n h in
    let (in_binds, is_port) = filter_among (λ (b : Bind). stands_in b.formal ports) binds c in_filter in
    outputs_at v w binds f g same 0 ports a b c.formal n (standing c.formal ports is_port) (actual_at binds d c in_binds ∙ ap (λ (x : Name). Some x) is_n)

module _ (file : File) (library : Library) (v w : Valuation) where
  -- Where valuations that fit a placed model agree on its input ports they agree on its output ports.
  abbrev pub PlacedAgree : Name → Type 0
  PlacedAgree name =
      (k : Model) → placed file library name ≡ a_model k → (inside other : Valuation) → Fits file library k inside → Fits file library k other
      → AgreeOn inside other (input_ports (a_model k)) → AgreeOn inside other (output_ports (a_model k))

  placed_agrees : (name : Name) (binds : List Bind) → IsPlacement file library name binds → PlacedAgree name → PlacedFits file library name binds v → PlacedFits file library name binds w
      → AgreeOn v w (actuals_among (input_ports (placed file library name)) binds) → (n : Name) → Among n (actuals_among (output_ports (placed file library name)) binds) → v n ≡ w n
  placed_agrees name binds is inner (by_table t p a) (by_table u q b) reads_agree n h =
      let same : t ≡ u = let e : a_table t ≡ a_table u = sym p ∙ q in cc e in
      let a_at_u : OutputsHave v binds (output_ports (a_table u)) (table_value u (port_bits v binds (input_ports (a_table u)))) = subst (λ t. OutputsHave v binds (output_ports (a_table t)) (table_value t (port_bits v binds (input_ports (a_table t))))) same a in
      let bits = ports_agree v w (input_ports (a_table u)) binds (subst (λ x. AgreeOn v w (actuals_among (input_ports x) binds)) q reads_agree) in
      at_outputs v w binds (output_ports (a_table u)) is.once _ _ (ap (table_value u) bits) a_at_u b n (subst (λ x. Among n (actuals_among (output_ports x) binds)) q h)
  placed_agrees name binds is inner (by_linear t p a) (by_linear u q b) reads_agree n h =
      let same : t ≡ u = let e : a_linear t ≡ a_linear u = sym p ∙ q in cc e in
      let a_at_u : OutputsHave v binds (output_ports (a_linear u)) (linear_value u (port_bits v binds (input_ports (a_linear u)))) = subst (λ t. OutputsHave v binds (output_ports (a_linear t)) (linear_value t (port_bits v binds (input_ports (a_linear t))))) same a in
      let bits = ports_agree v w (input_ports (a_linear u)) binds (subst (λ x. AgreeOn v w (actuals_among (input_ports x) binds)) q reads_agree) in
      at_outputs v w binds (output_ports (a_linear u)) is.once _ _ (ap (linear_value u) bits) a_at_u b n (subst (λ x. Among n (actuals_among (output_ports x) binds)) q h)
  placed_agrees name binds is inner (by_model k inside p f a) (by_model l other q g b) reads_agree n h =
      let same : k ≡ l = let e : a_model k ≡ a_model l = sym p ∙ q in cc e in
      let f_at_l : Fits file library l inside = subst (λ k. Fits file library k inside) same f in
      let on_inputs : AgreeOn inside other (input_ports (a_model l)) = among_all (λ n. inside n ≡ other n) (input_ports (a_model l)) (λ x x_in. input_agrees x x_in) in
      let on_outputs = inner l q inside other f_at_l g on_inputs in
      let (c, in_filter, is_n) = map_among (λ (b : Bind). b.actual) (filter (λ b. stands_in b.formal (output_ports (placed file library name))) binds) n h in
      let (in_binds, is_port) = filter_among (λ (b : Bind). stands_in b.formal (output_ports (placed file library name))) binds c in_filter in
      let port_of_l : stands_in c.formal (output_ports (a_model l)) ≡ true = subst (λ x. stands_in c.formal (output_ports x) ≡ true) q is_port in
      let agree = all_among (λ n. inside n ≡ other n) (output_ports (a_model l)) on_outputs c.formal (standing c.formal (output_ports (a_model l)) port_of_l) in
      subst (λ n. v n ≡ w n) is_n
      (sym (all_among (λ (b : Bind). inside b.formal ≡ v b.actual) binds a c in_binds) ∙ (agree ∙ all_among (λ (b : Bind). other b.formal ≡ w b.actual) binds b c in_binds))
    where
      given_at_l : AllByRecursion (λ p. IsTrue (stands_in p (map (λ b. b.formal) binds))) (input_ports (a_model l))
      given_at_l = subst (λ x. AllByRecursion (λ p. IsTrue (stands_in p (map (λ b. b.formal) binds))) (input_ports x)) q is.given

      input_agrees : (x : Name) → Among x (input_ports (a_model l)) → inside x ≡ other x
      input_agrees x x_in =
          let x_given : stands_in x (map (λ b. b.formal) binds) ≡ true = all_among (λ p. IsTrue (stands_in p (map (λ b. b.formal) binds))) (input_ports (a_model l)) given_at_l x x_in in
          let (c, in_binds, is_x) = map_among (λ (b : Bind). b.formal) binds x (standing x (map (λ b. b.formal) binds) x_given) in
          let port : stands_in c.formal (input_ports (placed file library name)) ≡ true =
          subst (λ y. stands_in c.formal (input_ports y) ≡ true) (sym q) (stands c.formal (input_ports (a_model l)) (subst (λ y. Among y (input_ports (a_model l))) (sym is_x) x_in)) in
          let outside = at_actual v w (input_ports (placed file library name)) binds reads_agree c in_binds port in
          subst (λ y. inside y ≡ other y) is_x
          (all_among (λ (b : Bind). inside b.formal ≡ v b.actual) binds a c in_binds ∙ (outside ∙ sym (all_among (λ (b : Bind). other b.formal ≡ w b.actual) binds b c in_binds)))
  placed_agrees name binds is inner (by_table t p a) (by_linear u q b) reads_agree n h = let e : a_table t ≡ a_linear u = sym p ∙ q in cc e
  placed_agrees name binds is inner (by_table t p a) (by_model l other q g b) reads_agree n h = let e : a_table t ≡ a_model l = sym p ∙ q in cc e
  placed_agrees name binds is inner (by_linear t p a) (by_table u q b) reads_agree n h = let e : a_linear t ≡ a_table u = sym p ∙ q in cc e
  placed_agrees name binds is inner (by_linear t p a) (by_model l other q g b) reads_agree n h = let e : a_linear t ≡ a_model l = sym p ∙ q in cc e
  placed_agrees name binds is inner (by_model k inside p f a) (by_table u q b) reads_agree n h = let e : a_model k ≡ a_table u = sym p ∙ q in cc e
  placed_agrees name binds is inner (by_model k inside p f a) (by_linear u q b) reads_agree n h = let e : a_model k ≡ a_linear u = sym p ∙ q in cc e

  abbrev pub InnerAgree : Statement → Type 0
  InnerAgree (names ins out cover) = Unit {0}
  InnerAgree (latch d q clocking init) = Unit {0}
  InnerAgree (subckt name binds) = PlacedAgree name

  -- Where two valuations agree on what a statement reads, they agree on what it drives.
  pub statement_agrees : (s : Statement) → IsTrue (combines s) → PlacesWell file library s → InnerAgree s → Holds file library v s → Holds file library w s
      → AgreeOn v w (reads file library s) → (n : Name) → Among n (drives file library s) → v n ≡ w n
  statement_agrees (names ins out cover) c p inner a b reads_agree n h =
      let same : v out ≡ w out = a ∙ (ap (cover_value cover) (maps_agree v w ins reads_agree) ∙ sym b) in
      elim h [ inl e ↦ subst (λ n. v n ≡ w n) e same | inr x ↦ absurd x ]
  statement_agrees (latch d q clocking init) c p inner a b reads_agree n h = cc c
  statement_agrees (subckt name binds) c p inner a b reads_agree n h = placed_agrees name binds p inner a b reads_agree n h
