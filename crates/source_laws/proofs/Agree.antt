-- On a sound file valuations that fit a used model agree where they agree on what is given to it.
use Rattle.std.proofs.Common.{◌≡◌, refl, sym, ◌∙◌, ap, subst, ℕ, zero, suc, ◌+◌, ◌<◌, List, [], ◌∷◌, ◌++◌, map, filter, Bool, true, false, not, ◌⊎◌, inl, inr, Option, Some, None, arith}
use Rattle.std.specs.Prelude.{IsTrue, filter_map}
use Rattle.std.specs.List.{cons_option, flat_map}
use Rattle.netlist_spec.specs.Netlist.{Name, same_name, stands_in, Bind, Statement, names, latch, subckt, Located, Model, File}
use Rattle.netlist_spec.specs.Reads.{first_appearances}
use Rattle.netlist_spec.specs.Covers.{Library, NamedTable, NamedLinear, differ}
use Rattle.netlist_spec.specs.Placed.{a_model, placed, model_or, table_or, linear_or_nothing, port_names, input_ports}
use Rattle.netlist_spec.specs.Models.{Latch, as_latch, latches_of, latch_outputs}
use Rattle.netlist_spec.specs.Fits.{Valuation, Fits}
use Rattle.netlist_spec.specs.Sound.{placed_names, Places, Chain, IsMain, IsUsed, combines, drives, reads, driven_nets, read_nets, PlacesWell, ReadsFor, IsSoundModel, IsSound}
use Rattle.netlist_spec.proofs.Occurrences.{first_stands}
use Rattle.netlist_spec.proofs.OneValue.{All_append}
use Rattle.source_laws.specs.Settling.{given_nets, AreLeftOver}
use Rattle.source_laws.specs.Agreement.{AgreeOn}
use Rattle.source_laws.specs.Holding.{Holds}
use Rattle.source_laws.proofs.Lists.{Among, contained, all_among, among_all, among_map, map_among, among_front, among_back, among_either, among_flat, flat_among, among_filter, filter_among, stands, standing}
use Rattle.source_laws.proofs.Loops.{left_over}
use Rattle.source_laws.proofs.Statements.{statements_hold, PlacedAgree, InnerAgree, statement_agrees}

-- ---- bits

alike : (a b : Bool) → differ a b ≡ false → a ≡ b
alike true true h = refl
alike true false h = cc h
alike false true h = cc h
alike false false h = refl

unlike : (a b : Bool) → differ a b ≡ true → a ≡ b → ⊥
unlike true true h e = cc h
unlike true false h e = cc e
unlike false true h e = cc e
unlike false false h e = cc h

-- the valuations agree on some nets, or differ at one of them
agree_or_differ : (v w : Valuation) (ns : List Name) → AgreeOn v w ns ⊎ ((k : Name) × Among k ns × (differ (v k) (w k) ≡ true))
agree_or_differ v w [] = inl tt
agree_or_differ v w (n ∷ ns) = by_case (differ (v n) (w n)) refl (agree_or_differ v w ns)
  where
    by_case : (b : Bool) → differ (v n) (w n) ≡ b → AgreeOn v w ns ⊎ ((k : Name) × Among k ns × (differ (v k) (w k) ≡ true))
        → ((v n ≡ w n) × AgreeOn v w ns) ⊎ ((k : Name) × ((n ≡ k) ⊎ Among k ns) × (differ (v k) (w k) ≡ true))
    by_case true e later = inr (n, inl refl, e)
    by_case false e (inl a) = inl (alike (v n) (w n) e, a)
    by_case false e (inr f) = inr (f.0, inr f.1, f.2)

pub among_first : (n : Name) (ns : List Name) → Among n (first_appearances ns) → Among n ns
among_first n [] h = absurd h
among_first n (k ∷ ns) h = elim h [ inl e ↦ inl e | inr f ↦ inr (among_first n ns (filter_among (λ m. not (same_name k m)) (first_appearances ns) n f).0) ]

-- what a latch drives is a latch output
latch_output : (ss : List Located) (d q : Name) (s : Statement) → Among s (map (λ l. l.what) ss) → combines s ≡ false → (file : File) (library : Library) (n : Name) → Among n (drives file library s)
    → Among n (map (λ l. l.q) (filter_map (λ l. as_latch l.what) ss))
latch_output [] d q s h c file library n r = absurd h
latch_output (l ∷ ss) d q s (inl e) c file library n r = here l.what (ap combines e ∙ c) (subst (λ t. Among n (drives file library t)) (sym e) r)
  where
    here : (t : Statement) → combines t ≡ false → Among n (drives file library t) → Among n (map (λ l. l.q) (cons_option (as_latch t) (filter_map (λ l. as_latch l.what) ss)))
    here (names ins out cover) c r = cc c
    here (latch d q clocking init) c (inl e) = inl e
    here (latch d q clocking init) c (inr x) = absurd x
    here (subckt name binds) c r = cc c
latch_output (l ∷ ss) d q s (inr h) c file library n r = later l.what (latch_output ss d q s h c file library n r)
  where
    later : (t : Statement) → Among n (map (λ l. l.q) (filter_map (λ l. as_latch l.what) ss)) → Among n (map (λ l. l.q) (cons_option (as_latch t) (filter_map (λ l. as_latch l.what) ss)))
    later (names ins out cover) a = a
    later (latch d q clocking init) a = inr a
    later (subckt name binds) a = a

-- ---- what is placed

found_model : (o : Option Model) (t : Option NamedTable) (l : Option NamedLinear) (k : Model) → model_or o (table_or t (linear_or_nothing l)) ≡ a_model k → o ≡ Some k
found_model (Some m) t l k e = cc e
found_model None (Some t) l k e = cc e
found_model None None (Some l) k e = cc e
found_model None None None k e = cc e

module _ (file : File) (library : Library) where
  pub places : (m k : Model) (name : Name) (s : Statement) → Among s (map (λ l. l.what) m.statements) → Among name (placed_names s) → placed file library name ≡ a_model k → Places file m k
  places m k name s in_s in_names e =
      let (l, in_l, is_s) = map_among (λ (l : Located). l.what) m.statements s in_s in (
        name,
        stands name (flat_map (λ s. placed_names s.what) m.statements) (among_flat (λ (s : Located). placed_names s.what) m.statements l name in_l (subst (λ t. Among name (placed_names t)) (sym is_s) in_names)),
        found_model _ _ _ k e,
      )

  -- a model that a used one places is not the main one
  pub not_main : IsSound file library → (top : Model) → IsMain file top → (n : ℕ) (k : Model) → Chain file (suc n) top k → IsMain file k → ⊥
  not_main sound top main n k chain k_main =
      let same : k ≡ top = let e : Some k ≡ Some top = sym k_main ∙ main in cc e in
      (sound.used top (top, main, 0, refl)).no_recursion n (subst (λ x. Chain file (suc n) top x) same chain)

  -- a net that is driven is given, or driven by a statement that combines
  pub given_or_combined : (m : Model) (n : Name) → Among n (driven_nets file library m)
      → Among n (given_nets m) ⊎ ((s : Statement) × Among s (map (λ l. l.what) m.statements) × IsTrue (combines s) × Among n (drives file library s))
  given_or_combined m n h =
      elim (among_either (first_appearances (port_names m.inputs ++ port_names m.clocks)) (flat_map (λ s. drives file library s.what) m.statements) n h) [
        | inl p ↦ inl (among_front (port_names m.inputs ++ port_names m.clocks) (latch_outputs m) n (among_first n (port_names m.inputs ++ port_names m.clocks) p))
        | inr f ↦
            let (l, in_l, drives_n) = flat_among (λ (s : Located). drives file library s.what) m.statements n f in
            by_case (combines l.what) l.what refl (among_map (λ (l : Located). l.what) m.statements l in_l) drives_n
      ]
    where
      by_case : (b : Bool) (s : Statement) → combines s ≡ b → Among s (map (λ l. l.what) m.statements) → Among n (drives file library s)
          → Among n (given_nets m) ⊎ ((s : Statement) × Among s (map (λ l. l.what) m.statements) × IsTrue (combines s) × Among n (drives file library s))
      by_case true s e in_s r = inr (s, in_s, e, r)
      by_case false s e in_s r = inl (among_back (port_names m.inputs ++ port_names m.clocks) (latch_outputs m) n (latch_output m.statements n n s in_s e file library n r))

  module _ (m : Model) (is : IsSoundModel file library m) where
    pub driven_where_read : (n : Name) → Among n (read_nets file library m) → Among n (driven_nets file library m)
    driven_where_read n h = standing n (driven_nets file library m) (all_among (λ n. IsTrue (stands_in n (driven_nets file library m))) (read_nets file library m) is.driven n h)

    pub read_by : (s : Statement) → Among s (map (λ l. l.what) m.statements) → (k : Name) → Among k (reads file library s) → Among k (read_nets file library m)
    read_by s in_s k h =
        let (l, in_l, is_s) = map_among (λ (l : Located). l.what) m.statements s in_s in
        among_front (flat_map (λ s. reads file library s.what) m.statements) (port_names m.outputs) k
        (among_flat (λ (s : Located). reads file library s.what) m.statements l k in_l (subst (λ t. Among k (reads file library t)) (sym is_s) h))

    pub well_placed : (s : Statement) → Among s (map (λ l. l.what) m.statements) → PlacesWell file library s
    well_placed s in_s =
        let (l, in_l, is_s) = map_among (λ (l : Located). l.what) m.statements s in_s in
        subst (PlacesWell file library) is_s (all_among (λ (s : Located). PlacesWell file library s.what) m.statements is.placements l in_l)

  module _ (m : Model) (is : IsSoundModel file library m) (v w : Valuation) (fits_v : Fits file library m v) (fits_w : Fits file library m w) (given : AgreeOn v w (given_nets m))
      (inner : (s : Statement) → Among s (map (λ l. l.what) m.statements) → InnerAgree file library v w s) where
    abbrev differs : Name → Bool
    differs n = differ (v n) (w n)

    abbrev differing : List Name
    differing = filter differs (driven_nets file library m)

    -- a net at which they differ is driven by a statement that combines
    driver_of : (n : Name) → Among n (driven_nets file library m) → differs n ≡ true
        → (s : Statement) × Among s (map (λ l. l.what) m.statements) × IsTrue (combines s) × Among n (drives file library s)
    driver_of n h d =
        elim (given_or_combined m n h) [
          | inl g ↦ absurd (unlike (v n) (w n) d (all_among (λ n. v n ≡ w n) (given_nets m) given n g))
          | inr s ↦ s
        ]

    -- the driver of a net at which they differ reads such a net
    reads_differing : (n : Name) → Among n differing → (k : Name) × ReadsFor file library m n k × IsTrue (stands_in k differing)
    reads_differing n h =
        let (driven, d) = filter_among differs (driven_nets file library m) n h in
        let (s, in_s, c, drives_n) = driver_of n driven d in
        elim (agree_or_differ v w (reads file library s)) [
          | inl a ↦
              absurd
              (unlike (v n) (w n) d
              (statement_agrees file library v w s c (well_placed m is s in_s) (inner s in_s)
              (all_among (Holds file library v) (map (λ l. l.what) m.statements) (statements_hold file library fits_v) s in_s)
              (all_among (Holds file library w) (map (λ l. l.what) m.statements) (statements_hold file library fits_w) s in_s) a n drives_n))
          | inr f ↦
              let (k, in_reads, k_differs) = f in (
                k,
                (s, contained (map (λ l. l.what) m.statements) s in_s, c, stands n (drives file library s) drives_n, stands k (reads file library s) in_reads),
                stands k differing (among_filter differs (driven_nets file library m) k (driven_where_read m is k (read_by m is s in_s k in_reads)) k_differs),
              )
        ]

    none_differs : (n : Name) → Among n differing → ⊥
    none_differs n h =
        let over : AreLeftOver file library m differing = among_all (λ n. (k : Name) × ReadsFor file library m n k × IsTrue (stands_in k differing)) differing reads_differing in
        let u = all_among _ differing (left_over file library m differing over) n h in
        is.no_loop (u.entry ∷ u.others) u.enters

    driven_agrees : (n : Name) → Among n (driven_nets file library m) → v n ≡ w n
    driven_agrees n h = by_case (differs n) refl
      where
        by_case : (b : Bool) → differs n ≡ b → v n ≡ w n
        by_case true e = absurd (none_differs n (among_filter differs (driven_nets file library m) n h e))
        by_case false e = alike (v n) (w n) e

    pub model_agrees : AgreeOn v w (driven_nets file library m ++ read_nets file library m)
    model_agrees =
        among_all (λ n. v n ≡ w n) (driven_nets file library m ++ read_nets file library m) (λ n h.
        elim (among_either (driven_nets file library m) (read_nets file library m) n h) [ inl d ↦ driven_agrees n d | inr r ↦ driven_agrees n (driven_where_read m is n r) ])

  module _ (sound : IsSound file library) (top : Model) (main : IsMain file top) where
    -- what is shown of a model at the end of a chain of so many steps
    abbrev AgreesAt : ℕ → Model → Type 0
    AgreesAt n m =
        Chain file n top m → (v w : Valuation) → Fits file library m v → Fits file library m w → AgreeOn v w (given_nets m)
        → AgreeOn v w (driven_nets file library m ++ read_nets file library m)

    module _ (n : ℕ) (m : Model) (chain : Chain file n top m) (below : (k : Model) → AgreesAt (suc n) k) (v w : Valuation) where
      inside_agree : (name : Name) (binds : List Bind) → Among (subckt name binds) (map (λ l. l.what) m.statements) → PlacedAgree file library v w name
      inside_agree name binds in_s k is_k inside other fits_inside fits_other on_inputs =
          let to_k : Chain file (suc n) top k = (m, chain, places m k name (subckt name binds) in_s (inl refl) is_k) in
          let no_latch : latches_of k ≡ [] = (sound.used k (top, main, suc n, to_k)).latches (not_main sound top main n k to_k) in
          let ports : AgreeOn inside other (port_names k.inputs ++ port_names k.clocks) =
          among_all (λ n. inside n ≡ other n) (port_names k.inputs ++ port_names k.clocks) (λ x h.
          all_among (λ n. inside n ≡ other n) (input_ports (a_model k)) on_inputs x (standing x (input_ports (a_model k)) (first_stands x (port_names k.inputs ++ port_names k.clocks) (stands x (port_names k.inputs ++ port_names k.clocks) h)))) in
          let all_given : AgreeOn inside other (given_nets k) =
          subst (λ (ls : List Latch). AgreeOn inside other ((port_names k.inputs ++ port_names k.clocks) ++ map (λ l. l.q) ls)) (sym no_latch) (All_append (λ n. inside n ≡ other n) (port_names k.inputs ++ port_names k.clocks) [] ports tt) in
          let all = below k to_k inside other fits_inside fits_other all_given in
          among_all (λ n. inside n ≡ other n) (port_names k.outputs) (λ x h.
          all_among (λ n. inside n ≡ other n) (driven_nets file library k ++ read_nets file library k) all x
          (among_back (driven_nets file library k) (read_nets file library k) x (among_back (flat_map (λ s. reads file library s.what) k.statements) (port_names k.outputs) x h)))

      inner_agree : (s : Statement) → Among s (map (λ l. l.what) m.statements) → InnerAgree file library v w s
      inner_agree (names ins out cover) in_s = tt
      inner_agree (latch d q clocking init) in_s = tt
      inner_agree (subckt name binds) in_s = inside_agree name binds in_s

    agree_below : (fuel n : ℕ) (m : Model) → 16 < n + fuel → AgreesAt n m
    agree_below zero n m deep chain v w fits_v fits_w given = absurd (let shallow = (sound.main top main).shallow m n chain in omega arith)
    agree_below (suc fuel) n m deep chain v w fits_v fits_w given =
        model_agrees m (sound.used m (top, main, n, chain)) v w fits_v fits_w given (inner_agree n m chain (λ k. agree_below fuel (suc n) k (omega arith)) v w)

  pub valuations_agree : (m : Model) (v w : Valuation) → IsSound file library → IsUsed file m → Fits file library m v → Fits file library m w → AgreeOn v w (given_nets m) → AgreeOn v w (driven_nets file library m ++ read_nets file library m)
  valuations_agree m v w sound used fits_v fits_w given = agree_below sound used.0 used.1 17 used.2 m (omega arith) used.3 v w fits_v fits_w given
