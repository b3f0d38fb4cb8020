-- On a sound file some valuation fits, whatever bits are given: each statement in order gives its nets their bits.
use Rattle.std.proofs.Common.{◌≡◌, refl, sym, ◌∙◌, ap, subst, ℕ, zero, suc, ◌+◌, ◌<◌, ◌≤◌, List, [], ◌∷◌, ◌++◌, length, map, filter, Bool, true, false, ◌&&◌, not, cond, ◌⊎◌, inl, inr, Option, Some, None, arith}
use Rattle.std.specs.Prelude.{IsTrue, IfSome}
use Rattle.std.specs.List.{AllByRecursion, enumerate_from, flat_map}
use Rattle.std.specs.Cmp.Lexicographic.{bytes_decides}
use Rattle.netlist_spec.specs.Netlist.{Name, same_name, stands_in, are_distinct, Bind, Statement, names, latch, subckt, Located, Model, File}
use Rattle.netlist_spec.specs.Covers.{Table, Linear, Library, IsLibrary, cover_value, table_value, linear_value}
use Rattle.netlist_spec.specs.Placed.{Placed, nothing, a_model, a_table, a_linear, placed, port_names, input_ports, output_ports, actual_of, actuals_among}
use Rattle.netlist_spec.specs.Models.{latch_outputs}
use Rattle.netlist_spec.specs.Fits.{Valuation, bit_of, port_bits, OutputsHave, Fits}
use Rattle.netlist_spec.specs.Sound.{Chain, IsMain, IsUsed, combines, drives, reads, PlacesWell, IsPlacement, IsSoundModel, IsSound}
use Rattle.netlist_spec.proofs.Occurrences.{occ, occ_append, stands_occ}
use Rattle.source_laws.specs.Settling.{given_nets, AreOrdered}
use Rattle.source_laws.specs.Agreement.{AgreeOn}
use Rattle.source_laws.specs.Holding.{by_table, by_linear, by_model, Holds}
use Rattle.source_laws.proofs.Lists.{Among, among, contained, all_among, among_all, among_map, map_among, among_front, among_back, among_either, among_filter, same_self, stands, standing, both}
use Rattle.source_laws.proofs.Drivers.{drives_once}
use Rattle.source_laws.proofs.Statements.{fits_by_each, actual_at, actual_found, at_actual, ports_agree, maps_agree}
use Rattle.source_laws.proofs.Local.{holding_is_local}
use Rattle.source_laws.proofs.Agree.{places, among_first, well_placed}
use Rattle.source_laws.proofs.Ordering.{IsFresh, fresh_more, full_order}
use Rattle.source_laws.proofs.Ports.{numbered_are_distinct, place_from, ports_have_places, placed_table_is, placed_linear_is}

-- ---- new bits for some nets

abbrev given_bits : List Name → (Name → Bool) → Valuation → Valuation
given_bits ns value v = λ n. cond (stands_in n ns) (value n) (v n)

given_there : (ns : List Name) (value : Name → Bool) (v : Valuation) (n : Name) → Among n ns → given_bits ns value v n ≡ value n
given_there ns value v n h = ap (λ (b : Bool). cond b (value n) (v n)) (stands n ns h)

kept_elsewhere : (ns : List Name) (value : Name → Bool) (v : Valuation) (n : Name) → stands_in n ns ≡ false → given_bits ns value v n ≡ v n
kept_elsewhere ns value v n h = ap (λ (b : Bool). cond b (value n) (v n)) h

-- the formal of the first bind of an actual
abbrev formal_of : List Bind → Name → Name
formal_of [] n = []
formal_of (b ∷ bs) n = cond (same_name b.actual n) b.formal (formal_of bs n)

formal_at : (bs : List Bind) → are_distinct (map (λ b. b.actual) bs) ≡ true → (b : Bind) → Among b bs → formal_of bs b.actual ≡ b.formal
formal_at [] d b h = absurd h
formal_at (c ∷ cs) d b h =
    let parts = both (stands_in c.actual (map (λ b. b.actual) cs)) (are_distinct (map (λ b. b.actual) cs)) d in
    by_case (same_name c.actual b.actual) refl parts.0 h (formal_at cs parts.1 b)
  where
    by_case : (t : Bool) → same_name c.actual b.actual ≡ t → stands_in c.actual (map (λ b. b.actual) cs) ≡ false → (c ≡ b) ⊎ Among b cs → (Among b cs → formal_of cs b.actual ≡ b.formal) → cond t c.formal (formal_of cs b.actual) ≡ b.formal
    by_case true e absent (inl q) later = ap (λ (x : Bind). x.formal) q
    by_case true e absent (inr k) later =
        let same : b.actual ≡ c.actual = sym ((bytes_decides c.actual b.actual).0 e) in
        let here : stands_in c.actual (map (λ b. b.actual) cs) ≡ true = stands c.actual (map (λ b. b.actual) cs) (subst (λ n. Among n (map (λ b. b.actual) cs)) same (among_map (λ (b : Bind). b.actual) cs b k)) in
        cc (here, absent)
    by_case false e absent (inl q) later = let t : same_name c.actual b.actual ≡ true = (bytes_decides c.actual b.actual).1 (ap (λ (x : Bind). x.actual) q) in cc (t, e)
    by_case false e absent (inr k) later = later k

-- names that occur once at most are distinct
pub once_distinct : (ns : List Name) → ((n : Name) → occ n ns ≤ 1) → are_distinct ns ≡ true
once_distinct [] f = refl
once_distinct (k ∷ ks) f = by_case (stands_in k ks) refl (once_distinct ks (λ n. let a = f n in let b = occ_append n (k ∷ []) ks in omega arith))
  where
    twice : (b : Bool) → same_name k k ≡ b → 1 ≤ occ k ks → cond b 1 0 + occ k ks ≤ 1 → ⊥
    twice true e h g = omega arith
    twice false e h g = let t = same_self k in cc (t, e)

    by_case : (b : Bool) → stands_in k ks ≡ b → are_distinct ks ≡ true → (not b && are_distinct ks) ≡ true
    by_case true e d = absurd (twice (same_name k k) refl (stands_occ k ks e) (f k))
    by_case false e d = d

-- where each port has its bit, so have the outputs
outputs_have : (w : Valuation) (binds : List Bind) (value : Name → Bool) (f : ℕ → Bool) (all : List Name) → ((p n : Name) → Among p all → actual_of binds p ≡ Some n → w n ≡ f (place_from 0 all p)) → (start : ℕ) (ports : List Name) → ((p : Name) → Among p ports → Among p all)
    → AllByRecursion (λ (p : ℕ × Name). place_from 0 all p.1 ≡ p.0) (enumerate_from start ports) → AllByRecursion (λ (p : ℕ × Name). IfSome (actual_of binds p.1) (λ n. w n ≡ f p.0)) (enumerate_from start ports)
outputs_have w binds value f all at start [] within a = tt
outputs_have w binds value f all at start (p ∷ ports) within a = (here (actual_of binds p) refl, outputs_have w binds value f all at (start + 1) ports (λ q h. within q (inr h)) a.1)
  where
    here : (o : Option Name) → actual_of binds p ≡ o → IfSome o (λ n. w n ≡ f start)
    here None e = tt
    here (Some n) e = at p n (within p (inl refl)) e ∙ ap f a.0

-- ---- one statement

module _ (file : File) (library : Library) (is_library : IsLibrary library) where
  -- some valuation fits each placed model, at each bits of its inputs
  abbrev SomeInside : Name → Type 0
  SomeInside name = (k : Model) → placed file library name ≡ a_model k → (given : Valuation) → (inside : Valuation) × Fits file library k inside × AgreeOn inside given (input_ports (a_model k))

  -- a valuation that meets the statement, and is the same but for what the statement drives
  record Meets (s : Statement) (v : Valuation) : Type 0 where
    values : Valuation
    holds : Holds file library values s
    elsewhere : (n : Name) → stands_in n (drives file library s) ≡ false → values n ≡ v n

  module _ (name : Name) (binds : List Bind) (is : IsPlacement file library name binds) (v : Valuation)
      (distinct : are_distinct (drives file library (subckt name binds)) ≡ true)
      (apart : (n : Name) → Among n (reads file library (subckt name binds)) → stands_in n (drives file library (subckt name binds)) ≡ false) where
    abbrev outs : List Name
    outs = output_ports (placed file library name)

    abbrev ins : List Name
    ins = input_ports (placed file library name)

    abbrev out_binds : List Bind
    out_binds = filter (λ b. stands_in b.formal outs) binds

    -- the valuation with this bit for each output port
    abbrev with_ports : (Name → Bool) → Valuation
    with_ports value = given_bits (drives file library (subckt name binds)) (λ n. value (formal_of out_binds n)) v

    at_port : (value : Name → Bool) (b : Bind) → Among b binds → stands_in b.formal outs ≡ true → with_ports value b.actual ≡ value b.formal
    at_port value b h s =
        let in_out = among_filter (λ (b : Bind). stands_in b.formal outs) binds b h s in
        given_there (drives file library (subckt name binds)) (λ n. value (formal_of out_binds n)) v b.actual (among_map (λ (b : Bind). b.actual) out_binds b in_out)
        ∙ ap value (formal_at out_binds distinct b in_out)

    reads_kept : (value : Name → Bool) → AgreeOn v (with_ports value) (actuals_among ins binds)
    reads_kept value =
        among_all (λ n. v n ≡ with_ports value n) (actuals_among ins binds) (λ n h. sym (kept_elsewhere (drives file library (subckt name binds)) (λ n. value (formal_of out_binds n)) v n (apart n h)))

    meets_table : (t : Table) → placed file library name ≡ a_table t → Meets (subckt name binds) v
    meets_table t e =
        let bits = port_bits v binds (input_ports (a_table t)) in
        let value : Name → Bool = λ p. table_value t bits (place_from 0 (output_ports (a_table t)) p) in
        let w = with_ports value in
        let is_t = placed_table_is file library is_library name t e in
        let same_bits = ports_agree v w (input_ports (a_table t)) binds (subst (λ x. AgreeOn v w (actuals_among (input_ports x) binds)) e (reads_kept value)) in
        let have = outputs_have w binds value (table_value t bits) (output_ports (a_table t))
        (λ p n h a.
        let (b, in_binds, b_port, b_actual) = actual_found binds p n a in
        let port : stands_in b.formal outs ≡ true = subst (λ x. stands_in b.formal (output_ports x) ≡ true) (sym e) (stands b.formal (output_ports (a_table t)) (subst (λ k. Among k (output_ports (a_table t))) (sym b_port) h)) in
        ap w (sym b_actual) ∙ (at_port value b in_binds port ∙ ap value b_port))
        0 (output_ports (a_table t)) (λ p h. h) (ports_have_places 0 (output_ports (a_table t)) (numbered_are_distinct 111 t.outs (let few = is_t.outs.1 in omega arith))) in
        record {
          values = w;
          holds = by_table t e (subst (λ bs. OutputsHave w binds (output_ports (a_table t)) (table_value t bs)) same_bits have);
          elsewhere = λ n h. kept_elsewhere (drives file library (subckt name binds)) (λ n. value (formal_of out_binds n)) v n h;
        }

    meets_linear : (t : Linear) → placed file library name ≡ a_linear t → Meets (subckt name binds) v
    meets_linear t e =
        let bits = port_bits v binds (input_ports (a_linear t)) in
        let value : Name → Bool = λ p. linear_value t bits (place_from 0 (output_ports (a_linear t)) p) in
        let w = with_ports value in
        let is_t = placed_linear_is file library is_library name t e in
        let same_bits = ports_agree v w (input_ports (a_linear t)) binds (subst (λ x. AgreeOn v w (actuals_among (input_ports x) binds)) e (reads_kept value)) in
        let have = outputs_have w binds value (linear_value t bits) (output_ports (a_linear t))
        (λ p n h a.
        let (b, in_binds, b_port, b_actual) = actual_found binds p n a in
        let port : stands_in b.formal outs ≡ true = subst (λ x. stands_in b.formal (output_ports x) ≡ true) (sym e) (stands b.formal (output_ports (a_linear t)) (subst (λ k. Among k (output_ports (a_linear t))) (sym b_port) h)) in
        ap w (sym b_actual) ∙ (at_port value b in_binds port ∙ ap value b_port))
        0 (output_ports (a_linear t)) (λ p h. h) (ports_have_places 0 (output_ports (a_linear t)) (numbered_are_distinct 111 (length t.rows) (let few = is_t.rows.1 in omega arith))) in
        record {
          values = w;
          holds = by_linear t e (subst (λ bs. OutputsHave w binds (output_ports (a_linear t)) (linear_value t bs)) same_bits have);
          elsewhere = λ n h. kept_elsewhere (drives file library (subckt name binds)) (λ n. value (formal_of out_binds n)) v n h;
        }

    meets_model : (k : Model) → placed file library name ≡ a_model k → SomeInside name → Meets (subckt name binds) v
    meets_model k e some =
        let (inside, fits_k, agrees) = some k e (λ p. bit_of v (actual_of binds p)) in
        let w = with_ports inside in
        record {
          values = w;
          holds = by_model k inside e fits_k (among_all (λ (b : Bind). inside b.formal ≡ w b.actual) binds (λ b h. at_bind inside agrees b h));
          elsewhere = λ n h. kept_elsewhere (drives file library (subckt name binds)) (λ n. inside (formal_of out_binds n)) v n h;
        }
      where
        at_bind : (inside : Valuation) → AgreeOn inside (λ p. bit_of v (actual_of binds p)) (input_ports (a_model k)) → (b : Bind) → Among b binds → inside b.formal ≡ with_ports inside b.actual
        at_bind inside agrees b h =
            let port = all_among (λ (b : Bind). IsTrue (stands_in b.formal (input_ports (placed file library name) ++ output_ports (placed file library name)))) binds is.ports b h in
            elim (among_either ins outs b.formal (standing b.formal (ins ++ outs) port)) [
              | inl i ↦
                  all_among (λ p. inside p ≡ bit_of v (actual_of binds p)) (input_ports (a_model k)) agrees b.formal (subst (λ x. Among b.formal (input_ports x)) e i)
                  ∙ (ap (bit_of v) (actual_at binds is.once b h) ∙ at_actual v (with_ports inside) ins binds (reads_kept inside) b h (stands b.formal ins i))
              | inr o ↦ sym (at_port inside b h (stands b.formal outs o))
            ]

    meets_placed : (p : Placed) → placed file library name ≡ p → SomeInside name → Meets (subckt name binds) v
    meets_placed nothing e some = absurd (is.meaning e)
    meets_placed (a_model k) e some = meets_model k e some
    meets_placed (a_table t) e some = meets_table t e
    meets_placed (a_linear t) e some = meets_linear t e

  abbrev InsideOf : Statement → Type 0
  InsideOf (names read out cover) = Unit {0}
  InsideOf (latch d q clocking init) = Unit {0}
  InsideOf (subckt name binds) = SomeInside name

  meets : (s : Statement) → PlacesWell file library s → InsideOf s → (v : Valuation) → are_distinct (drives file library s) ≡ true → ((n : Name) → Among n (reads file library s) → stands_in n (drives file library s) ≡ false) → IsTrue (combines s) → Meets s v
  meets (names ins out cover) p some v d apart c =
      let w = given_bits (out ∷ []) (λ n. cover_value cover (map v ins)) v in
      record {
        values = w;
        holds =
            given_there (out ∷ []) (λ n. cover_value cover (map v ins)) v out (inl refl)
            ∙ ap (cover_value cover) (maps_agree v w ins (among_all (λ n. v n ≡ w n) ins (λ n h. sym (kept_elsewhere (out ∷ []) (λ n. cover_value cover (map v ins)) v n (apart n h)))));
        elsewhere = λ n h. kept_elsewhere (out ∷ []) (λ n. cover_value cover (map v ins)) v n h;
      }
  meets (latch d q clocking init) p some v dist apart c = cc c
  meets (subckt name binds) p some v d apart c = meets_placed name binds p v d apart (placed file library name) refl some

  -- ---- all statements of a model

  module _ (m : Model) (is : IsSoundModel file library m) (inner : (s : Statement) → Among s (map (λ l. l.what) m.statements) → InsideOf s) where
    drives_distinct : (s : Statement) → Among s (map (λ l. l.what) m.statements) → are_distinct (drives file library s) ≡ true
    drives_distinct s h = once_distinct (drives file library s) (λ n. once n (order (occ n (drives file library s))))
      where
        order : (k : ℕ) → (k ≤ 1) ⊎ (2 ≤ k)
        order k = grind arith

        few : (n : Name) → occ n (drives file library s) ≤ occ n (flat_map (λ l. drives file library l.what) m.statements)
        few n =
            let (l, in_l, is_s) = map_among (λ (l : Located). l.what) m.statements s h in
            subst (λ t. occ n (drives file library t) ≤ occ n (flat_map (λ l. drives file library l.what) m.statements)) is_s (part n m.statements l in_l)
          where
            part : (n : Name) (ls : List Located) (l : Located) → Among l ls → occ n (drives file library l.what) ≤ occ n (flat_map (λ l. drives file library l.what) ls)
            part n [] l h = absurd h
            part n (k ∷ ls) l (inl e) =
                let a : occ n (drives file library k.what ++ flat_map (λ l. drives file library l.what) ls) ≡ occ n (drives file library k.what) + occ n (flat_map (λ l. drives file library l.what) ls) = occ_append n (drives file library k.what) (flat_map (λ l. drives file library l.what) ls) in
                let b : occ n (drives file library k.what) ≡ occ n (drives file library l.what) = ap (λ (x : Located). occ n (drives file library x.what)) e in
                omega arith
            part n (k ∷ ls) l (inr h) =
                let a : occ n (drives file library k.what ++ flat_map (λ l. drives file library l.what) ls) ≡ occ n (drives file library k.what) + occ n (flat_map (λ l. drives file library l.what) ls) = occ_append n (drives file library k.what) (flat_map (λ l. drives file library l.what) ls) in
                let b = part n ls l h in
                omega arith

        once : (n : Name) → (occ n (drives file library s) ≤ 1) ⊎ (2 ≤ occ n (drives file library s)) → occ n (drives file library s) ≤ 1
        once n (inl h) = h
        once n (inr h) = let a = few n in let b = drives_once file library m is.drivers n in absurd (omega arith)

    reads_apart : (s : Statement) → Among s (map (λ l. l.what) m.statements) → IsTrue (combines s) → (n : Name) → Among n (reads file library s) → stands_in n (drives file library s) ≡ false
    reads_apart s h c n r = by_case (stands_in n (drives file library s)) refl
      where
        by_case : (b : Bool) → stands_in n (drives file library s) ≡ b → stands_in n (drives file library s) ≡ false
        by_case true e = absurd (is.no_loop (n ∷ []) (s, contained (map (λ l. l.what) m.statements) s h, c, e, stands n (reads file library s) r))
        by_case false e = e

    -- a valuation that meets ordered statements, and is the same on what was settled before
    record MeetsAll (settled : List Name) (order : List Statement) (v : Valuation) : Type 0 where
      values : Valuation
      each : (s : Statement) → Among s order → Holds file library values s
      same : (n : Name) → Among n settled → values n ≡ v n

    meets_all : (settled : List Name) (order : List Statement) → AreOrdered file library m settled order → ((s : Statement) → Among s order → IsTrue (combines s)) → (v : Valuation) → IsFresh file library m is settled order → MeetsAll settled order v
    meets_all settled [] o combine v f = record { values = v; each = λ s h. absurd h; same = λ n h. refl }
    meets_all settled (s ∷ ss) o combine v (fresh_more new f) =
        let in_model = among (map (λ l. l.what) m.statements) s o.0 in
        let c = combine s (inl refl) in
        let first = meets s (well_placed file library m is s in_model) (inner s in_model) v (drives_distinct s in_model) (reads_apart s in_model c) c in
        let rest = meets_all (drives file library s ++ settled) ss o.2 (λ t h. combine t (inr h)) first.values f in
        let on_reads : AgreeOn first.values rest.values (reads file library s) =
        among_all (λ n. first.values n ≡ rest.values n) (reads file library s) (λ n h.
        sym (rest.same n (among_back (drives file library s) settled n (standing n settled (all_among (λ k. IsTrue (stands_in k settled)) (reads file library s) o.1 n h))))) in
        let on_drives : AgreeOn first.values rest.values (drives file library s) =
        among_all (λ n. first.values n ≡ rest.values n) (drives file library s) (λ n h. sym (rest.same n (among_front (drives file library s) settled n h))) in
        record {
          values = rest.values;
          each = λ t h. elim h [
            | inl e ↦ subst (Holds file library rest.values) e (holding_is_local file library first.values rest.values s (well_placed file library m is s in_model) on_reads on_drives first.holds)
            | inr i ↦ rest.each t i
          ];
          same = λ n h. rest.same n (among_back (drives file library s) settled n h) ∙ first.elsewhere n (untouched n h (stands_in n (drives file library s)) refl new);
        }
      where
        untouched : (n : Name) → Among n settled → (b : Bool) → stands_in n (drives file library s) ≡ b → ((n : Name) → Among n (drives file library s) → stands_in n settled ≡ false) → stands_in n (drives file library s) ≡ false
        untouched n h true e new = let a = stands n settled h in let b = new n (standing n (drives file library s) e) in cc (a, b)
        untouched n h false e new = e

    some_fits : (given : Valuation) → (v : Valuation) × Fits file library m v × AgreeOn v given (given_nets m)
    some_fits given =
        let o = full_order file library m is in
        let all = meets_all (given_nets m) o.order o.ordered o.combine given o.fresh in (
          all.values,
          (fits_by_each file library m all.values).1 (among_all (Holds file library all.values) (map (λ l. l.what) m.statements) (λ s h. holds o.order s (combines s) refl h all.each o.all)),
          among_all (λ n. all.values n ≡ given n) (given_nets m) all.same,
        )
      where
        holds : {v : Valuation} (order : List Statement) (s : Statement) (b : Bool) → combines s ≡ b → Among s (map (λ l. l.what) m.statements) → ((s : Statement) → Among s order → Holds file library v s)
            → ((t : Statement) → Among t (map (λ l. l.what) m.statements) → IsTrue (combines t) → Among t order) → Holds file library v s
        holds order s true e h each all = each s (all s h e)
        holds order (names read out cover) false e h each all = cc e
        holds order (latch d q clocking init) false e h each all = tt
        holds order (subckt name binds) false e h each all = cc e

  -- ---- models within models

  module _ (sound : IsSound file library) (top : Model) (main : IsMain file top) where
    abbrev SomeFits : ℕ → Model → Type 0
    SomeFits n m = Chain file n top m → (given : Valuation) → (v : Valuation) × Fits file library m v × AgreeOn v given (given_nets m)

    module _ (n : ℕ) (m : Model) (chain : Chain file n top m) (below : (k : Model) → SomeFits (suc n) k) where
      some_inside : (name : Name) (binds : List Bind) → Among (subckt name binds) (map (λ l. l.what) m.statements) → SomeInside name
      some_inside name binds in_s k is_k given =
          let to_k : Chain file (suc n) top k = (m, chain, places file library m k name (subckt name binds) in_s (inl refl) is_k) in
          let (inside, fits_k, agrees) = below k to_k given in (
            inside,
            fits_k,
            among_all (λ p. inside p ≡ given p) (input_ports (a_model k)) (λ p h.
                all_among (λ p. inside p ≡ given p) (given_nets k) agrees p (among_front (port_names k.inputs ++ port_names k.clocks) (latch_outputs k) p (among_first p (port_names k.inputs ++ port_names k.clocks) h))),
          )

      all_inside : (s : Statement) → Among s (map (λ l. l.what) m.statements) → InsideOf s
      all_inside (names read out cover) h = tt
      all_inside (latch d q clocking init) h = tt
      all_inside (subckt name binds) h = some_inside name binds h

    fits_below : (fuel n : ℕ) (m : Model) → 16 < n + fuel → SomeFits n m
    fits_below zero n m deep chain given = absurd (let shallow = (sound.main top main).shallow m n chain in omega arith)
    fits_below (suc fuel) n m deep chain given = some_fits m (sound.used m (top, main, n, chain)) (all_inside n m chain (λ k. fits_below fuel (suc n) k (omega arith))) given

pub some_valuation : (file : File) (library : Library) (m : Model) (given : Valuation) → IsLibrary library → IsSound file library → IsUsed file m → (v : Valuation) × Fits file library m v × AgreeOn v given (given_nets m)
some_valuation file library m given is_library sound (top, main, n, chain) = fits_below file library is_library sound top main 17 n m (omega arith) chain given
