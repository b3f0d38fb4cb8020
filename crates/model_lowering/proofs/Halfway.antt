-- The loop over the order of a model.
use Rattle.std.proofs.Common.{◌≡◌, refl, sym, ◌∙◌, ap, subst, ℕ, ◌+◌, ◌^◌, ◌<◌, ◌≤◌, true, List, [], ◌∷◌, ◌++◌, length, take, drop, get_or, Option, Some, slice_get, IsTrue, Contains, arith, add-one, inl, inr}
use Rattle.std.specs.Prelude.{sum_by, filter_map, option_map}
use Rattle.std.specs.List.{cons_option, flat_map}
use Rattle.std.proofs.Math.Seq.{drop-cons}
use Rattle.std.proofs.lemmas.List.{take_more, take-append-drop}
use Rattle.std.proofs.lemmas.List.Elements.{Contains-get_or}
use Rattle.netlist_spec.specs.Netlist.{Name, are_distinct, Statement, names, latch, subckt, Located, Model, File}
use Rattle.netlist_spec.specs.Reads.{IsNarrow}
use Rattle.netlist_spec.specs.Covers.{Library}
use Rattle.netlist_spec.specs.Placed.{a_model, input_ports}
use Rattle.netlist_spec.specs.Models.{Latch, latches_of, as_latch}
use Rattle.netlist_spec.specs.Size.{cost_of}
use Rattle.netlist_spec.specs.Sound.{combines, drives as driven_by, IsSoundModel}
use Rattle.netlist_spec.specs.Gates.{GateList, AnswersWithin}
use Rattle.gate_net.specs.GateNet.{net_count}
use Rattle.reduction.specs.Appended.{IsAppended}
use Rattle.source_laws.specs.Costs.{statements_of}
use Rattle.source_laws.specs.Nets.{NetsHold}
use Rattle.source_laws.specs.Settling.{given_nets, AreOrdered}
use Rattle.source_laws.proofs.Agree.{among_first}
use Rattle.source_laws.proofs.Drivers.{port_is_not_driven}
use Rattle.source_laws.proofs.Lists.{Among, among, among_all, map_among, flat_among}
use Rattle.source_laws.proofs.Nets.{nets_by_each}
use Rattle.source_loops.specs.Orders.{statement_at, statements_at, IsModelOrder}
use Rattle.source_loops.proofs.OrderLemmas.{ordered_statement}
use Rattle.lowering.specs.Lowers.{CanLower, Lowers}
use Rattle.model_lowering.specs.Inside.{LowersModel}
use Rattle.model_lowering.proofs.DistinctPlaces.{Once, once_of, once_front, not_before, statements_weigh}
use Rattle.model_lowering.proofs.Places.{at_place, some_at}
use Rattle.model_lowering.proofs.Progress.{ports, nets_of, Progress, begun, can_lower, more}

-- ---- models without latches

none_later : (s : Statement) (ls : List Latch) → cons_option (as_latch s) ls ≡ [] → ls ≡ []
none_later (names ins out cover) ls e = e
none_later (latch d q clocking init) ls e = cc e
none_later (subckt name binds) ls e = e

none_here : (s : Statement) (ls : List Latch) → cons_option (as_latch s) ls ≡ [] → combines s ≡ true
none_here (names ins out cover) ls e = refl
none_here (latch d q clocking init) ls e = cc e
none_here (subckt name binds) ls e = refl

each_combines : (ss : List Located) → filter_map (λ s. as_latch s.what) ss ≡ [] → (t : Located) → Among t ss → combines t.what ≡ true
each_combines [] e t h = absurd h
each_combines (s ∷ ss) e t (inl same) = subst (λ (l : Located). combines l.what ≡ true) same (none_here s.what (filter_map (λ s. as_latch s.what) ss) e)
each_combines (s ∷ ss) e t (inr h) = each_combines ss (none_later s.what (filter_map (λ s. as_latch s.what) ss) e) t h

module _ (file : File) (library : Library) (m : Model) where
  pub record Halfway (old : GateList) (given order : List ℕ) (i : ℕ) (new : GateList) (table : List ℕ) : Type 0 where
    pub settled : List Name
    pub progress : Progress file library m old given (take i order) settled new table
    pub ordered : AreOrdered file library m settled (statements_at m (drop i order))

  module _ (is : IsSoundModel file library m) (order : List ℕ) (o : IsModelOrder file library m order) where
    once : Once order
    once = once_of order o.once

    pub halfway_none : (net : GateList) (given : List ℕ) → latches_of m ≡ [] → Halfway net given order 0 net given
    halfway_none net given none = record { settled = given_nets m; progress = begun file library m is net given none; ordered = o.ordered }

    module _ (old : GateList) (given : List ℕ) (i : ℕ) (mid : GateList) (table : List ℕ) (within : i < length order) (h : Halfway old given order i mid table) where
      abbrev pub place : ℕ
      place = get_or order i 0

      contained_here : Contains order place
      contained_here = Contains-get_or order i 0 within

      taken : take i order ++ place ∷ [] ≡ take (i + 1) order
      taken = sym (take_more order i 0 within)

      once_so_far : Once (take i order ++ place ∷ [])
      once_so_far = subst Once (sym taken) (once_front (take (i + 1) order) (drop (i + 1) order) (subst Once (sym (take-append-drop (i + 1) order)) once))

      later : Among place (take i order) → ⊥
      later = not_before (take i order) [] place once_so_far

      module _ (l : Located) (at : slice_get m.statements place ≡ Some l) where
        c : IsTrue (combines l.what)
        c = o.combining place l contained_here at

        first_left : statements_at m (drop i order) ≡ l.what ∷ statements_at m (drop (i + 1) order)
        first_left =
            let a : drop i order ≡ place ∷ drop (i + 1) order = rw add-one (drop-cons order i 0 within) in
            ap (statements_at m) a ∙ ap (λ (s : Option Statement). cons_option s (statements_at m (drop (i + 1) order))) (ap (option_map (λ (l : Located). l.what)) at)

        left : AreOrdered file library m h.settled (l.what ∷ statements_at m (drop (i + 1) order))
        left = subst (AreOrdered file library m h.settled) first_left h.ordered

        pub halfway_can : are_distinct m.names ≡ true → length given ≡ length m.names → ((n : Name) → Among n (ports file library m) → nets_of file library m given n < net_count old) → IsNarrow l.what
            → net_count old + sum_by (cost_of file library) (statements_of m) ≤ 2 ^ 23 → CanLower file library m.names l.what mid table
        halfway_can distinct size known narrow room =
            can_lower file library m is place l at c old given (take i order) h.settled mid table h.progress later left.1 distinct size known narrow once_so_far room

        pub halfway_more : (new : GateList) (noted : List ℕ) → Lowers file library m.names l.what mid table new noted → Halfway old given order (i + 1) new noted
        halfway_more new noted lowers = record {
          settled = driven_by file library l.what ++ h.settled;
          progress = subst (λ (js : List ℕ). Progress file library m old given js (driven_by file library l.what ++ h.settled) new noted) taken
              (more file library m is place l at c old given (take i order) h.settled mid table h.progress later left.1 new noted lowers);
          ordered = left.2;
        }

      pub statement_here : (s : Statement) → statement_at m place ≡ Some s → (l : Located) × (slice_get m.statements place ≡ Some l) × (l.what ≡ s)
      statement_here s e =
          let r = some_at m.statements place (o.within i 0 within) in
          let both : Some r.0.what ≡ Some s = sym (ap (option_map (λ (l : Located). l.what)) r.1) ∙ e in
          (r.0, r.1, cc both)

      pub combines_here : (l : Located) → slice_get m.statements place ≡ Some l → IsTrue (combines l.what)
      combines_here l at = o.combining place l contained_here at

    -- ---- at the end

    module _ (none : latches_of m ≡ []) (old : GateList) (given : List ℕ) (settled : List Name) (new : GateList) (table : List ℕ) (p : Progress file library m old given order settled new table) where
      in_order : (s : Statement) → Among s (statements_of m) → Among s (statements_at m order)
      in_order s h =
          let (l, in_l, e) = map_among (λ (l : Located). l.what) m.statements s h in
          let (j, at) = at_place m.statements l in_l in
          subst (λ (t : Statement). Among t (statements_at m order)) e (among (statements_at m order) l.what (ordered_statement m order j l (o.each j l at (each_combines m.statements none l in_l)) at))

      driven_net : (n : Name) → Among n (flat_map (driven_by file library) (statements_of m)) → IsAppended old new (nets_of file library m table n)
      driven_net n h =
          let (s, in_s, d) = flat_among (driven_by file library) (statements_of m) n h in
          elim (p.nets n ((p.each s (in_order s in_s)).drives n d)) [ inl q ↦ absurd (port_is_not_driven file library m is.drivers n s q in_s d) | inr a ↦ a ]

      finished : LowersModel file library m old given new table
      finished = record {
        extends = p.extends;
        cost = let a = p.cost in let b = statements_weigh (cost_of file library) m order once in omega arith;
        reads = p.reads;
        size = p.size;
        inputs = among_all (λ n. nets_of file library m table n ≡ nets_of file library m given n) (input_ports (a_model m)) (λ n h. p.kept n (among_first n (ports file library m) h));
        driven = among_all (λ n. IsAppended old new (nets_of file library m table n)) (flat_map (driven_by file library) (statements_of m)) driven_net;
        fits = (nets_by_each file library (AnswersWithin new (net_count old) (net_count new)) m (nets_of file library m table)).1
            (among_all (NetsHold file library (AnswersWithin new (net_count old) (net_count new)) (nets_of file library m table)) (statements_of m) (λ s h. (p.each s (in_order s h)).holds));
      }

    pub halfway_all : latches_of m ≡ [] → (old : GateList) (given : List ℕ) (i : ℕ) (new : GateList) (table : List ℕ) → take i order ≡ order → Halfway old given order i new table → LowersModel file library m old given new table
    halfway_all none old given i new table all h =
        finished none old given h.settled new table (subst (λ (js : List ℕ). Progress file library m old given js h.settled new table) all h.progress)
