-- The gates of a model as far as its statements are done.
use Rattle.std.proofs.Common.{◌≡◌, refl, sym, ◌∙◌, ap, subst, ℕ, ◌+◌, ◌^◌, ◌<◌, ◌≤◌, Bool, true, false, List, [], ◌∷◌, ◌++◌, length, map, Option, Some, slice_get, IsTrue, Contains, arith, inl, inr, ◌⊎◌}
use Rattle.std.specs.Prelude.{sum_by, option_map}
use Rattle.std.specs.List.{AllByRecursion, cons_option}
use Rattle.std.proofs.lemmas.List.Elements.{filter_map-append}
use Rattle.std.proofs.lemmas.List.Sums.{sum_by-append}
use Rattle.std.proofs.lemmas.Option.{slice_get_within}
use Rattle.netlist_spec.specs.Netlist.{Name, stands_in, are_distinct, Statement, Located, Model, File}
use Rattle.netlist_spec.specs.Reads.{IsNarrow, first_appearances}
use Rattle.netlist_spec.specs.Covers.{Library}
use Rattle.netlist_spec.specs.Placed.{a_model, port_names, input_ports}
use Rattle.netlist_spec.specs.Models.{latches_of, latch_outputs}
use Rattle.netlist_spec.specs.Size.{cost_of}
use Rattle.netlist_spec.specs.Sound.{combines, drives as driven_by, reads as read_by, IsSoundModel}
use Rattle.netlist_spec.specs.Gates.{GateList, AnswersWithin}
use Rattle.netlist_spec.proofs.Occurrences.{stands_occ, first_stands}
use Rattle.gate_net.specs.GateNet.{net_count}
use Rattle.reduction.specs.Appended.{Extends, IsAppended, ReadsInputsAlone}
use Rattle.reduction.proofs.Appended.{extends_same, extends_longer, extends_further, count_grows, answers_before}
use Rattle.source_laws.specs.Costs.{statements_of}
use Rattle.source_laws.specs.Nets.{NetsHold}
use Rattle.source_laws.specs.Settling.{given_nets}
use Rattle.source_laws.proofs.Agree.{well_placed}
use Rattle.source_laws.proofs.Drivers.{drives_once, given_is_not_driven, port_is_not_driven}
use Rattle.source_laws.proofs.GateCosts.{reads_compose}
use Rattle.source_laws.proofs.Lists.{Among, contained, all_among, among_all, among_map, map_among, among_front, among_back, among_either, stands, standing}
use Rattle.source_laws.proofs.Nets.{nets_hold_locally, more_fit_each}
use Rattle.source_laws.proofs.SomeValuation.{once_distinct}
use Rattle.source_loops.specs.Orders.{statement_at, statements_at}
use Rattle.lowering.specs.Nets.{net_in}
use Rattle.lowering.specs.Lowers.{CanLower, Lowers}
use Rattle.model_lowering.proofs.DistinctPlaces.{Once, statements_weigh, occurs_at, occurs_twice}
use Rattle.model_lowering.proofs.Places.{place_among}

pub absent : (n : Name) (ns : List Name) → (Among n ns → ⊥) → stands_in n ns ≡ false
absent n ns none = by_case (stands_in n ns) refl
  where
    by_case : (b : Bool) → stands_in n ns ≡ b → b ≡ false
    by_case true e = absurd (none (standing n ns e))
    by_case false e = refl

pub no_sublist : {A : Type 0} (xs : List A) (x : A) → xs ≡ [] → Among x xs → ⊥
no_sublist xs x e h = subst (λ ys. Among x ys) e h

module _ (file : File) (library : Library) (m : Model) where
  abbrev pub ports : List Name
  ports = port_names m.inputs ++ port_names m.clocks

  abbrev pub nets_of : List ℕ → Name → ℕ
  nets_of table = net_in m.names table

  -- a net that is given, or that a statement at one of these places drives
  abbrev pub IsKnownBy : List ℕ → Name → Type 0
  IsKnownBy done n =
      Among n (given_nets m)
      ⊎ ((j : ℕ) × (l : Located) × Among j done × (slice_get m.statements j ≡ Some l) × Among n (driven_by file library l.what))

  -- what is known of a statement that is done
  pub record IsDone (settled : List Name) (old new : GateList) (table : List ℕ) (t : Statement) : Type 0 where
    pub of_model : Among t (statements_of m)
    pub reads : (n : Name) → Among n (read_by file library t) → Among n settled
    pub drives : (n : Name) → Among n (driven_by file library t) → Among n settled
    pub holds : NetsHold file library (AnswersWithin new (net_count old) (net_count new)) (nets_of table) t

  pub record Progress (old : GateList) (given done : List ℕ) (settled : List Name) (new : GateList) (table : List ℕ) : Type 0 where
    pub extends : Extends old new
    pub cost : net_count new ≤ net_count old + sum_by (cost_of file library) (statements_at m done)
    pub reads : ReadsInputsAlone old new (map (nets_of given) (input_ports (a_model m)))
    pub size : length table ≡ length given
    pub kept : (n : Name) → Among n ports → nets_of table n ≡ nets_of given n
    pub by : (n : Name) → Among n settled → IsKnownBy done n
    pub nets : (n : Name) → Among n settled → Among n ports ⊎ IsAppended old new (nets_of table n)
    pub each : (t : Statement) → Among t (statements_at m done) → IsDone settled old new table t

  module _ (is : IsSoundModel file library m) where
    given_or_port : latches_of m ≡ [] → (n : Name) → Among n (given_nets m) → Among n ports
    given_or_port none n h = elim (among_either ports (latch_outputs m) n h) [ inl p ↦ p | inr q ↦ absurd (no_sublist (latch_outputs m) n (ap (map (λ l. l.q)) none) q) ]

    pub begun : (net : GateList) (given : List ℕ) → latches_of m ≡ [] → Progress net given [] (given_nets m) net given
    begun net given none = record {
      extends = extends_same net;
      cost = omega arith;
      reads = λ n k h r. let within = slice_get_within net.gates r.place r.gate r.is_gate in let number = r.number in absurd (omega arith);
      size = refl;
      kept = λ n h. refl;
      by = λ n h. inl h;
      nets = λ n h. inl (given_or_port none n h);
      each = λ t h. absurd h;
    }

    module _ (i : ℕ) (l : Located) (at : slice_get m.statements i ≡ Some l) (c : IsTrue (combines l.what)) where
      of_model : Among l.what (statements_of m)
      of_model = among_map (λ (l : Located). l.what) m.statements l (place_among m.statements i l at)

      -- what is known isn't driven again
      pub fresh : (done : List ℕ) → (Among i done → ⊥) → (n : Name) → IsKnownBy done n → Among n (driven_by file library l.what) → ⊥
      fresh done later n (inl g) d = given_is_not_driven file library m is.drivers n l.what g of_model c d
      fresh done later n (inr (j, k, before, at_j, d_k)) d =
          let apart : i ≡ j → ⊥ = λ e. later (subst (λ x. Among x done) (sym e) before) in
          let two = occurs_twice n (λ (s : Located). driven_by file library s.what) m.statements i j l k apart at at_j in
          let once = drives_once file library m is.drivers n in
          let a = stands_occ n (driven_by file library l.what) (stands n (driven_by file library l.what) d) in
          let b = stands_occ n (driven_by file library k.what) (stands n (driven_by file library k.what) d_k) in
          absurd (omega arith)

      statement_there : statement_at m i ≡ Some l.what
      statement_there = ap (option_map (λ (l : Located). l.what)) at

      pub one_more : (done : List ℕ) → statements_at m (done ++ i ∷ []) ≡ statements_at m done ++ l.what ∷ []
      one_more done = filter_map-append (statement_at m) done (i ∷ []) ∙ ap (λ (o : Option Statement). statements_at m done ++ cons_option o []) statement_there

      sum_more : (done : List ℕ) → sum_by (cost_of file library) (statements_at m (done ++ i ∷ [])) ≡ sum_by (cost_of file library) (statements_at m done) + cost_of file library l.what
      sum_more done =
          ap (sum_by (cost_of file library)) (one_more done)
          ∙ (sum_by-append (cost_of file library) (statements_at m done) (l.what ∷ []) ∙ (let e : sum_by (cost_of file library) (l.what ∷ []) ≡ cost_of file library l.what = omega arith in ap (λ n. sum_by (cost_of file library) (statements_at m done) + n) e))

      module _ (old : GateList) (given done : List ℕ) (settled : List Name) (mid : GateList) (table : List ℕ) (p : Progress old given done settled mid table) (later : Among i done → ⊥)
          (reads_settled : AllByRecursion (λ k. IsTrue (stands_in k settled)) (read_by file library l.what)) where
        settled_read : (n : Name) → Among n (read_by file library l.what) → Among n settled
        settled_read n h = standing n settled (all_among (λ k. IsTrue (stands_in k settled)) (read_by file library l.what) reads_settled n h)

        not_driven : (n : Name) → Among n settled → Among n (driven_by file library l.what) → ⊥
        not_driven n h d = fresh done later n (p.by n h) d

        known_net : ((n : Name) → Among n ports → nets_of given n < net_count old) → (n : Name) → Among n settled → nets_of table n < net_count mid
        known_net known n h =
            let grows = count_grows old mid p.extends in
            elim (p.nets n h) [
              | inl q ↦ (let a = known n q in let b = p.kept n q in omega arith)
              | inr a ↦ a.1
            ]

        pub can_lower : are_distinct m.names ≡ true → length given ≡ length m.names → ((n : Name) → Among n ports → nets_of given n < net_count old) → IsNarrow l.what → Once (done ++ i ∷ [])
            → net_count old + sum_by (cost_of file library) (statements_of m) ≤ 2 ^ 23 → CanLower file library m.names l.what mid table
        can_lower distinct size known narrow once room = record {
          distinct = distinct;
          size = p.size ∙ size;
          known = among_all (λ n. nets_of table n < net_count mid) (read_by file library l.what) (λ n h. known_net known n (settled_read n h));
          apart = among_all (λ n. stands_in n (driven_by file library l.what) ≡ false) (read_by file library l.what) (λ n h. absent n (driven_by file library l.what) (not_driven n (settled_read n h)));
          once = once_distinct (driven_by file library l.what) (λ n.
              let a = occurs_at n (λ (s : Located). driven_by file library s.what) m.statements i l at in
              let b = drives_once file library m is.drivers n in
              omega arith);
          places = well_placed file library m is l.what of_model;
          narrow = narrow;
          room =
              let a = p.cost in
              let b = sum_more done in
              let all = statements_weigh (cost_of file library) m (done ++ i ∷ []) once in
              omega arith;
        }

        module _ (new : GateList) (noted : List ℕ) (lowers : Lowers file library m.names l.what mid table new noted) where
          same_net : (n : Name) → Among n settled → nets_of noted n ≡ nets_of table n
          same_net n h = lowers.others n (absent n (driven_by file library l.what) (not_driven n h))

          in_ports : (n : Name) → Among n ports → Among n (input_ports (a_model m))
          in_ports n h = standing n (first_appearances ports) (first_stands n ports (stands n ports h))

          one_reads : AllByRecursion (λ k. Contains (map (nets_of given) (input_ports (a_model m))) k ⊎ (net_count old ≤ k)) (map (nets_of table) (read_by file library l.what))
          one_reads = among_all (λ k. Contains (map (nets_of given) (input_ports (a_model m))) k ⊎ (net_count old ≤ k)) (map (nets_of table) (read_by file library l.what)) (λ k h. by k (map_among (nets_of table) (read_by file library l.what) k h))
            where
              by : (k : ℕ) → ((n : Name) × Among n (read_by file library l.what) × (nets_of table n ≡ k)) → Contains (map (nets_of given) (input_ports (a_model m))) k ⊎ (net_count old ≤ k)
              by k (n, h, e) =
                  elim (p.nets n (settled_read n h)) [
                    | inl q ↦ inl (contained _ k (subst (λ j. Among j (map (nets_of given) (input_ports (a_model m)))) (sym (p.kept n q) ∙ e) (among_map (nets_of given) (input_ports (a_model m)) n (in_ports n q))))
                    | inr a ↦ inr (subst (λ j. net_count old ≤ j) e a.0)
                  ]

          still_done : (t : Statement) → IsDone settled old mid table t → IsDone (driven_by file library l.what ++ settled) old new noted t
          still_done t d = record {
            of_model = d.of_model;
            reads = λ n h. among_back (driven_by file library l.what) settled n (d.reads n h);
            drives = λ n h. among_back (driven_by file library l.what) settled n (d.drives n h);
            holds =
                more_fit_each file library (AnswersWithin mid (net_count old) (net_count mid)) (AnswersWithin new (net_count old) (net_count new))
                (λ v a. answers_before mid new (net_count old) (net_count old) (net_count mid) (net_count new) v lowers.extends (omega arith) (count_grows mid new lowers.extends) a)
                (nets_hold_locally file library (AnswersWithin mid (net_count old) (net_count mid)) (nets_of table) (nets_of noted) t (well_placed file library m is t d.of_model)
                (among_all (λ n. nets_of table n ≡ nets_of noted n) (read_by file library t) (λ n h. sym (same_net n (d.reads n h))))
                (among_all (λ n. nets_of table n ≡ nets_of noted n) (driven_by file library t) (λ n h. sym (same_net n (d.drives n h)))) d.holds);
          }

          now_done : IsDone (driven_by file library l.what ++ settled) old new noted l.what
          now_done = record {
            of_model = of_model;
            reads = λ n h. among_back (driven_by file library l.what) settled n (settled_read n h);
            drives = λ n h. among_front (driven_by file library l.what) settled n h;
            holds =
                more_fit_each file library (AnswersWithin new (net_count mid) (net_count new)) (AnswersWithin new (net_count old) (net_count new))
                (λ v a. answers_before new new (net_count old) (net_count mid) (net_count new) (net_count new) v (extends_same new) (count_grows old mid p.extends) (omega arith) a) lowers.holds;
          }

          pub more : Progress old given (done ++ i ∷ []) (driven_by file library l.what ++ settled) new noted
          more = record {
            extends = extends_further old mid new p.extends lowers.extends;
            cost = let a = p.cost in let b = sum_more done in let d = lowers.cost in omega arith;
            reads = reads_compose old mid new (map (nets_of given) (input_ports (a_model m))) (map (nets_of table) (read_by file library l.what)) p.extends.leaves lowers.extends.leaves (extends_longer old mid p.extends) lowers.extends.gates p.reads lowers.reads one_reads;
            size = lowers.size ∙ p.size;
            kept = λ n h. lowers.others n (absent n (driven_by file library l.what) (port_is_not_driven file library m is.drivers n l.what h of_model)) ∙ p.kept n h;
            by = λ n h. by n (among_either (driven_by file library l.what) settled n h);
            nets = λ n h. nets n (among_either (driven_by file library l.what) settled n h);
            each = λ t h. each t (among_either (statements_at m done) (l.what ∷ []) t (subst (λ (ss : List Statement). Among t ss) (one_more done) h));
          }
            where
              by : (n : Name) → Among n (driven_by file library l.what) ⊎ Among n settled → IsKnownBy (done ++ i ∷ []) n
              by n (inl d) = inr (i, l, among_back done (i ∷ []) i (inl refl), at, d)
              by n (inr h) = elim (p.by n h) [ inl g ↦ inl g | inr k ↦ inr (k.0, k.1, among_front done (i ∷ []) k.0 k.2, k.3, k.4) ]

              nets : (n : Name) → Among n (driven_by file library l.what) ⊎ Among n settled → Among n ports ⊎ IsAppended old new (nets_of noted n)
              nets n (inl d) = let a = all_among (λ n. IsAppended mid new (nets_of noted n)) (driven_by file library l.what) lowers.driven n d in inr ((let g = count_grows old mid p.extends in let low = a.0 in omega arith), a.1)
              nets n (inr h) =
                  elim (p.nets n h) [
                    | inl q ↦ inl q
                    | inr a ↦
                        let e = same_net n h in
                        let g = count_grows mid new lowers.extends in
                        let low = a.0 in
                        let high = a.1 in
                        inr (omega arith, omega arith)
                  ]

              each : (t : Statement) → Among t (statements_at m done) ⊎ Among t (l.what ∷ []) → IsDone (driven_by file library l.what ++ settled) old new noted t
              each t (inl h) = still_done t (p.each t h)
              each t (inr (inl e)) = subst (IsDone (driven_by file library l.what ++ settled) old new noted) e now_done
              each t (inr (inr h)) = absurd h
