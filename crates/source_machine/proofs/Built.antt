-- The gates of the main model as far as its statements are done.
use Rattle.std.proofs.Common.{◌≡◌, refl, sym, ◌∙◌, ap, ap₂, subst, ℕ, zero, suc, ◌+◌, ◌-◌, ◌^◌, ◌<◌, ◌≤◌, true, false, not, List, [], ◌∷◌, ◌++◌, length, map, replicate, Some, slice_get, IsTrue, arith, inl, inr, ◌⊎◌}
use Rattle.std.specs.Prelude.{sum_by, option_map}
use Rattle.std.specs.List.{AllByRecursion, flat_map}
use Rattle.std.proofs.lemmas.List.{length-append, length-replicate}
use Rattle.std.proofs.lemmas.List.Sums.{sum_by-append}
use Rattle.std.proofs.lemmas.Option.{slice_get_within, slice_get-map}
use Rattle.netlist_spec.specs.Netlist.{Name, stands_in, are_distinct, Statement, Located, Model, File}
use Rattle.netlist_spec.specs.Reads.{IsNarrow, control_nets}
use Rattle.netlist_spec.specs.Covers.{Library}
use Rattle.netlist_spec.specs.Placed.{port_names}
use Rattle.netlist_spec.specs.Models.{clock_nets, data_inputs, latches_of, latch_outputs}
use Rattle.netlist_spec.specs.Size.{cost_of}
use Rattle.netlist_spec.specs.Sound.{combines, drives as driven_by, reads as read_by, IsMain, IsSound, IsSoundModel}
use Rattle.netlist_spec.specs.Gates.{GateList, Machine, AnswersWithin}
use Rattle.gate_net.specs.GateNet.{net_count}
use Rattle.reduction.specs.Appended.{IsAppended}
use Rattle.reduction.proofs.Appended.{extends_same, extends_longer, count_grows, answers_before}
use Rattle.source_laws.specs.Costs.{statements_of, StandsFor, a_leaf, a_gate, AreGatesOf, no_gates, more_gates}
use Rattle.source_laws.specs.Nets.{NetsHold}
use Rattle.source_laws.specs.Numbered.{IsGateOf}
use Rattle.source_laws.specs.Settling.{given_nets}
use Rattle.source_laws.proofs.Agree.{read_by as among_read, well_placed}
use Rattle.source_laws.proofs.Drivers.{drives_once}
use Rattle.source_laws.proofs.Lists.{Among, among, all_among, among_all, among_map, map_among, among_front, among_back, among_either, filter_among, stands, standing}
use Rattle.source_laws.proofs.Nets.{nets_hold_locally, more_fit_each, read_off_clocks}
use Rattle.source_laws.proofs.Numbered.{place_of as leaf_at, at_place as leaf_among}
use Rattle.source_laws.proofs.OneOutcome.{clock_or_data}
use Rattle.source_laws.proofs.SomeValuation.{once_distinct}
use Rattle.source_laws.proofs.Tallies.{get_front, get_new}
use Rattle.source_loops.specs.Orders.{statements_at}
use Rattle.lowering.specs.Nets.{net_in}
use Rattle.lowering.specs.Lowers.{CanLower, Lowers}
use Rattle.model_lowering.proofs.DistinctPlaces.{Once, statements_weigh, occurs_at}
use Rattle.model_lowering.proofs.Places.{place_among, same_there}
use Rattle.model_lowering.proofs.Progress.{IsKnownBy, fresh, one_more, absent}
use Rattle.source_machine.specs.Leaves.{leaf_names, HasLeaves}

-- ---- gates and their owners

pub count_owners : {file : File} {library : Library} {m : Model} {leaves : ℕ} {owners : List ℕ} {net : GateList} → AreGatesOf file library m leaves owners net → length owners ≡ length net.gates
count_owners no_gates = refl
count_owners (more_gates {owners} {old} {new} owner count s ins gates at c new_owner same_leaves front longer cheap alone standing_for) =
    let a = count_owners gates in
    let b = length-append owners (replicate count owner) in
    let d = length-replicate count owner in
    omega arith

among_copies : (count o p : ℕ) → Among p (replicate count o) → p ≡ o
among_copies zero o p h = absurd h
among_copies (suc count) o p (inl e) = sym e
among_copies (suc count) o p (inr h) = among_copies count o p h

gate_kept : {m : Model} {leaves : ℕ} {owners : List ℕ} {s : Statement} {n : ℕ} (more : List ℕ) → IsGateOf m leaves owners s n → IsGateOf m leaves (owners ++ more) s n
gate_kept {owners = owners} more g = record {
  place = g.place;
  number = g.number;
  owner = g.owner;
  owns = get_front owners more g.place g.owner g.owns;
  statement = g.statement;
}

pub statement_at_place : (m : Model) (i : ℕ) (l : Located) → slice_get m.statements i ≡ Some l → slice_get (statements_of m) i ≡ Some l.what
statement_at_place m i l at = slice_get-map (λ (l : Located). l.what) m.statements i ∙ ap (option_map (λ (l : Located). l.what)) at

module _ (file : File) (library : Library) (m : Model) where
  abbrev pub nets_of : List ℕ → Name → ℕ
  nets_of table = net_in m.names table

  abbrev pub leaf_count : ℕ
  leaf_count = length (data_inputs m) + length (latch_outputs m)

  -- what is known of a statement that is done
  pub record IsDone (settled : List Name) (net : GateList) (table : List ℕ) (t : Statement) : Type 0 where
    pub of_model : Among t (statements_of m)
    pub reads : (n : Name) → Among n (read_by file library t) → Among n settled
    pub drives : (n : Name) → Among n (driven_by file library t) → Among n settled
    pub holds : NetsHold file library (AnswersWithin net leaf_count (net_count net)) (nets_of table) t

  pub record Built (done : List ℕ) (settled : List Name) (net : GateList) (table : List ℕ) : Type 0 where
    pub owners : List ℕ
    pub leaves : net.leaves ≡ leaf_count
    pub cost : net_count net ≤ leaf_count + sum_by (cost_of file library) (statements_at m done)
    pub size : length table ≡ length m.names
    pub each_leaf : (x : Name) (n : ℕ) → slice_get (leaf_names m) n ≡ Some x → nets_of table x ≡ n
    pub by : (n : Name) → Among n settled → IsKnownBy file library m done n
    pub gates : AreGatesOf file library m leaf_count owners net
    pub owned : (o : ℕ) → Among o owners → Among o done
    pub combining : (j : ℕ) (l : Located) → Among j done → slice_get m.statements j ≡ Some l → IsTrue (combines l.what)
    pub driven : (j : ℕ) (l : Located) (x : Name) → Among j done → slice_get m.statements j ≡ Some l → Among x (driven_by file library l.what) → IsGateOf m leaf_count owners l.what (nets_of table x)
    pub each : (t : Statement) → Among t (statements_at m done) → IsDone settled net table t

  no_gates_yet : (net : GateList) (k : ℕ) → net.leaves ≡ k → net.gates ≡ [] → AreGatesOf file library m k [] net
  no_gates_yet net k e f =
      let same : record { leaves = k; gates = [] } ≡ net = sym (ap₂ (λ n gs. record { leaves = n; gates = gs }) e f) in
      subst (AreGatesOf file library m k []) same no_gates

  pub begun : (inputs : ℕ) (net : GateList) (table : List ℕ) → net.gates ≡ [] → HasLeaves m inputs net.leaves table → Built [] (given_nets m) net table
  begun inputs net table none has = record {
    owners = [];
    leaves = has.leaves_are;
    cost = let a = has.leaves_are in let b : length net.gates ≡ 0 = ap length none in omega arith;
    size = has.size;
    each_leaf = has.each;
    by = λ n h. inl h;
    gates = no_gates_yet net leaf_count has.leaves_are none;
    owned = λ o h. absurd h;
    combining = λ j l h at. absurd h;
    driven = λ j l x h at d. absurd h;
    each = λ t h. absurd h;
  }

  module _ (sound : IsSound file library) (main : IsMain file m) where
    pub is : IsSoundModel file library m
    is = sound.used m (m, main, 0, refl)

    -- a given net that is no clock is a leaf
    pub given_leaf : (n : Name) → (Among n (clock_nets m) → ⊥) → Among n (given_nets m) → Among n (leaf_names m)
    given_leaf n never g =
        elim (among_either (port_names m.inputs ++ port_names m.clocks) (latch_outputs m) n g) [
          | inl p ↦ elim (among_either (port_names m.inputs) (port_names m.clocks) n p) [
            | inl i ↦ elim (clock_or_data file library m n i) [ inl c ↦ absurd (never c) | inr d ↦ among_front (data_inputs m) (latch_outputs m) n d ]
            | inr c ↦ absurd (never (among_front (port_names m.clocks) (flat_map (λ l. control_nets l.clocking) (latches_of m)) n c))
          ]
          | inr q ↦ among_back (data_inputs m) (latch_outputs m) n q
        ]

    leaf_is_given : (n : Name) → Among n (leaf_names m) → Among n (given_nets m)
    leaf_is_given n h =
        elim (among_either (data_inputs m) (latch_outputs m) n h) [
          | inl d ↦ among_front (port_names m.inputs ++ port_names m.clocks) (latch_outputs m) n (among_front (port_names m.inputs) (port_names m.clocks) n (filter_among (λ n. not (stands_in n (clock_nets m))) (port_names m.inputs) n d).0)
          | inr q ↦ among_back (port_names m.inputs ++ port_names m.clocks) (latch_outputs m) n q
        ]

    -- no statement reads a clock net
    no_clock : (t : Statement) → Among t (statements_of m) → (n : Name) → Among n (read_by file library t) → Among n (clock_nets m) → ⊥
    no_clock t in_t n h c =
        let none : Machine = record { net = record { leaves = 0; gates = [] }; inputs = 0; latches = []; outputs = [] } in
        read_off_clocks file library m none (nets_of []) sound main n (among_read file library m is t in_t n h) c

    module _ (i : ℕ) (l : Located) (at : slice_get m.statements i ≡ Some l) (c : IsTrue (combines l.what)) where
      of_model : Among l.what (statements_of m)
      of_model = among_map (λ (l : Located). l.what) m.statements l (place_among m.statements i l at)

      sum_more : (done : List ℕ) → sum_by (cost_of file library) (statements_at m (done ++ i ∷ [])) ≡ sum_by (cost_of file library) (statements_at m done) + cost_of file library l.what
      sum_more done =
          ap (sum_by (cost_of file library)) (one_more file library m is i l at c done)
          ∙ (sum_by-append (cost_of file library) (statements_at m done) (l.what ∷ []) ∙ (let e : sum_by (cost_of file library) (l.what ∷ []) ≡ cost_of file library l.what = omega arith in ap (λ n. sum_by (cost_of file library) (statements_at m done) + n) e))

      module _ (done : List ℕ) (settled : List Name) (mid : GateList) (table : List ℕ) (b : Built done settled mid table) (later : Among i done → ⊥)
          (reads_settled : AllByRecursion (λ k. IsTrue (stands_in k settled)) (read_by file library l.what)) where
        settled_read : (n : Name) → Among n (read_by file library l.what) → Among n settled
        settled_read n h = standing n settled (all_among (λ k. IsTrue (stands_in k settled)) (read_by file library l.what) reads_settled n h)

        not_driven : (n : Name) → IsKnownBy file library m done n → Among n (driven_by file library l.what) → ⊥
        not_driven n k d = fresh file library m is i l at c done later n k d

        -- what it reads has a net, a leaf or a gate
        leaf_net : (n : Name) → Among n (leaf_names m) → StandsFor file library m leaf_count b.owners n (nets_of table n) × (nets_of table n < net_count mid)
        leaf_net n h =
            let (k, e) = leaf_at (leaf_names m) n h in
            let number = b.each_leaf n k e in
            let within = slice_get_within (leaf_names m) k n e in
            let count = length-append (data_inputs m) (latch_outputs m) in
            let leaves = b.leaves in
            (a_leaf (ap (slice_get (leaf_names m)) number ∙ e), omega arith)

        gate_net : (n : Name) (j : ℕ) (k : Located) → Among j done → slice_get m.statements j ≡ Some k → Among n (driven_by file library k.what)
            → StandsFor file library m leaf_count b.owners n (nets_of table n) × (nets_of table n < net_count mid)
        gate_net n j k before at_j d =
            let gate = b.driven j k n before at_j d in
            let number = gate.number in
            let within = slice_get_within b.owners gate.place gate.owner gate.owns in
            let count = count_owners b.gates in
            let leaves = b.leaves in
            (a_gate gate.place gate.owner k.what gate.number gate.owns gate.statement (b.combining j k before at_j) (stands n (driven_by file library k.what) d), omega arith)

        known_net : (n : Name) → Among n (read_by file library l.what) → StandsFor file library m leaf_count b.owners n (nets_of table n) × (nets_of table n < net_count mid)
        known_net n h =
            elim (b.by n (settled_read n h)) [
              | inl g ↦ leaf_net n (given_leaf n (no_clock l.what of_model n h) g)
              | inr k ↦ gate_net n k.0 k.1 k.2 k.3 k.4
            ]

        pub can_lower : are_distinct m.names ≡ true → IsNarrow l.what → Once (done ++ i ∷ []) → leaf_count + sum_by (cost_of file library) (statements_of m) ≤ 2 ^ 23 → CanLower file library m.names l.what mid table
        can_lower distinct narrow once room = record {
          distinct = distinct;
          size = b.size;
          known = among_all (λ n. nets_of table n < net_count mid) (read_by file library l.what) (λ n h. (known_net n h).1);
          apart = among_all (λ n. stands_in n (driven_by file library l.what) ≡ false) (read_by file library l.what) (λ n h. absent n (driven_by file library l.what) (not_driven n (b.by n (settled_read n h))));
          once = once_distinct (driven_by file library l.what) (λ n.
              let a = occurs_at n (λ (s : Located). driven_by file library s.what) m.statements i l at in
              let b = drives_once file library m is.drivers n in
              omega arith);
          places = well_placed file library m is l.what of_model;
          narrow = narrow;
          room =
              let a = b.cost in
              let d = sum_more done in
              let all = statements_weigh (cost_of file library) m (done ++ i ∷ []) once in
              omega arith;
        }

        module _ (new : GateList) (noted : List ℕ) (lowers : Lowers file library m.names l.what mid table new noted) where
          abbrev added : ℕ
          added = length new.gates - length mid.gates

          longer : length new.gates ≡ length mid.gates + added
          longer = let a = extends_longer mid new lowers.extends in omega arith

          same_net : (n : Name) → IsKnownBy file library m done n → nets_of noted n ≡ nets_of table n
          same_net n k = lowers.others n (absent n (driven_by file library l.what) (not_driven n k))

          still_done : (t : Statement) → IsDone settled mid table t → IsDone (driven_by file library l.what ++ settled) new noted t
          still_done t d = record {
            of_model = d.of_model;
            reads = λ n h. among_back (driven_by file library l.what) settled n (d.reads n h);
            drives = λ n h. among_back (driven_by file library l.what) settled n (d.drives n h);
            holds =
                more_fit_each file library (AnswersWithin mid leaf_count (net_count mid)) (AnswersWithin new leaf_count (net_count new))
                (λ v a. answers_before mid new leaf_count leaf_count (net_count mid) (net_count new) v lowers.extends (omega arith) (count_grows mid new lowers.extends) a)
                (nets_hold_locally file library (AnswersWithin mid leaf_count (net_count mid)) (nets_of table) (nets_of noted) t (well_placed file library m is t d.of_model)
                (among_all (λ n. nets_of table n ≡ nets_of noted n) (read_by file library t) (λ n h. sym (same_net n (b.by n (d.reads n h)))))
                (among_all (λ n. nets_of table n ≡ nets_of noted n) (driven_by file library t) (λ n h. sym (same_net n (b.by n (d.drives n h))))) d.holds);
          }

          now_done : IsDone (driven_by file library l.what ++ settled) new noted l.what
          now_done = record {
            of_model = of_model;
            reads = λ n h. among_back (driven_by file library l.what) settled n (settled_read n h);
            drives = λ n h. among_front (driven_by file library l.what) settled n h;
            holds =
                more_fit_each file library (AnswersWithin new (net_count mid) (net_count new)) (AnswersWithin new leaf_count (net_count new))
                (λ v a. answers_before new new leaf_count (net_count mid) (net_count new) (net_count new) v (extends_same new) (let e = b.leaves in omega arith) (omega arith) a) lowers.holds;
          }

          its_reads : AllByRecursion (λ k. (r : Name) × IsTrue (stands_in r (read_by file library l.what)) × StandsFor file library m leaf_count b.owners r k) (map (nets_of table) (read_by file library l.what))
          its_reads = among_all (λ k. (r : Name) × IsTrue (stands_in r (read_by file library l.what)) × StandsFor file library m leaf_count b.owners r k) (map (nets_of table) (read_by file library l.what)) (λ k h. by k (map_among (nets_of table) (read_by file library l.what) k h))
            where
              by : (k : ℕ) → ((n : Name) × Among n (read_by file library l.what) × (nets_of table n ≡ k)) → (r : Name) × IsTrue (stands_in r (read_by file library l.what)) × StandsFor file library m leaf_count b.owners r k
              by k (n, h, e) = (n, stands n (read_by file library l.what) h, subst (λ j. StandsFor file library m leaf_count b.owners n j) e (known_net n h).0)

          its_gate : (x : Name) → Among x (driven_by file library l.what) → IsGateOf m leaf_count (b.owners ++ replicate added i) l.what (nets_of noted x)
          its_gate x h =
              let a = all_among (λ n. IsAppended mid new (nets_of noted n)) (driven_by file library l.what) lowers.driven x h in
              let low = a.0 in
              let high = a.1 in
              let e = b.leaves in
              let f : new.leaves ≡ mid.leaves = lowers.extends.leaves in
              let g = count_owners b.gates in
              let o = longer in
              record {
                place = nets_of noted x - leaf_count;
                number = omega arith;
                owner = i;
                owns = get_new b.owners added i (nets_of noted x - leaf_count) (omega arith) (omega arith);
                statement = statement_at_place m i l at;
              }

          pub more : Built (done ++ i ∷ []) (driven_by file library l.what ++ settled) new noted
          more = record {
            owners = b.owners ++ replicate added i;
            leaves = lowers.extends.leaves ∙ b.leaves;
            cost = let a = b.cost in let e = sum_more done in let d = lowers.cost in omega arith;
            size = lowers.size ∙ b.size;
            each_leaf = λ x n e. same_net x (inl (leaf_is_given x (leaf_among (leaf_names m) n x e))) ∙ b.each_leaf x n e;
            by = λ n h. by n (among_either (driven_by file library l.what) settled n h);
            gates =
                more_gates i added l.what (map (nets_of table) (read_by file library l.what)) b.gates (statement_at_place m i l at) c (λ h. later (b.owned i (among b.owners i h)))
                lowers.extends.leaves lowers.extends.gates longer (let d = lowers.cost in let e = lowers.extends.leaves in let f = longer in omega arith) lowers.reads its_reads;
            owned = λ o h. owned o (among_either b.owners (replicate added i) o h);
            combining = λ j k h at_j. combining j k at_j (among_either done (i ∷ []) j h);
            driven = λ j k x h at_j d. driven j k x at_j d (among_either done (i ∷ []) j h);
            each = λ t h. each t (among_either (statements_at m done) (l.what ∷ []) t (subst (λ (ss : List Statement). Among t ss) (one_more file library m is i l at c done) h));
          }
            where
              by : (n : Name) → Among n (driven_by file library l.what) ⊎ Among n settled → IsKnownBy file library m (done ++ i ∷ []) n
              by n (inl d) = inr (i, l, among_back done (i ∷ []) i (inl refl), at, d)
              by n (inr h) = elim (b.by n h) [ inl g ↦ inl g | inr k ↦ inr (k.0, k.1, among_front done (i ∷ []) k.0 k.2, k.3, k.4) ]

              owned : (o : ℕ) → Among o b.owners ⊎ Among o (replicate added i) → Among o (done ++ i ∷ [])
              owned o (inl h) = among_front done (i ∷ []) o (b.owned o h)
              owned o (inr h) = among_back done (i ∷ []) o (inl (sym (among_copies added i o h)))

              combining : (j : ℕ) (k : Located) → slice_get m.statements j ≡ Some k → Among j done ⊎ Among j (i ∷ []) → IsTrue (combines k.what)
              combining j k at_j (inl h) = b.combining j k h at_j
              combining j k at_j (inr (inl e)) = subst (λ (y : Located). IsTrue (combines y.what)) (same_there m.statements i l k at (ap (slice_get m.statements) e ∙ at_j)) c
              combining j k at_j (inr (inr h)) = absurd h

              driven : (j : ℕ) (k : Located) (x : Name) → slice_get m.statements j ≡ Some k → Among x (driven_by file library k.what) → Among j done ⊎ Among j (i ∷ [])
                  → IsGateOf m leaf_count (b.owners ++ replicate added i) k.what (nets_of noted x)
              driven j k x at_j d (inl h) =
                  subst (IsGateOf m leaf_count (b.owners ++ replicate added i) k.what) (sym (same_net x (inr (j, k, h, at_j, d)))) (gate_kept (replicate added i) (b.driven j k x h at_j d))
              driven j k x at_j d (inr (inl e)) =
                  let same : l ≡ k = same_there m.statements i l k at (ap (slice_get m.statements) e ∙ at_j) in
                  subst (λ (y : Located). IsGateOf m leaf_count (b.owners ++ replicate added i) y.what (nets_of noted x)) same (its_gate x (subst (λ (y : Located). Among x (driven_by file library y.what)) (sym same) d))
              driven j k x at_j d (inr (inr h)) = absurd h

              each : (t : Statement) → Among t (statements_at m done) ⊎ Among t (l.what ∷ []) → IsDone (driven_by file library l.what ++ settled) new noted t
              each t (inl h) = still_done t (b.each t h)
              each t (inr (inl e)) = subst (IsDone (driven_by file library l.what ++ settled) new noted) e now_done
              each t (inr (inr h)) = absurd h
