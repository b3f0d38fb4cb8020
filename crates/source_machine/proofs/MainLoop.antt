-- The loop over the order of the main model.
use Rattle.std.proofs.Common.{◌≡◌, refl, sym, ◌∙◌, ap, subst, ℕ, ◌+◌, ◌^◌, ◌<◌, ◌≤◌, Bool, true, List, [], ◌∷◌, ◌++◌, length, map, take, drop, get_or, Option, Some, slice_get, IsTrue, Contains, arith, add-one}
use Rattle.std.specs.Prelude.{sum_by, option_map}
use Rattle.std.specs.List.{cons_option}
use Rattle.std.proofs.Math.Seq.{drop-cons}
use Rattle.std.proofs.lemmas.List.{take_more, take-append-drop, take_all, length-map}
use Rattle.std.proofs.lemmas.List.Elements.{Contains-get_or}
use Rattle.std.proofs.lemmas.List.Sums.{sum_by-cons}
use Rattle.netlist_spec.specs.Netlist.{Name, are_distinct, Statement, names, latch, subckt, Located, Model, File}
use Rattle.netlist_spec.specs.Reads.{IsNarrow}
use Rattle.netlist_spec.specs.Covers.{Library}
use Rattle.netlist_spec.specs.Models.{first_model, latches_of}
use Rattle.netlist_spec.specs.Size.{cost_of, main_cost}
use Rattle.netlist_spec.specs.Sound.{combines, drives as driven_by, IsMain, IsUsed, IsSound}
use Rattle.netlist_spec.specs.Gates.{GateList, AnswersWithin}
use Rattle.gate_net.specs.GateNet.{net_count}
use Rattle.source_laws.specs.Costs.{statements_of, IsDriver, AreGatesOf}
use Rattle.source_laws.specs.Nets.{NetsFit, NetsHold, no_statement, net_of_latch}
use Rattle.source_laws.specs.Numbered.{IsGateOf}
use Rattle.source_laws.specs.Settling.{given_nets, AreOrdered}
use Rattle.source_laws.proofs.Lists.{Among, among, among_all, map_among, standing}
use Rattle.source_laws.proofs.Nets.{nets_by_each}
use Rattle.source_loops.specs.Orders.{statement_at, statements_at, IsModelOrder}
use Rattle.source_loops.proofs.OrderLemmas.{ordered_statement}
use Rattle.source_nets.specs.declared.types.Source.{Source}
use Rattle.source_nets.specs.Ports.{source_file, source_library}
use Rattle.source_check.specs.declared.types.Checked.{Checked}
use Rattle.lowering.specs.Lowers.{CanLower, Lowers}
use Rattle.model_lowering.specs.Inside.{IsReady, CanLowerAll}
use Rattle.model_lowering.proofs.DistinctPlaces.{Once, once_of, once_front, not_before}
use Rattle.model_lowering.proofs.Places.{at_place, some_at}
use Rattle.model_lowering.proofs.Known.{names_distinct, narrow, order_of, stated}
use Rattle.source_machine.specs.Leaves.{HasLeaves}
use Rattle.source_machine.specs.Gates.{HasGates}
use Rattle.source_machine.proofs.Built.{Built, begun, can_lower, more, leaf_count, nets_of}

pub first_is_main : (file : File) (m : Model) → IsMain file m → slice_get file.models 0 ≡ Some m
first_is_main file m main = by_case file.models main
  where
    by_case : (ms : List Model) → first_model ms ≡ Some m → slice_get ms 0 ≡ Some m
    by_case [] e = cc e
    by_case (k ∷ ks) e = e

pub main_is_first : (file : File) (m : Model) → slice_get file.models 0 ≡ Some m → IsMain file m
main_is_first file m at = by_case file.models at
  where
    by_case : (ms : List Model) → slice_get ms 0 ≡ Some m → first_model ms ≡ Some m
    by_case [] e = cc e
    by_case (k ∷ ks) e = e

sum_of_map : (f : Statement → ℕ) (ls : List Located) → sum_by f (map (λ (l : Located). l.what) ls) ≡ sum_by (λ (l : Located). f l.what) ls
sum_of_map f [] = refl
sum_of_map f (l ∷ ls) =
    let a = sum_by-cons f l.what (map (λ (l : Located). l.what) ls) in
    let b = sum_by-cons (λ (l : Located). f l.what) l ls in
    let c = sum_of_map f ls in
    omega arith

module _ (file : File) (library : Library) (m : Model) where
  pub record Halfway (order : List ℕ) (i : ℕ) (net : GateList) (table : List ℕ) : Type 0 where
    pub settled : List Name
    pub built : Built file library m (take i order) settled net table
    pub ordered : AreOrdered file library m settled (statements_at m (drop i order))

  holds_if : (Answer : (ℕ → Bool) → Type 0) (nets : Name → ℕ) (s : Statement) → (IsTrue (combines s) → NetsHold file library Answer nets s) → NetsHold file library Answer nets s
  holds_if Answer nets (names ins out cover) h = h refl
  holds_if Answer nets (latch d q clocking init) h = net_of_latch no_statement
  holds_if Answer nets (subckt name binds) h = h refl

  module _ (sound : IsSound file library) (main : IsMain file m) where
    pub room : leaf_count file library m + sum_by (cost_of file library) (statements_of m) ≤ 2 ^ 23
    room =
        let small = sound.main m main in
        let a : main_cost file library (Some m) ≤ 1000000 = subst (λ (o : Option Model). main_cost file library o ≤ 1000000) main small.cost in
        let b = sum_of_map (cost_of file library) m.statements in
        let c = small.inputs in
        let d = small.latches in
        let e = length-map (latches_of m) (λ l. l.q) in
        omega arith

    module _ (order : List ℕ) (o : IsModelOrder file library m order) where
      once : Once order
      once = once_of order o.once

      pub halfway_none : (inputs : ℕ) (net : GateList) (table : List ℕ) → net.gates ≡ [] → HasLeaves m inputs net.leaves table → Halfway order 0 net table
      halfway_none inputs net table none has = record { settled = given_nets m; built = begun file library m inputs net table none has; ordered = o.ordered }

      module _ (i : ℕ) (mid : GateList) (table : List ℕ) (within : i < length order) (h : Halfway order i mid table) where
        abbrev pub place : ℕ
        place = get_or order i 0

        contained_here : Contains order place
        contained_here = Contains-get_or order i 0 within

        taken : take i order ++ place ∷ [] ≡ take (i + 1) order
        taken = sym (take_more order i 0 within)

        once_so_far : Once (take i order ++ place ∷ [])
        once_so_far = subst Once (sym taken) (once_front (take (i + 1) order) (drop (i + 1) order) (subst Once (sym (take-append-drop (i + 1) order)) once))

        later : Among place (take i order) → ⊥
        later = not_before (take i order) [] place once_so_far

        module _ (l : Located) (at : slice_get m.statements place ≡ Some l) where
          pub combines_here : IsTrue (combines l.what)
          combines_here = o.combining place l contained_here at

          first_left : statements_at m (drop i order) ≡ l.what ∷ statements_at m (drop (i + 1) order)
          first_left =
              let a : drop i order ≡ place ∷ drop (i + 1) order = rw add-one (drop-cons order i 0 within) in
              ap (statements_at m) a ∙ ap (λ (s : Option Statement). cons_option s (statements_at m (drop (i + 1) order))) (ap (option_map (λ (l : Located). l.what)) at)

          left : AreOrdered file library m h.settled (l.what ∷ statements_at m (drop (i + 1) order))
          left = subst (AreOrdered file library m h.settled) first_left h.ordered

          pub halfway_can : are_distinct m.names ≡ true → IsNarrow l.what → CanLower file library m.names l.what mid table
          halfway_can distinct thin =
              can_lower file library m sound main place l at combines_here (take i order) h.settled mid table h.built later left.1 distinct thin once_so_far room

          pub halfway_more : (new : GateList) (noted : List ℕ) → Lowers file library m.names l.what mid table new noted → Halfway order (i + 1) new noted
          halfway_more new noted lowers = record {
            settled = driven_by file library l.what ++ h.settled;
            built = subst (λ (js : List ℕ). Built file library m js (driven_by file library l.what ++ h.settled) new noted) taken
                (more file library m sound main place l at combines_here (take i order) h.settled mid table h.built later left.1 new noted lowers);
            ordered = left.2;
          }

      -- ---- at the end

      module _ (settled : List Name) (net : GateList) (table : List ℕ) (b : Built file library m order settled net table) where
        holds_in_order : (s : Statement) → Among s (statements_of m) → IsTrue (combines s) → NetsHold file library (AnswersWithin net (leaf_count file library m) (net_count net)) (nets_of file library m table) s
        holds_in_order s h c =
            let (l, in_l, e) = map_among (λ (l : Located). l.what) m.statements s h in
            let (j, at) = at_place m.statements l in_l in
            let listed = among (statements_at m order) l.what (ordered_statement m order j l (o.each j l at (subst (λ (t : Statement). IsTrue (combines t)) (sym e) c)) at) in
            subst (NetsHold file library (AnswersWithin net (leaf_count file library m) (net_count net)) (nets_of file library m table)) e (b.each l.what listed).holds

        driven_gate : (x : Name) (s : Statement) → IsDriver file library m s x → IsGateOf m (leaf_count file library m) b.owners s (nets_of file library m table x)
        driven_gate x s d =
            let (l, in_l, e) = map_among (λ (l : Located). l.what) m.statements s (among (statements_of m) s d.stands) in
            let (j, at) = at_place m.statements l in_l in
            let in_order = among order j (o.each j l at (subst (λ (t : Statement). IsTrue (combines t)) (sym e) d.combines)) in
            subst (λ (t : Statement). IsGateOf m (leaf_count file library m) b.owners t (nets_of file library m table x)) e
            (b.driven j l x in_order at (subst (λ (t : Statement). Among x (driven_by file library t)) (sym e) (standing x (driven_by file library s) d.drives)))

        finished : HasGates file library m net table
        finished = record {
          owners = b.owners;
          leaves = b.leaves;
          size = b.size;
          each = b.each_leaf;
          driven = λ x s d. subst (λ (k : ℕ). IsGateOf m k b.owners s (nets_of file library m table x)) (sym b.leaves) (driven_gate x s d);
          gates = subst (λ (k : ℕ). AreGatesOf file library m k b.owners net) (sym b.leaves) b.gates;
          fit =
              subst (λ (k : ℕ). NetsFit file library (AnswersWithin net k (net_count net)) m (nets_of file library m table)) (sym b.leaves)
              ((nets_by_each file library (AnswersWithin net (leaf_count file library m) (net_count net)) m (nets_of file library m table)).1
              (among_all (NetsHold file library (AnswersWithin net (leaf_count file library m) (net_count net)) (nets_of file library m table)) (statements_of m)
              (λ s h. holds_if (AnswersWithin net (leaf_count file library m) (net_count net)) (nets_of file library m table) s (holds_in_order s h))));
        }

      pub halfway_all : (i : ℕ) (net : GateList) (table : List ℕ) → length order ≤ i → Halfway order i net table → HasGates file library m net table
      halfway_all i net table past h = finished h.settled net table (subst (λ (js : List ℕ). Built file library m js h.settled net table) (take_all i order past) h.built)

module _ (source : Source) (checked : Checked) (ready : IsReady source checked) (m : Model) (main : IsMain (source_file source) m) (order : List ℕ) (there : slice_get (map (λ row. row.items) checked.orders.items) 0 ≡ Some order) where
  abbrev F : File
  F = source_file source

  abbrev L : Library
  L = source_library source

  abbrev pub first : slice_get F.models 0 ≡ Some m
  first = first_is_main F m main

  abbrev pub used : IsUsed F m
  used = (m, main, 0, refl)

  abbrev pub o : IsModelOrder F L m order
  o = order_of source checked ready 0 m first used order there

  pub loop_begins : (inputs : ℕ) (net : GateList) (table : List ℕ) → net.gates ≡ [] → HasLeaves m inputs net.leaves table → Halfway F L m order 0 net table
  loop_begins = halfway_none F L m ready.sound main order o

  module _ (i : ℕ) (mid : GateList) (table : List ℕ) (within : i < length order) (h : Halfway F L m order i mid table) where
    pub place_within : get_or order i 0 < length m.statements
    place_within = o.within i 0 within

    pub call_can : (s : Statement) → statement_at m (get_or order i 0) ≡ Some s → CanLowerAll F L m s 16 mid table
    call_can s e =
        let (l, there_l, same) = stated m (get_or order i 0) s place_within e in
        subst (λ (t : Statement). CanLowerAll F L m t 16 mid table) same
        (record {
          used = used;
          combines = combines_here F L m ready.sound main order o i mid table within h l there_l;
          shallow = λ c n chain. (ready.sound.main m main).shallow c n chain;
          can = halfway_can F L m ready.sound main order o i mid table within h l there_l (names_distinct source checked ready 0 m first) (narrow source checked ready 0 m first (get_or order i 0) l there_l);
        })

    pub loop_goes_on : (new : GateList) (noted : List ℕ) → ((s : Statement) → statement_at m (get_or order i 0) ≡ Some s → Lowers F L m.names s mid table new noted) → Halfway F L m order (i + 1) new noted
    loop_goes_on new noted lowers =
        let l = some_at m.statements (get_or order i 0) place_within in
        halfway_more F L m ready.sound main order o i mid table within h l.0 l.1 new noted (lowers l.0.what (ap (option_map (λ (l : Located). l.what)) l.1))

  pub loop_ends : (i : ℕ) (net : GateList) (table : List ℕ) → length order ≤ i → Halfway F L m order i net table → HasGates F L m net table
  loop_ends = halfway_all F L m ready.sound main order o
