-- From an order of numbers to an order of statements.
use Rattle.std.proofs.Common.{◌≡◌, ◌⊎◌, inl, inr, refl, sym, ◌∙◌, ap, subst, ℕ, ◌<◌, true, List, [], ◌∷◌, ◌++◌, length, map, take, get_or, Option, Some, None, slice_get, IsTrue, Contains, append-nil, append_assoc, arith, length-append}
use Rattle.std.specs.Prelude.{option_map}
use Rattle.std.specs.List.{AllByRecursion, flat_map, cons_option}
use Rattle.std.proofs.lemmas.Grind.{flat_map-append}
use Rattle.std.proofs.lemmas.List.{get_or_at, take_at}
use Rattle.std.proofs.lemmas.List.Elements.{Contains-append_cases, Contains-get_or}
use Rattle.std.proofs.lemmas.Option.{slice_get_within}
use Rattle.netlist_spec.specs.Netlist.{Name, stands_in, Statement, Located, Model, File}
use Rattle.netlist_spec.specs.Covers.{Library}
use Rattle.netlist_spec.specs.Sound.{combines, drives, reads}
use Rattle.net_graph.specs.Chains.{IsMarked, ends_of}
use Rattle.net_graph.proofs.MarkLemmas.{none_among}
use Rattle.net_order.specs.Order.{IsOrder, IsKnown}
use Rattle.source_laws.specs.Settling.{given_nets, AreOrdered}
use Rattle.source_laws.proofs.Lists.{Among, among, contained, among_all, among_front, among_back, among_map, map_among, stands}
use Rattle.source_loops.specs.declared.nets.ModelNets.{ModelNets}
use Rattle.source_loops.specs.Nets.{name_of, AreNetsOf}
use Rattle.source_loops.specs.Orders.{statement_at, statements_at, IsModelOrder}
use Rattle.source_loops.proofs.NumberLemmas.{at_place, place_among, same_there}
use Rattle.source_loops.proofs.NetLemmas.{combining, combines_at, reads_at, read_within, drives_name, given_named}

-- a statement whose place stands in an order is one of its statements
pub ordered_statement : (m : Model) (order : List ℕ) (i : ℕ) (s : Located) → Contains order i → slice_get m.statements i ≡ Some s → Contains (statements_at m order) s.what
ordered_statement m order i s c at = contained (statements_at m order) s.what (there order (among order i c))
  where
    is : statement_at m i ≡ Some s.what
    is = ap (option_map (λ (l : Located). l.what)) at

    behind : (o : Option Statement) (ss : List Statement) → Among s.what ss → Among s.what (cons_option o ss)
    behind None ss h = h
    behind (Some t) ss h = inr h

    there : (places : List ℕ) → Among i places → Among s.what (statements_at m places)
    there [] h = absurd h
    there (j ∷ places) (inl e) = subst (λ (o : Option Statement). Among s.what (cons_option o (statements_at m places))) (sym (ap (statement_at m) e ∙ is)) (inl refl)
    there (j ∷ places) (inr h) = behind (statement_at m j) (statements_at m places) (there places h)

-- an element behind others of a list
place_here : (done rest order : List ℕ) (i : ℕ) → done ++ i ∷ rest ≡ order → (length done < length order) × (get_or order (length done) 0 ≡ i) × (take (length done) order ≡ done)
place_here done rest order i whole = (
  omega (arith, ap length whole, length-append done (i ∷ rest)),
  ap (λ l. get_or l (length done) 0) (sym whole) ∙ get_or_at done i rest 0 (length done) refl,
  ap (take (length done)) (sym whole) ∙ take_at done (i ∷ rest) (length done) refl,
)

module _ (file : File) (library : Library) (m : Model) (nets : ModelNets) (are : AreNetsOf file library m nets) where
  -- what is known as far as the first items are ordered is settled
  abbrev Settles : List ℕ → List Name → Type 0
  Settles done settled = (n : ℕ) → n < length m.names → IsKnown nets.drives nets.given.items done n → Among (name_of m.names n) settled

  settles_none : Settles [] (given_nets m)
  settles_none n within (inl g) = given_named file library m nets are n within g
  settles_none n within (inr c) = absurd (none_among n c)

  settles_more : (done : List ℕ) (i : ℕ) (s : Located) (settled : List Name) → slice_get m.statements i ≡ Some s → Settles done settled → Settles (done ++ i ∷ []) (drives file library s.what ++ settled)
  settles_more done i s settled at known n within (inl g) = among_back (drives file library s.what) settled (name_of m.names n) (known n within (inl g))
  settles_more done i s settled at known n within (inr c) = by (Contains-append_cases (flat_map (ends_of nets.drives) done) (flat_map (ends_of nets.drives) (i ∷ [])) n (subst (λ l. Contains l n) (flat_map-append (ends_of nets.drives) done (i ∷ [])) c))
    where
      by : Contains (flat_map (ends_of nets.drives) done) n ⊎ Contains (flat_map (ends_of nets.drives) (i ∷ [])) n → Among (name_of m.names n) (drives file library s.what ++ settled)
      by (inl d) = among_back (drives file library s.what) settled (name_of m.names n) (known n within (inr d))
      by (inr d) = among_front (drives file library s.what) settled (name_of m.names n) (drives_name file library m nets are i n s at (subst (λ l. Contains l n) (append-nil (ends_of nets.drives i)) d))

  module _ (order : List ℕ) (o : IsOrder nets.reads nets.drives nets.combines.items nets.given.items order) where
    reads_settled : (done rest : List ℕ) (i : ℕ) (s : Located) (settled : List Name) → done ++ i ∷ rest ≡ order → slice_get m.statements i ≡ Some s → Settles done settled → AllByRecursion (λ k. IsTrue (stands_in k settled)) (reads file library s.what)
    reads_settled done rest i s settled whole at known =
        subst (AllByRecursion (λ k. IsTrue (stands_in k settled))) (reads_at file library m nets are i s at) (among_all (λ k. IsTrue (stands_in k settled)) (map (name_of m.names) (ends_of nets.reads i)) one)
      where
        one : (k : Name) → Among k (map (name_of m.names) (ends_of nets.reads i)) → stands_in k settled ≡ true
        one k h =
            let r = map_among (name_of m.names) (ends_of nets.reads i) k h in
            let c : Contains (ends_of nets.reads i) r.0 = contained (ends_of nets.reads i) r.0 r.1 in
            let p = place_here done rest order i whole in
            let before = o.known (length done) p.0 r.0 (subst (λ j. Contains (ends_of nets.reads j) r.0) (sym p.1) c) in
            let there = known r.0 (read_within file library m nets are i r.0 c) (subst (λ l. IsKnown nets.drives nets.given.items l r.0) p.2 before) in
            stands k settled (subst (λ x. Among x settled) r.2 there)

    ordered_from : (done rest : List ℕ) (settled : List Name) → done ++ rest ≡ order → Settles done settled → AreOrdered file library m settled (statements_at m rest)
    ordered_from done [] settled whole known = tt
    ordered_from done (i ∷ rest) settled whole known =
        let p = place_here done rest order i whole in
        let r = combining file library m nets are i (o.items i (subst (Contains order) p.1 (Contains-get_or order (length done) 0 p.0))) in
        subst (λ (q : Option Statement). AreOrdered file library m settled (cons_option q (statements_at m rest))) (sym (ap (option_map (λ (l : Located). l.what)) r.1)) (
          contained (map (λ (l : Located). l.what) m.statements) r.0.what (among_map (λ (l : Located). l.what) m.statements r.0 (place_among m.statements i r.0 r.1)),
          reads_settled done rest i r.0 settled whole r.1 known,
          ordered_from (done ++ i ∷ []) rest (drives file library r.0.what ++ settled) (append_assoc done (i ∷ []) rest ∙ whole) (settles_more done i r.0 settled r.1 known),
        )

    pub statements_ordered : AreOrdered file library m (given_nets m) (statements_at m order)
    statements_ordered = ordered_from [] order (given_nets m) refl settles_none

    -- where each item that combines is ordered, this is an order of the model
    pub model_order : ((i : ℕ) → IsMarked nets.combines.items i → Contains order i) → IsModelOrder file library m order
    model_order each =
        record {
          within = λ k d h.
              let r = combining file library m nets are (get_or order k d) (o.items (get_or order k d) (Contains-get_or order k d h)) in
              slice_get_within m.statements (get_or order k d) r.0 r.1;
          once = o.once;
          combining = λ i s c at.
              let r = combining file library m nets are i (o.items i c) in
              ap (λ (l : Located). combines l.what) (same_there m.statements i s r.0 at r.1) ∙ r.2;
          each = λ i s at c. each i (combines_at file library m nets are i s at c);
          ordered = statements_ordered;
          others = among_all (λ s. IsTrue (combines s) → Contains (statements_at m order) s ⊎ AllByRecursion (λ n. IsTrue (stands_in n [])) (drives file library s)) (map (λ (l : Located). l.what) m.statements)
              (λ s h c.
              let r = map_among (λ (l : Located). l.what) m.statements s h in
              let p = at_place m.statements r.0 r.1 in
              inl (subst (Contains (statements_at m order)) r.2 (ordered_statement m order p.0 r.0 (each p.0 (combines_at file library m nets are p.0 r.0 p.1 (ap combines r.2 ∙ c))) p.1)));
        }
