-- The statements of a sound model can be ordered: what can't be enters a loop.
use Rattle.std.proofs.Common.{◌≡◌, refl, sym, ap, subst, ℕ, zero, suc, ◌+◌, ◌<◌, ◌≤◌, List, [], ◌∷◌, ◌++◌, length, map, filter, Bool, true, false, cond, ◌⊎◌, inl, inr, arith, Contains}
use Rattle.std.specs.Prelude.{IsTrue}
use Rattle.std.specs.List.{AllByRecursion, flat_map}
use Rattle.netlist_spec.specs.Netlist.{Name, stands_in, Statement, Located, Model, File}
use Rattle.netlist_spec.specs.Covers.{Library}
use Rattle.netlist_spec.specs.Sound.{combines, drives, reads, ReadsFor, IsSoundModel}
use Rattle.netlist_spec.specs.SoundFaults.{IsUnsettled}
use Rattle.netlist_spec.proofs.Occurrences.{occ, occ_append, stands_occ}
use Rattle.source_laws.specs.Settling.{given_nets, AreLeftOver, AreOrdered, OthersAreLeft}
use Rattle.source_laws.proofs.Lists.{Among, contained, all_among, among_all, among_front, among_back, among_either, among_flat, flat_among, among_filter, filter_among, stands, standing}
use Rattle.source_laws.proofs.Loops.{left_over}
use Rattle.source_laws.proofs.Drivers.{drives_once, given_is_not_driven}
use Rattle.source_laws.proofs.Agree.{given_or_combined, driven_where_read, read_by}

module _ (file : File) (library : Library) (m : Model) (is : IsSoundModel file library m) where
  abbrev own_nets : List Statement → List Name
  own_nets ss = flat_map (drives file library) ss

  all_or_one : (settled ns : List Name) → AllByRecursion (λ k. IsTrue (stands_in k settled)) ns ⊎ ((k : Name) × Among k ns × (stands_in k settled ≡ false))
  all_or_one settled [] = inl tt
  all_or_one settled (n ∷ ns) = by_case (stands_in n settled) refl (all_or_one settled ns)
    where
      by_case : (b : Bool) → stands_in n settled ≡ b → AllByRecursion (λ k. IsTrue (stands_in k settled)) ns ⊎ ((k : Name) × Among k ns × (stands_in k settled ≡ false))
          → (IsTrue (stands_in n settled) × AllByRecursion (λ k. IsTrue (stands_in k settled)) ns) ⊎ ((k : Name) × ((n ≡ k) ⊎ Among k ns) × (stands_in k settled ≡ false))
      by_case false e rest = inr (n, inl refl, e)
      by_case true e (inl a) = inl (e, a)
      by_case true e (inr f) = inr (f.0, inr f.1, f.2)

  abbrev IsStuck : List Name → Statement → Type 0
  IsStuck settled s = (k : Name) × Among k (reads file library s) × (stands_in k settled ≡ false)

  -- a statement that reads settled nets alone, and the others
  record Picked (settled : List Name) (todo : List Statement) : Type 0 where
    first : Statement
    others : List Statement
    stands_there : Among first todo
    ready : AllByRecursion (λ k. IsTrue (stands_in k settled)) (reads file library first)
    fewer : length todo ≡ suc (length others)
    parts : (t : Statement) → Among t todo → (first ≡ t) ⊎ Among t others
    within : (t : Statement) → Among t others → Among t todo
    counts : (n : Name) → occ n (own_nets todo) ≡ occ n (drives file library first) + occ n (own_nets others)

  pick : (settled : List Name) (todo : List Statement) → Picked settled todo ⊎ AllByRecursion (IsStuck settled) todo
  pick settled [] = inr tt
  pick settled (s ∷ todo) = by_case (all_or_one settled (reads file library s)) (pick settled todo)
    where
      by_case : AllByRecursion (λ k. IsTrue (stands_in k settled)) (reads file library s) ⊎ IsStuck settled s → Picked settled todo ⊎ AllByRecursion (IsStuck settled) todo → Picked settled (s ∷ todo) ⊎ (IsStuck settled s × AllByRecursion (IsStuck settled) todo)
      by_case (inl ready) later =
          inl (record {
            first = s;
            others = todo;
            stands_there = inl refl;
            ready = ready;
            fewer = refl;
            parts = λ t h. h;
            within = λ t h. inr h;
            counts = λ n. occ_append n (drives file library s) (own_nets todo);
          })
      by_case (inr stuck) (inl p) =
          inl (record {
            first = p.first;
            others = s ∷ p.others;
            stands_there = inr p.stands_there;
            ready = p.ready;
            fewer = ap suc p.fewer;
            parts = λ t h. elim h [ inl e ↦ inr (inl e) | inr g ↦ elim (p.parts t g) [ inl e ↦ inl e | inr k ↦ inr (inr k) ] ];
            within = λ t h. elim h [ inl e ↦ inl e | inr g ↦ inr (p.within t g) ];
            counts = λ n.
                let a : occ n (drives file library s ++ own_nets todo) ≡ occ n (drives file library s) + occ n (own_nets todo) = occ_append n (drives file library s) (own_nets todo) in
                let b : occ n (drives file library s ++ own_nets p.others) ≡ occ n (drives file library s) + occ n (own_nets p.others) = occ_append n (drives file library s) (own_nets p.others) in
                let c = p.counts n in
                omega arith;
          })
      by_case (inr stuck) (inr all) = inr (stuck, all)

  -- Ordered statements that drive nets which no earlier one drives, and statements that are stuck.
  pub data IsFresh : List Name → List Statement → Type 0 where
    fresh_end : {settled : List Name} → IsFresh settled []
    fresh_more : {settled : List Name} {s : Statement} {ss : List Statement} → ((n : Name) → Among n (drives file library s) → stands_in n settled ≡ false) → IsFresh (drives file library s ++ settled) ss → IsFresh settled (s ∷ ss)

  record Sorted (settled : List Name) (todo : List Statement) : Type 0 where
    order : List Statement
    left : List Statement
    final : List Name
    ordered : AreOrdered file library m settled order
    fresh : IsFresh settled order
    covers : (t : Statement) → Among t todo → Among t order ⊎ Among t left
    order_within : (t : Statement) → Among t order → Among t todo
    left_within : (t : Statement) → Among t left → Among t todo
    stuck : AllByRecursion (IsStuck final) left
    keeps : (k : Name) → Among k settled → Among k final
    has : (t : Statement) (k : Name) → Among t order → Among k (drives file library t) → Among k final

  sort : (fuel : ℕ) (settled : List Name) (todo : List Statement) → length todo < fuel → ((t : Statement) → Among t todo → Among t (map (λ l. l.what) m.statements))
      → ((n : Name) → occ n (own_nets todo) ≤ 1) → ((t : Statement) (n : Name) → Among t todo → Among n (drives file library t) → stands_in n settled ≡ false) → Sorted settled todo
  sort zero settled todo h in_model once apart = absurd (omega arith)
  sort (suc fuel) settled todo h in_model once apart = by_case (pick settled todo) (λ others shorter. sort fuel (drives file library others.first ++ settled) others.others shorter)
    where
      not_true : (b : Bool) → (b ≡ true → ⊥) → b ≡ false
      not_true true f = absurd (f refl)
      not_true false f = refl

      by_case : Picked settled todo ⊎ AllByRecursion (IsStuck settled) todo
          → ((p : Picked settled todo) → length p.others < fuel → ((t : Statement) → Among t p.others → Among t (map (λ l. l.what) m.statements)) → ((n : Name) → occ n (own_nets p.others) ≤ 1)
          → ((t : Statement) (n : Name) → Among t p.others → Among n (drives file library t) → stands_in n (drives file library p.first ++ settled) ≡ false) → Sorted (drives file library p.first ++ settled) p.others)
          → Sorted settled todo
      by_case (inr stuck) later =
          record { order = []; left = todo; final = settled; ordered = tt; fresh = fresh_end; covers = λ t g. inr g; order_within = λ t g. absurd g; left_within = λ t g. g; stuck = stuck; keeps = λ k g. g; has = λ t k g e. absurd g }
      by_case (inl p) later =
          let rest =
          later p (let e = p.fewer in omega arith) (λ t g. in_model t (p.within t g)) (λ n. let a = once n in let b = p.counts n in omega arith)
          (λ t n g d. not_true (stands_in n (drives file library p.first ++ settled)) (λ e.
          elim (among_either (drives file library p.first) settled n (standing n (drives file library p.first ++ settled) e)) [
            | inl own ↦
                let a = once n in
                let b = p.counts n in
                let c : 1 ≤ occ n (drives file library p.first) = stands_occ n (drives file library p.first) (stands n (drives file library p.first) own) in
                let f : 1 ≤ occ n (own_nets p.others) = stands_occ n (own_nets p.others) (stands n (own_nets p.others) (among_flat (drives file library) p.others t n g d)) in
                omega arith
            | inr old ↦ let f = apart t n (p.within t g) d in let s = stands n settled old in cc (f, s)
          ])) in
          record {
            order = p.first ∷ rest.order;
            left = rest.left;
            final = rest.final;
            ordered = (contained (map (λ l. l.what) m.statements) p.first (in_model p.first p.stands_there), p.ready, rest.ordered);
            fresh = fresh_more (λ n d. apart p.first n p.stands_there d) rest.fresh;
            covers = λ t g. elim (p.parts t g) [ inl e ↦ inl (inl e) | inr k ↦ elim (rest.covers t k) [ inl a ↦ inl (inr a) | inr b ↦ inr b ] ];
            order_within = λ t g. elim g [ inl e ↦ subst (λ x. Among x todo) e p.stands_there | inr i ↦ p.within t (rest.order_within t i) ];
            left_within = λ t g. p.within t (rest.left_within t g);
            stuck = rest.stuck;
            keeps = λ k g. rest.keeps k (among_back (drives file library p.first) settled k g);
            has = λ t k g d. elim g [
              | inl e ↦ rest.keeps k (among_front (drives file library p.first) settled k (subst (λ x. Among k (drives file library x)) (sym e) d))
              | inr i ↦ rest.has t k i d
            ];
          }

  abbrev combining : List Statement
  combining = filter combines (map (λ l. l.what) m.statements)

  few_own : (n : Name) (ss : List Located) → occ n (own_nets (filter combines (map (λ l. l.what) ss))) ≤ occ n (flat_map (λ s. drives file library s.what) ss)
  few_own n [] = omega arith
  few_own n (s ∷ ss) =
      by_case (combines s.what) (few_own n ss) (occ_append n (drives file library s.what) (flat_map (λ s. drives file library s.what) ss)) (occ_append n (drives file library s.what) (own_nets (filter combines (map (λ l. l.what) ss))))
    where
      by_case : (b : Bool) → occ n (own_nets (filter combines (map (λ l. l.what) ss))) ≤ occ n (flat_map (λ s. drives file library s.what) ss)
          → occ n (drives file library s.what ++ flat_map (λ s. drives file library s.what) ss) ≡ occ n (drives file library s.what) + occ n (flat_map (λ s. drives file library s.what) ss)
          → occ n (drives file library s.what ++ own_nets (filter combines (map (λ l. l.what) ss))) ≡ occ n (drives file library s.what) + occ n (own_nets (filter combines (map (λ l. l.what) ss)))
          → occ n (own_nets (cond b (s.what ∷ filter combines (map (λ l. l.what) ss)) (filter combines (map (λ l. l.what) ss)))) ≤ occ n (drives file library s.what ++ flat_map (λ s. drives file library s.what) ss)
      by_case true h a b = omega arith
      by_case false h a b = omega arith

  absent : (n : Name) (ns : List Name) → (Among n ns → ⊥) → stands_in n ns ≡ false
  absent n ns f = by_case (stands_in n ns) refl
    where
      by_case : (b : Bool) → stands_in n ns ≡ b → stands_in n ns ≡ false
      by_case true e = absurd (f (standing n ns e))
      by_case false e = e

  sorted : Sorted (given_nets m) combining
  sorted =
      sort (suc (length combining)) (given_nets m) combining (omega arith)
      (λ t h. (filter_among combines (map (λ l. l.what) m.statements) t h).0)
      (λ n. let a = few_own n m.statements in let b = drives_once file library m is.drivers n in omega arith)
      (λ t n h d. let (in_model, c) = filter_among combines (map (λ l. l.what) m.statements) t h in absent n (given_nets m) (λ g. given_is_not_driven file library m is.drivers n t g in_model c d))

  module _ (r : Sorted (given_nets m) combining) (left_in_model : (t : Statement) → Among t r.left → Among t combining) where
    -- a statement that is stuck reads a net of one that is stuck
    stuck_on : (t : Statement) → Among t r.left → (k : Name) × Among k (reads file library t) × Among k (own_nets r.left)
    stuck_on t h =
        let (k, in_reads, unsettled) = all_among (IsStuck r.final) r.left r.stuck t h in
        let (in_model, c) = filter_among combines (map (λ l. l.what) m.statements) t (left_in_model t h) in
        let never : Among k r.final → ⊥ = λ g. let s = stands k r.final g in cc (s, unsettled) in
        elim (given_or_combined file library m k (driven_where_read file library m is k (read_by file library m is t in_model k in_reads))) [
          | inl g ↦ absurd (never (r.keeps k g))
          | inr d ↦
              let (u, u_in, u_combines, u_drives) = d in
              elim (r.covers u (among_filter combines (map (λ l. l.what) m.statements) u u_in u_combines)) [
                | inl o ↦ absurd (never (r.has u k o u_drives))
                | inr l ↦ (k, in_reads, among_flat (drives file library) r.left u k l u_drives)
              ]
        ]

    none_left : (t : Statement) → Among t r.left → ⊥
    none_left t h =
        let over : AreLeftOver file library m (own_nets r.left) = among_all (λ n. (k : Name) × ReadsFor file library m n k × IsTrue (stands_in k (own_nets r.left))) (own_nets r.left) (λ n g.
        let (u, u_in, u_drives) = flat_among (drives file library) r.left n g in
        let (u_model, c) = filter_among combines (map (λ l. l.what) m.statements) u (left_in_model u u_in) in
        let (k, in_reads, k_left) = stuck_on u u_in in
        (k, (u, contained (map (λ l. l.what) m.statements) u u_model, c, stands n (drives file library u) u_drives, stands k (reads file library u) in_reads), stands k (own_nets r.left) k_left)) in
        let (k, in_reads, k_left) = stuck_on t h in
        let u = all_among (IsUnsettled file library m) (own_nets r.left) (left_over file library m (own_nets r.left) over) k k_left in
        is.no_loop (u.entry ∷ u.others) u.enters

  -- an order of all statements that combine, each of which drives nets that no earlier one drives
  pub record FullOrder : Type 0 where
    pub order : List Statement
    pub ordered : AreOrdered file library m (given_nets m) order
    pub fresh : IsFresh (given_nets m) order
    pub combine : (t : Statement) → Among t order → IsTrue (combines t)
    pub all : (t : Statement) → Among t (map (λ l. l.what) m.statements) → IsTrue (combines t) → Among t order

  pub full_order : FullOrder
  full_order =
      let r = sorted in
      record {
        order = r.order;
        ordered = r.ordered;
        fresh = r.fresh;
        combine = λ t h. (filter_among combines (map (λ l. l.what) m.statements) t (r.order_within t h)).1;
        all = λ t h c. elim (r.covers t (among_filter combines (map (λ l. l.what) m.statements) t h c)) [ inl o ↦ o | inr l ↦ absurd (none_left r r.left_within t l) ];
      }

  pub some_order : (order : List Statement) × AreOrdered file library m (given_nets m) order × OthersAreLeft file library m order []
  some_order =
      let f = full_order in
      (f.order, f.ordered, among_all (λ s. IsTrue (combines s) → Contains f.order s ⊎ AllByRecursion (λ n. IsTrue (stands_in n [])) (drives file library s)) (map (λ l. l.what) m.statements) (λ s h c. inl (contained f.order s (f.all s h c))))
