-- Statements in order drive settled nets, and what can't be ordered is unsettled.
use Rattle.std.proofs.Common.{◌≡◌, refl, sym, ap, subst, ◌≤◌, List, [], ◌∷◌, ◌++◌, length, map, Bool, true, false, cond, ◌⊎◌, inl, inr, Some, arith, Contains}
use Rattle.std.specs.Prelude.{IsTrue, slice_get}
use Rattle.std.specs.List.{AllByRecursion, flat_map}
use Rattle.std.specs.Cmp.Lexicographic.{bytes_decides}
use Rattle.netlist_spec.specs.Netlist.{Name, same_name, stands_in, are_distinct, Statement, Model, File}
use Rattle.netlist_spec.specs.Covers.{Library}
use Rattle.netlist_spec.specs.Sound.{combines, drives, reads, HasOneDriverEach, ReadsFor, LeadsBack, IsLoop}
use Rattle.netlist_spec.specs.SoundFaults.{IsUnsettled, LeadsTo, IsFirstUnsettled, WalksTo, WalksAlong, IsWalkedLoop}
use Rattle.source_laws.specs.Settling.{given_nets, AreLeftOver, AreOrdered, OthersAreLeft, AreTheUnsettled, first_left, FollowsTo, FollowsAlong}
use Rattle.source_laws.proofs.Lists.{Among, among, all_among, among_all, among_either, among_flat, stands, standing, without, without_keeps, shorter, both}
use Rattle.source_laws.proofs.Loops.{left_over}
use Rattle.source_laws.proofs.Drivers.{one_driver, given_read_nothing}

module _ (file : File) (library : Library) (m : Model) where
  -- the reads of a loop, from one of its nets to the first
  leads_round : (first k : Name) (rest : List Name) → LeadsBack file library m first (k ∷ rest) → LeadsTo file library m k (rest ++ first ∷ []) first
  leads_round first k [] w = (w, refl)
  leads_round first k (j ∷ rest) w = (w.0, leads_round first j rest w.1)

  -- an unsettled net reads an unsettled one
  pub one_on : (n : Name) → IsUnsettled file library m n → (k : Name) × ReadsFor file library m n k × IsUnsettled file library m k
  one_on n u = on_way u.way u.entry u.others u.leads u.enters
    where
      in_loop : (e : Name) (others : List Name) → IsLoop file library m (e ∷ others) → (k : Name) × ReadsFor file library m e k × IsUnsettled file library m k
      in_loop e [] l = (e, l, record { way = []; entry = e; others = []; leads = refl; enters = l })
      in_loop e (k ∷ rest) l = (k, l.0, record { way = rest ++ e ∷ []; entry = e; others = k ∷ rest; leads = leads_round e k rest l.1; enters = l })

      on_way : (way : List Name) (e : Name) (others : List Name) → LeadsTo file library m n way e → IsLoop file library m (e ∷ others) → (k : Name) × ReadsFor file library m n k × IsUnsettled file library m k
      on_way [] e others w l = subst (λ x. (k : Name) × ReadsFor file library m x k × IsUnsettled file library m k) (sym w) (in_loop e others l)
      on_way (k ∷ rest) e others w l = (k, w.0, record { way = rest; entry = e; others = others; leads = w.1; enters = l })

  pub loop_is_unsettled : (ns : List Name) → IsLoop file library m ns → (n : Name) × IsUnsettled file library m n
  loop_is_unsettled [] l = absurd l
  loop_is_unsettled (n ∷ rest) l = (n, record { way = []; entry = n; others = rest; leads = refl; enters = l })

  abbrev Settled : Name → Type 0
  Settled n = IsUnsettled file library m n → ⊥

  settled_by_reads : (n : Name) → ((k : Name) → ReadsFor file library m n k → Settled k) → Settled n
  settled_by_reads n all u = let (k, r, v) = one_on n u in all k r v

  module _ (one : HasOneDriverEach file library m) where
    pub given_settled : (n : Name) → Among n (given_nets m) → Settled n
    given_settled n h = settled_by_reads n (λ k r. absurd (given_read_nothing file library m one n k h r))

    -- a statement that reads settled nets drives settled nets
    drives_settled : (s : Statement) → Contains (map (λ l. l.what) m.statements) s → ((k : Name) → Among k (reads file library s) → Settled k) → (n : Name) → Among n (drives file library s) → Settled n
    drives_settled s in_s all n d =
        settled_by_reads n (λ k r.
        let (t, in_t, c, d_t, r_t) = r in
        let same : t ≡ s = one_driver file library m one n t s (among (map (λ l. l.what) m.statements) t in_t) (among (map (λ l. l.what) m.statements) s in_s) (standing n (drives file library t) d_t) d in
        all k (subst (λ w. Among k (reads file library w)) same (standing k (reads file library t) r_t)))

    ordered_from : (settled : List Name) (order : List Statement) → ((n : Name) → Among n settled → Settled n) → AreOrdered file library m settled order
        → (n : Name) → Among n (flat_map (drives file library) order) → Settled n
    ordered_from settled [] before o n h = absurd h
    ordered_from settled (s ∷ ss) before o n h =
        elim (among_either (drives file library s) (flat_map (drives file library) ss) n h) [
          | inl a ↦ here n a
          | inr b ↦ ordered_from (drives file library s ++ settled) ss (λ k g. elim (among_either (drives file library s) settled k g) [ inl a ↦ here k a | inr b ↦ before k b ]) o.2 n b
        ]
      where
        here : (k : Name) → Among k (drives file library s) → Settled k
        here k a = drives_settled s o.0 (λ j r. before j (standing j settled (all_among (λ k. IsTrue (stands_in k settled)) (reads file library s) o.1 j r))) k a

    pub ordered_settle : (order : List Statement) → AreOrdered file library m (given_nets m) order → AllByRecursion Settled (flat_map (drives file library) order)
    ordered_settle order o = among_all Settled (flat_map (drives file library) order) (ordered_from (given_nets m) order given_settled o)

    -- an unsettled net is left over
    unsettled_is_left : (order : List Statement) (left : List Name) → AreOrdered file library m (given_nets m) order → OthersAreLeft file library m order left → (n : Name) → IsUnsettled file library m n → Among n left
    unsettled_is_left order left o others n u =
        let (k, (s, in_s, c, d, r), v) = one_on n u in
        elim (all_among (λ s. IsTrue (combines s) → Contains order s ⊎ AllByRecursion (λ n. IsTrue (stands_in n left)) (drives file library s)) (map (λ l. l.what) m.statements) others s (among (map (λ l. l.what) m.statements) s in_s) c) [
          | inl ordered ↦
              absurd (all_among Settled (flat_map (drives file library) order) (ordered_settle order o) n
              (among_flat (drives file library) order s n (among order s ordered) (standing n (drives file library s) d)) u)
          | inr all ↦ standing n left (all_among (λ n. IsTrue (stands_in n left)) (drives file library s) all n (standing n (drives file library s) d))
        ]

    pub no_loop : (order : List Statement) → AreOrdered file library m (given_nets m) order → OthersAreLeft file library m order []
        → ((ns : List Name) → IsLoop file library m ns → ⊥) × ((n : Name) → IsUnsettled file library m n → ⊥)
    no_loop order o others =
        let none : (n : Name) → IsUnsettled file library m n → ⊥ = λ n u. unsettled_is_left order [] o others n u in
        ((λ ns l. let (n, u) = loop_is_unsettled ns l in none n u), none)

    pub exact : (order : List Statement) (left : List Name) → AreOrdered file library m (given_nets m) order → AreLeftOver file library m left → OthersAreLeft file library m order left → AreTheUnsettled file library m left
    exact order left o over others n =
        ((λ u. stands n left (unsettled_is_left order left o others n u)), λ h. all_among (IsUnsettled file library m) left (left_over file library m left over) n (standing n left h))

  module _ (left : List Name) (are : AreTheUnsettled file library m left) where
    settled_unless : (n : Name) → stands_in n left ≡ false → Settled n
    settled_unless n h u = let e : stands_in n left ≡ true = (are n).0 u in cc (e, h)

    pub first_unsettled : (ns : List Name) (n : Name) → first_left file library m left ns ≡ Some n → IsFirstUnsettled file library m ns n
    first_unsettled [] n e = cc e
    first_unsettled (k ∷ ns) n e = by_case (stands_in k left) refl e (first_unsettled ns n)
      where
        by_case : (b : Bool) → stands_in k left ≡ b → cond b (Some k) (first_left file library m left ns) ≡ Some n
            → (first_left file library m left ns ≡ Some n → IsFirstUnsettled file library m ns n) → IsFirstUnsettled file library m (k ∷ ns) n
        by_case true h e later =
            let same : k ≡ n = cc e in
            record { before = []; after = ns; split = ap (λ x. x ∷ ns) same; unsettled = subst (IsUnsettled file library m) same ((are k).1 h); settled_before = tt }
        by_case false h e later =
            let f = later e in
            record { before = k ∷ f.before; after = f.after; split = ap (λ xs. k ∷ xs) f.split; unsettled = f.unsettled; settled_before = (settled_unless k h, f.settled_before) }

    walks_to : (n k : Name) → FollowsTo file library m left n k → WalksTo file library m n k
    walks_to n k (s, in_s, c, d, e) = record { driver = s; stands = in_s; reads_on = c; of_net = d; next = first_unsettled (reads file library s) k e }

    walks_along : (ns : List Name) (end : Name) → FollowsAlong file library m left ns end → WalksAlong file library m ns end
    walks_along [] end f = f
    walks_along (n ∷ []) end f = walks_to n end f
    walks_along (n ∷ k ∷ rest) end f = (walks_to n k f.0, walks_along (k ∷ rest) end f.1)

    pub told_loop : (front others : List Name) (start first : Name) → first_left file library m left m.names ≡ Some start → slice_get (front ++ first ∷ others) 0 ≡ Some start
        → FollowsAlong file library m left (front ++ first ∷ others) first → IsTrue (are_distinct (front ++ first ∷ others)) → IsWalkedLoop file library m (first ∷ others)
    told_loop front others start first e b f d =
        record {
          start = start;
          is_start = first_unsettled m.names start e;
          front = front;
          first = first;
          others = others;
          cycle = refl;
          begins = b;
          walks = walks_along (front ++ first ∷ others) first f;
          once = d;
        }

pub distinct_fit : (ns all : List Name) → IsTrue (are_distinct ns) → AllByRecursion (λ n. IsTrue (stands_in n all)) ns → length ns ≤ length all
distinct_fit [] all d s = omega arith
distinct_fit (n ∷ ns) all d s =
    let parts = both (stands_in n ns) (are_distinct ns) d in
    let rest = distinct_fit ns (without n all) parts.1 (among_all (λ k. IsTrue (stands_in k (without n all))) ns (λ k h. stands k (without n all) (kept k h (same_name n k) refl parts.0))) in
    let less = shorter n all (standing n all s.0) in
    omega arith
  where
    kept : (k : Name) → Among k ns → (b : Bool) → same_name n k ≡ b → stands_in n ns ≡ false → Among k (without n all)
    kept k h true e f =
        let same : k ≡ n = sym ((bytes_decides n k).0 e) in
        let in_ns : stands_in n ns ≡ true = stands n ns (subst (λ x. Among x ns) same h) in
        cc (in_ns, f)
    kept k h false e f = without_keeps n k all e (standing k all (all_among (λ n. IsTrue (stands_in n all)) ns s.1 k h))
