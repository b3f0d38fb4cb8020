-- From nets that are left over and a walk over them, by number, to the loop that is told.
use Rattle.std.proofs.Common.{◌≡◌, ◌==◌, ◌⊎◌, inl, inr, refl, sym, ◌∙◌, ap, subst, ℕ, zero, suc, ◌<◌, ◌≤◌, Bool, true, false, cond, List, [], ◌∷◌, ◌++◌, length, map, filter, get_or, find, count_by, Some, slice_get, IsTrue, Contains, arith, zero-add}
use Rattle.std.specs.List.{AllByRecursion, range_with_len}
use Rattle.std.proofs.lemmas.List.{map-append}
use Rattle.std.proofs.lemmas.List.FromFn.{length-range_with_len, get_or-range_with_len}
use Rattle.netlist_spec.specs.Netlist.{Name, stands_in, are_distinct, Located, Model, File}
use Rattle.netlist_spec.specs.Covers.{Library}
use Rattle.netlist_spec.specs.Sound.{combines, drives, reads, HasOneDriverEach, ReadsFor}
use Rattle.netlist_spec.specs.SoundFaults.{IsWalkedLoop}
use Rattle.net_graph.specs.Chains.{IsMarked, ends_of}
use Rattle.net_graph.proofs.MarkLemmas.{marked_within}
use Rattle.net_order.specs.Order.{IsLeftOver, IsOrder, OthersAreLeft as NumbersAreLeft}
use Rattle.net_order.specs.Walks.{IsFirstMarked, IsWalkedFrom, first_left as first_number, FollowsTo as NumberFollows, FollowsAlong as NumbersFollow, IsWalkedLoop as IsWalkedByNumber}
use Rattle.source_laws.specs.Settling.{AreLeftOver, AreTheUnsettled, OthersAreLeft, first_left, FollowsTo, FollowsAlong}
use Rattle.source_laws.proofs.Lists.{Among, among, contained, all_among, among_all, among_filter, filter_among, among_map, map_among, stands, standing}
use Rattle.netlist_spec.proofs.OneValue.{All_back}
use Rattle.source_laws.proofs.Order.{exact, told_loop}
use Rattle.source_nets.proofs.SurveyLemmas.{row_at}
use Rattle.source_loops.specs.declared.nets.ModelNets.{ModelNets}
use Rattle.source_loops.specs.Nets.{name_of, AreNetsOf}
use Rattle.source_loops.specs.Drivers.{AreDrivers}
use Rattle.source_loops.specs.Orders.{statements_at}
use Rattle.source_loops.proofs.NumberLemmas.{at_place, place_among, counted_append, same_number, distinct_names}
use Rattle.source_loops.proofs.NetLemmas.{combining, combines_at, reads_at, drives_at, read_within, driven_within, reads_name, drives_name}
use Rattle.source_loops.proofs.OrderLemmas.{ordered_statement, statements_ordered}

-- ---- finding

both_true : (a b : Bool) → (a ≡ true → b ≡ true) → (b ≡ true → a ≡ true) → a ≡ b
both_true true b f g = sym (f refl)
both_true false true f g = g refl
both_true false false f g = refl

-- what is found in a list of names is the name of what is found in the list of numbers
find_named : (all : List Name) (q : Name → Bool) (p : ℕ → Bool) (ns : List ℕ) (k : ℕ) → ((n : ℕ) → Among n ns → q (name_of all n) ≡ p n) → find p ns ≡ Some k → find q (map (name_of all) ns) ≡ Some (name_of all k)
find_named all q p [] k same e = cc e
find_named all q p (n ∷ ns) k same e = at (p n) refl (find_named all q p ns k (λ j h. same j (inr h))) e
  where
    at : (b : Bool) → p n ≡ b → (find p ns ≡ Some k → find q (map (name_of all) ns) ≡ Some (name_of all k)) → cond b (Some n) (find p ns) ≡ Some k
        → cond (q (name_of all n)) (Some (name_of all n)) (find q (map (name_of all) ns)) ≡ Some (name_of all k)
    at true h rest f =
        let is : n ≡ k = cc f in
        ap (λ c. cond c (Some (name_of all n)) (find q (map (name_of all) ns))) (same n (inl refl) ∙ h) ∙ ap (λ j. Some (name_of all j)) is
    at false h rest f = ap (λ c. cond c (Some (name_of all n)) (find q (map (name_of all) ns))) (same n (inl refl) ∙ h) ∙ rest f

pub found_passes : (p : ℕ → Bool) (ns : List ℕ) (k : ℕ) → find p ns ≡ Some k → p k ≡ true
found_passes p [] k e = cc e
found_passes p (n ∷ ns) k e = at (p n) refl (found_passes p ns k) e
  where
    at : (b : Bool) → p n ≡ b → (find p ns ≡ Some k → p k ≡ true) → cond b (Some n) (find p ns) ≡ Some k → p k ≡ true
    at true h rest f = let is : n ≡ k = cc f in subst (λ j. p j ≡ true) is h
    at false h rest f = rest f

-- the first name that passes, by its number
find_first : (q : Name → Bool) (ns : List Name) (n : ℕ) → n < length ns → q (get_or ns n []) ≡ true → ((k : ℕ) → k < n → q (get_or ns k []) ≡ false) → find q ns ≡ Some (get_or ns n [])
find_first q [] n h t none = absurd (omega (arith, h))
find_first q (x ∷ ns) zero h t none = ap (λ b. cond b (Some x) (find q ns)) t
find_first q (x ∷ ns) (suc n) h t none =
    ap (λ b. cond b (Some x) (find q ns)) (none 0 (omega arith)) ∙ find_first q ns n (omega (arith, h)) t (λ k below. none (suc k) (omega (arith, below)))

-- ---- the names of marked numbers

pub left_names : List Name → List Bool → List Name
left_names all left = map (name_of all) (filter (λ k. get_or left k false) (range_with_len 0 (length all)))

among_range : (n k : ℕ) → k < n → Among k (range_with_len 0 n)
among_range n k h = among (range_with_len 0 n) k (k, omega (arith, h, length-range_with_len 0 n), get_or-range_with_len 0 n k k h ∙ zero-add k)

range_below : (n k : ℕ) → Among k (range_with_len 0 n) → k < n
range_below n k h =
    let c = contained (range_with_len 0 n) k h in
    let inside : c.0 < n = omega (arith, c.1, length-range_with_len 0 n) in
    omega (arith, inside, get_or-range_with_len 0 n c.0 k inside, c.2)

module _ (all : List Name) (distinct : IsTrue (are_distinct all)) (left : List Bool) where
  pub left_stands : (k : ℕ) → k < length all → IsMarked left k → Among (name_of all k) (left_names all left)
  unfolding left_names
  left_stands k h m = among_map (name_of all) (filter (λ k. get_or left k false) (range_with_len 0 (length all))) k (among_filter (λ k. get_or left k false) (range_with_len 0 (length all)) k (among_range (length all) k h) m)

  pub left_number : (x : Name) → Among x (left_names all left) → (k : ℕ) × (k < length all) × IsMarked left k × (name_of all k ≡ x)
  unfolding left_names
  left_number x h =
      let r = map_among (name_of all) (filter (λ k. get_or left k false) (range_with_len 0 (length all))) x h in
      let f = filter_among (λ k. get_or left k false) (range_with_len 0 (length all)) r.0 r.1 in
      (r.0, range_below (length all) r.0 f.0, f.1, r.2)

  -- a name is one of these exactly where its number is marked
  pub left_mark : (k : ℕ) → k < length all → stands_in (name_of all k) (left_names all left) ≡ get_or left k false
  left_mark k h =
      both_true (stands_in (name_of all k) (left_names all left)) (get_or left k false)
      (λ s. let r = left_number (name_of all k) (standing (name_of all k) (left_names all left) s) in subst (IsMarked left) (same_number all distinct r.0 k r.1 h r.3) r.2)
      (λ m. stands (name_of all k) (left_names all left) (left_stands k h m))

module _ (file : File) (library : Library) (m : Model) (nets : ModelNets) (are : AreNetsOf file library m nets) (left : List Bool) (size : length left ≡ length m.names) where
  abbrev pub LeftOver : ℕ → Type 0
  LeftOver n = IsLeftOver nets.reads nets.drives nets.combines.items left n

  within : (n : ℕ) → IsMarked left n → n < length m.names
  within n c = omega (arith, size, marked_within left n c)

  -- the item that drives a net left over has its place among the drivers
  pub driver_is : (drivers : List ℕ) → AreDrivers file library m drivers → (n : ℕ) (over : LeftOver n) → IsMarked left n → get_or drivers n 0 ≡ over.0
  driver_is drivers d n over c =
      let r = combining file library m nets are over.0 over.1 in
      (d.exact n over.0 r.0 (within n c) r.1).1 (r.2, stands (name_of m.names n) (drives file library r.0.what) (drives_name file library m nets are over.0 n r.0 r.1 over.2))

  names_left_over : ((n : ℕ) → IsMarked left n → LeftOver n) → AreLeftOver file library m (left_names m.names left)
  names_left_over over =
      among_all (λ n. (k : Name) × ReadsFor file library m n k × IsTrue (stands_in k (left_names m.names left))) (left_names m.names left)
      (λ x h. let r = left_number m.names are.given.distinct left x h in subst (λ n. (k : Name) × ReadsFor file library m n k × IsTrue (stands_in k (left_names m.names left))) r.3 (one r.0 (over r.0 r.2)))
    where
      one : (n : ℕ) → LeftOver n → (k : Name) × ReadsFor file library m (name_of m.names n) k × IsTrue (stands_in k (left_names m.names left))
      one n o =
          let r = combining file library m nets are o.0 o.1 in
          let k = o.3.0 in (
            name_of m.names k,
            (
              r.0.what,
              contained (map (λ (l : Located). l.what) m.statements) r.0.what (among_map (λ (l : Located). l.what) m.statements r.0 (place_among m.statements o.0 r.0 r.1)),
              r.2,
              stands (name_of m.names n) (drives file library r.0.what) (drives_name file library m nets are o.0 n r.0 r.1 o.2),
              stands (name_of m.names k) (reads file library r.0.what) (reads_name file library m nets are o.0 k r.0 r.1 o.3.1),
            ),
            stands (name_of m.names k) (left_names m.names left) (left_stands m.names are.given.distinct left k (within k o.3.2) o.3.2),
          )

  names_are_left : (order : List ℕ) → NumbersAreLeft nets.drives nets.combines.items left order → OthersAreLeft file library m (statements_at m order) (left_names m.names left)
  names_are_left order others =
      among_all (λ s. IsTrue (combines s) → Contains (statements_at m order) s ⊎ AllByRecursion (λ n. IsTrue (stands_in n (left_names m.names left))) (drives file library s)) (map (λ (l : Located). l.what) m.statements)
      (λ s h c.
      let r = map_among (λ (l : Located). l.what) m.statements s h in
      let p = at_place m.statements r.0 r.1 in
      subst (λ t. Contains (statements_at m order) t ⊎ AllByRecursion (λ n. IsTrue (stands_in n (left_names m.names left))) (drives file library t)) r.2
      (one p.0 r.0 p.1 (others p.0 (combines_at file library m nets are p.0 r.0 p.1 (ap combines r.2 ∙ c)))))
    where
      one : (i : ℕ) (s : Located) → slice_get m.statements i ≡ Some s → Contains order i ⊎ ((n : ℕ) → Contains (ends_of nets.drives i) n → IsMarked left n)
          → Contains (statements_at m order) s.what ⊎ AllByRecursion (λ n. IsTrue (stands_in n (left_names m.names left))) (drives file library s.what)
      one i s at (inl c) = inl (ordered_statement m order i s c at)
      one i s at (inr all) =
          inr (subst (AllByRecursion (λ n. IsTrue (stands_in n (left_names m.names left)))) (drives_at file library m nets are i s at)
          (among_all (λ n. IsTrue (stands_in n (left_names m.names left))) (map (name_of m.names) (ends_of nets.drives i))
          (λ x h.
          let r = map_among (name_of m.names) (ends_of nets.drives i) x h in
          let c : Contains (ends_of nets.drives i) r.0 = contained (ends_of nets.drives i) r.0 r.1 in
          stands x (left_names m.names left) (subst (λ y. Among y (left_names m.names left)) r.2 (left_stands m.names are.given.distinct left r.0 (driven_within file library m nets are i r.0 c) (all r.0 c))))))

  -- the nets left over are the unsettled ones
  unsettled : (order : List ℕ) → HasOneDriverEach file library m → IsOrder nets.reads nets.drives nets.combines.items nets.given.items order → ((n : ℕ) → IsMarked left n → LeftOver n)
      → NumbersAreLeft nets.drives nets.combines.items left order → AreTheUnsettled file library m (left_names m.names left)
  unsettled order one o over others = exact file library m one (statements_at m order) (left_names m.names left) (statements_ordered file library m nets are order o) (names_left_over over) (names_are_left order others)

  first_is : (start : ℕ) → IsFirstMarked left start → first_left file library m (left_names m.names left) m.names ≡ Some (name_of m.names start)
  first_is start f =
      let inside = within start f.marked in
      find_first (λ k. stands_in k (left_names m.names left)) m.names start inside (left_mark m.names are.given.distinct left start inside ∙ f.marked)
      (λ k below. left_mark m.names are.given.distinct left k (omega (arith, below, inside)) ∙ unmarked k (get_or left k false) refl below)
    where
      unmarked : (k : ℕ) (b : Bool) → get_or left k false ≡ b → k < start → get_or left k false ≡ false
      unmarked k true e below = absurd (omega (arith, f.least k e, below))
      unmarked k false e below = e

  module _ (drivers : List ℕ) (d : AreDrivers file library m drivers) (over : (n : ℕ) → IsMarked left n → LeftOver n) where
    follows : (n k : ℕ) → IsMarked left n → NumberFollows nets.reads drivers left n k → FollowsTo file library m (left_names m.names left) (name_of m.names n) (name_of m.names k)
    follows n k c f =
        let o = over n c in
        let i = o.0 in
        let r = combining file library m nets are i o.1 in
        let here : first_number left (ends_of nets.reads i) ≡ Some k = subst (λ j. first_number left (ends_of nets.reads j) ≡ Some k) (driver_is drivers d n o c) f in (
          r.0.what,
          contained (map (λ (l : Located). l.what) m.statements) r.0.what (among_map (λ (l : Located). l.what) m.statements r.0 (place_among m.statements i r.0 r.1)),
          r.2,
          stands (name_of m.names n) (drives file library r.0.what) (drives_name file library m nets are i n r.0 r.1 o.2),
          ap (first_left file library m (left_names m.names left)) (sym (reads_at file library m nets are i r.0 r.1))
              ∙ find_named m.names (λ x. stands_in x (left_names m.names left)) (λ j. get_or left j false) (ends_of nets.reads i) k
              (λ j h. left_mark m.names are.given.distinct left j (read_within file library m nets are i j (contained (ends_of nets.reads i) j h))) here,
        )

    next_marked : (n k : ℕ) → NumberFollows nets.reads drivers left n k → IsMarked left k
    next_marked n k f = found_passes (λ j. get_or left j false) (ends_of nets.reads (get_or drivers n 0)) k f

    abbrev BeginsLeft : List ℕ → Type 0
    BeginsLeft [] = Unit {0}
    BeginsLeft (n ∷ ns) = IsMarked left n

    all_left : (ns : List ℕ) (end : ℕ) → BeginsLeft ns → NumbersFollow nets.reads drivers left ns end → AllByRecursion (IsMarked left) ns
    all_left [] end b f = tt
    all_left (n ∷ []) end b f = (b, tt)
    all_left (n ∷ k ∷ rest) end b f = (b, all_left (k ∷ rest) end (next_marked n k f.0) f.1)

    begins_left : (ns : List ℕ) (start : ℕ) → IsMarked left start → slice_get ns 0 ≡ Some start → BeginsLeft ns
    begins_left [] start c e = tt
    begins_left (n ∷ ns) start c e = let same : n ≡ start = cc e in subst (IsMarked left) (sym same) c

    walk_left : (ns : List ℕ) → (w : IsWalkedByNumber nets.reads drivers left ns) → AllByRecursion (IsMarked left) (w.walked.front ++ ns)
    walk_left ns w = all_left (w.walked.front ++ ns) w.walked.first (begins_left (w.walked.front ++ ns) w.start w.is_start.marked w.walked.begins) w.walked.walks

    along : (ns : List ℕ) (end : ℕ) → AllByRecursion (IsMarked left) ns → NumbersFollow nets.reads drivers left ns end → FollowsAlong file library m (left_names m.names left) (map (name_of m.names) ns) (name_of m.names end)
    along [] end a f = f
    along (n ∷ []) end a f = follows n end a.0 f
    along (n ∷ k ∷ rest) end a f = (follows n k a.0 f.0, along (k ∷ rest) end a.1 f.1)

    pub walked_within : (ns : List ℕ) → IsWalkedByNumber nets.reads drivers left ns → (k : ℕ) → Contains ns k → k < length m.names
    walked_within ns w k c = within k (all_among (IsMarked left) ns (All_back (IsMarked left) w.walked.front ns (walk_left ns w)) k (among ns k c))

    pub walked_once : (ns : List ℕ) → IsWalkedByNumber nets.reads drivers left ns → (i : ℕ) → count_by (λ k. k == i) ns ≤ 1
    walked_once ns w i = omega (arith, w.walked.once i, counted_append w.walked.front ns i)

    pub told : (order : List ℕ) → HasOneDriverEach file library m → IsOrder nets.reads nets.drives nets.combines.items nets.given.items order → NumbersAreLeft nets.drives nets.combines.items left order
        → (ns : List ℕ) → IsWalkedByNumber nets.reads drivers left ns → IsWalkedLoop file library m (map (name_of m.names) ns)
    told order one o others ns w =
        subst (IsWalkedLoop file library m) (sym (ap (map nm) v.cycle))
        (told_loop file library m (left_names m.names left) (unsettled order one o over others) (map nm v.front) (map nm v.others) (nm w.start) (nm v.first) (first_is w.start w.is_start)
        (subst (λ l. slice_get l 0 ≡ Some (nm w.start)) split (row_at nm (v.front ++ ns) 0 w.start v.begins))
        (subst (λ l. FollowsAlong file library m (left_names m.names left) l (nm v.first)) split (along (v.front ++ ns) v.first (walk_left ns w) v.walks))
        (subst (λ l. are_distinct l ≡ true) split (distinct_names m.names are.given.distinct (v.front ++ ns) (λ j c. within j (all_among (IsMarked left) (v.front ++ ns) (walk_left ns w) j (among (v.front ++ ns) j c))) v.once)))
      where
        v : IsWalkedFrom nets.reads drivers left w.start ns
        v = w.walked

        nm : ℕ → Name
        nm = name_of m.names

        split : map nm (v.front ++ ns) ≡ map nm v.front ++ nm v.first ∷ map nm v.others
        split = map-append nm v.front ns ∙ ap (λ l. map nm v.front ++ map nm l) v.cycle
