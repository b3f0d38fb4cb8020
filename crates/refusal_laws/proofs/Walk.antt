-- The walk to a loop is determined where no net has two drivers.
use Rattle.std.proofs.Common.{◌≡◌, refl, sym, ◌∙◌, ap, subst, ◌≤◌, List, [], ◌∷◌, ◌++◌, true, ◌⊎◌, inl, inr, Some, arith}
use Rattle.std.specs.Prelude.{slice_get}
use Rattle.std.specs.Cmp.Lexicographic.{bytes_decides}
use Rattle.netlist_spec.specs.Netlist.{Name, same_name, are_distinct, Model, File}
use Rattle.netlist_spec.specs.Covers.{Library}
use Rattle.netlist_spec.specs.Sound.{reads, HasOneDriverEach}
use Rattle.netlist_spec.specs.SoundFaults.{IsUnsettled, IsFirstUnsettled, WalksTo, WalksAlong, IsWalkedLoop}
use Rattle.netlist_spec.proofs.OneValue.{passes_both}
use Rattle.netlist_spec.proofs.Occurrences.{one_if, occ, occ_append, distinct_occ}
use Rattle.source_laws.proofs.Lists.{among, standing}
use Rattle.source_laws.proofs.Drivers.{one_driver}
use Rattle.refusal_laws.proofs.FirstFound.{one_first}

one_self : (k : Name) → one_if (same_name k k) ≡ 1
one_self k = ap one_if ((bytes_decides k k).1 refl)

-- a name that comes back makes a list not distinct
twice_there : (n : Name) (ns ks : List Name) → are_distinct (ns ++ n ∷ ks) ≡ true → 1 ≤ occ n ns → ⊥
twice_there n ns ks d h =
    let a = distinct_occ n (ns ++ n ∷ ks) d in
    let b = occ_append n ns (n ∷ ks) in
    let c = one_self n in
    absurd (omega arith)

occurs_between : (n : Name) (ns ks : List Name) → 1 ≤ occ n (ns ++ n ∷ ks)
occurs_between n ns ks =
    let b = occ_append n ns (n ∷ ks) in
    let c = one_self n in
    omega arith

later_distinct : (n : Name) (ns : List Name) → are_distinct (n ∷ ns) ≡ true → are_distinct ns ≡ true
later_distinct n ns d = (passes_both _ _ d).1

fresh_first : (n : Name) (ns : List Name) → are_distinct (n ∷ ns) ≡ true → 1 ≤ occ n ns → ⊥
fresh_first n ns d h = twice_there n [] ns d (let a = distinct_occ n (n ∷ ns) d in let c = one_self n in absurd (omega arith))

-- what follows a name that stands once
same_back : (front others front' others' : List Name) (x x' : Name) → x ≡ x' → front ++ x ∷ others ≡ front' ++ x' ∷ others' → are_distinct (front ++ x ∷ others) ≡ true → x ∷ others ≡ x' ∷ others'
same_back [] others [] others' x x' s e d = e
same_back [] others (b ∷ front') others' x x' s e d =
    let tail : others ≡ front' ++ x' ∷ others' = cc e in
    absurd (fresh_first x others d (subst (λ ns. 1 ≤ occ x ns) (sym tail) (subst (λ y. 1 ≤ occ x (front' ++ y ∷ others')) s (occurs_between x front' others'))))
same_back (a ∷ front) others [] others' x x' s e d =
    let head : a ≡ x' = cc e in
    absurd (fresh_first a (front ++ x ∷ others) d (subst (λ y. 1 ≤ occ y (front ++ x ∷ others)) (sym (head ∙ sym s)) (occurs_between x front others)))
same_back (a ∷ front) others (b ∷ front') others' x x' s e d =
    same_back front others front' others' x x' s (let tail : front ++ x ∷ others ≡ front' ++ x' ∷ others' = cc e in tail) (later_distinct a (front ++ x ∷ others) d)

-- a list that is not empty has the first element that is got from it
headed : (front : List Name) (first : Name) (others : List Name) (start : Name) → slice_get (front ++ first ∷ others) 0 ≡ Some start → (rest : List Name) × (front ++ first ∷ others ≡ start ∷ rest)
headed [] first others start e = (others, (let d : first ≡ start = cc e in λ i. d i ∷ others))
headed (a ∷ front) first others start e = (front ++ first ∷ others, (let d : a ≡ start = cc e in λ i. d i ∷ (front ++ first ∷ others)))

module _ (file : File) (library : Library) (m : Model) where
  pub one_first_unsettled : (ns : List Name) (n k : Name) → IsFirstUnsettled file library m ns n → IsFirstUnsettled file library m ns k → n ≡ k
  one_first_unsettled ns n k f g =
      one_first (IsUnsettled file library m) f.before n f.after g.before k g.after (sym f.split ∙ g.split) f.unsettled g.unsettled f.settled_before g.settled_before

  module _ (one : HasOneDriverEach file library m) where
    one_step : (n a b : Name) → WalksTo file library m n a → WalksTo file library m n b → a ≡ b
    one_step n a b v w =
        let same : v.driver ≡ w.driver =
        one_driver file library m one n v.driver w.driver (among _ v.driver v.stands) (among _ w.driver w.stands) (standing n _ v.of_net) (standing n _ w.of_net) in
        one_first_unsettled (reads file library w.driver) a b (subst (λ s. IsFirstUnsettled file library m (reads file library s) a) same v.next) w.next

    -- of two walks from one net one goes on behind the other, or they are the same
    abbrev Compared : List Name → List Name → Name → Name → Type 0
    Compared ns ks n k = ((ns ≡ ks) × (n ≡ k)) ⊎ (((more : List Name) × (ks ≡ ns ++ n ∷ more)) ⊎ ((more : List Name) × (ns ≡ ks ++ k ∷ more)))

    grown : (a b : Name) (ns ks : List Name) (n k : Name) → a ≡ b → Compared ns ks n k → Compared (a ∷ ns) (b ∷ ks) n k
    grown a b ns ks n k s (inl e) = inl ((λ i. s i ∷ e.0 i), e.1)
    grown a b ns ks n k s (inr (inl (more, e))) = inr (inl (more, λ i. sym s i ∷ e i))
    grown a b ns ks n k s (inr (inr (more, e))) = inr (inr (more, λ i. s i ∷ e i))

    compare : (a b : Name) → a ≡ b → (ns ks : List Name) (n k : Name) → WalksAlong file library m (a ∷ ns) n → WalksAlong file library m (b ∷ ks) k → Compared (a ∷ ns) (b ∷ ks) n k
    compare a b s [] [] n k v w = inl ((λ i. s i ∷ []), one_step b n k (subst (λ x. WalksTo file library m x n) s v) w)
    compare a b s [] (d ∷ ks) n k v w =
        let e : n ≡ d = one_step b n d (subst (λ x. WalksTo file library m x n) s v) w.0 in
        inr (inl (ks, λ i. sym s i ∷ sym e i ∷ ks))
    compare a b s (c ∷ ns) [] n k v w =
        let e : c ≡ k = one_step b c k (subst (λ x. WalksTo file library m x c) s v.0) w in
        inr (inr (ns, λ i. s i ∷ e i ∷ ns))
    compare a b s (c ∷ ns) (d ∷ ks) n k v w =
        let e : c ≡ d = one_step b c d (subst (λ x. WalksTo file library m x c) s v.0) w.0 in
        grown a b (c ∷ ns) (d ∷ ks) n k s (compare c d e ns ks n k v.1 w.1)

    goes_past : (front : List Name) (first : Name) (others more all : List Name) → all ≡ (front ++ first ∷ others) ++ first ∷ more → are_distinct all ≡ true → ⊥
    goes_past front first others more all e d = twice_there first (front ++ first ∷ others) more (subst (λ ns. are_distinct ns ≡ true) e d) (occurs_between first front others)

    -- two walks in their parts
    both : (front : List Name) (first : Name) (others front' : List Name) (first' : Name) (others' : List Name) (start start' : Name) → start ≡ start'
        → slice_get (front ++ first ∷ others) 0 ≡ Some start → slice_get (front' ++ first' ∷ others') 0 ≡ Some start'
        → WalksAlong file library m (front ++ first ∷ others) first → WalksAlong file library m (front' ++ first' ∷ others') first'
        → are_distinct (front ++ first ∷ others) ≡ true → are_distinct (front' ++ first' ∷ others') ≡ true → first ∷ others ≡ first' ∷ others'
    both front first others front' first' others' start start' s b b' v w d d' =
        let (rest, e) = headed front first others start b in
        let (rest', e') = headed front' first' others' start' b' in
        by_case rest rest' e e'
        (compare start start' s rest rest' first first' (subst (λ ns. WalksAlong file library m ns first) e v) (subst (λ ns. WalksAlong file library m ns first') e' w))
      where
        by_case : (rest rest' : List Name) → front ++ first ∷ others ≡ start ∷ rest → front' ++ first' ∷ others' ≡ start' ∷ rest' → Compared (start ∷ rest) (start' ∷ rest') first first' → first ∷ others ≡ first' ∷ others'
        by_case rest rest' e e' (inl same) = same_back front others front' others' first first' same.1 (e ∙ (same.0 ∙ sym e')) d
        by_case rest rest' e e' (inr (inl (more, f))) =
            absurd (goes_past front first others more (front' ++ first' ∷ others') (e' ∙ (f ∙ ap (λ ns. ns ++ first ∷ more) (sym e))) d')
        by_case rest rest' e e' (inr (inr (more, f))) =
            absurd (goes_past front' first' others' more (front ++ first ∷ others) (e ∙ (f ∙ ap (λ ns. ns ++ first' ∷ more) (sym e'))) d)

    pub one_walked_loop : (nets others : List Name) → IsWalkedLoop file library m nets → IsWalkedLoop file library m others → nets ≡ others
    one_walked_loop nets others v w =
        v.cycle
        ∙ (both v.front v.first v.others w.front w.first w.others v.start w.start (one_first_unsettled m.names v.start w.start v.is_start w.is_start)
        (subst (λ ns. slice_get (v.front ++ ns) 0 ≡ Some v.start) v.cycle v.begins) (subst (λ ns. slice_get (w.front ++ ns) 0 ≡ Some w.start) w.cycle w.begins)
        (subst (λ ns. WalksAlong file library m (v.front ++ ns) v.first) v.cycle v.walks) (subst (λ ns. WalksAlong file library m (w.front ++ ns) w.first) w.cycle w.walks)
        (subst (λ ns. are_distinct (v.front ++ ns) ≡ true) v.cycle v.once) (subst (λ ns. are_distinct (w.front ++ ns) ≡ true) w.cycle w.once)
        ∙ sym w.cycle)
