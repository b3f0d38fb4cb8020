-- The words of the settings fit a model in one way at most.
use Rattle.std.proofs.Common.{◌≡◌, refl, sym, ◌∙◌, ap, subst, ℕ, ◌+◌, ◌≤◌, ◌⊎◌, inl, inr, Bool, true, false, cond, List, [], ◌∷◌, ◌++◌, length, slice_get, Option, Some, None, arith, length-append, append-nil}
use Rattle.std.specs.Prelude.{◌==◌, ◌||◌, count_by}
use Rattle.std.specs.List.{AllZip, flat_map}
use Rattle.std.specs.Cmp.Lexicographic.{bytes_decides}
use Rattle.std.proofs.lemmas.Bool.Decides.{Decides-eqb}
use Rattle.std.proofs.lemmas.List.Sums.{sum_by-cons}
use Rattle.std.proofs.lemmas.Option.{slice_get_within}
use Rattle.netlist_spec.specs.Netlist.{Name, same_name, stands_in, Model}
use Rattle.netlist_spec.specs.Models.{latch_outputs, output_nets}
use Rattle.netlist_spec.proofs.OneValue.{none_both}
use Rattle.guard_spec.specs.Codes.{data_places}
use Rattle.guard_spec.specs.Words.{Settings, Layout, LayoutFault, Words, all_numbers, AreTakenBy, AreNamed, AreWords, IsPartition, IsLayout, named_in, name_again, unknown_name, as_fault, layout_fault, no_such_net, in_two_words}

-- ---- words that are taken from the front

-- such words hold a number, where there is one of them
some_number : (k : ℕ) (w : List ℕ) (words : Words) → AreTakenBy k (w ∷ words) → 1 ≤ length (all_numbers (w ∷ words))
some_number k w [] taken = rw (length-append w []) (omega (arith, taken.0))
some_number k w (v ∷ words) taken = rw (length-append w (all_numbers (v ∷ words))) (omega (arith, some_number k v words taken.1))

-- two lists that begin with parts of one length
same_parts : (u v more rest : List ℕ) → length u ≡ length v → u ++ more ≡ v ++ rest → (u ≡ v) × (more ≡ rest)
same_parts [] [] more rest long e = (refl, e)
same_parts [] (j ∷ v) more rest long e = absurd (omega (arith, long))
same_parts (i ∷ u) [] more rest long e = absurd (omega (arith, long))
same_parts (i ∷ u) (j ∷ v) more rest long e =
    let first : i ≡ j = cc e in
    let behind : u ++ more ≡ v ++ rest = cc e in
    let (same, left) = same_parts u v more rest (omega (arith, long)) behind in
    (cc (first, same), left)

-- a short word is the last one
no_more : (k : ℕ) (u v w : List ℕ) (words : Words) → length u ≤ k → AreTakenBy k (v ∷ w ∷ words) → all_numbers (u ∷ []) ≡ all_numbers (v ∷ w ∷ words) → ⊥
no_more k u v w words short taken e =
    let some = some_number k w words taken.1 in
    let long : length (u ++ []) ≡ length (v ++ all_numbers (w ∷ words)) = ap length e in
    omega (arith, short, taken.0, some, long, length-append u [], length-append v (all_numbers (w ∷ words)))

taken_once : (k : ℕ) (us vs : Words) → AreTakenBy k us → AreTakenBy k vs → all_numbers us ≡ all_numbers vs → us ≡ vs
taken_once k [] [] a b e = refl
taken_once k [] (v ∷ vs) a b e =
    let some = some_number k v vs b in
    let long : length (let none : List ℕ = [] in none) ≡ length (all_numbers (v ∷ vs)) = ap length e in
    absurd (omega (arith, some, long))
taken_once k (u ∷ us) [] a b e =
    let some = some_number k u us a in
    let long : length (all_numbers (u ∷ us)) ≡ length (let none : List ℕ = [] in none) = ap length e in
    absurd (omega (arith, some, long))
taken_once k (u ∷ []) (v ∷ []) a b e = ap (λ w. w ∷ []) (sym (append-nil u) ∙ e ∙ append-nil v)
taken_once k (u ∷ []) (v ∷ w ∷ vs) a b e = absurd (no_more k u v w vs a.1 b e)
taken_once k (u ∷ t ∷ us) (v ∷ []) a b e = absurd (no_more k v u t us b.1 a (sym e))
taken_once k (u ∷ t ∷ us) (v ∷ w ∷ vs) a b e =
    let (same, rest) = same_parts u v (all_numbers (t ∷ us)) (all_numbers (w ∷ vs)) (a.0 ∙ sym b.0) e in
    let more = taken_once k (t ∷ us) (w ∷ vs) a.1 b.1 rest in
    cc (same, more)

-- ---- words that are named

-- an element of a list
abbrev IsIn : {X : Type 0} → List X → X → Type 0
IsIn [] x = ⊥
IsIn (y ∷ ys) x = (y ≡ x) ⊎ IsIn ys x

joined : {A B : Type 0} (R : A → B → Type 0) (xs more : List A) (ys rest : List B) → AllZip R xs ys → AllZip R more rest → AllZip R (xs ++ more) (ys ++ rest)
joined R [] more [] rest h k = k
joined R [] more (y ∷ ys) rest h k = absurd h
joined R (x ∷ xs) more [] rest h k = absurd h
joined R (x ∷ xs) more (y ∷ ys) rest h k = (h.0, joined R xs more ys rest h.1 k)

-- a number that is counted is there
counted : (i : ℕ) (numbers : List ℕ) → count_by (λ j. j == i) numbers ≡ 1 → IsIn numbers i
counted i [] e = absurd (omega (arith, e))
counted i (j ∷ numbers) e = by_test (j == i) refl (sym (sum_by-cons (λ m. cond (m == i) 1 0) j numbers) ∙ e) (counted i numbers)
  where
    by_test : (b : Bool) → (j == i) ≡ b → cond b 1 0 + count_by (λ m. m == i) numbers ≡ 1 → (count_by (λ m. m == i) numbers ≡ 1 → IsIn numbers i) → (j ≡ i) ⊎ IsIn numbers i
    by_test true same f later = inl ((Decides-eqb j i).0 same)
    by_test false other f later = inr (later (omega (arith, f)))

stands_itself : (n : Name) (listed : List Name) → stands_in n (n ∷ listed) ≡ true
stands_itself n listed = rw ((bytes_decides n n).1 refl) refl

-- a name that is listed doesn't come again
not_again : (n : Name) (listed names : List Name) → name_again listed names ≡ None → stands_in n listed ≡ true → IsIn names n → ⊥
not_again n listed [] none there is = is
not_again n listed (m ∷ names) none there is = by_test (stands_in m listed) refl is (not_again n (m ∷ listed) names)
  where
    clash : stands_in n listed ≡ false → ⊥
    clash e = let both : true ≡ false = sym there ∙ e in cc both

    listed_more : stands_in n (m ∷ listed) ≡ true
    listed_more = by_first (same_name n m)
      where
        by_first : (b : Bool) → (b || stands_in n listed) ≡ true
        by_first true = refl
        by_first false = there

    by_test : (b : Bool) → stands_in m listed ≡ b → (m ≡ n) ⊎ IsIn names n → (name_again (m ∷ listed) names ≡ None → stands_in n (m ∷ listed) ≡ true → IsIn names n → ⊥) → ⊥
    by_test true e at rest = let h = rw e at none in absurd (cc h)
    by_test false e (inl same) rest = clash (subst (λ (k : Name). stands_in k listed ≡ false) same e)
    by_test false e (inr later) rest = rest (rw e at none) listed_more later

module _ (nets : List Name) where
  abbrev IsAt : Name → ℕ → Type 0
  IsAt n i = slice_get nets i ≡ Some n

  one_name : (i : ℕ) (n m : Name) → IsAt n i → IsAt m i → n ≡ m
  one_name i n m a b = let e : Some n ≡ Some m = sym a ∙ b in cc e

  -- the name beside a number
  beside : (names : List Name) (numbers : List ℕ) (i : ℕ) → AllZip IsAt names numbers → IsIn numbers i → (n : Name) × IsIn names n × IsAt n i
  beside [] [] i h is = absurd is
  beside [] (j ∷ numbers) i h is = absurd h
  beside (n ∷ names) [] i h is = absurd h
  beside (n ∷ names) (j ∷ numbers) i h (inl same) = (n, inl refl, subst (IsAt n) same h.0)
  beside (n ∷ names) (j ∷ numbers) i h (inr later) = let (m, is, at) = beside names numbers i h.1 later in (m, inr is, at)

  -- Where no name comes again, numbers of one name are one.
  one_number : (listed names : List Name) (numbers : List ℕ) (n : Name) (i j : ℕ) → name_again listed names ≡ None → AllZip IsAt names numbers → IsIn numbers i → IsIn numbers j → IsAt n i → IsAt n j → i ≡ j
  one_number listed [] [] n i j none h is also a b = absurd is
  one_number listed [] (k ∷ numbers) n i j none h is also a b = absurd h
  one_number listed (m ∷ names) [] n i j none h is also a b = absurd h
  one_number listed (m ∷ names) (k ∷ numbers) n i j none h is also a b = by_places is also (λ first. one_number (m ∷ listed) names numbers n i j first h.1)
    where
      rest : (b : Bool) → stands_in m listed ≡ b → name_again (m ∷ listed) names ≡ None
      rest true e = let f = rw e at none in absurd (cc f)
      rest false e = rw e at none

      later_none : name_again (m ∷ listed) names ≡ None
      later_none = rest (stands_in m listed) refl

      -- the first name doesn't stand beside a later number
      apart : (p q : ℕ) → k ≡ p → IsIn numbers q → IsAt n p → IsAt n q → ⊥
      apart p q first later at other =
          let (o, is, named) = beside names numbers q h.1 later in
          let same : o ≡ m = one_name q o n named other ∙ sym (one_name k m n h.0 (subst (IsAt n) (sym first) at)) in
          not_again m (m ∷ listed) names later_none (stands_itself m listed) (subst (IsIn names) same is)

      by_places : IsIn (k ∷ numbers) i → IsIn (k ∷ numbers) j → (name_again (m ∷ listed) names ≡ None → IsIn numbers i → IsIn numbers j → IsAt n i → IsAt n j → i ≡ j) → i ≡ j
      by_places (inl e) (inl f) later = sym e ∙ f
      by_places (inl e) (inr f) later = absurd (apart i j e f a b)
      by_places (inr e) (inl f) later = absurd (apart j i f e b a)
      by_places (inr e) (inr f) later = later later_none e f a b

  flat_named : (named : List (List Name)) (words : Words) → AreNamed nets named words → AllZip IsAt (flat_map (λ names. names) named) (all_numbers words)
  flat_named [] [] h = tt
  flat_named [] (w ∷ words) h = absurd h
  flat_named (names ∷ named) [] h = absurd h
  flat_named (names ∷ named) (w ∷ words) h = joined IsAt names (flat_map (λ ns. ns) named) w (all_numbers words) h.0 (flat_named named words h.1)

  abbrev AreAlone : Type 0
  AreAlone = (n : Name) (i j : ℕ) → IsAt n i → IsAt n j → i ≡ j

  -- Where each net stands in one word, nets have one number each.
  nets_alone : (k : ℕ) (named : List (List Name)) (words : Words) → name_again [] (flat_map (λ names. names) named) ≡ None → AreNamed nets named words → IsPartition (length nets) k words → AreAlone
  nets_alone k named words none are part = λ n i j a b.
      let there = λ (p : ℕ) (at : IsAt n p). counted p (all_numbers words) (part.each_once p (slice_get_within nets p n at)) in
      one_number [] (flat_map (λ names. names) named) (all_numbers words) n i j none (flat_named named words are) (there i a) (there j b) a b

  word_once : AreAlone → (names : List Name) (us vs : List ℕ) → AllZip IsAt names us → AllZip IsAt names vs → us ≡ vs
  word_once alone [] [] [] a b = refl
  word_once alone [] [] (j ∷ vs) a b = absurd b
  word_once alone [] (i ∷ us) vs a b = absurd a
  word_once alone (n ∷ names) [] vs a b = absurd a
  word_once alone (n ∷ names) (i ∷ us) [] a b = absurd b
  word_once alone (n ∷ names) (i ∷ us) (j ∷ vs) a b =
      let first = alone n i j a.0 b.0 in
      let rest = word_once alone names us vs a.1 b.1 in
      cc (first, rest)

  named_once : AreAlone → (named : List (List Name)) (us vs : Words) → AreNamed nets named us → AreNamed nets named vs → us ≡ vs
  named_once alone [] [] [] a b = refl
  named_once alone [] [] (v ∷ vs) a b = absurd b
  named_once alone [] (u ∷ us) vs a b = absurd a
  named_once alone (names ∷ named) [] vs a b = absurd a
  named_once alone (names ∷ named) (u ∷ us) [] a b = absurd b
  named_once alone (names ∷ named) (u ∷ us) (v ∷ vs) a b =
      let first = word_once alone names u v a.0 b.0 in
      let rest = named_once alone named us vs a.1 b.1 in
      cc (first, rest)

  one_words : (k : ℕ) (listed : Option (List (List Name))) (us vs : Words) → name_again [] (named_in listed) ≡ None → AreWords k nets listed us → AreWords k nets listed vs → us ≡ vs
  one_words k None us vs none a b = taken_once k us vs a.1 b.1 (a.0 ∙ sym b.0)
  one_words k (Some named) us vs none a b = named_once (nets_alone k named us none a.0 a.1) named us vs a.0 b.0

-- ---- layouts

no_name : (fault : Name → LayoutFault) (found : Option Name) → as_fault fault found ≡ None → found ≡ None
no_name fault None e = refl
no_name fault (Some n) e = absurd (cc e)

none_named_again : (m : Model) (s : Settings) → layout_fault m s ≡ None → (name_again [] (named_in s.state_words) ≡ None) × (name_again [] (named_in s.output_words) ≡ None)
none_named_again m s e =
    let a = none_both (as_fault (λ n. no_such_net n) (unknown_name (latch_outputs m) s.state_words)) _ e in
    let b = none_both (as_fault (λ n. no_such_net n) (unknown_name (output_nets m) s.output_words)) _ a.1 in
    let c = none_both (as_fault (λ n. in_two_words n) (name_again [] (named_in s.state_words))) _ b.1 in
    let d = none_both (as_fault (λ n. in_two_words n) (name_again [] (named_in s.output_words))) _ c.1 in
    (no_name (λ n. in_two_words n) _ c.0, no_name (λ n. in_two_words n) _ d.0)

pub one_layout : (m : Model) (s : Settings) (a b : Layout) → layout_fault m s ≡ None → IsLayout m s a → IsLayout m s b → a ≡ b
one_layout m s a b none is also =
    let (states, outputs) = none_named_again m s none in
    let state : a.state ≡ b.state = one_words (latch_outputs m) (data_places s.code) s.state_words a.state b.state states is.state also.state in
    let output : a.output ≡ b.output = one_words (output_nets m) (data_places s.code) s.output_words a.output b.output outputs is.output also.output in
    ap (λ (w : Words). with_words w a.output) state ∙ ap (λ (w : Words). with_words b.state w) output
  where
    with_words : Words → Words → Layout
    with_words state output = record { state = state; output = output }
