-- Marks of nets.
use Rattle.std.proofs.Common.{◌≡◌, ◌≢◌, refl, sym, ◌∙◌, ap, ap₂, subst, ℕ, zero, suc, ◌+◌, ◌<◌, List, [], ◌∷◌, ◌++◌, map, find, length, take, drop, Bool, true, false, ◌||◌, not, cond, get_or, set, eqb, arith, Option, Some, None, ◌⊎◌, inl, inr, append_assoc, append-nil, replicate}
use Rattle.std.specs.Prelude.{Vec}
use Rattle.std.specs.declared.alloc.Global.{Global}
use Rattle.std.specs.List.{AllByRecursion, list_any, take-map}
use Rattle.std.proofs.lemmas.List.{map-append, take_more, get_or-map, length-map}
use Rattle.netlist_spec.specs.Netlist.{Name, same_name, stands_in, are_distinct}
use Rattle.netlist_spec.proofs.OneValue.{passes_both, fails_first}
use Rattle.imp_text.proofs.NamesLemmas.{same_name_self, same_name-comm, stands_in-append}
use Rattle.imp_text.specs.declared.names.NameId.{NameId}
use Rattle.blif_read.specs.View.{name_at}
use Rattle.guard_spec.specs.Words.{Words, all_numbers, name_again}
use Rattle.encode_state.specs.Listed.{net_at, nets_at, marks_of, first_left_out, IsMarked}
use Rattle.encode_state.specs.Types.{words_in}
use Rattle.encode_state.proofs.ListedLemmas.{either, find_at}
use Rattle.encode_state.proofs.TakenLemmas.{numbers_push, numbers_split}

not_true : (b : Bool) → not b ≡ true → b ≡ false
not_true true e = cc e
not_true false e = refl

not_at : (n : Name) (ns : List Name) → stands_in n ns ≡ false → (k : ℕ) → k < length ns → same_name n (get_or ns k []) ≡ false
not_at n [] h k within = absurd (omega arith)
not_at n (m ∷ ms) h zero within = (fails_first _ _ h).0
not_at n (m ∷ ms) h (suc k) within = not_at n ms (fails_first _ _ h).1 k (omega arith)

-- two numbers below the end have one name only where they are one number
pub apart : (all : List Name) (j k : ℕ) → are_distinct all ≡ true → j < length all → k < length all → j ≢ k → same_name (get_or all j []) (get_or all k []) ≡ false
apart [] j k d inside within other = absurd (omega arith)
apart (n ∷ ns) zero zero d inside within other = absurd (other refl)
apart (n ∷ ns) zero (suc k) d inside within other = not_at n ns (not_true (stands_in n ns) (passes_both _ _ d).0) k (omega arith)
apart (n ∷ ns) (suc j) zero d inside within other =
    same_name-comm (get_or ns j []) n ∙ not_at n ns (not_true (stands_in n ns) (passes_both _ _ d).0) j (omega arith)
apart (n ∷ ns) (suc j) (suc k) d inside within other = apart ns j k (passes_both _ _ d).1 (omega arith) (omega arith) (λ e. other (ap suc e))

pub same_or_other : (j k : ℕ) → (j ≡ k) ⊎ (j ≢ k)
same_or_other j k = grind arith

-- numbers are the same where names are
pub same_number : (all : List Name) (j k : ℕ) → are_distinct all ≡ true → j < length all → k < length all → eqb j k ≡ same_name (get_or all j []) (get_or all k [])
same_number all j k d inside within = at (same_or_other j k)
  where
    at : (j ≡ k) ⊎ (j ≢ k) → eqb j k ≡ same_name (get_or all j []) (get_or all k [])
    at (inl e) = grind (arith, e) ∙ sym (ap (λ i. same_name (get_or all i []) (get_or all k [])) e ∙ same_name_self (get_or all k []))
    at (inr other) = grind (arith, other) ∙ sym (apart all j k d inside within other)

-- ---- marks

or_false_last : (b : Bool) → (b || (false || false)) ≡ b
or_false_last true = refl
or_false_last false = refl

or_true_last : (b : Bool) → (b || (true || false)) ≡ true
or_true_last true = refl
or_true_last false = refl

other_stays : (n last : Name) (listed : List Name) → same_name n last ≡ false → stands_in n listed ≡ stands_in n (listed ++ last ∷ [])
other_stays n last listed other = sym (stands_in-append n listed (last ∷ []) ∙ (ap (λ b. stands_in n listed || (b || false)) other ∙ or_false_last (stands_in n listed)))

same_stands : (n last : Name) (listed : List Name) → same_name n last ≡ true → true ≡ stands_in n (listed ++ last ∷ [])
same_stands n last listed same = sym (stands_in-append n listed (last ∷ []) ∙ (ap (λ b. stands_in n listed || (b || false)) same ∙ or_true_last (stands_in n listed)))

-- a name that is no net changes no mark
marks_stay : (nets listed : List Name) (last : Name) → stands_in last nets ≡ false → marks_of nets listed ≡ marks_of nets (listed ++ last ∷ [])
marks_stay [] listed last absent = refl
marks_stay (n ∷ ns) listed last absent =
    let parts = fails_first (same_name last n) (stands_in last ns) absent in
    ap₂ (λ b bs. b ∷ bs) (other_stays n last listed (same_name-comm n last ∙ parts.0)) (marks_stay ns listed last parts.1)

pub mark_set : (nets listed : List Name) (i : ℕ) → are_distinct nets ≡ true → i < length nets → set (marks_of nets listed) i true ≡ marks_of nets (listed ++ net_at nets i ∷ [])
mark_set [] listed i d inside = absurd (omega arith)
mark_set (n ∷ ns) listed zero d inside =
    ap₂ (λ b bs. b ∷ bs) (same_stands n n listed (same_name_self n)) (marks_stay ns listed n (not_true (stands_in n ns) (passes_both _ _ d).0))
mark_set (n ∷ ns) listed (suc i) d inside =
    ap₂ (λ b bs. b ∷ bs)
    (other_stays n (net_at ns i) listed (not_at n ns (not_true (stands_in n ns) (passes_both _ _ d).0) i (omega arith)))
    (mark_set ns listed i (passes_both _ _ d).1 (omega arith))

pub mark_at : (nets listed : List Name) (i : ℕ) → i < length nets → get_or (marks_of nets listed) i false ≡ stands_in (net_at nets i) listed
mark_at [] listed i inside = absurd (omega arith)
mark_at (n ∷ ns) listed zero inside = refl
mark_at (n ∷ ns) listed (suc i) inside = mark_at ns listed i (omega arith)

pub marks_length : (nets listed : List Name) → length (marks_of nets listed) ≡ length nets
marks_length [] listed = refl
marks_length (n ∷ ns) listed = ap suc (marks_length ns listed)

pub no_marks : (nets : List Name) (marks : List Bool) → length marks ≡ length nets → ((k : ℕ) → get_or marks k false ≡ false) → marks ≡ marks_of nets []
no_marks [] [] e none = refl
no_marks [] (b ∷ bs) e none = absurd (omega arith)
no_marks (n ∷ ns) [] e none = absurd (omega arith)
no_marks (n ∷ ns) (b ∷ bs) e none = ap₂ (λ c cs. c ∷ cs) (none 0) (no_marks ns bs (omega arith) (λ k. none (suc k)))

-- ---- names that come again

move_first : (s a c : Bool) → ((s || a) || c) ≡ (a || (s || c))
move_first true true c = refl
move_first true false c = refl
move_first false a c = refl

module _ (n : Name) where
  -- one name more, behind names of which none comes again
  pub again_last : (listed names : List Name) (b : Bool) → name_again listed names ≡ None → (stands_in n listed || stands_in n names) ≡ b → name_again listed (names ++ n ∷ []) ≡ cond b (Some n) None
  again_last listed [] b none here = first b (sym (or_nothing (stands_in n listed)) ∙ here)
    where
      or_nothing : (s : Bool) → (s || false) ≡ s
      or_nothing true = refl
      or_nothing false = refl

      first : (b : Bool) → stands_in n listed ≡ b → name_again listed (n ∷ []) ≡ cond b (Some n) None
      first true e = rw e refl
      first false e = rw e refl
  again_last listed (m ∷ ms) b none here = elim (either (stands_in m listed)) [
    | inl e ↦ (let h = rw e at none in absurd (cc h))
    | inr e ↦
        let rest : name_again (m ∷ listed) ms ≡ None = rw e at none in
        rw e (again_last (m ∷ listed) ms b rest (move_first (same_name n m) (stands_in n listed) (stands_in n ms) ∙ here))
  ]

-- names that come again do so whatever stands behind
pub again_front : (listed names more : List Name) (n : Name) → name_again listed names ≡ Some n → name_again listed (names ++ more) ≡ Some n
again_front listed [] more n e = absurd (cc e)
again_front listed (m ∷ ms) more n e = elim (either (stands_in m listed)) [
  | inl s ↦ (let h : Some m ≡ Some n = rw s at e in rw s h)
  | inr s ↦ (let h : name_again (m ∷ listed) ms ≡ Some n = rw s at e in rw s (again_front (m ∷ listed) ms more n h))
]

-- Whether a name comes again depends on what is listed, and not on its order.
pub again_alike : (a b names : List Name) → ((n : Name) → stands_in n a ≡ stands_in n b) → name_again a names ≡ name_again b names
again_alike a b [] alike = refl
again_alike a b (m ∷ ms) alike = elim (either (stands_in m a)) [
  | inl s ↦ rw (s, sym (alike m) ∙ s) refl
  | inr s ↦ rw (s, sym (alike m) ∙ s) (again_alike (m ∷ a) (m ∷ b) ms (λ n. ap (λ c. same_name n m || c) (alike n)))
]

pub moved : (listed : List Name) (m : Name) (ms : List Name) (n : Name) → stands_in n ((m ∷ listed) ++ ms) ≡ stands_in n (listed ++ m ∷ ms)
moved listed m ms n =
    stands_in-append n (m ∷ listed) ms ∙ (move_first (same_name n m) (stands_in n listed) (stands_in n ms) ∙ sym (stands_in-append n listed (m ∷ ms)))

-- Behind names of which none comes again, more names come again where they do behind all of them.
pub again_behind : (listed names more : List Name) → name_again listed names ≡ None → name_again listed (names ++ more) ≡ name_again (listed ++ names) more
again_behind listed [] more none = ap (λ l. name_again l more) (sym (append-nil listed))
again_behind listed (m ∷ ms) more none = elim (either (stands_in m listed)) [
  | inl e ↦ (let h = rw e at none in absurd (cc h))
  | inr e ↦
      let rest : name_again (m ∷ listed) ms ≡ None = rw e at none in
      rw e (again_behind (m ∷ listed) ms more rest ∙ again_alike ((m ∷ listed) ++ ms) (listed ++ m ∷ ms) more (moved listed m ms))
]

-- ---- the numbers of a word, one after the other

module _ (nets listed : List Name) (front : List ℕ) (marks : List Bool) (i : ℕ) (d : are_distinct nets ≡ true) (inside : i < length nets) (m : IsMarked nets listed front marks None) where
  is_marked : get_or marks i false ≡ (stands_in (net_at nets i) listed || stands_in (net_at nets i) (nets_at nets front))
  is_marked =
      ap (λ bs. get_or bs i false) m.1
      ∙ (mark_at nets (listed ++ nets_at nets front) i inside ∙ stands_in-append (net_at nets i) listed (nets_at nets front))

  pub one_more : get_or marks i false ≡ false → IsMarked nets listed (front ++ i ∷ []) (set marks i true) None
  one_more e =
      let pushed : nets_at nets (front ++ i ∷ []) ≡ nets_at nets front ++ net_at nets i ∷ [] = map-append (net_at nets) front (i ∷ []) in (
        ap (name_again listed) pushed ∙ again_last (net_at nets i) listed (nets_at nets front) false m.0 (sym is_marked ∙ e),
        ap (λ bs. set bs i true) m.1
            ∙ (mark_set nets (listed ++ nets_at nets front) i d inside
            ∙ ap (marks_of nets) (append_assoc listed (nets_at nets front) (net_at nets i ∷ []) ∙ ap (λ ns. listed ++ ns) (sym pushed))),
      )

  pub comes_again : (rest : List ℕ) → get_or marks i false ≡ true → name_again listed (nets_at nets (front ++ i ∷ rest)) ≡ Some (net_at nets i)
  comes_again rest e =
      ap (name_again listed) (map-append (net_at nets) front (i ∷ rest) ∙ sym (append_assoc (nets_at nets front) (net_at nets i ∷ []) (nets_at nets rest)))
      ∙ again_front listed (nets_at nets front ++ net_at nets i ∷ []) (nets_at nets rest) (net_at nets i)
      (again_last (net_at nets i) listed (nets_at nets front) true m.0 (sym is_marked ∙ e))

-- ---- words, one after the other

pub word_more : (nets : List Name) (front word : List ℕ) (old new : List Bool) → IsMarked nets [] front old None → IsMarked nets (nets_at nets front) word new None → IsMarked nets [] (front ++ word) new None
word_more nets front word old new a b =
    let both = map-append (net_at nets) front word in
    (ap (name_again []) both ∙ (again_behind [] (nets_at nets front) (nets_at nets word) a.0 ∙ b.0), b.1 ∙ ap (marks_of nets) (sym both))

pub word_again : (nets : List Name) (front word rest : List ℕ) (old new : List Bool) (i : ℕ) → IsMarked nets [] front old None → IsMarked nets (nets_at nets front) word new (Some i)
    → name_again [] (nets_at nets ((front ++ word) ++ rest)) ≡ Some (net_at nets i)
word_again nets front word rest old new i a b =
    let both = map-append (net_at nets) front word in
    ap (name_again []) (map-append (net_at nets) (front ++ word) rest)
    ∙ again_front [] (nets_at nets (front ++ word)) (nets_at nets rest) (net_at nets i)
    (ap (name_again []) both ∙ (again_behind [] (nets_at nets front) (nets_at nets word) a.0 ∙ b))

-- ---- the names of nets

pub named_at : (names : List Name) (nets : List NameId) (i : ℕ) (d : NameId) → i < length nets → get_or (map (name_at names) nets) i [] ≡ name_at names (get_or nets i d)
named_at names nets i d inside = get_or-map (name_at names) nets i d [] inside

pub words_at : (words : List (Vec ℕ Global)) (i : ℕ) (w : Vec ℕ Global) → i < length words → w ≡ get_or words i w → get_or (words_in words) i [] ≡ w.items
words_at words i w inside is = get_or-map (λ (v : Vec ℕ Global). v.items) words i w [] inside ∙ ap (λ (v : Vec ℕ Global). v.items) (sym is)

-- the numbers of one word more
pub numbers_more : (words : List (Vec ℕ Global)) (i : ℕ) (w : Vec ℕ Global) → i < length words → w ≡ get_or words i w
    → all_numbers (words_in (take (i + 1) words)) ≡ all_numbers (words_in (take i words)) ++ w.items
numbers_more words i w inside is =
    ap (λ ws. all_numbers (words_in ws)) (take_more words i w inside)
    ∙ (ap all_numbers (map-append (λ (v : Vec ℕ Global). v.items) (take i words) (get_or words i w ∷ []))
    ∙ (numbers_push (words_in (take i words)) (get_or words i w).items ∙ ap (λ (v : Vec ℕ Global). all_numbers (words_in (take i words)) ++ v.items) (sym is)))

-- the numbers of all words, around one of them
pub numbers_around : (words : List (Vec ℕ Global)) (i : ℕ) (w : Vec ℕ Global) → i < length words → w ≡ get_or words i w
    → all_numbers (words_in words) ≡ (all_numbers (words_in (take i words)) ++ w.items) ++ all_numbers (drop (suc i) (words_in words))
numbers_around words i w inside is =
    numbers_split (words_in words) i [] (let e = length-map words (λ (v : Vec ℕ Global). v.items) in omega arith)
    ∙ ap₂ (λ (front : Words) (word : List ℕ). (all_numbers front ++ word) ++ all_numbers (drop (suc i) (words_in words)))
    (take-map (λ (v : Vec ℕ Global). v.items) i words) (words_at words i w inside is)

pub fresh_marks : (nets : List Name) (n : ℕ) → n ≡ length nets → replicate n false ≡ marks_of nets []
fresh_marks [] n e = rw e refl
fresh_marks (m ∷ ms) n e = rw e (ap (λ bs. false ∷ bs) (fresh_marks ms (length ms) refl))

-- a number below the marks is one of a net
pub inside_of : (marks : List Bool) (nets : List Name) (front : List ℕ) (old : List Bool) (i n : ℕ) → length nets ≡ n → old ≡ marks → marks ≡ marks_of nets (nets_at nets front) → i < length old → i < n
inside_of marks nets front old i n size same are inside =
    let a = ap length same in
    let b = ap length are ∙ marks_length nets (nets_at nets front) in
    omega arith
