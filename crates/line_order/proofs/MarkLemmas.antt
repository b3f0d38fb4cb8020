-- Marks at names.
use Rattle.std.proofs.Common.{◌≡◌, ◌≢◌, refl, sym, ◌∙◌, ap, ap₂, subst, ℕ, zero, suc, ◌+◌, ◌<◌, ◌≤◌, List, [], ◌∷◌, ◌++◌, map, filter, length, Bool, true, false, ◌||◌, ◌&&◌, not, cond, get_or, set, eqb, arith, inl, inr, ◌⊎◌, append_assoc, append-nil, take, All, add-one, length-append}
use Rattle.std.specs.List.{AllByRecursion, flat_map, list_all}
use Rattle.std.proofs.lemmas.List.{length-set, get_or-set_same, get_or-set_other, map-append, take_more}
use Rattle.std.proofs.lemmas.List.Elements.{filter-append}
use Rattle.std.proofs.lemmas.Grind.{flat_map-append}
use Rattle.netlist_spec.specs.Netlist.{Name, same_name, stands_in, are_distinct}
use Rattle.netlist_spec.proofs.OneValue.{passes_both, fails_first, All_append}
use Rattle.imp_text.specs.declared.names.NameId.{NameId}
use Rattle.imp_text.proofs.NamesLemmas.{same_name_self, same_name-comm, stands_in-append}
use Rattle.blif_read.specs.declared.file.Port.{Port}
use Rattle.blif_read.specs.View.{name_at}
use Rattle.line_order.specs.Marks.{Marks}

not_true : (b : Bool) → not b ≡ true → b ≡ false
not_true true e = cc e
not_true false e = refl

not_at : (n : Name) (ns : List Name) → stands_in n ns ≡ false → (k : ℕ) → k < length ns → same_name n (get_or ns k []) ≡ false
not_at n [] h k within = absurd (omega arith)
not_at n (m ∷ ms) h zero within = (fails_first _ _ h).0
not_at n (m ∷ ms) h (suc k) within = not_at n ms (fails_first _ _ h).1 k (omega arith)

-- two numbers below the end have one name only where they are one number
pub apart : (all : List Name) (j k : ℕ) → are_distinct all ≡ true → j < length all → k < length all → j ≢ k → same_name (get_or all j []) (get_or all k []) ≡ false
apart [] j k d inside within other = absurd (omega arith)
apart (n ∷ ns) zero zero d inside within other = absurd (other refl)
apart (n ∷ ns) zero (suc k) d inside within other = not_at n ns (not_true (stands_in n ns) (passes_both _ _ d).0) k (omega arith)
apart (n ∷ ns) (suc j) zero d inside within other =
    same_name-comm (get_or ns j []) n ∙ not_at n ns (not_true (stands_in n ns) (passes_both _ _ d).0) j (omega arith)
apart (n ∷ ns) (suc j) (suc k) d inside within other = apart ns j k (passes_both _ _ d).1 (omega arith) (omega arith) (λ e. other (ap suc e))

same_or_other : (j k : ℕ) → (j ≡ k) ⊎ (j ≢ k)
same_or_other j k = grind arith

-- numbers are the same where names are
pub same_number : (all : List Name) (j k : ℕ) → are_distinct all ≡ true → j < length all → k < length all → eqb j k ≡ same_name (get_or all j []) (get_or all k [])
same_number all j k d inside within = at (same_or_other j k)
  where
    at : (j ≡ k) ⊎ (j ≢ k) → eqb j k ≡ same_name (get_or all j []) (get_or all k [])
    at (inl e) = grind (arith, e) ∙ sym (ap (λ i. same_name (get_or all i []) (get_or all k [])) e ∙ same_name_self (get_or all k []))
    at (inr other) = grind (arith, other) ∙ sym (apart all j k d inside within other)

or_false_last : (b : Bool) → (b || (false || false)) ≡ b
or_false_last true = refl
or_false_last false = refl

or_true_last : (b : Bool) → (b || (true || false)) ≡ true
or_true_last true = refl
or_true_last false = refl

pub mark_set : (all : List Name) (marks : List Bool) (listed : List Name) (id : NameId) → id.0 < length marks → Marks all marks listed → Marks all (set marks id.0 true) (listed ++ name_at all id ∷ [])
mark_set all marks listed id inside m =
    record { distinct = m.distinct; each_name = length-set marks id.0 true ∙ m.each_name; marked = λ k within. at k within (same_or_other k id.0) }
  where
    same : (k : ℕ) → k ≡ id.0 → get_or (set marks id.0 true) k false ≡ stands_in (get_or all k []) (listed ++ name_at all id ∷ [])
    same k e =
        ap (λ j. get_or (set marks id.0 true) j false) e ∙ get_or-set_same marks id.0 true false inside
        ∙ sym (stands_in-append (get_or all k []) listed (name_at all id ∷ [])
        ∙ ap (λ b. stands_in (get_or all k []) listed || (b || false)) (ap (λ j. same_name (get_or all j []) (name_at all id)) e ∙ same_name_self (name_at all id))
        ∙ or_true_last (stands_in (get_or all k []) listed))

    at : (k : ℕ) → k < length all → (k ≡ id.0) ⊎ (k ≢ id.0) → get_or (set marks id.0 true) k false ≡ stands_in (get_or all k []) (listed ++ name_at all id ∷ [])
    at k within (inl e) = same k e
    at k within (inr other) =
        get_or-set_other marks id.0 k true false other ∙ m.marked k within
        ∙ sym (stands_in-append (get_or all k []) listed (name_at all id ∷ [])
        ∙ ap (λ b. stands_in (get_or all k []) listed || (b || false)) (apart all k id.0 m.distinct within (subst (λ l. id.0 < l) m.each_name inside) other)
        ∙ or_false_last (stands_in (get_or all k []) listed))

pub mark_at : (all : List Name) (marks : List Bool) (listed : List Name) (id : NameId) → id.0 < length marks → Marks all marks listed → get_or marks id.0 false ≡ stands_in (name_at all id) listed
mark_at all marks listed id inside m = m.marked id.0 (subst (λ l. id.0 < l) m.each_name inside)

-- Lists that are equal have the same marks.
pub listed_as : (all : List Name) (marks : List Bool) (listed other : List Name) → listed ≡ other → Marks all marks listed → Marks all marks other
listed_as all marks listed other e m = subst (Marks all marks) e m

map-step : {A B : Type 0} (f : A → B) (xs : List A) (i : ℕ) (d : A) → i < length xs → map f (take (i + 1) xs) ≡ map f (take i xs) ++ f (get_or xs i d) ∷ []
map-step f xs i d h = ap (map f) (take_more xs i d h) ∙ map-append f (take i xs) (get_or xs i d ∷ [])

-- one more port
pub port_marked : (all listed : List Name) (after : List Bool) (ports : List Port) (i : ℕ) (none : Port) → i < length ports → Marks all after ((listed ++ map (λ (port : Port). name_at all port.name) (take i ports)) ++ name_at all (get_or ports i none).name ∷ []) → Marks all after (listed ++ map (λ (port : Port). name_at all port.name) (take (i + 1) ports))
port_marked all listed after ports i none inside m =
    subst (Marks all after) (append_assoc listed (map (λ (port : Port). name_at all port.name) (take i ports)) (name_at all (get_or ports i none).name ∷ []) ∙ ap (λ ns. listed ++ ns) (sym (map-step (λ (port : Port). name_at all port.name) ports i none inside))) m

-- one more port, if it is no clock net
pub data_next : (all nets : List Name) (ports : List Port) (i : ℕ) (none : Port) (is_clock : Bool) → i < length ports → is_clock ≡ stands_in (name_at all (get_or ports i none).name) nets
    → filter (λ n. not (stands_in n nets)) (map (λ (port : Port). name_at all port.name) (take (i + 1) ports))
    ≡ filter (λ n. not (stands_in n nets)) (map (λ (port : Port). name_at all port.name) (take i ports)) ++ cond (not is_clock) (name_at all (get_or ports i none).name ∷ []) []
data_next all nets ports i none is_clock inside e =
    let keep : Name → Bool = λ n. not (stands_in n nets) in
    let named : Port → Name = λ port. name_at all port.name in
    let here = named (get_or ports i none) in
    ap (filter keep) (map-step named ports i none inside)
    ∙ (filter-append keep (map named (take i ports)) (here ∷ []) ∙ ap (λ b. filter keep (map named (take i ports)) ++ cond (not b) (here ∷ []) []) (sym e))

pub data_marked : (all listed nets : List Name) (after : List Bool) (ports : List Port) (i : ℕ) (none : Port) (is_clock : Bool) → i < length ports → is_clock ≡ stands_in (name_at all (get_or ports i none).name) nets
    → Marks all after ((listed ++ filter (λ n. not (stands_in n nets)) (map (λ (port : Port). name_at all port.name) (take i ports))) ++ cond (not is_clock) (name_at all (get_or ports i none).name ∷ []) [])
    → Marks all after (listed ++ filter (λ n. not (stands_in n nets)) (map (λ (port : Port). name_at all port.name) (take (i + 1) ports)))
data_marked all listed nets after ports i none is_clock inside e m =
    let keep : Name → Bool = λ n. not (stands_in n nets) in
    let named : Port → Name = λ port. name_at all port.name in
    let here = named (get_or ports i none) in
    let so_far = filter keep (map named (take i ports)) in
    let step = data_next all nets ports i none is_clock inside e in
    subst (Marks all after) (append_assoc listed so_far (cond (not is_clock) (here ∷ []) []) ∙ ap (λ ns. listed ++ ns) (sym step)) m

-- one more part
pub part_more : {X A : Type 0} (part : X → List A) (xs : List X) (i : ℕ) (x : X) → i < length xs → x ≡ get_or xs i x → flat_map part (take (i + 1) xs) ≡ flat_map part (take i xs) ++ part x
part_more part xs i x h is =
    ap (flat_map part) (take_more xs i x h) ∙ flat_map-append part (take i xs) (get_or xs i x ∷ [])
    ∙ ap (λ l. flat_map part (take i xs) ++ l) (append-nil (part (get_or xs i x)) ∙ ap part (sym is))

pub part_marked : (all listed more part : List Name) (after : List Bool) (whole : List Name) → whole ≡ more ++ part → Marks all after ((listed ++ more) ++ part) → Marks all after (listed ++ whole)
part_marked all listed more part after whole is m = subst (Marks all after) (append_assoc listed more part ∙ ap (λ ns. listed ++ ns) (sym is)) m

-- nothing more
pub none_marked : (all listed : List Name) (marks : List Bool) → Marks all marks listed → Marks all marks (listed ++ [])
none_marked all listed marks m = subst (Marks all marks) (sym (append-nil listed)) m

-- one more name passes a test, or one fails it
pub all_more : {X : Type 0} (p : X → Bool) (xs : List X) (i : ℕ) (d : X) → i < length xs → list_all p (take i xs) ≡ true → p (get_or xs i d) ≡ true → list_all p (take (i + 1) xs) ≡ true
all_more {X} p xs i d h a b = ap (λ n. list_all p (take n xs)) (add-one i) ∙ at xs i h a b
  where
    at : (ys : List X) (j : ℕ) → j < length ys → list_all p (take j ys) ≡ true → p (get_or ys j d) ≡ true → list_all p (take (suc j) ys) ≡ true
    at [] j h a b = absurd (omega arith)
    at (y ∷ ys) zero h a b = ap (λ (c : Bool). c && true) b
    at (y ∷ ys) (suc j) h a b = let parts = passes_both _ _ a in ap₂ (λ (x z : Bool). x && z) parts.0 (at ys j (omega arith) parts.1 b)

pub one_fails : {X : Type 0} (p : X → Bool) (xs : List X) (i : ℕ) (d : X) → i < length xs → p (get_or xs i d) ≡ false → list_all p xs ≡ false
one_fails p [] i d h b = absurd (omega arith)
one_fails p (x ∷ xs) zero d h b = ap (λ (c : Bool). c && list_all p xs) b
one_fails p (x ∷ xs) (suc i) d h b = ap (λ (c : Bool). p x && c) (one_fails p xs i d (omega arith) b) ∙ ends (p x)
  where
    ends : (c : Bool) → (c && false) ≡ false
    ends true = refl
    ends false = refl

pub list_all-map : {X Y : Type 0} (p : Y → Bool) (f : X → Y) (xs : List X) → list_all p (map f xs) ≡ list_all (λ x. p (f x)) xs
list_all-map p f [] = refl
list_all-map p f (x ∷ xs) = ap (λ (c : Bool). p (f x) && c) (list_all-map p f xs)

-- lists by their places and by their elements
all_at : {A : Type 0} (P : A → Type 0) (xs : List A) → AllByRecursion P xs → (k : ℕ) (d : A) → k < length xs → P (get_or xs k d)
all_at P [] a k d h = absurd (omega arith)
all_at P (x ∷ xs) a zero d h = a.0
all_at P (x ∷ xs) a (suc k) d h = all_at P xs a.1 k d (omega arith)

pub all_of : {A : Type 0} (P : A → Type 0) (xs : List A) → AllByRecursion P xs → All P xs
all_of P xs a = all_at P xs a

pub each_of : {A : Type 0} (P : A → Type 0) (xs : List A) → All P xs → AllByRecursion P xs
each_of P [] h = tt
each_of P (x ∷ xs) h = (h 0 x (omega arith), each_of P xs (λ k d inside. h (suc k) d (omega arith)))

-- a number that is pushed where a test says so
pub pushed_named : (all : List Name) (before after : List NameId) (test : Bool) (id : NameId) → after ≡ before ++ cond test (id ∷ []) [] → map (name_at all) after ≡ map (name_at all) before ++ cond test (name_at all id ∷ []) []
pushed_named all before after test id e = ap (map (name_at all)) e ∙ (map-append (name_at all) before (cond test (id ∷ []) []) ∙ ap (λ ns. map (name_at all) before ++ ns) (at test))
  where
    at : (b : Bool) → map (name_at all) (cond b (id ∷ []) []) ≡ cond b (name_at all id ∷ []) []
    at true = refl
    at false = refl

pub pushed_within : {A : Type 0} (P : A → Type 0) (before after : List A) (test : Bool) (x : A) → after ≡ before ++ cond test (x ∷ []) [] → P x → AllByRecursion P before → AllByRecursion P after
pushed_within {A} P before after test x e p a = subst (AllByRecursion P) (sym e) (All_append P before (cond test (x ∷ []) []) a (at test))
  where
    at : (b : Bool) → AllByRecursion P (cond b (x ∷ []) [])
    at true = (p, tt)
    at false = tt

pub pushed_few : {A : Type 0} (before after : List A) (test : Bool) (x : A) (i : ℕ) → after ≡ before ++ cond test (x ∷ []) [] → length before ≤ i → length after ≤ i + 1
pushed_few before after test x i e h = at test (ap length e ∙ length-append before (cond test (x ∷ []) []))
  where
    at : (b : Bool) → length after ≡ length before + length (cond b (x ∷ []) []) → length after ≤ i + 1
    at true f = omega arith
    at false f = omega arith
