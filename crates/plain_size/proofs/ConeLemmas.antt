-- What a walk through a cone graph finds are the cone of a net and the words on whose latches it rests.
use Rattle.std.proofs.Common.{◌≡◌, ◌⊎◌, inl, inr, refl, sym, ◌∙◌, ap, ℕ, zero, suc, ◌+◌, ◌<◌, ◌≤◌, Bool, true, false, List, [], ◌∷◌, ◌++◌, length, get_or, take, drop, arith, Contains, Option, Some, None, slice_get, not}
use Rattle.std.specs.Prelude.{◌↔◌, if◌then◌else◌}
use Rattle.std.specs.List.{AllZip}
use Rattle.std.proofs.lemmas.Bool.{cases_lt}
use Rattle.std.proofs.lemmas.List.{length-take, length-drop, get_or-take, get_or-drop}
use Rattle.std.proofs.lemmas.Option.{slice_get_within, slice_get-get_or}
use Rattle.std.proofs.lemmas.Bool.{and_parts, not-true}
use Rattle.imp_text.proofs.NamesLemmas.{same_name-true, same_name_self, stands_in-at}
use Rattle.netlist_spec.specs.Netlist.{Name, same_name, are_distinct, stands_in, Statement, Model, File}
use Rattle.netlist_spec.specs.Covers.{Library}
use Rattle.netlist_spec.specs.Sound.{combines, drives, reads}
use Rattle.netlist_spec.specs.Cones.{marked_sum, AreMarked, IsReached, itself, behind, IsInCone}
use Rattle.guard_spec.specs.Words.{Words}
use Rattle.net_graph.specs.Chains.{IsMarked, Chain, LeadsTo}
use Rattle.net_graph.specs.Chains as chains
use Rattle.size_laws.specs.ConeMarks.{statements_of}
use Rattle.size_laws.specs.Partial.{NeedsWord}
use Rattle.size_laws.proofs.Lists.{contains_at, at_contains, element_at}
use Rattle.plain_size.specs.Walks.{cost_sum, AreReached}
use Rattle.plain_size.specs.Cones.{IsConeGraph, cut, node_of}
use Rattle.plain_size.specs.Nodes.{node_at}

-- ---- names

-- the node of a net is that of its name
pub node_named : (names : List Name) (nodes : List (Option ℕ)) (k : ℕ) → are_distinct names ≡ true → length nodes ≡ length names → k < length names → node_of names nodes (get_or names k []) ≡ node_at nodes k
node_named [] nodes k d e h = absurd (omega arith)
node_named (n ∷ names) [] k d e h = absurd (omega arith)
node_named (n ∷ names) (o ∷ nodes) zero d e h = ap (λ (b : Bool). if b then o else node_of names nodes n) (same_name_self n)
node_named (n ∷ names) (o ∷ nodes) (suc k) d e h =
    let parts = and_parts (not (stands_in n names)) (are_distinct names) d in
    let other : same_name n (get_or names k []) ≡ false = apart n names k (not-true (stands_in n names) parts.0) (omega arith) in
    ap (λ (b : Bool). if b then o else node_of names nodes (get_or names k [])) other ∙ node_named names nodes k parts.1 (omega arith) (omega arith)
  where
    apart : (n : Name) (names : List Name) (k : ℕ) → stands_in n names ≡ false → k < length names → same_name n (get_or names k []) ≡ false
    apart n names k absent h = by_test (same_name n (get_or names k [])) refl
      where
        by_test : (b : Bool) → same_name n (get_or names k []) ≡ b → b ≡ false
        by_test false e = refl
        by_test true e =
            let same : n ≡ get_or names k [] = same_name-true n (get_or names k []) e in
            let there : stands_in n names ≡ true = stands_in-at names k n (slice_get-get_or names k [] h ∙ ap (λ (m : Name). Some m) (sym same)) in
            let clash : true ≡ false = sym there ∙ absent in
            cc clash

-- some net of this name has the node
abbrev pub HasNode : Name → ℕ → List Name → List (Option ℕ) → Type 0
HasNode n j names nodes = (k : ℕ) × (k < length names) × (get_or names k [] ≡ n) × (node_at nodes k ≡ Some j)

-- a name that has a node is that of a net that has it
pub node_found : (names : List Name) (nodes : List (Option ℕ)) (n : Name) (j : ℕ) → node_of names nodes n ≡ Some j → HasNode n j names nodes
node_found [] nodes n j e = cc e
node_found (m ∷ names) [] n j e = cc e
node_found (m ∷ names) (o ∷ nodes) n j e = by_test (same_name m n) refl e (node_found names nodes n j)
  where
    by_test : (b : Bool) → same_name m n ≡ b → (if b then o else node_of names nodes n) ≡ Some j → (node_of names nodes n ≡ Some j → HasNode n j names nodes) → HasNode n j (m ∷ names) (o ∷ nodes)
    by_test true same f later = (0, omega arith, same_name-true m n same, f)
    by_test false other f later = let (k, h, is, at) = later f in (suc k, omega arith, is, at)

-- ---- marks

-- marks that say at each place whether the element has the property
pub marks_by_place : {A : Type 0} (P : A → Type 0) (xs : List A) (marks : List Bool) → length marks ≡ length xs → ((i : ℕ) (x : A) → slice_get xs i ≡ Some x → IsMarked marks i ↔ P x) → AreMarked P xs marks
marks_by_place P [] [] e f = tt
marks_by_place P [] (mark ∷ marks) e f = absurd (omega arith)
marks_by_place P (x ∷ xs) [] e f = absurd (omega arith)
marks_by_place P (x ∷ xs) (mark ∷ marks) e f = (f 0 x refl, marks_by_place P xs marks (omega arith) (λ i y at. f (suc i) y at))

-- marks at elements that have the property cost no more than those at all of them
pub some_cost_less : {A : Type 0} (P : A → Type 0) (f : A → ℕ) (xs : List A) (some marks : List Bool) → AreMarked P xs marks → ((i : ℕ) (x : A) → slice_get xs i ≡ Some x → IsMarked some i → P x) → marked_sum f xs some ≤ marked_sum f xs marks
some_cost_less P f [] some marks are h = omega arith
some_cost_less P f (x ∷ xs) some [] are h = absurd are
some_cost_less P f (x ∷ xs) [] (mark ∷ marks) are h = omega arith
some_cost_less P f (x ∷ xs) (false ∷ some) (false ∷ marks) are h = let r = some_cost_less P f xs some marks are.1 (λ i. h (suc i)) in omega arith
some_cost_less P f (x ∷ xs) (false ∷ some) (true ∷ marks) are h = let r = some_cost_less P f xs some marks are.1 (λ i. h (suc i)) in omega arith
some_cost_less P f (x ∷ xs) (true ∷ some) (true ∷ marks) are h = let r = some_cost_less P f xs some marks are.1 (λ i. h (suc i)) in omega arith
some_cost_less P f (x ∷ xs) (true ∷ some) (false ∷ marks) are h = let clash : false ≡ true = are.0.1 (h 0 x refl refl) in cc clash

sum_without : (costs : List ℕ) → cost_sum costs [] ≡ 0
sum_without [] = refl
sum_without (c ∷ costs) = refl

pub sum_split : (front back : List ℕ) (marks : List Bool) → cost_sum (front ++ back) marks ≡ cost_sum front (take (length front) marks) + cost_sum back (drop (length front) marks)
sum_split [] back marks = omega arith
sum_split (c ∷ front) back [] = let z = sum_without back in omega arith
sum_split (c ∷ front) back (true ∷ marks) = let r = sum_split front back marks in omega arith
sum_split (c ∷ front) back (false ∷ marks) = let r = sum_split front back marks in omega arith

-- costs that are cut
cut_next : (x c cost sum n : ℕ) → c ≡ cut x → (cost ≤ n) × (cost ≤ 1000000 → n ≡ cost) → sum ≡ x + n → (c + cost ≤ sum) × (c + cost ≤ 1000000 → sum ≡ c + cost)
cut_next x c cost sum n e h f = (let a = h.0 in omega arith, λ small. let a = h.0 in let same : n ≡ cost = h.1 (omega arith) in omega arith)

pub sums_cut : {A : Type 0} (f : A → ℕ) (xs : List A) (costs : List ℕ) (marks : List Bool) → AllZip (λ x c. c ≡ cut (f x)) xs costs → (cost_sum costs marks ≤ marked_sum f xs marks) × (cost_sum costs marks ≤ 1000000 → marked_sum f xs marks ≡ cost_sum costs marks)
sums_cut f [] [] marks are = (omega arith, λ h. refl)
sums_cut f [] (c ∷ costs) marks are = absurd are
sums_cut f (x ∷ xs) [] marks are = absurd are
sums_cut f (x ∷ xs) (c ∷ costs) [] are = (omega arith, λ h. refl)
sums_cut f (x ∷ xs) (c ∷ costs) (true ∷ marks) are = cut_next (f x) c (cost_sum costs marks) (f x + marked_sum f xs marks) (marked_sum f xs marks) are.0 (sums_cut f xs costs marks are.1) refl
sums_cut f (x ∷ xs) (c ∷ costs) (false ∷ marks) are =
    let h = sums_cut f xs costs marks are.1 in (let a = h.0 in omega arith, λ small. let same = h.1 (omega arith) in omega arith)

pub one_each : {A B : Type 0} (R : A → B → Type 0) (xs : List A) (ys : List B) → AllZip R xs ys → length xs ≡ length ys
one_each R [] [] a = refl
one_each R [] (y ∷ ys) a = absurd a
one_each R (x ∷ xs) [] a = absurd a
one_each R (x ∷ xs) (y ∷ ys) a = ap suc (one_each R xs ys a.1)

-- ---- chains are cones

module _ (file : File) (library : Library) (m : Model) (words : Words) (node : Name → Option ℕ) (graph : List (List ℕ)) (g : IsConeGraph file library m words node graph) (x : Name) where
  module _ (start : ℕ) (begins : node x ≡ Some start) where
    chain_to : (n : Name) (j : ℕ) → IsReached file library m x n → node n ≡ Some j → LeadsTo graph start j
    chain_to n j itself at = (0, (let same : Some start ≡ Some j = sym begins ∙ at in cc same))
    chain_to n j (behind {n = q} way (s, there, combines, drives, reads)) at =
        let (i, is) = at_contains (statements_of m) s there in
        let (k, chain) = chain_to q i way (g.driver i s q is combines drives) in
        (suc k, (i, chain, (g.reads i j s is).1 (n, reads, at)))

    abbrev Found : ℕ → Type 0
    Found j = (n : Name) × IsReached file library m x n × (node n ≡ Some j)

    step : (i j : ℕ) → Found i → Contains (chains.ends_of graph i) j → (i < length (statements_of m)) ⊎ (length (statements_of m) ≤ i) → Found j
    step i j found edge (inr past) = absurd (g.ends i j past edge)
    step i j (n, way, at) edge (inl inside) =
        let (s, is) = element_at (statements_of m) i inside in
        let (combines, drives) = g.driven i s n is at in
        let (k, reads, next) = (g.reads i j s is).0 edge in
        (k, behind way (s, contains_at (statements_of m) i s is, combines, drives, reads), next)

    found_by : (k j : ℕ) → Chain graph k start j → Found j
    found_by zero j chain = (x, itself, begins ∙ ap (λ (i : ℕ). Some i) chain)
    found_by (suc k) j (i, chain, edge) = step i j (found_by k i chain) edge (cases_lt i (length (statements_of m)))

    pub cone_leads : (j : ℕ) (s : Statement) → slice_get (statements_of m) j ≡ Some s → IsInCone file library m x s → LeadsTo graph start j
    cone_leads j s is (combines, n, drives, way) = chain_to n j way (g.driver j s n is combines drives)

    pub leads_cone : (j : ℕ) (s : Statement) → slice_get (statements_of m) j ≡ Some s → LeadsTo graph start j → IsInCone file library m x s
    leads_cone j s is (k, chain) =
        let (n, way, at) = found_by k j chain in
        let (combines, drives) = g.driven j s n is at in
        (combines, n, drives, way)

    pub needs_leads : (w : ℕ) (word : List ℕ) → slice_get words w ≡ Some word → NeedsWord file library m x word → LeadsTo graph start (length (statements_of m) + w)
    needs_leads w word is (i, there, (q, shown, way)) = chain_to q (length (statements_of m) + w) way (g.holder w i word q is there shown)

    pub leads_needs : (w : ℕ) (word : List ℕ) → slice_get words w ≡ Some word → LeadsTo graph start (length (statements_of m) + w) → NeedsWord file library m x word
    leads_needs w word is (k, chain) =
        let (n, way, at) = found_by k (length (statements_of m) + w) chain in
        let (i, there, shown) = g.held w word n is at in
        (i, there, (n, shown, way))

    module _ (marks : List Bool) (are : AreReached graph start marks) where
      abbrev first : ℕ
      first = length (statements_of m)

      pub cone_marks : AreMarked (IsInCone file library m x) (statements_of m) (take (length (statements_of m)) marks)
      cone_marks =
          marks_by_place (IsInCone file library m x) (statements_of m) (take first marks)
          (let l = length-take first marks in let e = are.each_node in let h = g.each in omega arith)
          (λ j s is. (λ h. leads_cone j s is ((are.exact j).0 (sym (here j s is) ∙ h)), λ h. here j s is ∙ (are.exact j).1 (cone_leads j s is h)))
        where
          here : (j : ℕ) (s : Statement) → slice_get (statements_of m) j ≡ Some s → get_or (take first marks) j false ≡ get_or marks j false
          here j s is = get_or-take first marks j false (slice_get_within (statements_of m) j s is)

      pub word_marks : AreMarked (NeedsWord file library m x) words (drop (length (statements_of m)) marks)
      word_marks =
          marks_by_place (NeedsWord file library m x) words (drop first marks)
          (let l = length-drop first marks in let e = are.each_node in let h = g.each in omega arith)
          (λ w word is. (λ h. leads_needs w word is ((are.exact (first + w)).0 (sym (get_or-drop first marks w false) ∙ h)), λ h. get_or-drop first marks w false ∙ (are.exact (first + w)).1 (needs_leads w word is h)))

  module _ (none : node x ≡ None) where
    only_itself : (n : Name) → IsReached file library m x n → n ≡ x
    only_itself n itself = refl
    only_itself n (behind {n = q} way (s, there, combines, drives, reads)) =
        let (i, is) = at_contains (statements_of m) s there in
        let at : node q ≡ Some i = g.driver i s q is combines drives in
        let same : q ≡ x = only_itself q way in
        let clash : None ≡ Some i = sym none ∙ (sym (ap node same) ∙ at) in
        cc clash

    pub none_in_cone : (j : ℕ) (s : Statement) → slice_get (statements_of m) j ≡ Some s → IsInCone file library m x s → ⊥
    none_in_cone j s is (combines, n, drives, way) =
        let at : node n ≡ Some j = g.driver j s n is combines drives in
        let clash : None ≡ Some j = sym none ∙ (sym (ap node (only_itself n way)) ∙ at) in
        cc clash

    pub none_needed : (w : ℕ) (word : List ℕ) → slice_get words w ≡ Some word → NeedsWord file library m x word → ⊥
    none_needed w word is (i, there, (q, shown, way)) =
        let at : node q ≡ Some (length (statements_of m) + w) = g.holder w i word q is there shown in
        let clash : None ≡ Some (length (statements_of m) + w) = sym none ∙ (sym (ap node (only_itself q way)) ∙ at) in
        cc clash
