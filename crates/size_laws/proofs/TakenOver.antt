-- The names that a guard takes over are distinct.
use Rattle.std.proofs.Common.{◌≡◌, refl, sym, ◌∙◌, ap, subst, ℕ, zero, suc, ◌+◌, ◌<◌, ◌≤◌, inl, inr, Bool, true, false, not, cond, List, [], ◌∷◌, ◌++◌, length, filter, slice_get, Some, Contains, arith}
use Rattle.std.specs.Prelude.{IsTrue, nat_lt, if◌then◌else◌}
use Rattle.std.specs.List.{AllByRecursion, AllZip}
use Rattle.std.specs.Cmp.Lexicographic.{bytes_decides}
use Rattle.std.proofs.lemmas.Bool.{and_parts, and_from, not-true, ltb-false}
use Rattle.std.proofs.lemmas.List.Elements.{Contains-append_cases}
use Rattle.netlist_spec.specs.Netlist.{Name, same_name, stands_in, are_distinct, is_reserved}
use Rattle.netlist_spec.specs.Elaborated.{Elaborated, HasElaboratedForm, IsLeafWhereNamed, elaborated_clocks}
use Rattle.netlist_spec.proofs.ListTests.{any_element, any_from}
use Rattle.netlist_spec.proofs.OneValue.{All_front, All_back}
use Rattle.size_laws.specs.TakenOver.{names_from, taken_over}
use Rattle.size_laws.proofs.Lists.{contains_head, contains_tail, contains_cases, none_there, at_contains}

-- ---- distinct names, as names of which none is there again

stands : (n : Name) (ns : List Name) → Contains ns n → stands_in n ns ≡ true
stands n ns c = any_from (same_name n) ns n c ((bytes_decides n n).1 refl)

there : (n : Name) (ns : List Name) → stands_in n ns ≡ true → Contains ns n
there n ns h = let (j, c, e) = any_element (same_name n) ns h in subst (λ (k : Name). Contains ns k) (sym ((bytes_decides n j).0 e)) c

absent : (n : Name) (ns : List Name) → (Contains ns n → ⊥) → stands_in n ns ≡ false
absent n ns none = by_test (stands_in n ns) refl
  where
    by_test : (b : Bool) → stands_in n ns ≡ b → b ≡ false
    by_test true e = absurd (none (there n ns e))
    by_test false e = refl

distinct_first : (n : Name) (ns : List Name) → are_distinct (n ∷ ns) ≡ true → Contains ns n → ⊥
distinct_first n ns d c =
    let new = not-true (stands_in n ns) (and_parts (not (stands_in n ns)) (are_distinct ns) d).0 in
    let clash : false ≡ true = sym new ∙ stands n ns c in
    cc clash

distinct_rest : (n : Name) (ns : List Name) → are_distinct (n ∷ ns) ≡ true → are_distinct ns ≡ true
distinct_rest n ns d = (and_parts (not (stands_in n ns)) (are_distinct ns) d).1

distinct_cons : (n : Name) (ns : List Name) → (Contains ns n → ⊥) → are_distinct ns ≡ true → are_distinct (n ∷ ns) ≡ true
distinct_cons n ns new d = and_from _ _ (ap not (absent n ns new)) d

distinct_append : (xs ys : List Name) → are_distinct xs ≡ true → are_distinct ys ≡ true → ((n : Name) → Contains xs n → Contains ys n → ⊥) → are_distinct (xs ++ ys) ≡ true
distinct_append [] ys d e other = e
distinct_append (x ∷ xs) ys d e other =
    distinct_cons x (xs ++ ys)
    (λ c. elim (Contains-append_cases xs ys x c) [ inl a ↦ distinct_first x xs d a | inr b ↦ other x (contains_head x xs) b ])
    (distinct_append xs ys (distinct_rest x xs d) e (λ n c k. other n (contains_tail x n xs c) k))

-- ---- parts of lists

from_filter : (t : Name → Bool) (n : Name) (xs : List Name) → Contains (filter t xs) n → Contains xs n
from_filter t n [] c = c
from_filter t n (x ∷ xs) c = by_test (t x) (from_filter t n xs) c
  where
    by_test : (b : Bool) → (Contains (filter t xs) n → Contains xs n) → Contains (cond b (x ∷ filter t xs) (filter t xs)) n → Contains (x ∷ xs) n
    by_test true later c = elim (contains_cases x n (filter t xs) c) [ inl e ↦ subst (λ (k : Name). Contains (x ∷ xs) k) e (contains_head x xs) | inr d ↦ contains_tail x n xs (later d) ]
    by_test false later c = contains_tail x n xs (later c)

distinct_filter : (t : Name → Bool) (xs : List Name) → are_distinct xs ≡ true → are_distinct (filter t xs) ≡ true
distinct_filter t [] d = refl
distinct_filter t (x ∷ xs) d = by_test (t x) (distinct_filter t xs (distinct_rest x xs d))
  where
    by_test : (b : Bool) → are_distinct (filter t xs) ≡ true → are_distinct (cond b (x ∷ filter t xs) (filter t xs)) ≡ true
    by_test true later = distinct_cons x (filter t xs) (λ c. distinct_first x xs d (from_filter t x xs c)) later
    by_test false later = later

all_filter : (P : Name → Type 0) (t : Name → Bool) (xs : List Name) → AllByRecursion P xs → AllByRecursion P (filter t xs)
all_filter P t [] h = tt
all_filter P t (x ∷ xs) h = by_test (t x) (all_filter P t xs h.1)
  where
    by_test : (b : Bool) → AllByRecursion P (filter t xs) → AllByRecursion P (cond b (x ∷ filter t xs) (filter t xs))
    by_test true later = (h.0, later)
    by_test false later = later

-- a name that is kept stands beside a number from the first one on
from_names : (R : Name → ℕ → Type 0) (first : ℕ) (n : Name) (xs : List Name) (nets : List ℕ) → AllZip R xs nets → Contains (names_from first xs nets) n → Contains xs n × ((k : ℕ) × R n k × (first ≤ k))
from_names R first n [] nets a c = absurd (none_there n c)
from_names R first n (x ∷ xs) [] a c = absurd a
from_names R first n (x ∷ xs) (k ∷ nets) a c = by_test (nat_lt k first) refl (from_names R first n xs nets a.1) c
  where
    more : Contains xs n × ((k : ℕ) × R n k × (first ≤ k)) → Contains (x ∷ xs) n × ((k : ℕ) × R n k × (first ≤ k))
    more h = (contains_tail x n xs h.0, h.1)

    by_test : (b : Bool) → nat_lt k first ≡ b → (Contains (names_from first xs nets) n → Contains xs n × ((k : ℕ) × R n k × (first ≤ k))) → Contains (if b then names_from first xs nets else x ∷ names_from first xs nets) n → Contains (x ∷ xs) n × ((k : ℕ) × R n k × (first ≤ k))
    by_test true e later c = more (later c)
    by_test false e later c = elim (contains_cases x n (names_from first xs nets) c) [
      | inl f ↦ (subst (λ (y : Name). Contains (x ∷ xs) y) f (contains_head x xs), (k, subst (λ (y : Name). R y k) f a.0, ltb-false k first e))
      | inr d ↦ more (later d)
    ]

distinct_from : (first : ℕ) (xs : List Name) (nets : List ℕ) → length xs ≡ length nets → are_distinct xs ≡ true → are_distinct (names_from first xs nets) ≡ true
distinct_from first [] nets e d = refl
distinct_from first (x ∷ xs) [] e d = refl
distinct_from first (x ∷ xs) (k ∷ nets) e d = by_test (nat_lt k first) (distinct_from first xs nets (omega arith) (distinct_rest x xs d))
  where
    some : (ys : List Name) (ms : List ℕ) → length ys ≡ length ms → AllZip (λ (y : Name) (m : ℕ). Unit {0}) ys ms
    some [] [] f = tt
    some [] (m ∷ ms) f = absurd (omega arith)
    some (y ∷ ys) [] f = absurd (omega arith)
    some (y ∷ ys) (m ∷ ms) f = (tt, some ys ms (omega arith))

    by_test : (b : Bool) → are_distinct (names_from first xs nets) ≡ true → are_distinct (if b then names_from first xs nets else x ∷ names_from first xs nets) ≡ true
    by_test true later = later
    by_test false later = distinct_cons x (names_from first xs nets) (λ c. distinct_first x xs d (from_names (λ y m. Unit {0}) first x xs nets (some xs nets (omega arith)) c).0) later

all_from : (P : Name → Type 0) (first : ℕ) (xs : List Name) (nets : List ℕ) → AllByRecursion P xs → AllByRecursion P (names_from first xs nets)
all_from P first [] nets h = tt
all_from P first (x ∷ xs) [] h = tt
all_from P first (x ∷ xs) (k ∷ nets) h = by_test (nat_lt k first) (all_from P first xs nets h.1)
  where
    by_test : (b : Bool) → AllByRecursion P (names_from first xs nets) → AllByRecursion P (if b then names_from first xs nets else x ∷ names_from first xs nets)
    by_test true later = later
    by_test false later = (h.0, later)

all_append : (P : Name → Type 0) (xs ys : List Name) → AllByRecursion P xs → AllByRecursion P ys → AllByRecursion P (xs ++ ys)
all_append P [] ys h k = k
all_append P (x ∷ xs) ys h k = (h.0, all_append P xs ys h.1 k)

at_front : (xs ys : List Name) (i : ℕ) (n : Name) → slice_get xs i ≡ Some n → (i < length xs) × (slice_get (xs ++ ys) i ≡ Some n)
at_front [] ys i n e = absurd (cc e)
at_front (x ∷ xs) ys zero n e = (omega arith, e)
at_front (x ∷ xs) ys (suc i) n e = let (h, f) = at_front xs ys i n e in (omega arith, f)

-- ---- the source

module _ (e : Elaborated) (form : HasElaboratedForm e) where
  -- an output that is no data input has the name of none
  output_is_off : (n : Name) → Contains e.data_names n → Contains (names_from e.machine.inputs e.output_names e.machine.outputs) n → ⊥
  output_is_off n c d =
      let (i, at) = at_contains e.data_names n c in
      let (inside, leaf) = at_front e.data_names e.latch_names i n at in
      let (k, named, high) = (from_names (IsLeafWhereNamed e) e.machine.inputs n e.output_names e.machine.outputs form.leaves d).1 in
      let few : e.machine.net.leaves ≡ e.machine.inputs + length e.machine.latches = form.well_formed.leaves in
      let many = form.inputs in
      let same : k ≡ i = (named i (omega arith)).1 leaf in
      omega arith

  pub taken_over_distinct : IsTrue (are_distinct (taken_over e))
  taken_over_distinct =
      distinct_append e.data_names (names_from e.machine.inputs e.output_names e.machine.outputs)
      (subst (λ (ns : List Name). are_distinct ns ≡ true) (sym form.data_inputs) (distinct_filter (λ n. not (stands_in n (elaborated_clocks e))) e.input_ports form.input_ports))
      (distinct_from e.machine.inputs e.output_names e.machine.outputs form.outputs form.output_ports)
      output_is_off

  abbrev IsUnreserved : Name → Type 0
  IsUnreserved n = IsTrue (not (is_reserved n))

  pub taken_over_free : AllByRecursion (λ n. IsTrue (not (is_reserved n))) (taken_over e)
  taken_over_free =
      let most = All_front IsUnreserved (e.input_ports ++ e.clock_ports ++ e.output_names) e.latch_names form.free in
      let outputs = All_back IsUnreserved (e.input_ports ++ e.clock_ports) e.output_names most in
      let inputs = All_front IsUnreserved e.input_ports e.clock_ports (All_front IsUnreserved (e.input_ports ++ e.clock_ports) e.output_names most) in
      all_append IsUnreserved e.data_names (names_from e.machine.inputs e.output_names e.machine.outputs)
      (subst (λ (ns : List Name). AllByRecursion IsUnreserved ns) (sym form.data_inputs) (all_filter IsUnreserved (λ n. not (stands_in n (elaborated_clocks e))) e.input_ports inputs))
      (all_from IsUnreserved e.machine.inputs e.output_names e.machine.outputs outputs)
