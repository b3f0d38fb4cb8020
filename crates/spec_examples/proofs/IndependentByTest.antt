-- The bits of the cells of a concrete netlist, by tests that compute.
use Rattle.std.proofs.Common.{◌≡◌, refl, sym, ap, subst, ℕ, zero, suc, ◌<◌, ◌≤◌, List, [], ◌∷◌, length, get_or, slice_get, Bool, true, false, not, ◌&&◌, ◌||◌, ◌==◌, cond, nat_le, nat_lt, is_some, ◌⊎◌, inl, inr, Option, Some, None, arith, Contains, IsTrue, eqb-true, ltb-true, leb-true}
use Rattle.std.proofs.lemmas.Option.{slice_get_within, get_or_from_slice_get}
use Rattle.std.specs.List.{AllByRecursion, list_all, list_any, range_with_len}
use Rattle.std.specs.Cmp.Lexicographic.{bytes_decides}
use Rattle.netlist_spec.specs.Netlist.{Name, same_name, stands_in, Statement, names, latch, subckt, Model}
use Rattle.netlist_spec.specs.Models.{Gate, gates_of, latch_outputs, latch_inputs, output_nets}
use Rattle.netlist_spec.specs.CellBits.{Bit, latch_bit, output_bit, stands_before, Reaches, own, on, IsGateBit, IsBitOf, is_rail_name, IsRail, IsWide, output_read, HasOneBit, IsIndependentCell, cells_of, IsIndependent}
use Rattle.guard_spec.specs.Shaped.{NeverBack}
use Rattle.netlist_spec.proofs.ListTests.{both, either, implies, any_element, any_from, all_at, all_below}

-- ---- nets that are reached

-- a net that is no output and is read by the gate
abbrev goes_on : Model → Gate → Name → Bool
goes_on m g k = stands_in k g.ins && not (stands_in k (output_nets m))

-- the nets that a net reaches, where each gate reads earlier ones
abbrev reached_from : Model → List Gate → List Name → List Name
reached_from m [] found = found
reached_from m (g ∷ gs) found = reached_from m gs (cond (list_any (goes_on m g) found) (g.out ∷ found) found)

abbrev pub reached : Model → Name → List Name
reached m n = reached_from m (gates_of m) (n ∷ [])

-- no gate leads out of these nets
abbrev is_closed : Model → List Name → Bool
is_closed m found = list_all (λ g. not (list_any (goes_on m g) found) || stands_in g.out found) (gates_of m)

found_name : (k : Name) (found : List Name) → stands_in k found ≡ true → Contains found k
found_name k found h = let (j, in_list, e) = any_element (same_name k) found h in subst (λ (n : Name). Contains found n) (sym ((bytes_decides k j).0 e)) in_list

reaches_found : (m : Model) (n : Name) (found : List Name) → stands_in n found ≡ true → is_closed m found ≡ true → {k : Name} → Reaches m n k → stands_in k found ≡ true
reaches_found m n found start closed own = start
reaches_found m n found start closed (on {k = k} g r inner in_list reads) =
    implies (list_any (goes_on m g) found) (stands_in g.out found)
    (all_at (λ g. not (list_any (goes_on m g) found) || stands_in g.out found) (gates_of m) closed g in_list)
    (any_from (goes_on m g) found k (found_name k found (reaches_found m n found start closed r)) (and_true (stands_in k g.ins) reads inner))
  where
    and_true : (a : Bool) {b : Bool} → a ≡ true → b ≡ true → (a && b) ≡ true
    and_true true e f = f
    and_true false e f = cc e

-- a way of at most so many gates
abbrev leads_to : ℕ → Model → Name → Name → Bool
leads_to zero m n d = same_name n d
leads_to (suc steps) m n d = same_name n d || list_any (λ g. same_name g.out d && list_any (λ k. goes_on m g k && leads_to steps m n k) g.ins) (gates_of m)

leads_reaches : (steps : ℕ) (m : Model) (n d : Name) → leads_to steps m n d ≡ true → Reaches m n d
leads_reaches zero m n d h = subst (λ (k : Name). Reaches m n k) ((bytes_decides n d).0 h) own
leads_reaches (suc steps) m n d h = by_case (leads_reaches steps m n) (either (same_name n d) _ h)
  where
    by_case : ((k : Name) → leads_to steps m n k ≡ true → Reaches m n k) → (same_name n d ≡ true) ⊎ (list_any (λ g. same_name g.out d && list_any (λ k. goes_on m g k && leads_to steps m n k) g.ins) (gates_of m) ≡ true) → Reaches m n d
    by_case before (inl e) = subst (λ (k : Name). Reaches m n k) ((bytes_decides n d).0 e) own
    by_case before (inr e) =
        let (g, in_list, f) = any_element (λ g. same_name g.out d && list_any (λ k. goes_on m g k && leads_to steps m n k) g.ins) (gates_of m) e in
        let (out, way) = both (same_name g.out d) _ f in
        let (k, listed, w) = any_element (λ k. goes_on m g k && leads_to steps m n k) g.ins way in
        let (step, rest) = both (goes_on m g k) _ w in
        let (reads, inner) = both (stands_in k g.ins) _ step in
        subst (λ (j : Name). Reaches m n j) ((bytes_decides g.out d).0 out) (on g (before k rest) inner in_list reads)

-- ---- the one bit of a cell

abbrev same_bit : Bit → Bit → Bool
same_bit (latch_bit i) (latch_bit j) = i == j
same_bit (output_bit i) (output_bit j) = i == j
same_bit _ _ = false

bits_same : (a b : Bit) → same_bit a b ≡ true → a ≡ b
bits_same (latch_bit i) (latch_bit j) h = ap (λ (k : ℕ). latch_bit k) (eqb-true i j h)
bits_same (output_bit i) (output_bit j) h = ap (λ (k : ℕ). output_bit k) (eqb-true i j h)
bits_same (latch_bit i) (output_bit j) h = cc h
bits_same (output_bit i) (latch_bit j) h = cc h

-- every bit that is found is this one
abbrev only_of : List Name → List Name → (Name → Bool) → Bit → Bool
only_of ds os found bit =
    list_all (λ i. not (found (get_or ds i [])) || same_bit (latch_bit i) bit) (range_with_len 0 (length ds))
    && list_all (λ i. not (found (get_or os i [])) || same_bit (output_bit i) bit) (range_with_len 0 (length os))

only_at : (ns : List Name) (as_bit : ℕ → Bit) (found : Name → Bool) (bit : Bit) → list_all (λ i. not (found (get_or ns i [])) || same_bit (as_bit i) bit) (range_with_len 0 (length ns)) ≡ true
    → (i : ℕ) (d : Name) → slice_get ns i ≡ Some d → found d ≡ true → as_bit i ≡ bit
only_at ns as_bit found bit h i d at f =
    let inside = slice_get_within ns i d at in
    bits_same (as_bit i) bit (implies (found (get_or ns i [])) (same_bit (as_bit i) bit)
    (all_below (λ i. not (found (get_or ns i [])) || same_bit (as_bit i) bit) 0 (length ns) h i (omega arith) (omega arith))
    (subst (λ (n : Name). found n ≡ true) (sym (get_or_from_slice_get ns i d [] at)) f))

abbrev is_net : Option Name → Name → Bool
is_net None n = false
is_net (Some k) n = same_name n k

net_is : (o : Option Name) (n : Name) → is_net o n ≡ true → o ≡ Some n
net_is None n h = cc h
net_is (Some k) n h = ap (λ (j : Name). Some j) (sym ((bytes_decides n k).0 h))

abbrev net_of_bit : Model → Bit → Option Name
net_of_bit m (latch_bit i) = slice_get (latch_inputs m) i
net_of_bit m (output_bit i) = slice_get (output_nets m) i

abbrev reaches_net : ℕ → Model → Name → Option Name → Bool
reaches_net steps m n None = false
reaches_net steps m n (Some d) = leads_to steps m n d

abbrev has_bit_test : Model → Statement → Bit → Bool
has_bit_test m (names ins out cover) bit = reaches_net (length (gates_of m)) m out (net_of_bit m bit)
has_bit_test m (latch d q clocking init) (latch_bit i) = is_net (slice_get (latch_outputs m) i) q
has_bit_test m (latch d q clocking init) (output_bit i) = is_net (slice_get (output_nets m) i) q
has_bit_test m (subckt model binds) bit = false

abbrev pub only_bit_test : Model → Statement → Bit → Bool
only_bit_test m (names ins out cover) bit =
    stands_in out (reached m out) && (is_closed m (reached m out) && only_of (latch_inputs m) (output_nets m) (λ d. stands_in d (reached m out)) bit)
only_bit_test m (latch d q clocking init) bit = only_of (latch_outputs m) (output_nets m) (λ k. same_name k q) bit
only_bit_test m (subckt model binds) bit = true

gate_bit : (m : Model) (n : Name) (bit : Bit) (o : Option Name) → net_of_bit m bit ≡ o → reaches_net (length (gates_of m)) m n o ≡ true → IsGateBit m n bit
gate_bit m n bit None e h = cc h
gate_bit m n (latch_bit i) (Some d) e h = (d, e, leads_reaches (length (gates_of m)) m n d h)
gate_bit m n (output_bit i) (Some d) e h = (d, e, leads_reaches (length (gates_of m)) m n d h)

has_bit : (m : Model) (s : Statement) (bit : Bit) → has_bit_test m s bit ≡ true → IsBitOf m s bit
has_bit m (names ins out cover) bit h = gate_bit m out bit (net_of_bit m bit) refl h
has_bit m (latch d q clocking init) (latch_bit i) h = net_is (slice_get (latch_outputs m) i) q h
has_bit m (latch d q clocking init) (output_bit i) h = net_is (slice_get (output_nets m) i) q h
has_bit m (subckt model binds) bit h = cc h

same_self : (n : Name) → same_name n n ≡ true
same_self n = (bytes_decides n n).1 refl

pub only_bit : (m : Model) (s : Statement) (bit : Bit) → only_bit_test m s bit ≡ true → (other : Bit) → IsBitOf m s other → other ≡ bit
only_bit m (names ins out cover) bit h (latch_bit i) (d, at, way) =
    let (start, rest) = both (stands_in out (reached m out)) _ h in
    let (closed, only) = both (is_closed m (reached m out)) _ rest in
    let (a, b) = both (list_all (λ i. not (stands_in (get_or (latch_inputs m) i []) (reached m out)) || same_bit (latch_bit i) bit) (range_with_len 0 (length (latch_inputs m)))) _ only in
    only_at (latch_inputs m) (λ k. latch_bit k) (λ d. stands_in d (reached m out)) bit a i d at (reaches_found m out (reached m out) start closed way)
only_bit m (names ins out cover) bit h (output_bit i) (d, at, way) =
    let (start, rest) = both (stands_in out (reached m out)) _ h in
    let (closed, only) = both (is_closed m (reached m out)) _ rest in
    let (a, b) = both (list_all (λ i. not (stands_in (get_or (latch_inputs m) i []) (reached m out)) || same_bit (latch_bit i) bit) (range_with_len 0 (length (latch_inputs m)))) _ only in
    only_at (output_nets m) (λ k. output_bit k) (λ d. stands_in d (reached m out)) bit b i d at (reaches_found m out (reached m out) start closed way)
only_bit m (latch d q clocking init) bit h (latch_bit i) at =
    let (a, b) = both (list_all (λ i. not (same_name (get_or (latch_outputs m) i []) q) || same_bit (latch_bit i) bit) (range_with_len 0 (length (latch_outputs m)))) _ h in
    only_at (latch_outputs m) (λ k. latch_bit k) (λ k. same_name k q) bit a i q at (same_self q)
only_bit m (latch d q clocking init) bit h (output_bit i) at =
    let (a, b) = both (list_all (λ i. not (same_name (get_or (latch_outputs m) i []) q) || same_bit (latch_bit i) bit) (range_with_len 0 (length (latch_outputs m)))) _ h in
    only_at (output_nets m) (λ k. output_bit k) (λ k. same_name k q) bit b i q at (same_self q)
only_bit m (subckt model binds) bit h other has = absurd has

abbrev pub one_bit_test : Model → Statement → Bit → Bool
one_bit_test m s bit = has_bit_test m s bit && only_bit_test m s bit

pub one_bit : (m : Model) (s : Statement) (bit : Bit) → one_bit_test m s bit ≡ true → HasOneBit m s bit
one_bit m s bit h = let (a, b) = both (has_bit_test m s bit) (only_bit_test m s bit) h in record { has = has_bit m s bit a; only = only_bit m s bit b }

-- ---- independence

abbrev is_narrow : Statement → Bool
is_narrow (names ins out cover) = nat_le (length ins) 2
is_narrow _ = true

narrow : (s : Statement) → is_narrow s ≡ true → IsWide s → ⊥
narrow (names ins out cover) h wide = let k = leb-true (length ins) 2 h in omega arith
narrow (latch d q clocking init) h wide = wide
narrow (subckt model binds) h wide = wide

abbrev is_rail : Model → Bit → Bool
is_rail m (latch_bit i) = false
is_rail m (output_bit i) = nat_lt i (length (output_nets m)) && is_rail_name (get_or (output_nets m) i [])

slice_at : (ns : List Name) (i : ℕ) → i < length ns → slice_get ns i ≡ Some (get_or ns i [])
slice_at [] i h = absurd (omega arith)
slice_at (n ∷ ns) zero h = refl
slice_at (n ∷ ns) (suc i) h = slice_at ns i (omega arith)

rail_is : (m : Model) (bit : Bit) → is_rail m bit ≡ true → IsRail m bit
rail_is m (latch_bit i) h = cc h
rail_is m (output_bit i) h =
    let (a, b) = both (nat_lt i (length (output_nets m))) _ h in
    (get_or (output_nets m) i [], slice_at (output_nets m) i (ltb-true i _ a), b)

abbrev pub independent_test : Model → Statement → Bit → Bool
independent_test m s bit = is_narrow s && (one_bit_test m s bit && (not (is_some (output_read m s)) || is_rail m bit))

pub independent_cell : (m : Model) (s : Statement) (bit : Bit) → independent_test m s bit ≡ true → IsIndependentCell m s
independent_cell m s bit h =
    let (a, rest) = both (is_narrow s) _ h in
    let (b, c) = both (one_bit_test m s bit) _ rest in
    record { narrow = narrow s a; bit = bit; one = one_bit m s bit b; rails_alone = λ reads. rail_is m bit (implies (is_some (output_read m s)) (is_rail m bit) c reads) }

abbrev pub independent_tests : Model → List Statement → List Bit → Bool
independent_tests m [] [] = true
independent_tests m (s ∷ ss) (b ∷ bs) = independent_test m s b && independent_tests m ss bs
independent_tests m [] (b ∷ bs) = false
independent_tests m (s ∷ ss) [] = false

independent_cells : (m : Model) (ss : List Statement) (bs : List Bit) → independent_tests m ss bs ≡ true → AllByRecursion (IsIndependentCell m) ss
independent_cells m [] bs h = tt
independent_cells m (s ∷ ss) [] h = cc h
independent_cells m (s ∷ ss) (b ∷ bs) h = let (x, y) = both (independent_test m s b) _ h in (independent_cell m s b x, independent_cells m ss bs y)

-- A file of one model is independent with these bits of its cells.
pub independent_by_test : (m : Model) (bits : List Bit) → independent_tests m (cells_of m) bits ≡ true → IsIndependent (record { models = m ∷ [] })
independent_by_test m bits h = (independent_cells m (cells_of m) bits h, tt)

-- ---- the order of the cells

abbrev pub only_tests : Model → List Statement → List Bit → Bool
only_tests m [] [] = true
only_tests m (s ∷ ss) (b ∷ bs) = only_bit_test m s b && only_tests m ss bs
only_tests m [] (b ∷ bs) = false
only_tests m (s ∷ ss) [] = false

abbrev pub never_back_test : List Bit → Bool
never_back_test [] = true
never_back_test (b ∷ bs) = list_all (λ c. not (stands_before c b)) (b ∷ bs) && never_back_test bs

only_in_list : (m : Model) (ss : List Statement) (bs : List Bit) → only_tests m ss bs ≡ true → (i : ℕ) (s : Statement) → slice_get ss i ≡ Some s → (b : Bit) × (slice_get bs i ≡ Some b) × (only_bit_test m s b ≡ true)
only_in_list m [] bs h i s at = cc at
only_in_list m (s ∷ ss) [] h i t at = cc h
only_in_list m (s ∷ ss) (b ∷ bs) h zero t at = let (x, y) = both (only_bit_test m s b) _ h in (b, refl, subst (λ (u : Statement). only_bit_test m u b ≡ true) (same s t at) x)
  where
    same : (s t : Statement) → Some s ≡ Some t → s ≡ t
    same s t e = cc e
only_in_list m (s ∷ ss) (b ∷ bs) h (suc i) t at = let (x, y) = both (only_bit_test m s b) _ h in only_in_list m ss bs y i t at

some_inside : (bs : List Bit) (i : ℕ) (b : Bit) → slice_get bs i ≡ Some b → Contains bs b
some_inside [] i b e = cc e
some_inside (c ∷ bs) zero b e = (0, omega arith, (let same : c ≡ b = cc e in same))
some_inside (c ∷ bs) (suc i) b e = let (k, inside, f) = some_inside bs i b e in (suc k, omega arith, f)

later_bits : (bs : List Bit) → never_back_test bs ≡ true → (i j : ℕ) (b c : Bit) → i ≤ j → slice_get bs i ≡ Some b → slice_get bs j ≡ Some c → not (stands_before c b) ≡ true
later_bits [] h i j b c le e f = cc e
later_bits (x ∷ bs) h zero j b c le e f =
    let (p, q) = both (list_all (λ c. not (stands_before c x)) (x ∷ bs)) _ h in
    let same : x ≡ b = cc e in
    subst (λ (y : Bit). not (stands_before c y) ≡ true) same (all_at (λ c. not (stands_before c x)) (x ∷ bs) p c (some_inside (x ∷ bs) j c f))
later_bits (x ∷ bs) h (suc i) zero b c le e f = absurd (omega arith)
later_bits (x ∷ bs) h (suc i) (suc j) b c le e f = let (p, q) = both (list_all (λ c. not (stands_before c x)) (x ∷ bs)) _ h in later_bits bs q i j b c (omega arith) e f

-- Cells with these bits, which never go back.
pub never_back_by_test : (m : Model) (ss : List Statement) (bs : List Bit) → only_tests m ss bs ≡ true → never_back_test bs ≡ true → NeverBack m ss
never_back_by_test m ss bs only order i j a b one other le at_i at_j has_one has_other =
    let (x, in_i, only_x) = only_in_list m ss bs only i a at_i in
    let (y, in_j, only_y) = only_in_list m ss bs only j b at_j in
    subst (λ (p : Bit). IsTrue (not (stands_before other p))) (sym (only_bit m a x only_x one has_one))
    (subst (λ (q : Bit). IsTrue (not (stands_before q x))) (sym (only_bit m b y only_y other has_other))
    (later_bits bs order i j x y le in_i in_j))
