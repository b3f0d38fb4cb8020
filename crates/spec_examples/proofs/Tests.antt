-- What is known of a concrete guard by tests that compute.
use Rattle.std.proofs.Common.{◌≡◌, refl, sym, ◌∙◌, ap, subst, ℕ, zero, suc, ◌+◌, ◌-◌, ◌<◌, ◌≤◌, List, [], ◌∷◌, length, map, get_or, slice_get, Bool, true, false, ◌&&◌, ◌||◌, ◌==◌, nat_lt, nat_le, ◌⊎◌, inl, inr, Option, Some, None, not, arith, Contains, AllPairs, IsTrue, eqb-true, eq-eqb, lt-ltb, le-leb, ltb-true, leb-true}
use Rattle.std.proofs.lemmas.Bool.{and_from, or_left, or_right}
use Rattle.std.proofs.lemmas.Option.{slice_get_within}
use Rattle.std.proofs.lemmas.List.Elements.{All-from_recursion}
use Rattle.std.specs.List.{AllByRecursion, list_all, list_any, range_with_len}
use Rattle.netlist_spec.specs.Gates.{GateForm, GateList, Machine, ForcedNets, latch_nets, gate_reads, ReadsNet}
use Rattle.netlist_spec.specs.CellBits.{Bit, latch_bit, output_bit, stands_before}
use Rattle.guard_spec.specs.Regions.{Guarded, IsBitNet, IsRegion, CoversGates, HaveOwnNets, IsRailBit, MayRead, AreSeparate, IsDataNet, ReadDataAlone, IsCellOf, IsUntouched}
use Rattle.guard_spec.specs.Codes.{Code}
use Rattle.guard_spec.specs.Words.{Words}
use Rattle.netlist_spec.specs.GateRanges.{Region, LiesIn, LeadsToEnd, is_end, is_read}
use Rattle.netlist_spec.proofs.ListTests.{both, either, any_element, any_from, all_elements, all_at, all_below}

abbrev is_net : Option ℕ → ℕ → Bool
is_net None n = false
is_net (Some k) n = k == n

net_is : (o : Option ℕ) (n : ℕ) → is_net o n ≡ true → o ≡ Some n
net_is None n h = cc h
net_is (Some k) n h = ap (λ (j : ℕ). Some j) (eqb-true k n h)

abbrev same_bit : Bit → Bit → Bool
same_bit (latch_bit i) (latch_bit j) = i == j
same_bit (output_bit i) (output_bit j) = i == j
same_bit _ _ = false

bits_same : (a b : Bit) → same_bit a b ≡ true → a ≡ b
bits_same (latch_bit i) (latch_bit j) h = ap (λ (k : ℕ). latch_bit k) (eqb-true i j h)
bits_same (output_bit i) (output_bit j) h = ap (λ (k : ℕ). output_bit k) (eqb-true i j h)
bits_same (latch_bit i) (output_bit j) h = cc h
bits_same (output_bit i) (latch_bit j) h = cc h

abbrev lies_in : Region → ℕ → Bool
lies_in r n = nat_le r.first n && nat_lt n r.end

lies : (r : Region) (n : ℕ) → lies_in r n ≡ true → LiesIn r n
lies r n h = let (a, b) = both (nat_le r.first n) (nat_lt n r.end) h in (leb-true r.first n a, ltb-true n r.end b)

-- ---- a guard's regions cover its gates

abbrev bit_net : Guarded → Bit → Option ℕ
bit_net g (latch_bit i) = slice_get (map (λ r. r.d) g.machine.latches) i
bit_net g (output_bit i) = slice_get g.machine.outputs i

bit_net_is : (g : Guarded) (b : Bit) (n : ℕ) → bit_net g b ≡ Some n → IsBitNet g b n
bit_net_is g (latch_bit i) n e = e
bit_net_is g (output_bit i) n e = e

abbrev is_region : Guarded → Region → Bool
is_region g r = nat_le g.machine.net.leaves r.first && (nat_lt r.first r.end && is_net (bit_net g r.bit) (r.end - 1))

region_is : (g : Guarded) (r : Region) → is_region g r ≡ true → IsRegion g r
region_is g r h =
    let (a, rest) = both (nat_le g.machine.net.leaves r.first) (nat_lt r.first r.end && is_net (bit_net g r.bit) (r.end - 1)) h in
    let (b, c) = both (nat_lt r.first r.end) (is_net (bit_net g r.bit) (r.end - 1)) rest in
    let some : r.first < r.end = ltb-true r.first r.end b in
    record { gates = leb-true _ _ a; some = some; last = r.end - 1; is_last = omega arith; own = bit_net_is g r.bit (r.end - 1) (net_is (bit_net g r.bit) (r.end - 1) c) }

abbrev follows : Region → Region → Bool
follows r s = stands_before r.bit s.bit && nat_le r.end s.first

abbrev in_order : List Region → Bool
in_order [] = true
in_order (r ∷ rs) = list_all (follows r) rs && in_order rs

pairs_follow : (rs : List Region) → in_order rs ≡ true → AllPairs (λ r s. IsTrue (stands_before r.bit s.bit) × (r.end ≤ s.first)) rs
pairs_follow [] h i j d before inside = absurd (omega arith)
pairs_follow (r ∷ rs) h i zero d before inside = absurd (omega arith)
pairs_follow (r ∷ rs) h zero (suc j) d before inside =
    let (a, b) = both (list_all (follows r) rs) (in_order rs) h in
    let e = All-from_recursion (λ s. follows r s ≡ true) rs (all_elements (follows r) rs a) j d (omega arith) in
    let (x, y) = both (stands_before r.bit (get_or rs j d).bit) (nat_le r.end (get_or rs j d).first) e in (x, leb-true _ _ y)
pairs_follow (r ∷ rs) h (suc i) (suc j) d before inside = let (a, b) = both (list_all (follows r) rs) (in_order rs) h in pairs_follow rs b i j d (omega arith) (omega arith)

abbrev pub covers_gates : Guarded → Bool
covers_gates g =
    list_all (is_region g) g.regions
    && (in_order g.regions && list_all (λ n. list_any (λ r. lies_in r n) g.regions) (range_with_len g.machine.net.leaves (length g.machine.net.gates)))

each_holds : {A : Type 0} (P Q : A → Type 0) → ((x : A) → P x → Q x) → (xs : List A) → AllByRecursion P xs → AllByRecursion Q xs
each_holds P Q f [] a = tt
each_holds P Q f (x ∷ xs) a = (f x a.0, each_holds P Q f xs a.1)

pub covers_by_test : (g : Guarded) → covers_gates g ≡ true → CoversGates g
covers_by_test g h =
    let (a, rest) = both (list_all (is_region g) g.regions) _ h in
    let (b, c) = both (in_order g.regions) _ rest in
    record {
      regions = each_holds (λ r. is_region g r ≡ true) (IsRegion g) (region_is g) g.regions (all_elements (is_region g) g.regions a);
      apart = λ i j d before inside. inl ((pairs_follow g.regions b i j d before inside).1);
      each = λ n low high. held n (all_below (λ n. list_any (λ r. lies_in r n) g.regions) g.machine.net.leaves (length g.machine.net.gates) c n low high);
    }
  where
    held : (n : ℕ) → list_any (λ r. lies_in r n) g.regions ≡ true → (r : Region) × Contains g.regions r × (r.first ≤ n) × (n < r.end)
    held n e = let (r, in_list, f) = any_element (λ r. lies_in r n) g.regions e in let (low, high) = lies r n f in (r, in_list, low, high)

-- ---- each bit has its own net

abbrev has_region : Guarded → Bit → Bool
has_region g b = list_any (λ r. same_bit r.bit b) g.regions

region_for : (g : Guarded) (b : Bit) → has_region g b ≡ true → (r : Region) × Contains g.regions r × (r.bit ≡ b)
region_for g b h = let (r, in_list, e) = any_element (λ r. same_bit r.bit b) g.regions h in (r, in_list, bits_same r.bit b e)

abbrev has_own_output : Guarded → Machine → ℕ → ℕ → Bool
has_own_output g source i n = (nat_le g.machine.net.leaves n && has_region g (output_bit i)) || (nat_lt n source.inputs && is_net (slice_get source.outputs i) n)

abbrev passes_on : Guarded → Machine → ℕ → ℕ → Bool
passes_on g source i n = not (nat_lt n source.inputs) || is_net (slice_get g.machine.outputs i) n

abbrev pub has_own_nets : Guarded → Machine → Bool
has_own_nets g source =
    nat_le source.inputs g.machine.net.leaves
    && (list_all (λ i. has_region g (latch_bit i)) (range_with_len 0 (length g.machine.latches))
    && (list_all (λ i. has_own_output g source i (get_or g.machine.outputs i 0)) (range_with_len 0 (length g.machine.outputs))
    && list_all (λ i. passes_on g source i (get_or source.outputs i 0)) (range_with_len 0 (length source.outputs))))

pub own_nets_by_test : (g : Guarded) (source : Machine) → g.machine.inputs ≡ source.inputs → has_own_nets g source ≡ true → HaveOwnNets g source
own_nets_by_test g source same h =
    let (few, rest) = both (nat_le source.inputs g.machine.net.leaves) _ h in
    let (a, outputs) = both (list_all (λ i. has_region g (latch_bit i)) (range_with_len 0 (length g.machine.latches))) _ rest in
    let (b, c) = both (list_all (λ i. has_own_output g source i (get_or g.machine.outputs i 0)) (range_with_len 0 (length g.machine.outputs))) _ outputs in
    record {
      inputs = same;
      latches = λ i inside. region_for g (latch_bit i) (all_below (λ i. has_region g (latch_bit i)) 0 (length g.machine.latches) a i (omega arith) (omega arith));
      outputs = λ i n at gate. gate_output i n at gate (told b i n at) (leb-true _ _ few);
      passes = λ i n at leaf. passed i n at leaf (told b i n at);
      passes_all = λ i n at input. passed_on n (slice_get g.machine.outputs i) (asked c i n at) (lt-ltb n source.inputs input);
    }
  where
    told : list_all (λ i. has_own_output g source i (get_or g.machine.outputs i 0)) (range_with_len 0 (length g.machine.outputs)) ≡ true → (i n : ℕ) → slice_get g.machine.outputs i ≡ Some n → has_own_output g source i n ≡ true
    told b i n at =
        let inside = slice_get_within g.machine.outputs i n at in
        subst (λ (k : ℕ). has_own_output g source i k ≡ true) (Rattle.std.proofs.lemmas.Option.get_or_from_slice_get g.machine.outputs i n 0 at)
        (all_below (λ i. has_own_output g source i (get_or g.machine.outputs i 0)) 0 (length g.machine.outputs) b i (omega arith) (omega arith))

    asked : list_all (λ i. passes_on g source i (get_or source.outputs i 0)) (range_with_len 0 (length source.outputs)) ≡ true → (i n : ℕ) → slice_get source.outputs i ≡ Some n → passes_on g source i n ≡ true
    asked c i n at =
        let inside = slice_get_within source.outputs i n at in
        subst (λ (k : ℕ). passes_on g source i k ≡ true) (Rattle.std.proofs.lemmas.Option.get_or_from_slice_get source.outputs i n 0 at)
        (all_below (λ i. passes_on g source i (get_or source.outputs i 0)) 0 (length source.outputs) c i (omega arith) (omega arith))

    passed_on : (n : ℕ) (o : Option ℕ) → (not (nat_lt n source.inputs) || is_net o n) ≡ true → nat_lt n source.inputs ≡ true → o ≡ Some n
    passed_on n o h low = net_is o n (subst (λ (b : Bool). (not b || is_net o n) ≡ true) low h)

    gate_output : (i n : ℕ) → slice_get g.machine.outputs i ≡ Some n → g.machine.net.leaves ≤ n → has_own_output g source i n ≡ true → source.inputs ≤ g.machine.net.leaves → (r : Region) × Contains g.regions r × (r.bit ≡ output_bit i)
    gate_output i n at gate e few = by_case (either (nat_le g.machine.net.leaves n && has_region g (output_bit i)) _ e)
      where
        by_case : ((nat_le g.machine.net.leaves n && has_region g (output_bit i)) ≡ true) ⊎ ((nat_lt n source.inputs && is_net (slice_get source.outputs i) n) ≡ true) → (r : Region) × Contains g.regions r × (r.bit ≡ output_bit i)
        by_case (inl f) = region_for g (output_bit i) (both _ _ f).1
        by_case (inr f) = absurd (let k = ltb-true n source.inputs (both _ _ f).0 in omega arith)

    passed : (i n : ℕ) → slice_get g.machine.outputs i ≡ Some n → n < g.machine.net.leaves → has_own_output g source i n ≡ true → (n < source.inputs) × (slice_get source.outputs i ≡ Some n)
    passed i n at leaf e = by_case (either (nat_le g.machine.net.leaves n && has_region g (output_bit i)) _ e)
      where
        by_case : ((nat_le g.machine.net.leaves n && has_region g (output_bit i)) ≡ true) ⊎ ((nat_lt n source.inputs && is_net (slice_get source.outputs i) n) ≡ true) → (n < source.inputs) × (slice_get source.outputs i ≡ Some n)
        by_case (inl f) = absurd (let k = leb-true _ _ (both (nat_le g.machine.net.leaves n) _ f).0 in omega arith)
        by_case (inr f) = let (x, y) = both (nat_lt n source.inputs) _ f in (ltb-true _ _ x, net_is (slice_get source.outputs i) n y)

-- ---- the regions are separate

abbrev reads_of : Option GateForm → List ℕ
reads_of None = []
reads_of (Some gate) = gate_reads gate

abbrev reads_at : GateList → ℕ → List ℕ
reads_at net n = reads_of (slice_get net.gates (n - net.leaves))

reads_listed : (net : GateList) (n k : ℕ) → ReadsNet net n k → Contains (reads_at net n) k
reads_listed net n k r =
    let e : n - net.leaves ≡ r.place = let f = r.number in omega arith in
    subst (λ (o : Option GateForm). Contains (reads_of o) k) (sym (ap (λ (i : ℕ). slice_get net.gates i) e ∙ r.is_gate)) r.reads

abbrev is_among : List ℕ → ℕ → Bool
is_among ks n = list_any (λ k. k == n) ks

among : (ks : List ℕ) (n : ℕ) → is_among ks n ≡ true → Contains ks n
among ks n h = let (k, in_list, e) = any_element (λ k. k == n) ks h in subst (λ (j : ℕ). Contains ks j) (eqb-true k n e) in_list

abbrev is_rail_bit : Guarded → Bit → Bool
is_rail_bit g (latch_bit i) = false
is_rail_bit g (output_bit i) = nat_le (length g.machine.outputs) (i + g.rails)

rail_bit_is : (g : Guarded) (b : Bit) → is_rail_bit g b ≡ true → IsRailBit g b
rail_bit_is g (latch_bit i) h = cc h
rail_bit_is g (output_bit i) h = leb-true _ _ h

abbrev may_read : Guarded → Region → ℕ → Bool
may_read g r k = nat_lt k g.machine.net.leaves || (lies_in r k || (is_rail_bit g r.bit && is_among g.machine.outputs k))

read_allowed : (g : Guarded) (r : Region) (k : ℕ) → may_read g r k ≡ true → MayRead g r k
read_allowed g r k h = by_case (either (nat_lt k g.machine.net.leaves) _ h)
  where
    by_rest : (lies_in r k ≡ true) ⊎ ((is_rail_bit g r.bit && is_among g.machine.outputs k) ≡ true) → MayRead g r k
    by_rest (inl e) = inr (inl (lies r k e))
    by_rest (inr e) = let (a, b) = both (is_rail_bit g r.bit) _ e in inr (inr (rail_bit_is g r.bit a, among g.machine.outputs k b))

    by_case : (nat_lt k g.machine.net.leaves ≡ true) ⊎ ((lies_in r k || (is_rail_bit g r.bit && is_among g.machine.outputs k)) ≡ true) → MayRead g r k
    by_case (inl e) = inl (ltb-true _ _ e)
    by_case (inr e) = by_rest (either (lies_in r k) _ e)

abbrev places_of : Region → List ℕ
places_of r = range_with_len r.first (r.end - r.first)

-- whether the net is the last one of the region, or is read on a way to it of at most so many steps
abbrev leads : ℕ → GateList → Region → ℕ → Bool
leads zero net r n = suc n == r.end
leads (suc steps) net r n = (suc n == r.end) || list_any (λ k. lies_in r k && (nat_le net.leaves k && (is_among (reads_at net k) n && leads steps net r k))) (places_of r)

abbrev pub are_separate : Guarded → Bool
are_separate g =
    list_all (λ r. list_all (λ n. list_all (may_read g r) (reads_at g.machine.net n)) (places_of r)) g.regions
    && (list_all (λ r. list_all (λ n. leads (r.end - r.first) g.machine.net r n) (places_of r)) g.regions && in_order g.regions)

read_from : (net : GateList) (k n : ℕ) → net.leaves ≤ k → (o : Option GateForm) → slice_get net.gates (k - net.leaves) ≡ o → is_among (reads_of o) n ≡ true → ReadsNet net k n
read_from net k n gate None at h = cc h
read_from net k n gate (Some form) at h = record { place = k - net.leaves; number = omega arith; gate = form; is_gate = at; reads = among (gate_reads form) n h }

leads_is : (steps : ℕ) (net : GateList) (r : Region) (n : ℕ) → leads steps net r n ≡ true → LeadsToEnd net r n
leads_is zero net r n h = is_end (sym (eqb-true (suc n) r.end h))
leads_is (suc steps) net r n h = by_case (leads_is steps net r) (either (suc n == r.end) _ h)
  where
    by_case : ((k : ℕ) → leads steps net r k ≡ true → LeadsToEnd net r k) → ((suc n == r.end) ≡ true) ⊎ (list_any (λ k. lies_in r k && (nat_le net.leaves k && (is_among (reads_at net k) n && leads steps net r k))) (places_of r) ≡ true) → LeadsToEnd net r n
    by_case further (inl e) = is_end (sym (eqb-true (suc n) r.end e))
    by_case further (inr e) =
        let (k, in_list, f) = any_element (λ k. lies_in r k && (nat_le net.leaves k && (is_among (reads_at net k) n && leads steps net r k))) (places_of r) e in
        let (a, rest) = both (lies_in r k) _ f in
        let (b, later) = both (nat_le net.leaves k) _ rest in
        let (c, d) = both (is_among (reads_at net k) n) _ later in
        is_read (lies r k a) (read_from net k n (leb-true _ _ b) (slice_get net.gates (k - net.leaves)) refl c) (further k d)

pub separate_by_test : (g : Guarded) → are_separate g ≡ true → AreSeparate g
separate_by_test g h =
    let (a, rest) = both (list_all (λ r. list_all (λ n. list_all (may_read g r) (reads_at g.machine.net n)) (places_of r)) g.regions) _ h in
    let (b, c) = both (list_all (λ r. list_all (λ n. leads (r.end - r.first) g.machine.net r n) (places_of r)) g.regions) _ rest in
    record {
      reads = λ r n k in_list inside read.
          read_allowed g r k
          (all_at (may_read g r) (reads_at g.machine.net n)
          (all_below (λ n. list_all (may_read g r) (reads_at g.machine.net n)) r.first (r.end - r.first)
          (all_at (λ r. list_all (λ n. list_all (may_read g r) (reads_at g.machine.net n)) (places_of r)) g.regions a r in_list) n inside.0 (let high = inside.1 in omega arith))
          k (reads_listed g.machine.net n k read));
      leads = λ r n in_list inside.
          leads_is (r.end - r.first) g.machine.net r n
          (all_below (λ n. leads (r.end - r.first) g.machine.net r n) r.first (r.end - r.first)
          (all_at (λ r. list_all (λ n. leads (r.end - r.first) g.machine.net r n) (places_of r)) g.regions b r in_list) n inside.0 (let high = inside.1 in omega arith));
      in_order = pairs_follow g.regions c;
    }

-- ---- cells that are not faulty

abbrev is_latch_cell : Guarded → Bit → ℕ → Bool
is_latch_cell g (latch_bit i) n = is_net (slice_get (latch_nets g.machine) i) n
is_latch_cell g (output_bit i) n = false

abbrev is_cell_of : Guarded → Bit → ℕ → Bool
is_cell_of g b n = list_any (λ r. same_bit r.bit b && lies_in r n) g.regions || is_latch_cell g b n

same_bit_self : (b : Bit) → same_bit b b ≡ true
same_bit_self (latch_bit i) = eq-eqb i i refl
same_bit_self (output_bit i) = eq-eqb i i refl

net_found : (o : Option ℕ) (n : ℕ) → o ≡ Some n → is_net o n ≡ true
net_found None n e = cc e
net_found (Some k) n e = let same : k ≡ n = cc e in eq-eqb k n same

cell_found : (g : Guarded) (b : Bit) (n : ℕ) → IsCellOf g b n → is_cell_of g b n ≡ true
cell_found g b n (inl (r, in_list, same, low, high)) =
    or_left (list_any (λ r. same_bit r.bit b && lies_in r n) g.regions) _
    (any_from (λ r. same_bit r.bit b && lies_in r n) g.regions r in_list
    (and_from (same_bit r.bit b) _ (subst (λ (c : Bit). same_bit c b ≡ true) (sym same) (same_bit_self b)) (and_from _ _ (le-leb r.first n low) (lt-ltb n r.end high))))
cell_found g (latch_bit i) n (inr h) = or_right (list_any (λ r. same_bit r.bit (latch_bit i) && lies_in r n) g.regions) _ (net_found (slice_get (latch_nets g.machine) i) n h)
cell_found g (output_bit i) n (inr h) = absurd h

abbrev pub untouched_test : Guarded → ForcedNets → Bit → Bool
untouched_test g faults b = list_all (λ (e : ℕ × Bool). not (is_cell_of g b e.0)) faults

none_found : (b : Bool) → not b ≡ true → b ≡ true → ⊥
none_found true h e = cc h
none_found false h e = cc e

pub untouched_by_test : (g : Guarded) (faults : ForcedNets) (b : Bit) → untouched_test g faults b ≡ true → IsUntouched g faults b
untouched_by_test g faults b h =
    each_holds (λ (e : ℕ × Bool). not (is_cell_of g b e.0) ≡ true) (λ (e : ℕ × Bool). IsCellOf g b e.0 → ⊥) (λ e none cell. none_found (is_cell_of g b e.0) none (cell_found g b e.0 cell)) faults
    (all_elements (λ (e : ℕ × Bool). not (is_cell_of g b e.0)) faults h)

-- ---- regions read data alone

abbrev is_data_net : Code → ℕ → Words → ℕ → Bool
is_data_net code first [] k = false
is_data_net code first (w ∷ ws) k = (nat_le first k && nat_lt k (first + length w)) || is_data_net code (first + length w + code.columns) ws k

data_net_is : (code : Code) (first : ℕ) (ws : Words) (k : ℕ) → is_data_net code first ws k ≡ true → IsDataNet code first ws k
data_net_is code first [] k h = cc h
data_net_is code first (w ∷ ws) k h = by_case (data_net_is code (first + length w + code.columns) ws k) (either (nat_le first k && nat_lt k (first + length w)) _ h)
  where
    by_case : (is_data_net code (first + length w + code.columns) ws k ≡ true → IsDataNet code (first + length w + code.columns) ws k)
        → ((nat_le first k && nat_lt k (first + length w)) ≡ true) ⊎ (is_data_net code (first + length w + code.columns) ws k ≡ true) → IsDataNet code first (w ∷ ws) k
    by_case later (inl e) = let (a, b) = both (nat_le first k) _ e in inl (leb-true _ _ a, ltb-true _ _ b)
    by_case later (inr e) = inr (later e)

abbrev is_data_read : Guarded → Code → Words → Region → ℕ → Bool
is_data_read g code words r k = nat_lt k g.machine.inputs || (is_data_net code g.machine.inputs words k || lies_in r k)

data_read_is : (g : Guarded) (code : Code) (words : Words) (r : Region) (k : ℕ) → is_data_read g code words r k ≡ true → (k < g.machine.inputs) ⊎ (IsDataNet code g.machine.inputs words k ⊎ LiesIn r k)
data_read_is g code words r k h = by_case (either (nat_lt k g.machine.inputs) _ h)
  where
    by_rest : (is_data_net code g.machine.inputs words k ≡ true) ⊎ (lies_in r k ≡ true) → IsDataNet code g.machine.inputs words k ⊎ LiesIn r k
    by_rest (inl e) = inl (data_net_is code g.machine.inputs words k e)
    by_rest (inr e) = inr (lies r k e)

    by_case : (nat_lt k g.machine.inputs ≡ true) ⊎ ((is_data_net code g.machine.inputs words k || lies_in r k) ≡ true) → (k < g.machine.inputs) ⊎ (IsDataNet code g.machine.inputs words k ⊎ LiesIn r k)
    by_case (inl e) = inl (ltb-true _ _ e)
    by_case (inr e) = inr (by_rest (either (is_data_net code g.machine.inputs words k) _ e))

abbrev reads_data : Guarded → Code → Words → Region → Bool
reads_data g code words r = is_rail_bit g r.bit || list_all (λ n. list_all (is_data_read g code words r) (reads_at g.machine.net n)) (places_of r)

pub data_alone_by_test : (g : Guarded) (code : Code) (words : Words) → list_all (reads_data g code words) g.regions ≡ true → ReadDataAlone g code words
data_alone_by_test g code words h = λ r n k in_list plain inside read. by_case r n k plain inside read (either (is_rail_bit g r.bit) _ (all_at (reads_data g code words) g.regions h r in_list))
  where
    by_case : (r : Region) (n k : ℕ) → (IsRailBit g r.bit → ⊥) → LiesIn r n → ReadsNet g.machine.net n k
        → (is_rail_bit g r.bit ≡ true) ⊎ (list_all (λ n. list_all (is_data_read g code words r) (reads_at g.machine.net n)) (places_of r) ≡ true)
        → (k < g.machine.inputs) ⊎ (IsDataNet code g.machine.inputs words k ⊎ LiesIn r k)
    by_case r n k plain inside read (inl e) = absurd (plain (rail_bit_is g r.bit e))
    by_case r n k plain inside read (inr e) =
        data_read_is g code words r k
        (all_at (is_data_read g code words r) (reads_at g.machine.net n)
        (all_below (λ n. list_all (is_data_read g code words r) (reads_at g.machine.net n)) r.first (r.end - r.first) e n inside.0 (let high = inside.1 in omega arith))
        k (reads_listed g.machine.net n k read))
