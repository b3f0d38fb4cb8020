-- In the text of a gate list with separate regions each cell has the bit of its region.
use Rattle.std.proofs.Common.{◌≡◌, refl, sym, ◌∙◌, ap, subst, ℕ, zero, suc, ◌+◌, ◌<◌, ◌≤◌, List, [], ◌∷◌, ◌++◌, length, map, filter, find, get_or, slice_get, Bool, true, false, not, ◌||◌, cond, ◌⊎◌, inl, inr, Some, arith, Contains, IsTrue, nat_lt, add-zero, ltb-true, le-ltb}
use Rattle.std.specs.Prelude.{IsSome}
use Rattle.std.proofs.lemmas.Option.{slice_get_within, slice_get-get_or, same_Some}
use Rattle.std.proofs.lemmas.List.{length-map}
use Rattle.std.proofs.lemmas.List.Elements.{All-contains, All-from_recursion}
use Rattle.std.specs.List.{AllByRecursion, list_any, range_with_len, enumerate_from, flat_map, zip}
use Rattle.std.specs.Cmp.Lexicographic.{bytes_decides}
use Rattle.netlist_spec.specs.Netlist.{Name, same_name, stands_in, Statement, Model}
use Rattle.netlist_spec.specs.Models.{Gate, gates_of, latch_outputs, latch_inputs, output_nets}
use Rattle.netlist_spec.specs.Ordered.{driven_by, cell_nets}
use Rattle.netlist_spec.specs.Gates.{GateForm, constant, one, two, ReadsBelow, gate_reads, LatchRow, Machine, IsMachine, ReadsNet}
use Rattle.netlist_spec.specs.CellBits.{Bit, latch_bit, output_bit, stands_before, Reaches, own, on, IsGateBit, IsLatchBit, IsBitOf, IsRail, is_driven_output, IsIndependentCell, cells_of}
use Rattle.guard_spec.specs.Shaped.{NeverBack, is_gate, gate_cells}
use Rattle.guard_spec.specs.Regions.{Guarded, IsBitNet, IsRegion, CoversGates, HaveOwnNets, IsRailBit, MayRead, AreSeparate}
use Rattle.netlist_spec.specs.GateRanges.{Region, LiesIn, LeadsToEnd, is_end, is_read}
use Rattle.netlist_spec.specs.Written.{Named, net_name, latch_statement, gate_statement}
use Rattle.netlist_spec.proofs.ListTests.{both, any_element, any_from}
use Rattle.containment.specs.Written.{machine_of, NamesRails}
use Rattle.netlist_spec.proofs.WrittenFiles.{gate_for}

-- ---- lists

all_slice : {A : Type 0} (P : A → Type 0) (xs : List A) → AllByRecursion P xs → (i : ℕ) (x : A) → slice_get xs i ≡ Some x → P x
all_slice P [] a i x e = cc e
all_slice P (y ∷ ys) a zero x e = let same : y ≡ x = cc e in subst P same a.0
all_slice P (y ∷ ys) a (suc i) x e = all_slice P ys a.1 i x e

all_numbered : {A : Type 0} (R : ℕ → A → Type 0) (a : ℕ) (xs : List A) → AllByRecursion (λ (p : ℕ × A). R p.0 p.1) (enumerate_from a xs) → (i : ℕ) (x : A) → slice_get xs i ≡ Some x → R (a + i) x
all_numbered R a [] all i x e = cc e
all_numbered R a (y ∷ ys) all zero x e = let same : y ≡ x = cc e in subst (λ z. R (a + 0) z) same (subst (λ (k : ℕ). R k y) (sym (add-zero a)) all.0)
all_numbered R a (y ∷ ys) all (suc i) x e = subst (λ (k : ℕ). R k x) (moved a i) (all_numbered R (a + 1) ys all.1 i x e)
  where
    moved : (a i : ℕ) → (a + 1) + i ≡ a + suc i
    moved a i = omega arith

get_any : {A : Type 0} (xs : List A) (k : ℕ) (a b : A) → k < length xs → get_or xs k a ≡ get_or xs k b
get_any [] k a b h = absurd (omega arith)
get_any (x ∷ xs) zero a b h = refl
get_any (x ∷ xs) (suc k) a b h = get_any xs k a b (omega arith)

pub from_slice : {A : Type 0} (xs : List A) (i : ℕ) (x : A) → slice_get xs i ≡ Some x → Contains xs x
from_slice [] i x e = cc e
from_slice (y ∷ ys) zero x e = let same : y ≡ x = cc e in (0, omega arith, same)
from_slice (y ∷ ys) (suc i) x e = let (k, inside, f) = from_slice ys i x e in (suc k, omega arith, f)

to_slice : {A : Type 0} (xs : List A) (x : A) → Contains xs x → (i : ℕ) × (slice_get xs i ≡ Some x)
to_slice xs x (k, inside, e) = (k, slice_get-get_or xs k x inside ∙ ap (λ y. Some y) e)

pub slice_map : {A B : Type 0} (f : A → B) (xs : List A) (i : ℕ) (y : B) → slice_get (map f xs) i ≡ Some y → (x : A) × (slice_get xs i ≡ Some x) × (y ≡ f x)
slice_map f [] i y e = cc e
slice_map f (x ∷ xs) zero y e = (x, refl, (let same : f x ≡ y = cc e in sym same))
slice_map f (x ∷ xs) (suc i) y e = slice_map f xs i y e

map_slice : {A B : Type 0} (f : A → B) (xs : List A) (i : ℕ) (x : A) → slice_get xs i ≡ Some x → slice_get (map f xs) i ≡ Some (f x)
map_slice f [] i x e = cc e
map_slice f (y ∷ xs) zero x e = let same : y ≡ x = cc e in ap (λ z. Some (f z)) same
map_slice f (y ∷ xs) (suc i) x e = map_slice f xs i x e

slice_of_range : (a n i k : ℕ) → slice_get (range_with_len a n) i ≡ Some k → (i < n) × (k ≡ a + i)
slice_of_range a zero i k e = cc e
slice_of_range a (suc n) zero k e = let same : a ≡ k = cc e in (omega arith, omega arith)
slice_of_range a (suc n) (suc i) k e = let (h, f) = slice_of_range (a + 1) n i k e in (omega arith, omega arith)

range_slice : (a n i : ℕ) → i < n → slice_get (range_with_len a n) i ≡ Some (a + i)
range_slice a zero i h = absurd (omega arith)
range_slice a (suc n) zero h = ap (λ (k : ℕ). Some k) (sym (add-zero a))
range_slice a (suc n) (suc i) h = range_slice (a + 1) n i (omega arith) ∙ ap (λ (k : ℕ). Some k) (moved a i)
  where
    moved : (a i : ℕ) → (a + 1) + i ≡ a + suc i
    moved a i = omega arith

-- names of a range of nets beside a list of as many things
module _ {A B : Type 0} (f : Name × A → B) (nm : ℕ → Name) where
  zip_slice : (a : ℕ) (xs : List A) (i : ℕ) (y : B) → slice_get (map f (zip (map nm (range_with_len a (length xs))) xs)) i ≡ Some y → (x : A) × (slice_get xs i ≡ Some x) × (y ≡ f (nm (a + i), x))
  zip_slice a [] i y e = cc e
  zip_slice a (x ∷ xs) zero y e = (x, refl, (let same : f (nm a, x) ≡ y = cc e in sym same ∙ ap (λ (k : ℕ). f (nm k, x)) (sym (add-zero a))))
  zip_slice a (x ∷ xs) (suc i) y e = let (z, at, is) = zip_slice (a + 1) xs i y e in (z, at, is ∙ ap (λ (k : ℕ). f (nm k, z)) (moved a i))
    where
      moved : (a i : ℕ) → (a + 1) + i ≡ a + suc i
      moved a i = omega arith

  pub slice_zip : (a : ℕ) (xs : List A) (i : ℕ) (x : A) → slice_get xs i ≡ Some x → slice_get (map f (zip (map nm (range_with_len a (length xs))) xs)) i ≡ Some (f (nm (a + i), x))
  slice_zip a [] i x e = cc e
  slice_zip a (y ∷ xs) zero x e = let same : y ≡ x = cc e in ap (λ z. Some (f (nm a, z))) same ∙ ap (λ (k : ℕ). Some (f (nm k, x))) (sym (add-zero a))
  slice_zip a (y ∷ xs) (suc i) x e = slice_zip (a + 1) xs i x e ∙ ap (λ (k : ℕ). Some (f (nm k, x))) (moved a i)
    where
      moved : (a i : ℕ) → (a + 1) + i ≡ a + suc i
      moved a i = omega arith

  zip_all : (P : B → Type 0) (a : ℕ) (xs : List A) → ((i : ℕ) (x : A) → slice_get xs i ≡ Some x → P (f (nm (a + i), x))) → AllByRecursion P (map f (zip (map nm (range_with_len a (length xs))) xs))
  zip_all P a [] h = tt
  zip_all P a (x ∷ xs) h = (
    subst (λ (k : ℕ). P (f (nm k, x))) (add-zero a) (h 0 x refl),
    zip_all P (a + 1) xs (λ i y e. subst (λ (k : ℕ). P (f (nm k, y))) (moved a i) (h (suc i) y e)),
  )
    where
      moved : (a i : ℕ) → a + suc i ≡ (a + 1) + i
      moved a i = omega arith

-- a gate reads lower nets
reads_lower : (k : ℕ) (form : GateForm) → ReadsBelow k form → (q : ℕ) → Contains (gate_reads form) q → q < k
reads_lower k (constant b) below q (i, inside, e) = absurd (omega arith)
reads_lower k (one inv a) below q (zero, inside, e) = subst (λ (j : ℕ). j < k) e below
reads_lower k (one inv a) below q (suc i, inside, e) = absurd (omega arith)
reads_lower k (two op a b) below q (zero, inside, e) = subst (λ (j : ℕ). j < k) e below.0
reads_lower k (two op a b) below q (suc zero, inside, e) = subst (λ (j : ℕ). j < k) e below.1
reads_lower k (two op a b) below q (suc (suc i), inside, e) = absurd (omega arith)

few_reads : (form : GateForm) → length (gate_reads form) ≤ 2
few_reads (constant b) = omega arith
few_reads (one inv a) = omega arith
few_reads (two op a b) = omega arith

-- a way that begins one gate earlier
begins_before : (m : Model) (x : Name) (gt : Gate) → IsTrue (not (stands_in x (output_nets m))) → Contains (gates_of m) gt → IsTrue (stands_in x gt.ins) → {z : Name} → Reaches m gt.out z → Reaches m x z
begins_before m x gt inner in_list reads own = on gt own inner in_list reads
begins_before m x gt inner in_list reads (on g way shut listed read) = on g (begins_before m x gt inner in_list reads way) shut listed read

all_both : {A : Type 0} (P : A → Type 0) (xs ys : List A) → AllByRecursion P xs → AllByRecursion P ys → AllByRecursion P (xs ++ ys)
all_both P [] ys a b = b
all_both P (x ∷ xs) ys a b = (a.0, all_both P xs ys a.1 b)

flat_map_map : {A B C : Type 0} (f : B → List C) (h : A → B) (xs : List A) → flat_map f (map h xs) ≡ flat_map (λ x. f (h x)) xs
flat_map_map f h [] = refl
flat_map_map f h (x ∷ xs) = ap (λ rest. f (h x) ++ rest) (flat_map_map f h xs)

found_some : (p : Name → Bool) (xs : List Name) → IsSome (find p xs) → list_any p xs ≡ true
found_some p [] some = absurd (cc some)
found_some p (x ∷ xs) some = by_test (p x) (found_some p xs) some
  where
    by_test : (b : Bool) → (IsSome (find p xs) → list_any p xs ≡ true) → IsSome (cond b (Some x) (find p xs)) → (b || list_any p xs) ≡ true
    by_test true later h = refl
    by_test false later h = later h

only_gate_cells : (n : Named) (zs : List (Name × LatchRow)) (ys : List (Name × GateForm)) → filter is_gate (map (latch_statement n) zs ++ map (gate_statement n) ys) ≡ map (gate_statement n) ys
only_gate_cells n [] [] = refl
only_gate_cells n [] (y ∷ ys) = ap (λ (rest : List Statement). gate_statement n y ∷ rest) (only_gate_cells n [] ys)
only_gate_cells n (z ∷ zs) ys = only_gate_cells n zs ys

not_before_itself : (b : Bit) → not (stands_before b b) ≡ true
not_before_itself (latch_bit i) = let e : nat_lt i i ≡ false = le-ltb i i (omega arith) in ap not e
not_before_itself (output_bit i) = let e : nat_lt i i ≡ false = le-ltb i i (omega arith) in ap not e

not_before_both : (a b : Bit) → stands_before a b ≡ true → not (stands_before b a) ≡ true
not_before_both (latch_bit i) (latch_bit j) h = let k = ltb-true i j h in let e : nat_lt j i ≡ false = le-ltb j i (omega arith) in ap not e
not_before_both (latch_bit i) (output_bit j) h = refl
not_before_both (output_bit i) (latch_bit j) h = cc h
not_before_both (output_bit i) (output_bit j) h = let k = ltb-true i j h in let e : nat_lt j i ≡ false = le-ltb j i (omega arith) in ap not e

not_false : (b : Bool) → not b ≡ true → b ≡ true → ⊥
not_false true h e = cc h
not_false false h e = cc e

-- ---- the regions of a guard

module _ (g : Guarded) (source : Machine) (is_machine : IsMachine g.machine) (covers : CoversGates g) (have : HaveOwnNets g source) where
  abbrev Total : ℕ
  Total = g.machine.net.leaves + length g.machine.net.gates

  region_is : (r : Region) → Contains g.regions r → IsRegion g r
  region_is r in_r = All-contains (IsRegion g) g.regions r (All-from_recursion (IsRegion g) g.regions covers.regions) in_r

  bit_net_below : (b : Bit) (k : ℕ) → IsBitNet g b k → k < g.machine.net.leaves + length g.machine.net.gates
  bit_net_below (latch_bit i) k at =
      let (row, in_rows, is) = slice_map (λ (r : LatchRow). r.d) g.machine.latches i k at in
      subst (λ (d : ℕ). d < g.machine.net.leaves + length g.machine.net.gates) (sym is) (all_slice (λ (l : LatchRow). l.d < g.machine.net.leaves + length g.machine.net.gates) g.machine.latches is_machine.stores i row in_rows)
  bit_net_below (output_bit i) k at = all_slice (λ (o : ℕ). o < g.machine.net.leaves + length g.machine.net.gates) g.machine.outputs is_machine.outputs i k at

  region_ends : (r : Region) → Contains g.regions r → r.end ≤ g.machine.net.leaves + length g.machine.net.gates
  region_ends r in_r = let region = region_is r in_r in let e = region.is_last in let h = bit_net_below r.bit region.last region.own in omega arith

  -- a net lies in one region
  same_region : (r s : Region) → Contains g.regions r → Contains g.regions s → (j : ℕ) → LiesIn r j → LiesIn s j → r ≡ s
  same_region r s (a, in_a, at_a) (b, in_b, at_b) j here there = by_order (order a b)
    where
      order : (x y : ℕ) → (x ≡ y) ⊎ (x < y ⊎ y < x)
      order x y = grind arith

      not_both : (p q : Region) → p ≡ r → q ≡ s → (p.end ≤ q.first) ⊎ (q.end ≤ p.first) → ⊥
      not_both p q e f (inl h) = let x = ap (λ (z : Region). z.end) e in let y = ap (λ (z : Region). z.first) f in let (c, d) = here in let (u, w) = there in omega arith
      not_both p q e f (inr h) = let x = ap (λ (z : Region). z.first) e in let y = ap (λ (z : Region). z.end) f in let (c, d) = here in let (u, w) = there in omega arith

      swap : {P Q : Type 0} → P ⊎ Q → Q ⊎ P
      swap (inl h) = inr h
      swap (inr h) = inl h

      by_order : (a ≡ b) ⊎ (a < b ⊎ b < a) → r ≡ s
      by_order (inl e) = sym at_a ∙ (ap (λ (k : ℕ). get_or g.regions k r) e ∙ (get_any g.regions b r s in_b ∙ at_b))
      by_order (inr (inl less)) = absurd (not_both (get_or g.regions a r) (get_or g.regions b r) at_a (get_any g.regions b r s in_b ∙ at_b) (covers.apart a b r less in_b))
      by_order (inr (inr more)) = absurd (not_both (get_or g.regions a r) (get_or g.regions b r) at_a (get_any g.regions b r s in_b ∙ at_b) (swap (covers.apart b a r more in_a)))

  -- The net of a bit is the last one of its region.
  owner : (r : Region) → Contains g.regions r → (b : Bit) (k : ℕ) → LiesIn r k → IsBitNet g b k → (r.bit ≡ b) × (r.end ≡ suc k)
  owner r in_r (latch_bit i) k inside at =
      let short : i < length g.machine.latches = let (row, in_rows, is) = slice_map (λ (r : LatchRow). r.d) g.machine.latches i k at in slice_get_within g.machine.latches i row in_rows in
      let (s, in_s, bit) = have.latches i short in
      from_region s in_s bit (region_is s in_s)
    where
      from_region : (s : Region) → Contains g.regions s → s.bit ≡ latch_bit i → IsRegion g s → (r.bit ≡ latch_bit i) × (r.end ≡ suc k)
      from_region s in_s bit region =
          let mine : slice_get (map (λ (r : LatchRow). r.d) g.machine.latches) i ≡ Some region.last = subst (λ (b : Bit). IsBitNet g b region.last) bit region.own in
          let e : region.last ≡ k = same_Some _ _ (sym mine ∙ at) in
          let last = region.is_last in
          let some = region.some in
          let same = same_region r s in_r in_s k inside (omega arith, omega arith) in
          (ap (λ (q : Region). q.bit) same ∙ bit, ap (λ (q : Region). q.end) same ∙ (last ∙ ap suc e))
  owner r in_r (output_bit i) k inside at =
      let region = region_is r in_r in
      let low = region.gates in
      let (s, in_s, bit) = have.outputs i k at (let (c, d) = inside in omega arith) in
      from_region s in_s bit (region_is s in_s)
    where
      from_region : (s : Region) → Contains g.regions s → s.bit ≡ output_bit i → IsRegion g s → (r.bit ≡ output_bit i) × (r.end ≡ suc k)
      from_region s in_s bit region =
          let mine : slice_get g.machine.outputs i ≡ Some region.last = subst (λ (b : Bit). IsBitNet g b region.last) bit region.own in
          let e : region.last ≡ k = same_Some _ _ (sym mine ∙ at) in
          let last = region.is_last in
          let some = region.some in
          let same = same_region r s in_r in_s k inside (omega arith, omega arith) in
          (ap (λ (q : Region). q.bit) same ∙ bit, ap (λ (q : Region). q.end) same ∙ (last ∙ ap suc e))

-- ---- the text of a guard

-- the text's main model beside the gate list
pub record IsTextModel (n : Named) (m : Model) : Type 0 where
  pub apart : (i j : ℕ) → i < n.net.leaves + length n.net.gates → j < n.net.leaves + length n.net.gates → net_name n i ≡ net_name n j → i ≡ j
  pub gates : gates_of m ≡ map (gate_for n) (zip (map (net_name n) (range_with_len n.net.leaves (length n.net.gates))) n.net.gates)
  pub outputs : output_nets m ≡ map (net_name n) n.outputs
  pub stores : latch_inputs m ≡ map (net_name n) (map (λ r. r.d) n.latches)
  pub shows : latch_outputs m ≡ map (net_name n) (range_with_len n.data_inputs (length n.latches))
  pub cells : cells_of m ≡ map (latch_statement n) (zip (map (net_name n) (range_with_len n.data_inputs (length n.latches))) n.latches) ++ map (gate_statement n) (zip (map (net_name n) (range_with_len n.net.leaves (length n.net.gates))) n.net.gates)

module _ (n : Named) (m : Model) (text : IsTextModel n m) (rails : ℕ) (regions : List Region) where
  abbrev guard : Guarded
  guard = record { machine = machine_of n; rails = rails; regions = regions }

  module _ (source : Machine) (is_machine : IsMachine (machine_of n)) (covers : CoversGates guard) (have : HaveOwnNets guard source) (separate : AreSeparate guard) where
    abbrev nm : ℕ → Name
    nm k = net_name n k

    abbrev total : ℕ
    total = n.net.leaves + length n.net.gates

    pub region_of : (k : ℕ) → n.net.leaves ≤ k → k < n.net.leaves + length n.net.gates → (r : Region) × Contains regions r × (r.first ≤ k) × (k < r.end)
    region_of k low high = covers.each k low high

    pub ends : (r : Region) → Contains regions r → r.end ≤ n.net.leaves + length n.net.gates
    ends r in_r = region_ends guard source is_machine covers have r in_r

    pub gates_above : (r : Region) → Contains regions r → n.net.leaves ≤ r.first
    gates_above r in_r = (region_is guard source is_machine covers have r in_r).gates

    -- an output net by its name
    output_named : (k : ℕ) → k < n.net.leaves + length n.net.gates → stands_in (net_name n k) (output_nets m) ≡ true → (i : ℕ) × (slice_get n.outputs i ≡ Some k)
    output_named k below h =
        let (y, listed, e) = any_element (same_name (net_name n k)) (output_nets m) h in
        let (i, at) = to_slice (map (net_name n) n.outputs) y (subst (λ (ns : List Name). Contains ns y) text.outputs listed) in
        let (o, in_outs, is) = slice_map (net_name n) n.outputs i y at in
        let o_below = all_slice (λ (o : ℕ). o < n.net.leaves + length n.net.gates) n.outputs is_machine.outputs i o in_outs in
        let same = text.apart k o below o_below ((bytes_decides (net_name n k) y).0 e ∙ is) in
        (i, in_outs ∙ ap (λ (j : ℕ). Some j) (sym same))

    named_output : (i k : ℕ) → slice_get n.outputs i ≡ Some k → stands_in (net_name n k) (output_nets m) ≡ true
    named_output i k at =
        any_from (same_name (net_name n k)) (output_nets m) (net_name n k)
        (subst (λ (ns : List Name). Contains ns (net_name n k)) (sym text.outputs) (from_slice (map (net_name n) n.outputs) i (net_name n k) (map_slice (net_name n) n.outputs i k at)))
        ((bytes_decides (net_name n k) (net_name n k)).1 refl)

    -- a name that a gate reads
    read_named : (ks : List ℕ) (x : Name) → stands_in x (map (net_name n) ks) ≡ true → (q : ℕ) × Contains ks q × (x ≡ net_name n q)
    read_named ks x h =
        let (y, listed, e) = any_element (same_name x) (map (net_name n) ks) h in
        let (i, at) = to_slice (map (net_name n) ks) y listed in
        let (q, in_ks, is) = slice_map (net_name n) ks i y at in
        (q, from_slice ks i q in_ks, (bytes_decides x y).0 e ∙ is)

    named_read : (ks : List ℕ) (q : ℕ) → Contains ks q → stands_in (net_name n q) (map (net_name n) ks) ≡ true
    named_read ks q c =
        let (i, at) = to_slice ks q c in
        any_from (same_name (net_name n q)) (map (net_name n) ks) (net_name n q) (from_slice (map (net_name n) ks) i (net_name n q) (map_slice (net_name n) ks i q at)) ((bytes_decides (net_name n q) (net_name n q)).1 refl)

    reads_below : (p : ℕ) (form : GateForm) → slice_get n.net.gates p ≡ Some form → ReadsBelow (n.net.leaves + p) form
    reads_below p form at = all_numbered ReadsBelow n.net.leaves n.net.gates is_machine.gates p form at

    gate_below : (p : ℕ) (form : GateForm) → slice_get n.net.gates p ≡ Some form → n.net.leaves + p < n.net.leaves + length n.net.gates
    gate_below p form at = let h = slice_get_within n.net.gates p form at in omega arith

    -- What a cell of a region reaches lies in the region.
    reaches_inside : (r : Region) → Contains regions r → (k : ℕ) → LiesIn r k → {y x : Name} → y ≡ net_name n k → Reaches m y x → (j : ℕ) × LiesIn r j × (x ≡ net_name n j)
    reaches_inside r in_r k inside start own = (k, inside, start)
    reaches_inside r in_r k inside start (on {k = x} gt way shut in_list reads) =
        let (j, lies, at) = reaches_inside r in_r k inside start way in
        let (i, listed) = to_slice (map (gate_for n) (zip (map (net_name n) (range_with_len n.net.leaves (length n.net.gates))) n.net.gates)) gt (subst (λ (gs : List Gate). Contains gs gt) text.gates in_list) in
        let (form, is_form, is_gate) = zip_slice (gate_for n) (net_name n) n.net.leaves n.net.gates i gt listed in
        let (q, in_q, same) = read_named (gate_reads form) x (subst (λ (h : Gate). stands_in x h.ins ≡ true) is_gate reads) in
        let lower = reads_lower (n.net.leaves + i) form (reads_below i form is_form) q in_q in
        let below = gate_below i form is_form in
        let high = ends r in_r in
        let q_is : j ≡ q = text.apart j q (let (c, d) = lies in omega arith) (omega arith) (sym at ∙ same) in
        let read : ReadsNet n.net (n.net.leaves + i) j = record { place = i; number = refl; gate = form; is_gate = is_form; reads = subst (λ (z : ℕ). Contains (gate_reads form) z) (sym q_is) in_q } in
        let (s, in_s, low_s, high_s) = region_of (n.net.leaves + i) (omega arith) below in
        (n.net.leaves + i, by_read j lies (subst (λ (z : Name). IsTrue (not (stands_in z (output_nets m)))) at shut) s in_s (n.net.leaves + i) (low_s, high_s) (separate.reads s (n.net.leaves + i) j in_s (low_s, high_s) read), ap (λ (h : Gate). h.out) is_gate)
      where
        by_read : (j : ℕ) → LiesIn r j → IsTrue (not (stands_in (net_name n j) (output_nets m))) → (s : Region) → Contains regions s → (z : ℕ) → LiesIn s z → MayRead guard s j → LiesIn r z
        by_read j lies closed s in_s z there (inl leaf) = absurd (let low = gates_above r in_r in let (c, d) = lies in omega arith)
        by_read j lies closed s in_s z there (inr (inl mine)) = subst (λ (q : Region). LiesIn q z) (sym (same_region guard source is_machine covers have r s in_r in_s j lies mine)) there
        by_read j lies closed s in_s z there (inr (inr (rail, out))) = let (i, at) = to_slice n.outputs j out in absurd (not_false (stands_in (net_name n j) (output_nets m)) closed (named_output i j at))

    -- The last net of a region is reached from each of its gates.
    reaches_end : (r : Region) → Contains regions r → (last : ℕ) → r.end ≡ suc last → (k : ℕ) → LiesIn r k → LeadsToEnd n.net r k → Reaches m (net_name n k) (net_name n last)
    reaches_end r in_r last is_last k inside (is_end e) = let same : k ≡ last = omega arith in subst (λ (j : ℕ). Reaches m (net_name n k) (net_name n j)) same own
    reaches_end r in_r last is_last k inside (is_read {k = j} lies read rest) =
        let before = reads_lower j read.gate (subst (λ (z : ℕ). ReadsBelow z read.gate) (sym read.number) (reads_below read.place read.gate read.is_gate)) k read.reads in
        begins_before m (net_name n k) (gate_for n (net_name n j, read.gate)) (no_output before) (listed j read)
        (named_read (gate_reads read.gate) k read.reads) (reaches_end r in_r last is_last j lies rest)
      where
        listed : (j : ℕ) (read : ReadsNet n.net j k) → Contains (gates_of m) (gate_for n (net_name n j, read.gate))
        listed j read =
            subst (λ (gs : List Gate). Contains gs (gate_for n (net_name n j, read.gate))) (sym text.gates)
            (from_slice (map (gate_for n) (zip (map (net_name n) (range_with_len n.net.leaves (length n.net.gates))) n.net.gates)) read.place (gate_for n (net_name n j, read.gate))
            (slice_zip (gate_for n) (net_name n) n.net.leaves n.net.gates read.place read.gate read.is_gate ∙ ap (λ (z : ℕ). Some (gate_for n (net_name n z, read.gate))) (sym read.number)))

        no_output : k < j → IsTrue (not (stands_in (net_name n k) (output_nets m)))
        no_output before = by_test (stands_in (net_name n k) (output_nets m)) refl
          where
            by_test : (b : Bool) → stands_in (net_name n k) (output_nets m) ≡ b → not b ≡ true
            by_test false e = refl
            by_test true e =
                let high = ends r in_r in
                let (i, at) = output_named k (let (c, d) = inside in omega arith) e in
                let mine = owner guard source is_machine covers have r in_r (output_bit i) k inside at in
                let f = mine.1 in
                absurd (let (c, d) = lies in omega arith)

    -- A gate of a region has the region's bit, and no other.
    pub region_has : (r : Region) → Contains regions r → (k : ℕ) → LiesIn r k → IsGateBit m (net_name n k) r.bit
    region_has r in_r k inside =
        let region = region_is guard source is_machine covers have r in_r in
        has_for r.bit region.last region.own (reaches_end r in_r region.last region.is_last k inside (separate.leads r k in_r inside))
      where
        has_for : (b : Bit) (last : ℕ) → IsBitNet guard b last → Reaches m (net_name n k) (net_name n last) → IsGateBit m (net_name n k) b
        has_for (latch_bit i) last at way = (net_name n last, ap (λ (ns : List Name). slice_get ns i) text.stores ∙ map_slice (net_name n) (map (λ r. r.d) n.latches) i last at, way)
        has_for (output_bit i) last at way = (net_name n last, ap (λ (ns : List Name). slice_get ns i) text.outputs ∙ map_slice (net_name n) n.outputs i last at, way)

    region_only : (r : Region) → Contains regions r → (k : ℕ) → LiesIn r k → (b : Bit) → IsGateBit m (net_name n k) b → b ≡ r.bit
    region_only r in_r k inside (latch_bit i) (d, at, way) =
        let (j, lies, is) = reaches_inside r in_r k inside refl way in
        let (dn, in_ds, same) = slice_map (net_name n) (map (λ r. r.d) n.latches) i d (sym (ap (λ (ns : List Name). slice_get ns i) text.stores) ∙ at) in
        let below = bit_net_below guard source is_machine covers have (latch_bit i) dn in_ds in
        let high = ends r in_r in
        let e = text.apart j dn (let (c, d) = lies in omega arith) below (sym is ∙ same) in
        sym (owner guard source is_machine covers have r in_r (latch_bit i) j lies (in_ds ∙ ap (λ (z : ℕ). Some z) (sym e))).0
    region_only r in_r k inside (output_bit i) (d, at, way) =
        let (j, lies, is) = reaches_inside r in_r k inside refl way in
        let (o, in_os, same) = slice_map (net_name n) n.outputs i d (sym (ap (λ (ns : List Name). slice_get ns i) text.outputs) ∙ at) in
        let below = bit_net_below guard source is_machine covers have (output_bit i) o in_os in
        let high = ends r in_r in
        let e = text.apart j o (let (c, d) = lies in omega arith) below (sym is ∙ same) in
        sym (owner guard source is_machine covers have r in_r (output_bit i) j lies (in_os ∙ ap (λ (z : ℕ). Some z) (sym e))).0

    -- ---- a cell that reads an output

    leaves_are : n.net.leaves ≡ n.data_inputs + length n.latches
    leaves_are = is_machine.leaves

    abbrev IsCellNet : Name → Type 0
    IsCellNet x = (k : ℕ) × (n.data_inputs ≤ k) × (k < n.net.leaves + length n.net.gates) × (x ≡ net_name n k)

    all_driven : (cells : List Statement) → AllByRecursion (λ s. AllByRecursion IsCellNet (driven_by s)) cells → AllByRecursion IsCellNet (flat_map driven_by cells)
    all_driven [] a = tt
    all_driven (s ∷ cells) a = all_both IsCellNet (driven_by s) (flat_map driven_by cells) a.0 (all_driven cells a.1)

    cells_are_driven : AllByRecursion IsCellNet (flat_map driven_by (cells_of m))
    cells_are_driven =
        subst (λ (cells : List Statement). AllByRecursion IsCellNet (flat_map driven_by cells)) (sym text.cells)
        (all_driven _ (all_both (λ s. AllByRecursion IsCellNet (driven_by s)) _ _
        (zip_all (latch_statement n) (net_name n) (λ s. AllByRecursion IsCellNet (driven_by s)) n.data_inputs n.latches (λ i row at. ((n.data_inputs + i, omega arith, (let h = slice_get_within n.latches i row at in let e = leaves_are in omega arith), refl), tt)))
        (zip_all (gate_statement n) (net_name n) (λ s. AllByRecursion IsCellNet (driven_by s)) n.net.leaves n.net.gates (λ p form at. ((n.net.leaves + p, (let e = leaves_are in omega arith), gate_below p form at, refl), tt)))))

    cell_named : (q : ℕ) → q < n.net.leaves + length n.net.gates → stands_in (net_name n q) (cell_nets m) ≡ true → n.data_inputs ≤ q
    cell_named q below h =
        let (y, listed, e) = any_element (same_name (net_name n q)) (cell_nets m) h in
        let (k, low, high, is) = All-contains IsCellNet (flat_map driven_by (cells_of m)) y (All-from_recursion IsCellNet (flat_map driven_by (cells_of m)) cells_are_driven) (subst (λ (ns : List Name). Contains ns y) (sym (flat_map_map driven_by (λ s. s.what) m.statements)) listed) in
        let same = text.apart q k below high ((bytes_decides (net_name n q) y).0 e ∙ is) in
        omega arith

    module _ (named_rails : NamesRails n rails) where
      rail_bit : (b : Bit) (last : ℕ) → IsBitNet guard b last → IsRailBit guard b → IsRail m b
      rail_bit (latch_bit i) last at rail = rail
      rail_bit (output_bit i) last at rail = (net_name n last, ap (λ (ns : List Name). slice_get ns i) text.outputs ∙ map_slice (net_name n) n.outputs i last at, named_rails i last at rail)

      reader_is_rail : (r : Region) → Contains regions r → (p : ℕ) (form : GateForm) → slice_get n.net.gates p ≡ Some form → LiesIn r (n.net.leaves + p) → IsSome (find (is_driven_output m) (map (net_name n) (gate_reads form))) → IsRail m r.bit
      reader_is_rail r in_r p form at inside some =
          let (y, listed, driven) = any_element (is_driven_output m) (map (net_name n) (gate_reads form)) (found_some (is_driven_output m) (map (net_name n) (gate_reads form)) some) in
          let (i, at_y) = to_slice (map (net_name n) (gate_reads form)) y listed in
          let (q, in_q, is) = slice_map (net_name n) (gate_reads form) i y at_y in
          let (out, cell) = both (stands_in y (output_nets m)) (stands_in y (cell_nets m)) driven in
          let lower = reads_lower (n.net.leaves + p) form (reads_below p form at) q (from_slice (gate_reads form) i q in_q) in
          let below = gate_below p form at in
          let (o, at_o) = output_named q (omega arith) (subst (λ (z : Name). stands_in z (output_nets m) ≡ true) is out) in
          let first = cell_named q (omega arith) (subst (λ (z : Name). stands_in z (cell_nets m) ≡ true) is cell) in
          by_net q o at_o first lower (record { place = p; number = refl; gate = form; is_gate = at; reads = from_slice (gate_reads form) i q in_q }) (order q n.net.leaves)
        where
          order : (a b : ℕ) → (a < b) ⊎ (b ≤ a)
          order a b = grind arith

          by_read : (q o : ℕ) → slice_get n.outputs o ≡ Some q → n.net.leaves ≤ q → q < n.net.leaves + p → MayRead guard r q → IsRail m r.bit
          by_read q o at_o gate lower (inl leaf) = absurd (omega arith)
          by_read q o at_o gate lower (inr (inl lies)) = let mine = owner guard source is_machine covers have r in_r (output_bit o) q lies at_o in let e = mine.1 in absurd (let (c, d) = inside in omega arith)
          by_read q o at_o gate lower (inr (inr (rail, out))) = let region = region_is guard source is_machine covers have r in_r in rail_bit r.bit region.last region.own rail

          by_net : (q o : ℕ) → slice_get n.outputs o ≡ Some q → n.data_inputs ≤ q → q < n.net.leaves + p → ReadsNet n.net (n.net.leaves + p) q → (q < n.net.leaves) ⊎ (n.net.leaves ≤ q) → IsRail m r.bit
          by_net q o at_o first lower read (inl leaf) = let pass = have.passes o q at_o leaf in let h = pass.0 in let e = have.inputs in absurd (omega arith)
          by_net q o at_o first lower read (inr gate) = by_read q o at_o gate lower (separate.reads r (n.net.leaves + p) q in_r inside read)

      independent_gate : (p : ℕ) (form : GateForm) → slice_get n.net.gates p ≡ Some form → IsIndependentCell m (gate_statement n (net_name n (n.net.leaves + p), form))
      independent_gate p form at =
          let (r, in_r, low, high) = region_of (n.net.leaves + p) (omega arith) (gate_below p form at) in
          record {
            narrow = λ wide. let e = length-map (gate_reads form) (net_name n) in let h = few_reads form in absurd (omega arith);
            bit = r.bit;
            one = record { has = region_has r in_r (n.net.leaves + p) (low, high); only = region_only r in_r (n.net.leaves + p) (low, high) };
            rails_alone = reader_is_rail r in_r p form at (low, high);
          }

      independent_latch : (i : ℕ) (row : LatchRow) → slice_get n.latches i ≡ Some row → IsIndependentCell m (latch_statement n (net_name n (n.data_inputs + i), row))
      independent_latch i row at = record {
        narrow = λ wide. wide;
        bit = latch_bit i;
        one = record { has = shows_at; only = only };
        rails_alone = λ some. absurd (cc some);
      }
        where
          inside : i < length n.latches
          inside = slice_get_within n.latches i row at

          below : n.data_inputs + i < n.net.leaves + length n.net.gates
          below = let e = leaves_are in let h = inside in omega arith

          shows_at : slice_get (latch_outputs m) i ≡ Some (net_name n (n.data_inputs + i))
          shows_at = ap (λ (ns : List Name). slice_get ns i) text.shows ∙ map_slice (net_name n) (range_with_len n.data_inputs (length n.latches)) i (n.data_inputs + i) (range_slice n.data_inputs (length n.latches) i inside)

          only : (b : Bit) → IsLatchBit m (net_name n (n.data_inputs + i)) b → b ≡ latch_bit i
          only (latch_bit j) h =
              let (k, in_range, is) = slice_map (net_name n) (range_with_len n.data_inputs (length n.latches)) j (net_name n (n.data_inputs + i)) (sym (ap (λ (ns : List Name). slice_get ns j) text.shows) ∙ h) in
              let (short, at_k) = slice_of_range n.data_inputs (length n.latches) j k in_range in
              let e = leaves_are in
              let same = text.apart (n.data_inputs + i) k below (omega arith) is in
              ap (λ (z : ℕ). latch_bit z) (let f : j ≡ i = omega arith in f)
          only (output_bit j) h =
              let (o, in_os, is) = slice_map (net_name n) n.outputs j (net_name n (n.data_inputs + i)) (sym (ap (λ (ns : List Name). slice_get ns j) text.outputs) ∙ h) in
              let same = text.apart (n.data_inputs + i) o below (bit_net_below guard source is_machine covers have (output_bit j) o in_os) is in
              let e = leaves_are in
              let short = inside in
              let pass = have.passes j o in_os (omega arith) in
              let f = pass.0 in
              let k = have.inputs in
              absurd (omega arith)

      -- Each cell serves one bit.
      pub all_independent : AllByRecursion (IsIndependentCell m) (cells_of m)
      all_independent =
          subst (λ (cells : List Statement). AllByRecursion (IsIndependentCell m) cells) (sym text.cells)
          (all_both (IsIndependentCell m) _ _
          (zip_all (latch_statement n) (net_name n) (IsIndependentCell m) n.data_inputs n.latches independent_latch)
          (zip_all (gate_statement n) (net_name n) (IsIndependentCell m) n.net.leaves n.net.gates independent_gate))

    -- ---- the order of the cells

    gates_listed : gate_cells m ≡ map (gate_statement n) (zip (map (net_name n) (range_with_len n.net.leaves (length n.net.gates))) n.net.gates)
    gates_listed = ap (λ (cells : List Statement). filter is_gate cells) text.cells ∙ only_gate_cells n (zip (map (net_name n) (range_with_len n.data_inputs (length n.latches))) n.latches) (zip (map (net_name n) (range_with_len n.net.leaves (length n.net.gates))) n.net.gates)

    -- The cells stand by their bits.
    pub never_back : NeverBack m (gate_cells m)
    never_back i j a b bit other le at_i at_j has_bit has_other =
        let (form_i, is_i, a_is) = zip_slice (gate_statement n) (net_name n) n.net.leaves n.net.gates i a (subst (λ (cells : List Statement). slice_get cells i ≡ Some a) gates_listed at_i) in
        let (form_j, is_j, b_is) = zip_slice (gate_statement n) (net_name n) n.net.leaves n.net.gates j b (subst (λ (cells : List Statement). slice_get cells j ≡ Some b) gates_listed at_j) in
        let (r, in_r, low_r, high_r) = region_of (n.net.leaves + i) (omega arith) (gate_below i form_i is_i) in
        let (s, in_s, low_s, high_s) = region_of (n.net.leaves + j) (omega arith) (gate_below j form_j is_j) in
        let mine = region_only r in_r (n.net.leaves + i) (low_r, high_r) bit (subst (λ (c : Statement). IsBitOf m c bit) a_is has_bit) in
        let others = region_only s in_s (n.net.leaves + j) (low_s, high_s) other (subst (λ (c : Statement). IsBitOf m c other) b_is has_other) in
        subst (λ (p : Bit). IsTrue (not (stands_before other p))) (sym mine)
        (subst (λ (q : Bit). IsTrue (not (stands_before q r.bit))) (sym others) (regions_in_order r s in_r in_s (low_r, high_r) (low_s, high_s)))
      where
        regions_in_order : (r s : Region) → Contains regions r → Contains regions s → LiesIn r (n.net.leaves + i) → LiesIn s (n.net.leaves + j) → not (stands_before s.bit r.bit) ≡ true
        regions_in_order r s (x, in_x, at_x) (y, in_y, at_y) here there = by_order (order x y)
          where
            order : (a b : ℕ) → (a ≡ b) ⊎ (a < b ⊎ b < a)
            order a b = grind arith

            by_order : (x ≡ y) ⊎ (x < y ⊎ y < x) → not (stands_before s.bit r.bit) ≡ true
            by_order (inl e) = let same : r ≡ s = sym at_x ∙ (ap (λ (k : ℕ). get_or regions k r) e ∙ (get_any regions y r s in_y ∙ at_y)) in subst (λ (q : Region). not (stands_before q.bit r.bit) ≡ true) same (not_before_itself r.bit)
            by_order (inr (inl less)) =
                let p = separate.in_order x y r less in_y in
                not_before_both r.bit s.bit
                (subst (λ (q : Region). stands_before r.bit q.bit ≡ true) (get_any regions y r s in_y ∙ at_y) (subst (λ (q : Region). stands_before q.bit (get_or regions y r).bit ≡ true) at_x p.0))
            by_order (inr (inr more)) =
                let p = separate.in_order y x s more in_x in
                let e = ap (λ (q : Region). q.end) at_y in
                let f = ap (λ (q : Region). q.first) (get_any regions x s r in_x ∙ at_x) in
                let g = p.1 in
                absurd (let (a, b) = here in let (c, d) = there in omega arith)
