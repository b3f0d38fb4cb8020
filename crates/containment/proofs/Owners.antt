-- Each cell of a guard belongs to one bit.
use Rattle.std.proofs.Common.{◌≡◌, refl, sym, ◌∙◌, ap, subst, ℕ, zero, suc, ◌+◌, ◌-◌, ◌<◌, ◌≤◌, List, [], ◌∷◌, length, Bool, true, false, cond, ◌&&◌, ◌==◌, nat_lt, nat_le, ◌⊎◌, inl, inr, Option, Some, None, arith, Contains, AllPairs, slice_get, eq-eqb, lt-ltb, le-ltb, le-leb, ltb-true, leb-true}
use Rattle.std.proofs.lemmas.Bool.{cases_Bool, and_from, cond-true, cond-false}
use Rattle.std.proofs.lemmas.Option.{slice_get_within, get_or_from_slice_get}
use Rattle.std.proofs.lemmas.List.FromFn.{length-range_with_len, get_or-range_with_len}
use Rattle.std.specs.List.{AllByRecursion, list_any}
use Rattle.netlist_spec.specs.Gates.{Machine, IsMachine, ForcedNets, latch_nets}
use Rattle.netlist_spec.specs.CellBits.{Bit, latch_bit, output_bit}
use Rattle.containment.proofs.Counting.{number, AreDistinct, not_any_at}
use Rattle.guard_spec.specs.Regions.{Guarded, IsRegion, CoversGates, IsCellOf, IsUntouched}
use Rattle.netlist_spec.specs.GateRanges.{Region}

abbrev holds : Region → ℕ → Bool
holds r n = nat_le r.first n && nat_lt n r.end

both : (a b : Bool) → (a && b) ≡ true → (a ≡ true) × (b ≡ true)
both true b h = (refl, h)
both false b h = cc h

holds_from : (r : Region) (n : ℕ) → r.first ≤ n → n < r.end → holds r n ≡ true
holds_from r n low high = and_from _ _ (le-leb r.first n low) (lt-ltb n r.end high)

-- the bit of the first region in which a gate lies
abbrev region_owner : List Region → ℕ → Option Bit
region_owner [] n = None
region_owner (r ∷ rs) n = cond (holds r n) (Some r.bit) (region_owner rs n)

-- the bit to which a cell belongs
abbrev pub owner : Guarded → ℕ → Option Bit
owner g n = cond (nat_lt n g.machine.net.leaves) (Some (latch_bit (n - g.machine.inputs))) (region_owner g.regions n)

abbrev same_bit : Bit → Bit → Bool
same_bit (latch_bit i) (latch_bit j) = i == j
same_bit (output_bit i) (output_bit j) = i == j
same_bit _ _ = false

abbrev is_that : Bit → Option Bit → Bool
is_that b None = false
is_that b (Some c) = same_bit b c

-- whether a cell belongs to a bit
abbrev pub owned : Guarded → Bit → ℕ → Bool
owned g b n = is_that b (owner g n)

same_bit_self : (b : Bit) → same_bit b b ≡ true
same_bit_self (latch_bit i) = eq-eqb i i refl
same_bit_self (output_bit i) = eq-eqb i i refl

abbrev Disjoint : Region → Region → Type 0
Disjoint r s = (r.end ≤ s.first) ⊎ (s.end ≤ r.first)

not_both : (r s : Region) (n : ℕ) → Disjoint r s → r.first ≤ n → n < r.end → s.first ≤ n → n < s.end → ⊥
not_both r s n (inl h) a b c d = omega arith
not_both r s n (inr h) a b c d = omega arith

region_owner_at : (rs : List Region) → AllPairs Disjoint rs → (r : Region) (n : ℕ) → Contains rs r → r.first ≤ n → n < r.end → region_owner rs n ≡ Some r.bit
region_owner_at [] pairs r n (k, inside, e) low high = absurd (omega arith)
region_owner_at (q ∷ qs) pairs r n (zero, inside, e) low high =
    subst (λ (s : Region). cond (holds q n) (Some q.bit) (region_owner qs n) ≡ Some s.bit) e
    (cond-true (holds q n) (Some q.bit) (region_owner qs n) (subst (λ (s : Region). holds s n ≡ true) (sym e) (holds_from r n low high)))
region_owner_at (q ∷ qs) pairs r n (suc k, inside, e) low high =
    by_case (cases_Bool (holds q n)) (region_owner_at qs (λ i j d before within. pairs (suc i) (suc j) d (omega arith) (omega arith)) r n (k, omega arith, e) low high)
  where
    by_case : (holds q n ≡ true) ⊎ (holds q n ≡ false) → region_owner qs n ≡ Some r.bit → cond (holds q n) (Some q.bit) (region_owner qs n) ≡ Some r.bit
    by_case (inl t) later =
        let (low_q, high_q) = both (nat_le q.first n) (nat_lt n q.end) t in
        absurd (not_both q r n (subst (λ (s : Region). Disjoint q s) e (pairs 0 (suc k) r (omega arith) inside)) (leb-true _ _ low_q) (ltb-true _ _ high_q) low high)
    by_case (inr f) later = cond-false (holds q n) (Some q.bit) (region_owner qs n) f ∙ later

region_gates : (g : Guarded) (rs : List Region) → AllByRecursion (IsRegion g) rs → (r : Region) → Contains rs r → g.machine.net.leaves ≤ r.first
region_gates g [] all r (k, inside, e) = absurd (omega arith)
region_gates g (q ∷ qs) all r (zero, inside, e) = subst (λ (s : Region). g.machine.net.leaves ≤ s.first) e all.0.gates
region_gates g (q ∷ qs) all r (suc k, inside, e) = region_gates g qs all.1 r (k, omega arith, e)

pub latch_net_at : (m : Machine) (i n : ℕ) → slice_get (latch_nets m) i ≡ Some n → (i < length m.latches) × (m.inputs + i ≡ n)
latch_net_at m i n h =
    let short = slice_get_within (latch_nets m) i n h in
    let e = length-range_with_len m.inputs (length m.latches) in
    let small : i < length m.latches = omega arith in
    (small, sym (get_or-range_with_len m.inputs (length m.latches) i 0 small) ∙ get_or_from_slice_get (latch_nets m) i n 0 h)

module _ (g : Guarded) (is_machine : IsMachine g.machine) (covers : CoversGates g) where
  owner_of_latch : (i n : ℕ) → slice_get (latch_nets g.machine) i ≡ Some n → owner g n ≡ Some (latch_bit i)
  owner_of_latch i n h =
      let (small, e) = latch_net_at g.machine i n h in
      let leaves = is_machine.leaves in
      let below : n < g.machine.net.leaves = omega arith in
      let back : n - g.machine.inputs ≡ i = omega arith in
      cond-true (nat_lt n g.machine.net.leaves) (Some (latch_bit (n - g.machine.inputs))) (region_owner g.regions n) (lt-ltb n g.machine.net.leaves below)
      ∙ ap (λ (k : ℕ). Some (latch_bit k)) back

  owner_in_region : (b : Bit) (n : ℕ) (r : Region) → Contains g.regions r → r.bit ≡ b → r.first ≤ n → n < r.end → owner g n ≡ Some b
  owner_in_region b n r in_list same low high =
      let gates = region_gates g g.regions covers.regions r in_list in
      let above : g.machine.net.leaves ≤ n = omega arith in
      cond-false (nat_lt n g.machine.net.leaves) (Some (latch_bit (n - g.machine.inputs))) (region_owner g.regions n) (le-ltb n g.machine.net.leaves above)
      ∙ (region_owner_at g.regions covers.apart r n in_list low high ∙ ap (λ (c : Bit). Some c) same)

  owner_of_cell : (b : Bit) (n : ℕ) → IsCellOf g b n → owner g n ≡ Some b
  owner_of_cell b n (inl (r, in_list, same, low, high)) = owner_in_region b n r in_list same low high
  owner_of_cell (latch_bit i) n (inr h) = owner_of_latch i n h
  owner_of_cell (output_bit i) n (inr h) = absurd h

  -- A cell has one bit.
  pub cells_have_one_bit : (a b : Bit) (n : ℕ) → IsCellOf g a n → IsCellOf g b n → a ≡ b
  cells_have_one_bit a b n first second = let e = owner_of_cell a n first in let f = owner_of_cell b n second in cc

  pub owned_from_cell : (b : Bit) (n : ℕ) → IsCellOf g b n → owned g b n ≡ true
  owned_from_cell b n h = ap (λ (o : Option Bit). is_that b o) (owner_of_cell b n h) ∙ same_bit_self b

  -- A bit to which none of some cells belongs is untouched, where those are all the faulty cells.
  pub untouched : (b : Bit) (cells : List ℕ) → list_any (owned g b) cells ≡ false → (faults : ForcedNets) → AllByRecursion (λ (e : ℕ × Bool). Contains cells e.0) faults → IsUntouched g faults b
  untouched b cells none [] all = tt
  untouched b cells none (e ∷ faults) all = (
    (λ h. let f = not_any_at (owned g b) cells e.0 none all.0 in let t = owned_from_cell b e.0 h in let clash : true ≡ false = sym t ∙ f in cc clash),
    untouched b cells none faults all.1,
  )

none_of : (ks : List ℕ) → number (λ k. false) ks ≤ 1
none_of [] = omega arith
none_of (k ∷ ks) = let e = none_of ks in omega arith

one_latch_of : (ks : List ℕ) → AreDistinct ks → (o : Option Bit) → number (λ k. is_that (latch_bit k) o) ks ≤ 1
one_latch_of ks once None = none_of ks
one_latch_of ks once (Some (latch_bit j)) = once j
one_latch_of ks once (Some (output_bit j)) = none_of ks

one_output_of : (ks : List ℕ) → AreDistinct ks → (o : Option Bit) → number (λ k. is_that (output_bit k) o) ks ≤ 1
one_output_of ks once None = none_of ks
one_output_of ks once (Some (latch_bit j)) = none_of ks
one_output_of ks once (Some (output_bit j)) = once j

pub one_latch : (g : Guarded) (ks : List ℕ) → AreDistinct ks → (n : ℕ) → number (λ k. owned g (latch_bit k) n) ks ≤ 1
one_latch g ks once n = one_latch_of ks once (owner g n)

pub one_output : (g : Guarded) (ks : List ℕ) → AreDistinct ks → (n : ℕ) → number (λ k. owned g (output_bit k) n) ks ≤ 1
one_output g ks once n = one_output_of ks once (owner g n)
