-- Bits of words and of outputs, and rows of their cells.
use Rattle.std.proofs.Common.{◌≡◌, refl, sym, ◌∙◌, ap, ap₂, subst, ℕ, zero, suc, ◌+◌, ◌*◌, ◌<◌, ◌≤◌, Bool, List, [], ◌∷◌, ◌++◌, length, map, get_or, take, drop, arith, slice_get, Some, All, Vec}
use Rattle.std.specs.Prelude.{sum, sum_by}
use Rattle.std.specs.List.{AllByRecursion, AllZip, range_with_len, zip}
use Rattle.std.specs.declared.alloc.Global.{Global}
use Rattle.std.proofs.lemmas.List.{length-map}
use Rattle.std.proofs.lemmas.List.Elements.{recursion_from_All}
use Rattle.std.proofs.lemmas.List.Sums.{sum_by-append, sum_by-cons}
use Rattle.std.proofs.lemmas.Option.{slice_get-get_or}
use Rattle.netlist_spec.specs.CellBits.{Bit, latch_bit, output_bit}
use Rattle.netlist_spec.specs.Gates.{GateList, LatchRow, Machine, IsMachine}
use Rattle.guard_spec.specs.Codes.{Code, checks_of}
use Rattle.guard_spec.specs.Plain.{word_cost}
use Rattle.guard_spec.specs.Words.{Layout, Words}
use Rattle.gate_net.specs.GateNet.{net_count}
use Rattle.cone_split.specs.Ranges.{KeepsGates}
use Rattle.encode_state.specs.Types.{words_in}
use Rattle.guard_laws.specs.Places.{HavePlaces, latches_of_words}
use Rattle.guard_laws.specs.Rows.{IsRangeOf, right_bit}
use Rattle.guard_cells.specs.Cells.{AreCells, Cell, bit_costs, checks_cost, nets_at}
use Rattle.guard_net.specs.Built.{AreRight, stores_of}
use Rattle.guard_net.proofs.Lists.{at_place, words_cut}

-- ---- what is known of rows of cells

abbrev pub RowsJoin : Type 0
RowsJoin =
    (leaf : List ℕ) (m : Machine) (code : Code) (l : Layout) (first : ℕ) (cs ds : List Cell) (mid net : GateList)
    → AreCells (λ net r. IsRangeOf net leaf m code l r) first cs mid → KeepsGates mid net
    → AreCells (λ net r. IsRangeOf net leaf m code l r) (net_count mid) ds net
    → AreCells (λ net r. IsRangeOf net leaf m code l r) first (cs ++ ds) net

-- what copies of roots, and check bits of roots, are right for
abbrev pub CopiesAreRight : Machine → List ℕ → List ℕ → GateList → GateList → List ℕ → Type 0
CopiesAreRight m leaf roots old new nets =
    (c : Code) (l : Layout) (bits : List Bit)
    → AllZip (λ bit root. (u : ℕ → Bool) → right_bit m c l u bit ≡ Some (u root)) bits roots
    → AreRight m c l leaf (net_count old) (zip bits nets) new

abbrev pub ChecksAreRight : Machine → Code → List ℕ → List ℕ → GateList → GateList → List ℕ → Type 0
ChecksAreRight m code leaf roots old new nets =
    (l : Layout) (bits : List Bit) → length bits ≡ code.columns
    → ((j : ℕ) (bit : Bit) → slice_get bits j ≡ Some bit → (u : ℕ → Bool) → right_bit m code l u bit ≡ slice_get (checks_of code (map u roots)) j)
    → AreRight m code l leaf (net_count old) (zip bits nets) new

-- ---- cells of bits in order

abbrev pub cells_from : (ℕ → Bit) → ℕ → List ℕ → List Cell
cells_from f first nets = zip (map f (range_with_len first (length nets))) nets

pub cells_join : (f : ℕ → Bit) (a b : ℕ) (xs ys : List ℕ) → b ≡ a + length xs → cells_from f a (xs ++ ys) ≡ cells_from f a xs ++ cells_from f b ys
cells_join f a b [] ys e = ap (λ (k : ℕ). cells_from f k ys) (let g : a ≡ b = omega arith in g)
cells_join f a b (x ∷ xs) ys e = ap (λ (cs : List Cell). (f a, x) ∷ cs) (cells_join f (a + 1) b xs ys (omega arith))

all_zip_from : (f : ℕ → Bit) (g : ℕ → ℕ) (R : Bit → ℕ → Type 0) (a : ℕ) (js : List ℕ) → ((p j : ℕ) → slice_get js p ≡ Some j → R (f (a + p)) (g j)) → AllZip R (map f (range_with_len a (length js))) (map g js)
all_zip_from f g R a [] h = tt
all_zip_from f g R a (j ∷ js) h = (
  subst (λ (k : ℕ). R (f k) (g j)) (let e : a + 0 ≡ a = omega arith in e) (h 0 j refl),
  all_zip_from f g R (a + 1) js (λ p i at. subst (λ (k : ℕ). R (f k) (g i)) (let e : a + suc p ≡ a + 1 + p = omega arith in e) (h (suc p) i at)),
)

bit_at : (f : ℕ → Bit) (a n j : ℕ) (bit : Bit) → slice_get (map f (range_with_len a n)) j ≡ Some bit → (j < n) × (bit ≡ f (a + j))
bit_at f a zero j bit at = absurd (cc at)
bit_at f a (suc n) zero bit at = let same : f a ≡ bit = cc at in (omega arith, sym same ∙ ap f (let e : a ≡ a + 0 = omega arith in e))
bit_at f a (suc n) (suc j) bit at = let h = bit_at f (a + 1) n j bit at in (omega (arith, h.0), h.1 ∙ ap f (let e : a + 1 + j ≡ a + suc j = omega arith in e))

known_nets : (all word : List ℕ) → AllByRecursion (λ i. i < length all) word → map (λ j. slice_get all j) word ≡ map (λ (d : ℕ). Some d) (nets_at all word)
known_nets all [] h = refl
known_nets all (j ∷ word) h = ap₂ (λ o os. o ∷ os) (slice_get-get_or all j 0 h.0) (known_nets all word h.1)

pub nets_below : (n : ℕ) (all word : List ℕ) → AllByRecursion (λ k. k < n) all → AllByRecursion (λ i. i < length all) word → AllByRecursion (λ k. k < n) (nets_at all word)
nets_below n all [] below h = tt
nets_below n all (j ∷ word) below h = (at_place (λ k. k < n) all j (get_or all j 0) below (slice_get-get_or all j 0 h.0), nets_below n all word below h.1)

pub stores_below : (m : Machine) → IsMachine m → AllByRecursion (λ k. k < net_count m.net) (stores_of m)
stores_below m is = each m.latches is.stores
  where
    each : (rows : List LatchRow) → AllByRecursion (λ l. l.d < m.net.leaves + length m.net.gates) rows → AllByRecursion (λ k. k < net_count m.net) (map (λ r. r.d) rows)
    each [] h = tt
    each (r ∷ rows) h = (h.0, each rows h.1)

pub within_stores : (m : Machine) (word : List ℕ) → All (λ i. i < length m.latches) word → AllByRecursion (λ i. i < length (stores_of m)) word
within_stores m word h =
    subst (λ (n : ℕ). AllByRecursion (λ i. i < n) word) (sym (length-map m.latches (λ (r : LatchRow). r.d))) (recursion_from_All (λ i. i < length m.latches) word h)

-- the roots of a word of latches are nets
pub roots_below : (m : Machine) (word roots : List ℕ) → IsMachine m → All (λ i. i < length m.latches) word → roots ≡ nets_at (stores_of m) word → AllByRecursion (λ k. k < net_count m.net) roots
roots_below m word roots is within are =
    subst (λ (ns : List ℕ). AllByRecursion (λ k. k < net_count m.net) ns) (sym are) (nets_below (net_count m.net) (stores_of m) word (stores_below m is) (within_stores m word within))

-- and so are those of a word of outputs
pub shown_roots_below : (m : Machine) (word roots : List ℕ) → IsMachine m → All (λ i. i < length m.outputs) word → roots ≡ nets_at m.outputs word → AllByRecursion (λ k. k < net_count m.net) roots
shown_roots_below m word roots is within are =
    subst (λ (ns : List ℕ). AllByRecursion (λ k. k < net_count m.net) ns) (sym are) (nets_below (net_count m.net) m.outputs word is.outputs (recursion_from_All (λ i. i < length m.outputs) word within))

-- the check bits of a word have the room that its copies leave
pub checks_have_room : (code : Code) (cost : ℕ → ℕ) (roots nets : List ℕ) (old mid most : ℕ) → roots ≡ nets → mid ≤ old + sum (bit_costs cost roots) → old + word_cost code (bit_costs cost nets) ≤ most → mid + checks_cost cost code roots ≤ most
checks_have_room code cost roots nets old mid most e few all =
    let whole : word_cost code (bit_costs cost nets) ≡ sum (bit_costs cost roots) + checks_cost cost code roots = ap (λ (rs : List ℕ). word_cost code (bit_costs cost rs)) (sym e) in
    omega (arith, whole, few, all)

-- ---- bits of words

module _ (m : Machine) (code : Code) (l : Layout) (have : HavePlaces m code l) (front back : Words) (word : List ℕ) where
  pub copied_places : l.state ≡ front ++ word ∷ back → AllByRecursion (λ i. i < length (stores_of m)) word
      → AllZip (λ bit root. (u : ℕ → Bool) → right_bit m code l u bit ≡ Some (u root)) (map (λ i. latch_bit i) (range_with_len (latches_of_words code front) (length word))) (nets_at (stores_of m) word)
  copied_places e within =
      all_zip_from (λ i. latch_bit i) (λ j. get_or (stores_of m) j 0) (λ bit root. (u : ℕ → Bool) → right_bit m code l u bit ≡ Some (u root)) (latches_of_words code front) word
      (λ p j at u. have.place front back word p j (get_or (stores_of m) j 0) u e at (slice_get-get_or (stores_of m) j 0 (at_place (λ i. i < length (stores_of m)) word p j within at)))

  pub checked_places : l.state ≡ front ++ word ∷ back → AllByRecursion (λ i. i < length (stores_of m)) word
      → (j : ℕ) (bit : Bit) → slice_get (map (λ i. latch_bit i) (range_with_len (latches_of_words code front + length word) code.columns)) j ≡ Some bit → (u : ℕ → Bool) → right_bit m code l u bit ≡ slice_get (checks_of code (map u (nets_at (stores_of m) word))) j
  checked_places e within j bit at u =
      let h = bit_at (λ i. latch_bit i) (latches_of_words code front + length word) code.columns j bit at in
      ap (right_bit m code l u) h.1 ∙ have.check front back word j (nets_at (stores_of m) word) u e h.0 (known_nets (stores_of m) word within)

  pub checked_outputs : l.output ≡ front ++ word ∷ back → AllByRecursion (λ i. i < length m.outputs) word
      → (j : ℕ) (bit : Bit) → slice_get (map (λ i. output_bit i) (range_with_len (length m.outputs + length front * code.columns) code.columns)) j ≡ Some bit → (u : ℕ → Bool) → right_bit m code l u bit ≡ slice_get (checks_of code (map u (nets_at m.outputs word))) j
  checked_outputs e within j bit at u =
      let h = bit_at (λ i. output_bit i) (length m.outputs + length front * code.columns) code.columns j bit at in
      ap (right_bit m code l u) h.1 ∙ have.output_check front back word j (nets_at m.outputs word) u e h.0 (known_nets m.outputs word within)

-- ---- room for the next word

pub room_at : (f : List ℕ → ℕ) (vecs : List (Vec ℕ Global)) (i : ℕ) (v : Vec ℕ Global) (n first most : ℕ) → i < length vecs → v ≡ get_or vecs i v → n ≤ first + sum_by f (words_in (take i vecs)) → first + sum_by f (words_in vecs) ≤ most → n + f v.items ≤ most
room_at f vecs i v n first most h is so_far all =
    let cut : sum_by f (words_in vecs) ≡ sum_by f (words_in (take i vecs)) + sum_by f (v.items ∷ words_in (drop (i + 1) vecs)) = ap (sum_by f) (words_cut vecs i v h is) ∙ sum_by-append f (words_in (take i vecs)) (v.items ∷ words_in (drop (i + 1) vecs)) in
    let here = sum_by-cons f v.items (words_in (drop (i + 1) vecs)) in
    omega (arith, cut, here, so_far, all)
