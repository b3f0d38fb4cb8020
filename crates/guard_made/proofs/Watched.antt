-- The nets that rails watch are leaves and outputs.
use Rattle.std.proofs.Common.{ℕ, zero, suc, ◌+◌, ◌-◌, ◌*◌, ◌<◌, ◌≤◌, ◌⊎◌, inl, inr, List, [], ◌∷◌, length, map, get_or, take, drop, arith, Contains}
use Rattle.std.specs.List.{AllByRecursion, enumerate_from, flat_map, range_with_len}
use Rattle.std.proofs.lemmas.List.Elements.{Contains-get_or}
use Rattle.std.proofs.lemmas.List.Sums.{sum_by-cons}
use Rattle.netlist_spec.specs.Gates.{Machine}
use Rattle.netlist_spec.proofs.OneValue.{All_append, All_front, All_back}
use Rattle.guard_spec.specs.Codes.{Code}
use Rattle.guard_spec.specs.Words.{Layout, Words, all_numbers}
use Rattle.gate_net.specs.Words.{WordNets, nets_of}
use Rattle.cone_split.proofs.Cells.{all_contains, all_from_contains}
use Rattle.guard_laws.specs.Places.{latches_of_words}
use Rattle.guard_laws.specs.Watched.{output_nets_of, state_nets, watched_words}

-- the numbers of each word
pub of_each_word : (P : ℕ → Type 0) (ws : Words) → AllByRecursion P (all_numbers ws) → AllByRecursion (λ w. AllByRecursion P w) ws
of_each_word P [] all = tt
of_each_word P (w ∷ ws) all = (All_front P w (all_numbers ws) all, of_each_word P ws (All_back P w (all_numbers ws) all))

all_take : (P : ℕ → Type 0) (n : ℕ) (xs : List ℕ) → AllByRecursion P xs → AllByRecursion P (take n xs)
all_take P zero xs all = tt
all_take P (suc n) [] all = tt
all_take P (suc n) (x ∷ xs) all = (all.0, all_take P n xs all.1)

all_drop : (P : ℕ → Type 0) (n : ℕ) (xs : List ℕ) → AllByRecursion P xs → AllByRecursion P (drop n xs)
all_drop P zero xs all = all
all_drop P (suc n) [] all = tt
all_drop P (suc n) (x ∷ xs) all = all_drop P n xs all.1

module _ (leaves : ℕ) (outputs : List ℕ) where
  abbrev IsWatched : ℕ → Type 0
  IsWatched k = (k < leaves) ⊎ Contains outputs k

  range_watched : (a n : ℕ) → a + n ≤ leaves → AllByRecursion IsWatched (range_with_len a n)
  range_watched a zero h = tt
  range_watched a (suc n) h = (inl (omega arith), range_watched (a + 1) n (omega arith))

  places_watched : (w : List ℕ) → AllByRecursion (λ i. i < length outputs) w → AllByRecursion IsWatched (map (λ i. get_or outputs i 0) w)
  places_watched [] all = tt
  places_watched (i ∷ w) all = (inr (Contains-get_or outputs i 0 all.0), places_watched w all.1)

  outputs_watched : AllByRecursion IsWatched outputs
  outputs_watched = all_from_contains IsWatched outputs (λ k c. inr c)

  words_watched : (ws : List WordNets) → AllByRecursion (λ w. AllByRecursion IsWatched (nets_of w)) ws → AllByRecursion IsWatched (flat_map nets_of ws)
  words_watched [] all = tt
  words_watched (w ∷ ws) all = All_append IsWatched (nets_of w) (flat_map nets_of ws) all.0 (words_watched ws all.1)

  module _ (code : Code) where
    state_watched : (at : ℕ) (ws : Words) → at + latches_of_words code ws ≤ leaves → AllByRecursion (λ w. AllByRecursion IsWatched (nets_of w)) (state_nets code at ws)
    state_watched at [] h = tt
    state_watched at (w ∷ ws) h =
        let s = sum_by-cons (λ w. length w + code.columns) w ws in (
          All_append IsWatched (range_with_len at (length w)) (range_with_len (at + length w) code.columns) (range_watched at (length w) (omega arith)) (range_watched (at + length w) code.columns (omega arith)),
          state_watched (at + length w + code.columns) ws (omega arith),
        )

    output_watched : (p a : ℕ) (ws : Words) → AllByRecursion (λ w. AllByRecursion (λ i. i < length outputs) w) ws → AllByRecursion (λ w. AllByRecursion IsWatched (nets_of w)) (map (output_nets_of code p outputs) (enumerate_from a ws))
    output_watched p a [] all = tt
    output_watched p a (w ∷ ws) all =
        let from : ℕ = p + a * code.columns in (
          All_append IsWatched (map (λ i. get_or outputs i 0) w) (take ((from + code.columns) - from) (drop from outputs)) (places_watched w all.0) (all_take IsWatched ((from + code.columns) - from) (drop from outputs) (all_drop IsWatched from outputs outputs_watched)),
          output_watched p (a + 1) ws all.1,
        )

-- What the rails of a machine watch.
pub watches : (g : Machine) (code : Code) (l : Layout) (p : ℕ) → g.inputs + latches_of_words code l.state ≤ g.net.leaves → AllByRecursion (λ w. AllByRecursion (λ i. i < length g.outputs) w) l.output
    → (k : ℕ) → Contains (flat_map nets_of (watched_words g code l p)) k → (k < g.net.leaves) ⊎ Contains g.outputs k
watches g code l p few below k c =
    all_contains (IsWatched g.net.leaves g.outputs) (flat_map nets_of (watched_words g code l p)) k
    (words_watched g.net.leaves g.outputs (watched_words g code l p)
    (All_append (λ w. AllByRecursion (IsWatched g.net.leaves g.outputs) (nets_of w)) (state_nets code g.inputs l.state) (map (output_nets_of code p g.outputs) (enumerate_from 0 l.output))
    (state_watched g.net.leaves g.outputs code g.inputs l.state few)
    (output_watched g.net.leaves g.outputs code p 0 l.output below)))
    c
