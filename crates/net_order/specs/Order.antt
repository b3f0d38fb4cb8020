-- Items that read nets and drive nets: an order in which each reads only what is known, and what such an order leaves over.
use Rattle.std.specs.Prelude.{◌⊎◌, ◌==◌, ℕ, ◌<◌, ◌≤◌, Bool, List, length, take, count_by, slice_index_or, All, Contains}
use Rattle.std.specs.List.{flat_map}
use Rattle.net_graph.specs.Chains.{IsMarked, ends_of}

-- Each number is one of a net.
abbrev pub AreNets : ℕ → List (List ℕ) → Type 0
AreNets nets rows = All (λ ns. All (λ n. n < nets) ns) rows

-- A net is known where it is given, or where one of the earlier items drives it.
abbrev pub IsKnown : List (List ℕ) → List Bool → List ℕ → ℕ → Type 0
IsKnown drives given earlier n = IsMarked given n ⊎ Contains (flat_map (ends_of drives) earlier) n

-- The items of the order combine, none stands twice, and each reads only nets that are given or that earlier ones drive.
pub record IsOrder (reads drives : List (List ℕ)) (combines given : List Bool) (order : List ℕ) : Type 0 where
  pub items : (i : ℕ) → Contains order i → IsMarked combines i
  pub once : (i : ℕ) → count_by (λ k. k == i) order ≤ 1
  pub known : (k : ℕ) → k < length order → (n : ℕ) → Contains (ends_of reads (slice_index_or order k 0)) n → IsKnown drives given (take k order) n

-- Each net that an item reads is given, or an item that combines drives it.
abbrev pub AreDriven : (reads drives : List (List ℕ)) (combines given : List Bool) → Type 0
AreDriven reads drives combines given =
    (i n : ℕ) → IsMarked combines i → Contains (ends_of reads i) n → IsMarked given n ⊎ ((j : ℕ) × IsMarked combines j × Contains (ends_of drives j) n)

-- An item drives the net, and reads a net that is left over.
abbrev pub IsLeftOver : (reads drives : List (List ℕ)) (combines left : List Bool) → ℕ → Type 0
IsLeftOver reads drives combines left n =
    (i : ℕ) × IsMarked combines i × Contains (ends_of drives i) n × ((k : ℕ) × Contains (ends_of reads i) k × IsMarked left k)

-- Each item that combines is ordered, or all nets that it drives are left over.
abbrev pub OthersAreLeft : (drives : List (List ℕ)) (combines left : List Bool) → List ℕ → Type 0
OthersAreLeft drives combines left order = (i : ℕ) → IsMarked combines i → Contains order i ⊎ ((n : ℕ) → Contains (ends_of drives i) n → IsMarked left n)

-- Each item that combines is ordered, or waits for a net that is left over: so all are ordered where none is left.
abbrev pub OthersWait : (reads : List (List ℕ)) (combines left : List Bool) → List ℕ → Type 0
OthersWait reads combines left order = (i : ℕ) → IsMarked combines i → Contains order i ⊎ ((k : ℕ) × Contains (ends_of reads i) k × IsMarked left k)
