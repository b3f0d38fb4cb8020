-- Walks over nets that are left over.
use Rattle.std.specs.Prelude.{◌≡◌, ◌==◌, ℕ, ◌≤◌, Bool, false, List, [], ◌∷◌, ◌++◌, count_by, find, slice_get, slice_index_or, Option, Some}
use Rattle.net_graph.specs.Chains.{IsMarked, ends_of}

-- the first net of a list that is left over
abbrev pub first_left : List Bool → List ℕ → Option ℕ
first_left left ns = find (λ k. slice_index_or left k false) ns

-- The next net of a walk is the first one left over that the net's driver reads.
abbrev pub FollowsTo : (reads : List (List ℕ)) (driver : List ℕ) (left : List Bool) → ℕ → ℕ → Type 0
FollowsTo reads driver left n k = first_left left (ends_of reads (slice_index_or driver n 0)) ≡ Some k

abbrev pub FollowsAlong : (reads : List (List ℕ)) (driver : List ℕ) (left : List Bool) → List ℕ → ℕ → Type 0
FollowsAlong reads driver left [] end = ⊥
FollowsAlong reads driver left (n ∷ []) end = FollowsTo reads driver left n end
FollowsAlong reads driver left (n ∷ k ∷ rest) end = FollowsTo reads driver left n k × FollowsAlong reads driver left (k ∷ rest) end

-- It is marked, and no smaller number is.
pub record IsFirstMarked (marks : List Bool) (n : ℕ) : Type 0 where
  pub marked : IsMarked marks n
  pub least : (k : ℕ) → IsMarked marks k → n ≤ k

-- A walk from a net, `front` and then the list, meets no net twice and goes back to the first net of the list.
pub record IsWalkedFrom (reads : List (List ℕ)) (driver : List ℕ) (left : List Bool) (start : ℕ) (nets : List ℕ) : Type 0 where
  pub front : List ℕ
  pub first : ℕ
  pub others : List ℕ
  pub cycle : nets ≡ first ∷ others
  pub begins : slice_get (front ++ nets) 0 ≡ Some start
  pub walks : FollowsAlong reads driver left (front ++ nets) first
  pub once : (i : ℕ) → count_by (λ k. k == i) (front ++ nets) ≤ 1

-- The walk starts at the first net that is left over.
pub record IsWalkedLoop (reads : List (List ℕ)) (driver : List ℕ) (left : List Bool) (nets : List ℕ) : Type 0 where
  pub start : ℕ
  pub is_start : IsFirstMarked left start
  pub walked : IsWalkedFrom reads driver left start nets
