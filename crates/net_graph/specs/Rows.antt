-- Lists that stand one after another in one list, each up to its stop.
use Rattle.std.specs.Prelude.{◌≡◌, ℕ, zero, suc, ◌≤◌, List, [], ◌∷◌, slice_range}

-- the lists from a place on
abbrev pub rows : ℕ → List ℕ → List ℕ → List (List ℕ)
rows from [] ends = []
rows from (stop ∷ stops) ends = slice_range ends from stop ∷ rows stop stops ends

-- The stops never fall, and the last one is the end.
abbrev pub Rise : ℕ → List ℕ → ℕ → Type 0
Rise from [] end = from ≡ end
Rise from (stop ∷ stops) end = (from ≤ stop) × Rise stop stops end

-- where a list begins
abbrev pub start_at : ℕ → List ℕ → ℕ → ℕ
start_at from stops zero = from
start_at from [] (suc k) = from
start_at from (stop ∷ stops) (suc k) = start_at stop stops k
