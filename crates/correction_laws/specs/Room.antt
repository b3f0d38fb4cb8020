-- Words for which a joined list needs a corrector.
use Rattle.std.specs.Prelude.{ℕ, ◌⊎◌, Bool, List, map, IsTrue, Contains}
use Rattle.std.specs.List.{AllZip}
use Rattle.netlist_spec.specs.Gates.{Machine}
use Rattle.guard_spec.specs.Words.{Words}
use Rattle.correction_laws.specs.Joined.{NeedsWord}

-- some D net or output needs the word
abbrev pub IsNeeded : Machine → List ℕ → Type 0
IsNeeded source w = (x : ℕ) × (Contains (map (λ r. r.d) source.latches) x ⊎ Contains source.outputs x) × NeedsWord source x w

-- the words with a mark are needed
abbrev pub AreNeeded : Machine → Words → List Bool → Type 0
AreNeeded source words marks = AllZip (λ w mark. IsTrue mark → IsNeeded source w) words marks
