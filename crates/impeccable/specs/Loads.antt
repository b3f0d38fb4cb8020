-- The load of a file that a test reads: what it gives, and what stops it.
use Rattle.std.specs.Prelude.{◌≡◌, ◌⊎◌, ℕ, ◌+◌, ◌<◌, ◌≤◌, List, length, Result, Ok, Err, IsSome, IsSomeAnd, ⊤}
use Rattle.imp_io.specs.Counts.{Rose, RoseBy}
use Rattle.imp_io.specs.Files.{FilesSeen, bytes_at, own_count}
use Rattle.program_spec.specs.Refusals.{Refusal, file_too_long}
use Rattle.program_spec.specs.Walk.{Test}
use Rattle.program_spec.specs.ErrorLines.{Answer, refused, read_fault, no_memory}
use Rattle.impeccable.specs.declared.ended.Stop.{Stop}
use Rattle.impeccable.specs.Answers.{WhereTold}
use Rattle.impeccable.specs.Ended.{stop_answer}

-- where the contents are known, the file of that name is held, and this holds of its bytes
abbrev pub WhereHeld : FilesSeen → List ℕ → (List ℕ → Type 0) → Type 0
WhereHeld files name P = WhereTold files (λ contents. IsSomeAnd (contents name) P)

-- the refusal is of what a file holds, and not of its length
abbrev pub IsOfContents : Refusal → Type 0
IsOfContents (file_too_long name) = ⊥
IsOfContents _ = ⊤

-- What stops it: the file is longer than so many bytes, or the test refuses them; the load failed; or memory is wanting.
abbrev pub StopsLoad : (A : Type 0) → FilesSeen → List ℕ → ℕ → (List ℕ → Test A) → Answer → FilesSeen → Type 0
StopsLoad A old name most asks (refused refusal) new =
    ((refusal ≡ file_too_long name) × RoseBy (most + 1) old.taken new.taken × WhereHeld old name (λ bytes. most < length bytes))
    ⊎ (IsOfContents refusal × WhereHeld old name (λ bytes. (length bytes ≤ most) × (asks bytes).Refuses refusal))
StopsLoad A old name most asks (read_fault failed) new =
    (failed ≡ name) × Rose old.faults new.faults
    × (IsSome (bytes_at old.told name) → Rose (own_count old.told name) (own_count new.told name))
StopsLoad A old name most asks no_memory new = ⊤
StopsLoad A old name most asks _ new = ⊥

-- The file is loaded, and the test finds what was made of its bytes; or this stops.
abbrev pub LoadsTested : {T : Type 0} → (A : Type 0) → FilesSeen → List ℕ → ℕ → (List ℕ → Test A) → (T → A → Type 0) → Result T Stop → FilesSeen → Type 0
LoadsTested A old name most asks Stands (Ok made) new =
    (found : A) × Stands made found × WhereHeld old name (λ bytes. (length bytes ≤ most) × (asks bytes).Finds found)
LoadsTested A old name most asks Stands (Err stop) new = StopsLoad A old name most asks (stop_answer stop) new
