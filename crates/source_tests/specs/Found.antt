-- What a test finds that each used model is put to.
use Rattle.std.specs.Prelude.{◌≡◌, Option, Some, None}
use Rattle.netlist_spec.specs.Netlist.{Name, Model, File}
use Rattle.netlist_spec.specs.Sound.{IsUsed}
use Rattle.netlist_spec.specs.SoundFaults.{IsFirstUsed}

-- Nothing is found in a used model, or this is what is found in the first one, in file order, in which anything is.
abbrev pub IsFound : {A : Type 0} → File → (Model → Option A) → Option A → Type 0
IsFound file test None = (m : Model) → IsUsed file m → test m ≡ None
IsFound file test (Some found) = IsFirstUsed file (λ m a. test m ≡ Some a) found

-- No used model is such, or this is the name of the first one that is.
abbrev pub IsFirstNamed : File → (Model → Type 0) → Option Name → Type 0
IsFirstNamed file IsSuch None = (m : Model) → IsUsed file m → IsSuch m → ⊥
IsFirstNamed file IsSuch (Some name) = IsFirstUsed file (λ m a. IsSuch m × (a ≡ m.name)) name
