-- Steps that may fail, one behind the other.
use Rattle.std.proofs.Common.{◌≡◌, refl, true, false, Option, None, Some, Result, Ok, Err}
use Rattle.std.specs.Prelude.{is_some}
use Rattle.guard_spec.specs.SettingsFile.{SettingsFault, ◌>>=◌}
use Rattle.settings.specs.Faults.{IsFault}

pub then_fails : {A B : Type 0} (r : Result A SettingsFault) (f : A → Result B SettingsFault) (o : Option SettingsFault) → IsFault r o → IsFault (r >>= f) o
then_fails r f None h = tt
then_fails r f (Some fault) h = rw h refl

pub then_after : {A B : Type 0} (r : Result A SettingsFault) (f : A → Result B SettingsFault) (x : A) (o : Option SettingsFault) → r ≡ Ok x → IsFault (f x) o → IsFault (r >>= f) o
then_after r f x o ok h = rw ok h

pub then_parts : {A B : Type 0} (r : Result A SettingsFault) (f : A → Result B SettingsFault) (y : B) → (r >>= f) ≡ Ok y → (x : A) × (r ≡ Ok x) × (f x ≡ Ok y)
then_parts (Ok x) f y h = (x, refl, h)
then_parts (Err e) f y h = cc

same_fault : {A : Type 0} (f g : SettingsFault) → ◌≡◌ {A = Result A SettingsFault} (Err f) (Err g) → f ≡ g
same_fault f g h = cc

-- A refusal is the same, whatever else might have been the answer.
pub fault_as : (A : Type 0) {B : Type 0} (r : Result B SettingsFault) (fault : SettingsFault) (o : Option SettingsFault) → r ≡ Err fault → IsFault {A = A} (Err fault) o → IsFault r o
fault_as A r fault None is h = tt
fault_as A r fault (Some other) is h = let same : fault ≡ other = same_fault {A = A} fault other h in rw (is, same) refl

pub none_from : {A : Type 0} (o : Option A) → is_some o ≡ false → o ≡ None
none_from None h = refl
none_from (Some x) h = cc

pub some_from : {A : Type 0} (o : Option A) → is_some o ≡ true → (x : A) × (o ≡ Some x)
some_from None h = cc
some_from (Some x) h = (x, refl)
