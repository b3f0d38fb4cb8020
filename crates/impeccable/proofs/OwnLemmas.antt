-- Own counts of files: only a load that failed is counted at its file.
use Rattle.std.proofs.Common.{◌≡◌, refl, sym, ◌∙◌, subst, List, ℕ, Bool, true, false, Ok, Err}
use Rattle.std.specs.Prelude.{◌≢◌, Result, Vec, IsErrOf}
use Rattle.std.specs.declared.alloc.Global.{Global}
use Rattle.std.specs.Str.{bytes_eq}
use Rattle.std.specs.Cmp.Lexicographic.{bytes_decides}
use Rattle.imp_io.specs.Files.{FilesSeen, Loads, own_count}
use Rattle.imp_io.specs.declared.fault.LoadFault.{LoadFault}
use Rattle.imp_io.specs.declared.fault.LoadFault.TheVariants.{Failed, TooLong, NoMemory}
use Rattle.program_spec.specs.ErrorLines.{Answer, done, found, usage, refused, read_fault, write_fault, no_memory}
use Rattle.impeccable.specs.Answers.{KeepsOwn}

-- one name and all others
own-all : (old new : FilesSeen) (name : List ℕ) → own_count new.told name ≡ own_count old.told name → ((other : List ℕ) → other ≢ name → own_count new.told other ≡ own_count old.told other) → (n : List ℕ) → own_count new.told n ≡ own_count old.told n
own-all old new name same others n = by-test (bytes_eq n name) refl
  where
    by-test : (b : Bool) → bytes_eq n name ≡ b → own_count new.told n ≡ own_count old.told n
    by-test true e = subst (λ m. own_count new.told m ≡ own_count old.told m) (sym ((bytes_decides n name).0 e)) same
    by-test false e = others n (λ is. let both : true ≡ false = sym ((bytes_decides n name).1 is) ∙ e in cc)

-- a load that didn't fail
pub load-keeps : (old new : FilesSeen) (name : List ℕ) (most : ℕ) (result : Result (Vec ℕ Global) LoadFault) → Loads old name most result new → (IsErrOf result Failed → ⊥) → (n : List ℕ) → own_count new.told n ≡ own_count old.told n
load-keeps old new name most (Ok bytes) h unfailed = own-all old new name h.same_own h.same_others
load-keeps old new name most (Err Failed) h unfailed = absurd (unfailed refl)
load-keeps old new name most (Err TooLong) h unfailed = own-all old new name h.same_own h.same_others
load-keeps old new name most (Err NoMemory) h unfailed = own-all old new name h.same_own h.same_others

-- where none rose, any answer may come
pub keeps : (old new : FilesSeen) (answer : Answer) → ((n : List ℕ) → own_count new.told n ≡ own_count old.told n) → KeepsOwn old new answer
keeps old new done h = h
keeps old new found h = h
keeps old new usage h = h
keeps old new (refused refusal) h = h
keeps old new (read_fault name) h = λ n other. h n
keeps old new write_fault h = h
keeps old new no_memory h = h
