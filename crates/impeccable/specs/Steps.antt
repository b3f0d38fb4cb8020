-- Where a command stands in its walk, and what stops it there.
use Rattle.std.specs.Prelude.{◌≡◌, ℕ, ◌+◌, ◌≤◌, ◌<◌, List, length, Result, Ok, Err, Some, IsSome, IsSomeAnd, ⊤, Vec}
use Rattle.std.specs.declared.alloc.Global.{Global}
use Rattle.imp_io.specs.Counts.{Rose, RoseBy}
use Rattle.imp_io.specs.Files.{FilesSeen, bytes_at, own_count}
use Rattle.imp_io.specs.Sink.{SinkSeen}
use Rattle.program_spec.specs.Commands.{Command}
use Rattle.program_spec.specs.Walk.{Verdict, Walk, ComesTo, ComesToLoad, HasLoad, passes}
use Rattle.program_spec.specs.Verdict.{IsVerdict, IsDoneText, MayFind, IsFoundText}
use Rattle.impeccable.specs.declared.ended.Success.{Success}
use Rattle.impeccable.specs.declared.ended.Success.TheVariants.{Done, Found}
use Rattle.impeccable.specs.declared.ended.Stop.{Stop}
use Rattle.impeccable.specs.declared.ended.Stop.TheVariants.{Usage, Refused, ReadFault, WriteFault, NoMemory}
use Rattle.refusals.specs.declared.refusal.Refusal.TheVariants.{FileTooLong}
use Rattle.impeccable.specs.Answers.{WhereTold, Answers}
use Rattle.impeccable.specs.Ended.{stop_answer}

-- The steps before the rest of a walk pass: what the rest comes to, the walk comes to.
pub record Passed (old : FilesSeen) (walk rest : Walk) : Type 0 where
  pub verdict : WhereTold old (λ contents. (verdict : Verdict) → ComesTo rest contents verdict → ComesTo walk contents verdict)
  pub load : WhereTold old (λ contents. (name : List ℕ) → ComesToLoad rest contents name → ComesToLoad walk contents name)
  pub steps : (name : List ℕ) (limit : ℕ) → HasLoad rest name limit → HasLoad walk name limit

-- the load of a file that a command names
abbrev pub LoadsNamed : FilesSeen → List ℕ → ℕ → Result (Vec ℕ Global) Stop → FilesSeen → Type 0
LoadsNamed old name most (Ok bytes) new =
    (length bytes.items ≤ most) × (IsSome old.told → bytes_at old.told name ≡ Some bytes.items)
LoadsNamed old name most (Err (Refused refusal)) new =
    (refusal ≡ FileTooLong name) × RoseBy (most + 1) old.taken new.taken
    × (IsSome old.told → IsSomeAnd (bytes_at old.told name) (λ bytes. most < length bytes))
LoadsNamed old name most (Err (ReadFault failed)) new =
    (failed.now ≡ name) × Rose old.faults new.faults
    × (IsSome (bytes_at old.told name) → Rose (own_count old.told name) (own_count new.told name))
LoadsNamed old name most (Err NoMemory) new = ⊤
LoadsNamed old name most (Err Usage) new = ⊥
LoadsNamed old name most (Err WriteFault) new = ⊥

-- A command stops before it writes.
abbrev pub Stops : Command → FilesSeen → Stop → FilesSeen → Type 0
Stops command old stop new = (out : SinkSeen) → Answers command old new out out (stop_answer stop)

-- All steps of a command pass, and this text is one that it may write where it ends so.
abbrev pub IsPrepared : Command → Success → FilesSeen → List ℕ → Type 0
IsPrepared command Done old text =
    WhereTold old (λ contents. IsVerdict command contents passes × IsDoneText command contents text)
IsPrepared command Found old text =
    MayFind command × WhereTold old (λ contents. IsVerdict command contents passes × IsFoundText command contents text)

-- The steps of a command up to what is to be written: of what is made, how the command ends and its text are given.
abbrev pub Prepares : {T : Type 0} → Command → (T → Success) → (T → List ℕ) → FilesSeen → Result T Stop → FilesSeen → Type 0
Prepares command success_of text_of old (Ok made) new = IsPrepared command (success_of made) old (text_of made)
Prepares command success_of text_of old (Err stop) new = Stops command old stop new

-- the same of a command that finds nothing, where the texts that may be written are given by a relation
abbrev pub PreparesEach : {T : Type 0} → Command → (T → List ℕ → Type 0) → FilesSeen → Result T Stop → FilesSeen → Type 0
PreparesEach command IsTextOf old (Ok made) new =
    WhereTold old (λ contents. IsVerdict command contents passes × ((text : List ℕ) → IsTextOf made text → IsDoneText command contents text))
PreparesEach command IsTextOf old (Err stop) new = Stops command old stop new
