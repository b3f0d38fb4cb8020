-- What each answer of a command says, and which outcome it must have.
use Rattle.std.specs.Prelude.{◌≡◌, ◌≢◌, ◌⊎◌, ◌+◌, List, ℕ, IsSome, ⊤}
use Rattle.std.specs.Io.KnownBytes.{Appends}
use Rattle.imp_io.specs.Counts.{Rose, RoseBy, Stayed}
use Rattle.imp_io.specs.Files.{FilesSeen, bytes_at, own_count}
use Rattle.imp_io.specs.Sink.{SinkSeen, AppendsPrefix}
use Rattle.program_spec.specs.Commands.{Command, demo}
use Rattle.program_spec.specs.Refusals.{Refusal, file_too_long}
use Rattle.program_spec.specs.Walk.{Contents, ComesToLoad, HasLoad, passes, refused as refuses}
use Rattle.program_spec.specs.Verdict.{walk_of, IsVerdict, IsDoneText, MayFind, IsFoundText, IsTextFor}
use Rattle.program_spec.specs.ErrorLines.{Answer, done, found, usage, refused, read_fault, write_fault, no_memory}
use Rattle.refusals.specs.declared.refusal.Refusal.{Refusal as Told}
use Rattle.impeccable.specs.declared.outcome.Outcome.{Outcome}
use Rattle.impeccable.specs.declared.outcome.Outcome.TheVariants.{Done, Found, Refused, NoMemory}
use Rattle.refusals.specs.Refusal.{refusal_of}
use Rattle.impeccable.specs.Demo.{EndsDemo}

-- where the contents are known, this holds of them
abbrev pub WhereTold : FilesSeen → (Contents → Type 0) → Type 0
WhereTold files P = IsSome files.told → P (bytes_at files.told)

-- The verdict passes, and of a text of this kind this holds.
abbrev pub PassesWith : Command → (Command → Contents → List ℕ → Type 0) → FilesSeen → (List ℕ → Type 0) → Type 0
PassesWith command IsText files P =
    WhereTold files (λ contents. IsVerdict command contents passes × (text : List ℕ) × IsText command contents text × P text)

-- Where the refusal is of a file's length, the command loads that file, and more was taken than its limit.
abbrev pub TookTooMuch : Command → Refusal → FilesSeen → FilesSeen → Type 0
TookTooMuch command (file_too_long name) old new =
    (limit : ℕ) × HasLoad (walk_of command) name limit × RoseBy (limit + 1) old.taken new.taken
TookTooMuch command _ old new = ⊤

-- A load failed, in this run, of a file that the command loads. Where the contents are known, the command comes to its
-- load, and it isn't held or its own count rose.
pub record LoadFailed (command : Command) (old new : FilesSeen) (name : List ℕ) : Type 0 where
  pub rose : Rose old.faults new.faults
  pub named : (limit : ℕ) × HasLoad (walk_of command) name limit
  pub file : WhereTold old (λ contents. ComesToLoad (walk_of command) contents name × (IsSome (contents name) → Rose (own_count old.told name) (own_count new.told name)))

-- No own count of a file rose, but that of the file whose load failed.
abbrev pub KeepsOwn : FilesSeen → FilesSeen → Answer → Type 0
KeepsOwn old new (read_fault failed) = (name : List ℕ) → name ≢ failed → own_count new.told name ≡ own_count old.told name
KeepsOwn old new _ = (name : List ℕ) → own_count new.told name ≡ own_count old.told name

-- What each answer of a command says: `old` and `new` are the files before and after the run, `out` and `out'` what it
-- writes to.
abbrev pub Answers : Command → FilesSeen → FilesSeen → SinkSeen → SinkSeen → Answer → Type 0
-- a whole text was appended, and no put failed
Answers command old new out out' done =
    (out'.faults ≡ out.faults) × PassesWith command IsDoneText old (λ text. Appends out.written out'.written text)
Answers command old new out out' found =
    (out'.faults ≡ out.faults) × MayFind command × PassesWith command IsFoundText old (λ text. Appends out.written out'.written text)
-- the words spell a command
Answers command old new out out' usage = ⊥
-- nothing was written
Answers command old new out out' (refused refusal) =
    (out' ≡ out) × WhereTold old (λ contents. IsVerdict command contents (refuses refusal))
    × TookTooMuch command refusal old new
Answers command old new out out' (read_fault name) = (out' ≡ out) × LoadFailed command old new name
-- a prefix of a text was appended
Answers command old new out out' write_fault =
    Rose out.faults out'.faults × PassesWith command IsTextFor old (λ text. AppendsPrefix out.written out'.written text)
-- nothing was written, or a put found no memory and a prefix of a text was appended
Answers command old new out out' no_memory =
    (out' ≡ out)
    ⊎ (Rose out.denied out'.denied × PassesWith command IsTextFor old (λ text. AppendsPrefix out.written out'.written text))

-- A whole text is written, Done where nothing is found and Found where something is, or memory is wanting.
abbrev pub IsWritten : Command → Contents → Outcome → Type 0
IsWritten command contents outcome =
    ((outcome ≡ Done) × (text : List ℕ) × IsDoneText command contents text)
    ⊎ ((outcome ≡ Found) × (text : List ℕ) × IsFoundText command contents text)
    ⊎ (outcome ≡ NoMemory)

-- So it is where the verdict passes and no fault came.
abbrev pub IsComplete : Command → FilesSeen → FilesSeen → SinkSeen → SinkSeen → Outcome → Type 0
IsComplete command old new out out' outcome =
    WhereTold old (λ contents. IsVerdict command contents passes
    → Stayed old.faults new.faults → Stayed out.faults out'.faults → IsWritten command contents outcome)

-- Where besides something is to be found, it is found, want of memory aside.
abbrev pub FindsThere : Command → FilesSeen → FilesSeen → SinkSeen → SinkSeen → Outcome → Type 0
FindsThere command old new out out' outcome =
    WhereTold old (λ contents. (text : List ℕ) → IsVerdict command contents passes → IsFoundText command contents text
    → Stayed old.faults new.faults → Stayed out.faults out'.faults → (outcome ≡ Found) ⊎ (outcome ≡ NoMemory))

-- the outcome is this refusal
abbrev pub IsRefusal : Outcome → Refusal → Type 0
IsRefusal outcome refusal = (told : Told) × (outcome ≡ Refused told) × (refusal_of told ≡ refusal)

-- Where the verdict refuses and no load failed, that refusal is the outcome, want of memory aside.
abbrev pub RefusesThere : Command → FilesSeen → FilesSeen → Outcome → Type 0
RefusesThere command old new outcome =
    WhereTold old (λ contents. (refusal : Refusal) → IsVerdict command contents (refuses refusal)
    → Stayed old.faults new.faults → IsRefusal outcome refusal ⊎ (outcome ≡ NoMemory))

-- Over any files, told or not, a demo reads none and has no other outcome than these.
abbrev pub AnswersDemo : Command → FilesSeen → FilesSeen → SinkSeen → SinkSeen → Outcome → Type 0
AnswersDemo (demo size) old new out out' outcome = (new ≡ old) × EndsDemo size out out' outcome
AnswersDemo _ old new out out' outcome = ⊤
