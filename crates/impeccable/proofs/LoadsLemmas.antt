-- Loads of files that a test reads: how a command passes them, what stops it there, and loads after others.
use Rattle.std.proofs.Common.{◌≡◌, ℕ, ◌+◌, ◌<◌, ◌≤◌, List, [], length, Err, Some, None, refl, sym, subst, ◌∙◌, inl, inr, arith}
use Rattle.std.specs.Prelude.{◌⊎◌, Option, MatchOption, IsSome, IsSomeAnd}
use Rattle.imp_io.specs.Counts.{RoseBy}
use Rattle.imp_io.specs.Files.{FilesSeen, IsLater, bytes_at, own_count}
use Rattle.imp_io.specs.Sink.{SinkSeen}
use Rattle.program_spec.specs.Commands.{Command}
use Rattle.program_spec.specs.Refusals.{Refusal, file_too_long}
use Rattle.program_spec.specs.Walk.{Verdict, refused as refuses, not_held, Test, Walk, load, test, ComesTo, ComesToLoad}
use Rattle.program_spec.specs.Verdict.{walk_of}
use Rattle.program_spec.specs.ErrorLines.{Answer, done, found, usage, refused, read_fault, write_fault, no_memory}
use Rattle.impeccable.specs.declared.ended.Stop.{Stop}
use Rattle.impeccable.specs.Answers.{Answers, KeepsOwn, TookTooMuch}
use Rattle.impeccable.specs.Ended.{fault_answer, stop_answer}
use Rattle.impeccable.specs.Loads.{IsOfContents, StopsLoad, WhereHeld}
use Rattle.refusals.specs.Refusal.{refusal_of}
use Rattle.impeccable.specs.Steps.{LoadsNamed, Passed, Stops}
use Rattle.impeccable.specs.declared.ended.Stop.TheVariants.{Usage, Refused, ReadFault, WriteFault, NoMemory}

-- ---- a command at such a load

-- a file that is held and short enough
come : (seen : Option (List ℕ)) (name : List ℕ) (most : ℕ) (v : Verdict) (P Q : List ℕ → Type 0) → ((bytes : List ℕ) → P bytes → Q bytes) → IsSomeAnd seen (λ bytes. (length bytes ≤ most) × P bytes)
    → MatchOption seen (v ≡ not_held name) (λ bytes. ((most < length bytes) × (v ≡ refuses (file_too_long name))) ⊎ ((length bytes ≤ most) × Q bytes))
come None name most v P Q go h = absurd h
come (Some bytes) name most v P Q go h = inr (h.0, go bytes h.1)

come-to_load : (seen : Option (List ℕ)) (n name : List ℕ) (most : ℕ) (P Q : List ℕ → Type 0) → ((bytes : List ℕ) → P bytes → Q bytes) → IsSomeAnd seen (λ bytes. (length bytes ≤ most) × P bytes)
    → (n ≡ name) ⊎ IsSomeAnd seen (λ bytes. (length bytes ≤ most) × Q bytes)
come-to_load None n name most P Q go h = absurd h
come-to_load (Some bytes) n name most P Q go h = inr (h.0, go bytes h.1)

-- and one that is too long
too-long : (seen : Option (List ℕ)) (name : List ℕ) (most : ℕ) (Q : List ℕ → Type 0) → IsSomeAnd seen (λ bytes. most < length bytes)
    → MatchOption seen (refuses (file_too_long name) ≡ not_held name) (λ bytes. ((most < length bytes) × (refuses (file_too_long name) ≡ refuses (file_too_long name))) ⊎ ((length bytes ≤ most) × Q bytes))
too-long None name most Q h = absurd h
too-long (Some bytes) name most Q h = inl (h, refl)

pub tested-passes : (old : FilesSeen) (walk : Walk) (name : List ℕ) (most : ℕ) (A : Type 0) (asks : List ℕ → Test A) (next : A → Walk) (value : A) → Passed old walk (load name most (λ bytes. test A (asks bytes) next)) → WhereHeld old name (λ bytes. (length bytes ≤ most) × (asks bytes).Finds value) → Passed old walk (next value)
tested-passes old walk name most A asks next value p held = record {
  verdict = λ known v h. p.verdict known v (come (bytes_at old.told name) name most v (λ bytes. (asks bytes).Finds value) (λ bytes. ComesTo (test A (asks bytes) next) (bytes_at old.told) v) (λ bytes finds. inl (value, finds, h)) (held known));
  load = λ known n h. p.load known n (come-to_load (bytes_at old.told name) n name most (λ bytes. (asks bytes).Finds value) (λ bytes. ComesToLoad (test A (asks bytes) next) (bytes_at old.told) n) (λ bytes finds. (value, finds, h)) (held known));
  steps = λ n limit h. p.steps n limit (inr ([], (value, h)));
}

took-none : (command : Command) (refusal : Refusal) (old new : FilesSeen) → IsOfContents refusal → TookTooMuch command refusal old new
took-none command (file_too_long name) old new h = absurd h
took-none command _ old new h = tt

stopped : (command : Command) (old new : FilesSeen) (name : List ℕ) (most : ℕ) (A : Type 0) (asks : List ℕ → Test A) (next : A → Walk) (answer : Answer) (out : SinkSeen) → Passed old (walk_of command) (load name most (λ bytes. test A (asks bytes) next)) → StopsLoad A old name most asks answer new → Answers command old new out out answer
stopped command old new name most A asks next (refused refusal) out p (inl h) =
    subst (λ r. Answers command old new out out (refused r)) (sym h.0) (
      refl,
      λ known. p.verdict known (refuses (file_too_long name)) (too-long (bytes_at old.told name) name most (λ bytes. ComesTo (test A (asks bytes) next) (bytes_at old.told) (refuses (file_too_long name))) (h.2 known)),
      (most, p.steps name most (inl (refl, refl)), h.1),
    )
stopped command old new name most A asks next (refused refusal) out p (inr h) = (
  refl,
  λ known. p.verdict known (refuses refusal) (come (bytes_at old.told name) name most (refuses refusal) (λ bytes. (asks bytes).Refuses refusal) (λ bytes. ComesTo (test A (asks bytes) next) (bytes_at old.told) (refuses refusal)) (λ bytes told. inr (refusal, told, refl)) (h.1 known)),
  took-none command refusal old new h.0,
)
stopped command old new name most A asks next (read_fault failed) out p h =
    subst (λ n. Answers command old new out out (read_fault n)) (sym h.0) (
      refl,
      record {
        rose = h.1;
        named = (most, p.steps name most (inl (refl, refl)));
        file = λ known. (p.load known name (inl refl), h.2);
      },
    )
stopped command old new name most A asks next no_memory out p h = inl refl
stopped command old new name most A asks next done out p h = absurd h
stopped command old new name most A asks next found out p h = absurd h
stopped command old new name most A asks next usage out p h = absurd h
stopped command old new name most A asks next write_fault out p h = absurd h

pub tested-stops : (command : Command) (old new : FilesSeen) (name : List ℕ) (most : ℕ) (A : Type 0) (asks : List ℕ → Test A) (next : A → Walk) (stop : Stop) → Passed old (walk_of command) (load name most (λ bytes. test A (asks bytes) next)) → StopsLoad A old name most asks (stop_answer stop) new → Stops command old stop new
tested-stops command old new name most A asks next stop p h = λ out. stopped command old new name most A asks next (stop_answer stop) out p h

-- ---- loads after others

rose-earlier : (n a b c : ℕ) → a ≤ b → RoseBy n b c → RoseBy n a c
rose-earlier n a b c low rose = omega (arith, low, rose)

told-earlier : (old mid : FilesSeen) → IsLater old mid → IsSome old.told → IsSome mid.told
told-earlier old mid later known = later.told ∙ known

pub held-earlier : (old mid : FilesSeen) (name : List ℕ) (P : List ℕ → Type 0) → IsLater old mid → WhereHeld mid name P → WhereHeld old name P
held-earlier old mid name P later h = λ known. subst (λ seen. IsSomeAnd seen P) (later.bytes name) (h (told-earlier old mid later known))

pub stops-earlier : (A : Type 0) (old mid new : FilesSeen) (name : List ℕ) (most : ℕ) (asks : List ℕ → Test A) (answer : Answer) → IsLater old mid → StopsLoad A mid name most asks answer new → StopsLoad A old name most asks answer new
stops-earlier A old mid new name most asks (refused refusal) later (inl h) =
    inl (h.0, rose-earlier (most + 1) old.taken mid.taken new.taken later.taken h.1, held-earlier old mid name (λ bytes. most < length bytes) later h.2)
stops-earlier A old mid new name most asks (refused refusal) later (inr h) =
    inr (h.0, held-earlier old mid name (λ bytes. (length bytes ≤ most) × (asks bytes).Refuses refusal) later h.1)
stops-earlier A old mid new name most asks (read_fault failed) later h = (
  h.0,
  rose-earlier 1 old.faults mid.faults new.faults later.faults h.1,
  λ some. rose-earlier 1 (own_count old.told name) (own_count mid.told name) (own_count new.told name) (later.own name) (h.2 (subst IsSome (sym (later.bytes name)) some)),
)
stops-earlier A old mid new name most asks no_memory later h = tt
stops-earlier A old mid new name most asks done later h = absurd h
stops-earlier A old mid new name most asks found later h = absurd h
stops-earlier A old mid new name most asks usage later h = absurd h
stops-earlier A old mid new name most asks write_fault later h = absurd h

-- where no own count rose before, none but that of a load that fails has risen since
pub own-earlier : (old mid new : FilesSeen) (answer : Answer) → ((n : List ℕ) → own_count mid.told n ≡ own_count old.told n) → KeepsOwn mid new answer → KeepsOwn old new answer
own-earlier old mid new done same h = λ n. h n ∙ same n
own-earlier old mid new found same h = λ n. h n ∙ same n
own-earlier old mid new usage same h = λ n. h n ∙ same n
own-earlier old mid new (refused refusal) same h = λ n. h n ∙ same n
own-earlier old mid new (read_fault failed) same h = λ n other. h n other ∙ same n
own-earlier old mid new write_fault same h = λ n. h n ∙ same n
own-earlier old mid new no_memory same h = λ n. h n ∙ same n

-- ---- what stops the load itself

pub load-stops-tested : (A : Type 0) (old new : FilesSeen) (name : List ℕ) (most : ℕ) (asks : List ℕ → Test A) (stop : Stop) → LoadsNamed old name most (Err stop) new → StopsLoad A old name most asks (stop_answer stop) new
load-stops-tested A old new name most asks (Refused told) h = subst (λ t. StopsLoad A old name most asks (refused (refusal_of t)) new) (sym h.0) (inl (refl, h.1, h.2))
load-stops-tested A old new name most asks (ReadFault failed) h = h
load-stops-tested A old new name most asks NoMemory h = tt
load-stops-tested A old new name most asks Usage h = absurd h
load-stops-tested A old new name most asks WriteFault h = absurd h

-- the bytes that were loaded
pub held-loaded : (old : FilesSeen) (name : List ℕ) (bytes : List ℕ) (P : List ℕ → Type 0) → (IsSome old.told → bytes_at old.told name ≡ Some bytes) → P bytes → WhereHeld old name P
held-loaded old name bytes P at h = λ known. subst (λ seen. IsSomeAnd seen P) (sym (at known)) h

-- what holds of bytes that are short enough
pub held-short : (old : FilesSeen) (name : List ℕ) (most : ℕ) (P : List ℕ → Type 0) → WhereHeld old name (λ bytes. (length bytes ≤ most) × P bytes) → WhereHeld old name P
held-short old name most P h = λ known. of-bytes (bytes_at old.told name) (h known)
  where
    of-bytes : (seen : Option (List ℕ)) → IsSomeAnd seen (λ bytes. (length bytes ≤ most) × P bytes) → IsSomeAnd seen P
    of-bytes None h = h
    of-bytes (Some bytes) h = h.1

-- what the test of the bytes refuses, as a fault of a layer
pub fault-stops-tested : (A F : Type 0) (old new : FilesSeen) (name : List ℕ) (most : ℕ) (asks : List ℕ → Test A) (bytes : List ℕ) (told : F → Refusal) (fault : Option F) (answer : Answer) → length bytes ≤ most → (IsSome old.told → bytes_at old.told name ≡ Some bytes)
    → ((f : F) → fault ≡ Some f → (asks bytes).Refuses (told f)) → ((f : F) → IsOfContents (told f)) → answer ≡ fault_answer F told fault → StopsLoad A old name most asks answer new
fault-stops-tested A F old new name most asks bytes told None answer short at refused-there plain is =
    subst (λ a. StopsLoad A old name most asks a new) (sym is) tt
fault-stops-tested A F old new name most asks bytes told (Some f) answer short at refused-there plain is =
    subst (λ a. StopsLoad A old name most asks a new) (sym is)
    (inr (plain f, held-loaded old name bytes (λ b. (length b ≤ most) × (asks b).Refuses (told f)) at (short, refused-there f refl)))
