-- The outcomes that must come, from what each answer says: the verdict of a command over some contents is one.
use Rattle.std.proofs.Common.{◌≡◌, inl, inr, refl, sym, subst, arith, Option, Some, None}
use Rattle.std.specs.Prelude.{IfSome}
use Rattle.imp_io.specs.Files.{FilesSeen, bytes_at}
use Rattle.imp_io.specs.Sink.{SinkSeen}
use Rattle.program_spec.specs.Commands.{Command}
use Rattle.program_spec.specs.ErrorLines.{Answer}
use Rattle.program_spec.proofs.StepLaws.{one_kind, one_refusal, passes_not_refused}
use Rattle.impeccable.specs.declared.outcome.Outcome.{Outcome}
use Rattle.impeccable.specs.declared.outcome.Outcome.TheVariants.{Done, Found, Usage, Refused, ReadFault, WriteFault, NoMemory}
use Rattle.impeccable.specs.Outcome.{IsAnswer}
use Rattle.refusals.specs.Refusal.{refusal_of}
use Rattle.impeccable.specs.Answers.{Answers, FindsThere, IsComplete, KeepsOwn, RefusesThere}
use Rattle.impeccable.specs.Says.{Says}

-- what is said of one answer, said of the same
at : (command : Command) (old new : FilesSeen) (out out' : SinkSeen) (answer other : Answer) → answer ≡ other → Answers command old new out out' answer → Answers command old new out out' other
at command old new out out' answer other is h = subst (λ a. Answers command old new out out' a) is h

pub Answers-complete : (command : Command) (old new : FilesSeen) (out out' : SinkSeen) (answer : Answer) (outcome : Outcome) → IsAnswer outcome answer → Answers command old new out out' answer → IsComplete command old new out out' outcome
Answers-complete command old new out out' answer Done is h =
    let a = at command old new out out' answer _ is h in
    λ known pass calm quiet. inl (refl, (a.1 known).1, (a.1 known).2)
Answers-complete command old new out out' answer Found is h =
    let a = at command old new out out' answer _ is h in
    λ known pass calm quiet. inr (inl (refl, (a.2 known).1, (a.2 known).2))
Answers-complete command old new out out' answer Usage is h = absurd (at command old new out out' answer _ is h)
Answers-complete command old new out out' answer (Refused told) is h =
    let a = at command old new out out' answer _ is h in
    λ known pass calm quiet. absurd (passes_not_refused command (bytes_at old.told) (refusal_of told) pass (a.1 known))
Answers-complete command old new out out' answer ReadFault is h =
    let a = at command old new out out' answer _ is.1 h in
    λ known pass calm quiet. absurd (omega (arith, a.1.rose, calm))
Answers-complete command old new out out' answer WriteFault is h =
    let a = at command old new out out' answer _ is h in
    λ known pass calm quiet. absurd (omega (arith, a.0, quiet))
Answers-complete command old new out out' answer NoMemory is h = λ known pass calm quiet. inr (inr refl)

pub Answers-find : (command : Command) (old new : FilesSeen) (out out' : SinkSeen) (answer : Answer) (outcome : Outcome) → IsAnswer outcome answer → Answers command old new out out' answer → FindsThere command old new out out' outcome
Answers-find command old new out out' answer Done is h =
    let a = at command old new out out' answer _ is h in
    λ known text pass told calm quiet. absurd (one_kind command (bytes_at old.told) (a.1 known).1 text (a.1 known).2 told)
Answers-find command old new out out' answer Found is h = λ known text pass told calm quiet. inl refl
Answers-find command old new out out' answer Usage is h = absurd (at command old new out out' answer _ is h)
Answers-find command old new out out' answer (Refused told) is h =
    let a = at command old new out out' answer _ is h in
    λ known text pass finds calm quiet. absurd (passes_not_refused command (bytes_at old.told) (refusal_of told) pass (a.1 known))
Answers-find command old new out out' answer ReadFault is h =
    let a = at command old new out out' answer _ is.1 h in
    λ known text pass told calm quiet. absurd (omega (arith, a.1.rose, calm))
Answers-find command old new out out' answer WriteFault is h =
    let a = at command old new out out' answer _ is h in
    λ known text pass told calm quiet. absurd (omega (arith, a.0, quiet))
Answers-find command old new out out' answer NoMemory is h = λ known text pass told calm quiet. inr refl

pub Answers-refuse : (command : Command) (old new : FilesSeen) (out out' : SinkSeen) (answer : Answer) (outcome : Outcome) → IsAnswer outcome answer → Answers command old new out out' answer → RefusesThere command old new outcome
Answers-refuse command old new out out' answer Done is h =
    let a = at command old new out out' answer _ is h in
    λ known refusal r calm. absurd (passes_not_refused command (bytes_at old.told) refusal (a.1 known).0 r)
Answers-refuse command old new out out' answer Found is h =
    let a = at command old new out out' answer _ is h in
    λ known refusal r calm. absurd (passes_not_refused command (bytes_at old.told) refusal (a.2 known).0 r)
Answers-refuse command old new out out' answer Usage is h = absurd (at command old new out out' answer _ is h)
Answers-refuse command old new out out' answer (Refused told) is h =
    let a = at command old new out out' answer _ is h in
    λ known refusal r calm. inl (told, refl, one_refusal command (bytes_at old.told) (refusal_of told) refusal (a.1 known) r)
Answers-refuse command old new out out' answer ReadFault is h =
    let a = at command old new out out' answer _ is.1 h in
    λ known refusal r calm. absurd (omega (arith, a.1.rose, calm))
Answers-refuse command old new out out' answer WriteFault is h =
    let a = at command old new out out' answer _ is h in
    λ known refusal r calm. absurd (passes_not_refused command (bytes_at old.told) refusal (a.1 known).0 r)
Answers-refuse command old new out out' answer NoMemory is h = λ known refusal r calm. inr refl

-- ---- of the command that was asked for

pub asked-answers : (asked : Option Command) (command : Command) (old new : FilesSeen) (out out' err err' : SinkSeen) (answer : Answer) (outcome : Outcome) → Some command ≡ asked
    → IsAnswer outcome answer → Answers command old new out out' answer → KeepsOwn old new answer → Says answer err err'
    → IfSome asked (λ k. (a : Answer) × IsAnswer outcome a × Answers k old new out out' a × KeepsOwn old new a × Says a err err')
asked-answers asked command old new out out' err err' answer outcome same is h own says = rw (sym same) (answer, is, h, own, says)

pub asked-completes : (asked : Option Command) (command : Command) (old new : FilesSeen) (out out' : SinkSeen) (answer : Answer) (outcome : Outcome) → Some command ≡ asked → IsAnswer outcome answer → Answers command old new out out' answer → IfSome asked (λ k. IsComplete k old new out out' outcome)
asked-completes asked command old new out out' answer outcome same is h = rw (sym same) (Answers-complete command old new out out' answer outcome is h)

pub asked-finds : (asked : Option Command) (command : Command) (old new : FilesSeen) (out out' : SinkSeen) (answer : Answer) (outcome : Outcome) → Some command ≡ asked → IsAnswer outcome answer → Answers command old new out out' answer → IfSome asked (λ k. FindsThere k old new out out' outcome)
asked-finds asked command old new out out' answer outcome same is h = rw (sym same) (Answers-find command old new out out' answer outcome is h)

pub asked-refuses : (asked : Option Command) (command : Command) (old new : FilesSeen) (out out' : SinkSeen) (answer : Answer) (outcome : Outcome) → Some command ≡ asked → IsAnswer outcome answer → Answers command old new out out' answer → IfSome asked (λ k. RefusesThere k old new outcome)
asked-refuses asked command old new out out' answer outcome same is h = rw (sym same) (Answers-refuse command old new out out' answer outcome is h)

-- where nothing is asked for, nothing must come
pub unasked : (asked : Option Command) (P : Command → Type 0) → None ≡ asked → IfSome asked P
unasked asked P is = rw (sym is) tt
