-- The answers of `demo`, whatever is known of the files.
use Rattle.std.proofs.Common.{◌≡◌, List, ℕ, Ok, Err, refl, sym, subst, inl, inr}
use Rattle.std.specs.Prelude.{IfSome, Option, Some}
use Rattle.imp_io.specs.Files.{FilesSeen}
use Rattle.imp_io.specs.Sink.{SinkSeen, Puts}
use Rattle.imp_io.specs.declared.fault.SinkFault.{SinkFault}
use Rattle.imp_io.specs.declared.fault.SinkFault.TheVariants.{Failed, NoMemory as NoRoom}
use Rattle.netlist_spec.specs.Runs.{IsSteady}
use Rattle.program_spec.specs.CampaignText.{IsDemoText}
use Rattle.program_spec.specs.Commands.{Command, demo}
use Rattle.program_spec.specs.ErrorLines.{Answer, done, write_fault, no_memory}
use Rattle.impeccable.specs.declared.ended.Success.TheVariants.{Done as Wrote}
use Rattle.impeccable.specs.declared.outcome.Outcome.{Outcome}
use Rattle.impeccable.specs.declared.outcome.Outcome.TheVariants.{Done, Found, Usage, Refused, ReadFault, WriteFault, NoMemory}
use Rattle.impeccable.specs.Answers.{AnswersDemo}
use Rattle.impeccable.specs.Demo.{EndsDemo}
use Rattle.impeccable.specs.Ended.{sink_answer}
use Rattle.impeccable.specs.Outcome.{IsAnswer}
use Rattle.impeccable.specs.Steps.{IsPrepared}

-- its text is one that the command may write
pub demo-prepared : (size : ℕ) (old : FilesSeen) (text : List ℕ) → IsDemoText size text (λ t. IsSteady t) → IsPrepared (demo size) Wrote old text
demo-prepared size old text is = λ known. (refl, is)

-- what each answer says
abbrev Says : ℕ → SinkSeen → SinkSeen → Answer → Type 0
Says size out out' done = EndsDemo size out out' Done
Says size out out' write_fault = EndsDemo size out out' WriteFault
Says size out out' no_memory = EndsDemo size out out' NoMemory
Says size out out' _ = ⊥

-- said of its outcome
ends : (size : ℕ) (out out' : SinkSeen) (answer : Answer) (outcome : Outcome) → IsAnswer outcome answer → Says size out out' answer → EndsDemo size out out' outcome
ends size out out' answer Done is h = subst (Says size out out') is h
ends size out out' answer Found is h = subst (Says size out out') is h
ends size out out' answer Usage is h = subst (Says size out out') is h
ends size out out' answer (Refused told) is h = subst (Says size out out') is h
ends size out out' answer ReadFault is h = subst (Says size out out') is.1 h
ends size out out' answer WriteFault is h = subst (Says size out out') is h
ends size out out' answer NoMemory is h = subst (Says size out out') is h

pub unstarted-ends : (size : ℕ) (out : SinkSeen) (answer : Answer) → answer ≡ no_memory → (outcome : Outcome) → IsAnswer outcome answer → EndsDemo size out out outcome
unstarted-ends size out answer is outcome told = ends size out out answer outcome told (subst (Says size out out) (sym is) (inl refl))

module _ (size : ℕ) (out out' : SinkSeen) (text : List ℕ) (is_text : IsDemoText size text (λ t. IsSteady t)) where
  pub whole-ends : {T : Type 0} (x : T) → Puts {T = T} out text (Ok x) out' → (outcome : Outcome) → IsAnswer outcome done → EndsDemo size out out' outcome
  whole-ends x p outcome told = ends size out out' done outcome told (p.kept, (text, is_text, p.whole))

  stopped : {T : Type 0} (fault : SinkFault) → Puts {T = T} out text (Err fault) out' → Says size out out' (sink_answer fault)
  stopped Failed p = (p.failed refl, (text, is_text, p.prefix))
  stopped NoRoom p = inr (p.no_memory refl, (text, is_text, p.prefix))

  pub stopped-ends : {T : Type 0} (fault : SinkFault) (answer : Answer) → Puts {T = T} out text (Err fault) out' → answer ≡ sink_answer fault → (outcome : Outcome) → IsAnswer outcome answer → EndsDemo size out out' outcome
  stopped-ends fault answer p is outcome told = ends size out out' answer outcome told (subst (Says size out out') (sym is) (stopped fault p))

-- of the command that was asked for
pub asked-demo : (asked : Option Command) (command : Command) (old new : FilesSeen) (out out' : SinkSeen) (outcome : Outcome) → Some command ≡ asked → AnswersDemo command old new out out' outcome → IfSome asked (λ k. AnswersDemo k old new out out' outcome)
asked-demo asked command old new out out' outcome same h = rw (sym same) h
