use Rattle.std.proofs.Common.{length}
use Rattle.containment.proofs.AllCycles.{quiet_run, codewords_are_not_bad, no_rails}
use Rattle.containment.proofs.Dual.{codewords_are_not_far}
use Rattle.guard_spec.specs.Rails.{SomeNoCodeword, SomeFarWord}
use Rattle.containment.proofs.guards_are_faithful.Goals as goal

pub returns-clause-told : goal.returns-clause-told
returns-clause-told c = λ g source code d mode radius l guard xs states outs stored zs source_run guard_run.
    quiet_run g source code d mode radius l guard.coded guard.built (SomeNoCodeword g code l (length source.outputs)) guard.tells (codewords_are_not_bad g code l (length source.outputs)) xs states outs stored zs source_run guard_run

pub returns-clause-silent : goal.returns-clause-silent
returns-clause-silent c = λ g source code d mode radius l guard silent xs states outs stored zs source_run guard_run.
    quiet_run g source code d mode radius l guard.coded guard.built (λ v. ⊥) (no_rails g (λ v. ⊥) silent) (λ v are bad. bad) xs states outs stored zs source_run guard_run

pub returns-clause-far : goal.returns-clause-far
returns-clause-far c = λ g source code d mode radius l t guard xs states outs stored zs source_run guard_run.
    quiet_run g source code d mode radius l guard.coded guard.built (SomeFarWord g code l (length source.outputs) t) guard.tells (codewords_are_not_far g code l (length source.outputs) t) xs states outs stored zs source_run guard_run
