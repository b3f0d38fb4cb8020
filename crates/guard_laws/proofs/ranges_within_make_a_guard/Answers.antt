use Rattle.std.proofs.Common.{length}
use Rattle.guard_spec.specs.Rails.{SomeFarWord, SomeNoCodeword}
use Rattle.guard_laws.proofs.Within.{covers, separate, answers_alone, rails_alone, detecting}
use Rattle.guard_laws.proofs.ranges_within_make_a_guard.Goals as goal

pub returns-clause-covers : goal.returns-clause-covers
returns-clause-covers c = λ g source code mode radius l watched is. covers g source code mode radius l watched (SomeNoCodeword g code l (length source.outputs)) is

pub returns-clause-separate : goal.returns-clause-separate
returns-clause-separate c = λ g source code mode radius l watched is. separate g source code mode radius l watched (SomeNoCodeword g code l (length source.outputs)) is

pub returns-clause-answers : goal.returns-clause-answers
returns-clause-answers c = λ g source code mode radius l watched is. answers_alone g source code mode radius l watched (SomeNoCodeword g code l (length source.outputs)) is

pub returns-clause-rails : goal.returns-clause-rails
returns-clause-rails c = λ g source code mode radius l watched is. rails_alone g source code mode radius l watched (SomeNoCodeword g code l (length source.outputs)) is

pub returns-clause-detecting : goal.returns-clause-detecting
returns-clause-detecting c = λ g source code radius l leaf watched is. detecting g source code radius l leaf watched (SomeNoCodeword g code l (length source.outputs)) is

pub returns-clause-far : goal.returns-clause-far
returns-clause-far c = λ g source code mode radius t l watched is. (
  covers g source code mode radius l watched (SomeFarWord g code l (length source.outputs) t) is,
  separate g source code mode radius l watched (SomeFarWord g code l (length source.outputs) t) is,
  answers_alone g source code mode radius l watched (SomeFarWord g code l (length source.outputs) t) is,
  rails_alone g source code mode radius l watched (SomeFarWord g code l (length source.outputs) t) is,
)
