use Rattle.std.proofs.Common.{length}
use Rattle.guard_spec.specs.Codes.{detect}
use Rattle.guard_spec.specs.Rails.{SomeNoCodeword}
use Rattle.guard_laws.proofs.Within.{covers, separate, answers_alone, rails_alone, detecting}
use Rattle.guard_laws.proofs.ranges_make_a_guard.Goals as goal

pub returns-clause-covers : goal.returns-clause-covers
returns-clause-covers c = λ g source code l leaf watched is. covers g source code detect 0 l watched (SomeNoCodeword g code l (length source.outputs)) (detecting g source code 0 l leaf watched (SomeNoCodeword g code l (length source.outputs)) is)

pub returns-clause-separate : goal.returns-clause-separate
returns-clause-separate c = λ g source code l leaf watched is. separate g source code detect 0 l watched (SomeNoCodeword g code l (length source.outputs)) (detecting g source code 0 l leaf watched (SomeNoCodeword g code l (length source.outputs)) is)

pub returns-clause-answers : goal.returns-clause-answers
returns-clause-answers c = λ g source code l leaf watched radius is. answers_alone g source code detect radius l watched (SomeNoCodeword g code l (length source.outputs)) (detecting g source code radius l leaf watched (SomeNoCodeword g code l (length source.outputs)) is)

pub returns-clause-rails : goal.returns-clause-rails
returns-clause-rails c = λ g source code l leaf watched is. rails_alone g source code detect 0 l watched (SomeNoCodeword g code l (length source.outputs)) (detecting g source code 0 l leaf watched (SomeNoCodeword g code l (length source.outputs)) is)
