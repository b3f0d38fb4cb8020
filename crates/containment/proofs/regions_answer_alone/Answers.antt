use Rattle.std.proofs.Common.{refl, length}
use Rattle.guard_spec.specs.Rails.{SomeNoCodeword, SomeFarWord}
use Rattle.containment.proofs.AllCycles.{no_rails}
use Rattle.containment.proofs.Regions.{region_answers, regions_count, rails_count}
use Rattle.containment.proofs.regions_answer_alone.Goals as goal

pub returns-clause-answers : goal.returns-clause-answers
returns-clause-answers c = λ g stored x faults v values r in_list free. region_answers g stored x faults v values r.bit r in_list refl free

pub returns-clause-decide : goal.returns-clause-decide
returns-clause-decide c = λ g source have. record {
  counts = regions_count g source have;
  rails = λ code l many answer. rails_count g source have (SomeNoCodeword g code l (length source.outputs)) many answer;
  far_rails = λ code l t many answer. rails_count g source have (SomeFarWord g code l (length source.outputs) t) many answer;
}

pub returns-clause-no_rails : goal.returns-clause-no_rails
returns-clause-no_rails c = λ g code l p silent. no_rails g (SomeNoCodeword g code l p) silent
