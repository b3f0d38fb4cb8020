use Rattle.std.proofs.Common.{◌⊎◌, inl, inr, length}
use Rattle.std.specs.List.{enumerate_from}
use Rattle.guard_spec.specs.Rails.{SomeNoCodeword}
use Rattle.containment.proofs.OneCycle.{state_words_tell, output_words_tell}
use Rattle.containment.proofs.Alarm.{sounds}
use Rattle.containment.proofs.AllCycles.{whole_and_few, fitting_words}
use Rattle.containment.proofs.one_cycle_detects.Goals as goal

as_some : {A S B : Type 0} → A ⊎ B → A ⊎ (S ⊎ B)
as_some (inl whole) = inl whole
as_some (inr some) = inr (inr some)

pub returns-clause-words : goal.returns-clause-words
returns-clause-words c = λ code d is_code is_distance. record {
  state = λ latches at n ws s bits words wide near. state_words_tell code is_code d is_distance s n wide ws words.lengths bits at near;
  output = λ source l n y shown z coded wide near. as_some (output_words_tell code coded.is_code d coded.is_distance y z n (length source.outputs) wide (enumerate_from 0 l.output) (fitting_words source code d l coded) near);
}

pub returns-clause-alarm : goal.returns-clause-alarm
returns-clause-alarm c = λ g source code mode radius l built tell cells x s y next stored faults v cycle few some.
    sounds g built.is_machine built.covers code l (length source.outputs) (SomeNoCodeword g code l (length source.outputs)) tell built.outputs x stored faults v cycle.values cells few cycle.among some

pub returns-clause-cycle : goal.returns-clause-cycle
returns-clause-cycle k = λ g source code d radius l guard cells x s y next stored faults v n cycle small few wide near.
    whole_and_few g source code d radius l guard.coded guard.built guard.tells x s y next stored faults v cycle.step cycle.values cells cycle.among small few n wide near
