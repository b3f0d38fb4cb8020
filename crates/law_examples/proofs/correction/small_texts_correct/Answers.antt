use Rattle.netlist_spec.specs.Runs.{IsSteady}
use Rattle.netlist_spec.specs.Written.{file_of}
use Rattle.spec_examples.specs.Examples.{inverter_file}
use Rattle.containment.proofs.Guards.{steady_guard}
use Rattle.guard_laws.proofs.Texts.{text_is_built}
use Rattle.law_examples.specs.JoinedList.{thrice_settings, corrector_named}
use Rattle.law_examples.proofs.JoinedText.{corrector_from}
use Rattle.law_examples.proofs.correction.small_texts_correct.Goals as goal

pub returns-clause-from : goal.returns-clause-from
returns-clause-from c = corrector_from

pub returns-clause-guard : goal.returns-clause-guard
returns-clause-guard c = steady_guard (file_of corrector_named) inverter_file thrice_settings (text_is_built inverter_file thrice_settings 1 corrector_named corrector_from) (IsSteady 1) (λ faults h. h)
