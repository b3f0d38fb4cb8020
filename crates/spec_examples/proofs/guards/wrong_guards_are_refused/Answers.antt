use Rattle.spec_examples.proofs.WrongGuards.{shared_gate, one_gate_for_two, fresh_checks, early_rails, blind_rails, silent_rail, loud_rail, sharing_rail, rail_of_rail, one_rail_is_too_few, shared_corrector, copied_input, zero_checks, sharing_is_not_separate, fresh_is_not_separate, early_is_not_separate, corrector_is_not_separate, rails_are_not_separate, check_place_is_read}
use Rattle.spec_examples.proofs.guards.wrong_guards_are_refused.Goals as goal

pub returns-clause-shared_cells : goal.returns-clause-shared_cells
returns-clause-shared_cells c = record { shared_gate = shared_gate; fresh_checks = fresh_checks; shared_corrector = shared_corrector }

pub returns-clause-stray_reads : goal.returns-clause-stray_reads
returns-clause-stray_reads c = record { shared_gate = sharing_is_not_separate; fresh_checks = fresh_is_not_separate; early_rails = early_is_not_separate; shared_corrector = corrector_is_not_separate; shared_by_rails = rails_are_not_separate; check_place = check_place_is_read }

pub returns-clause-wrong_rails : goal.returns-clause-wrong_rails
returns-clause-wrong_rails c = record { early = early_rails; blind = blind_rails; silent = silent_rail; loud = loud_rail; shared = sharing_rail; copied = rail_of_rail; too_few = one_rail_is_too_few }

pub returns-clause-wrong_nets : goal.returns-clause-wrong_nets
returns-clause-wrong_nets c = record { zero_checks = zero_checks; copied_input = copied_input }

pub returns-clause-shared_by_latches : goal.returns-clause-shared_by_latches
returns-clause-shared_by_latches c = λ g source is_machine covers have share. one_gate_for_two g source is_machine covers have share.one share.other share.net share.apart share.of_one share.of_other
