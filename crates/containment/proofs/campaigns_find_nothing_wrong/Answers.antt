use Rattle.netlist_spec.specs.Runs.{IsMoving, IsSteady, IsWithin}
use Rattle.containment.proofs.Campaign.{clean_tally, tally_of_machine, one_is_within, one_is_moving}
use Rattle.containment.proofs.Text.{within_is_steady_list}
use Rattle.containment.proofs.campaigns_find_nothing_wrong.Goals as goal

pub returns-clause-within : goal.returns-clause-within
returns-clause-within c = λ g source s guard is_code some. clean_tally g source s s.bound (IsWithin s.bound) guard (one_is_within s.bound some) is_code

pub returns-clause-steady : goal.returns-clause-steady
returns-clause-steady c = λ g source s guard is_code some. clean_tally g source s s.bound (IsSteady s.bound) guard (λ a. within_is_steady_list s.bound _ (one_is_within s.bound some a)) is_code

pub returns-clause-moving : goal.returns-clause-moving
returns-clause-moving c = λ g source s radius guard is_code some. clean_tally g source s radius (IsMoving s.bound) guard (one_is_moving s.bound some) is_code

pub returns-clause-machine : goal.returns-clause-machine
returns-clause-machine c = λ g source s m machine l is_main means xs cycle tally. tally_of_machine g source s m machine l xs cycle tally is_main means
