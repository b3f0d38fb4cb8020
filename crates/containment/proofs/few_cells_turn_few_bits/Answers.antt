use Rattle.containment.proofs.Cycle.{wrong_in_few}
use Rattle.containment.proofs.few_cells_turn_few_bits.Goals as goal

pub returns : goal.returns
returns c = λ g source code d mode radius l guard cells x s y next stored faults v cycle near.
    wrong_in_few g source code d mode radius l guard.coded guard.built x s y next stored faults v cycle.step cycle.values near cells cycle.among
