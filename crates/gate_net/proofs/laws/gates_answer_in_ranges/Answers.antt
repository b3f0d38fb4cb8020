use Rattle.gate_net.proofs.Ranges.{narrower, front, last}
use Rattle.gate_net.proofs.laws.gates_answer_in_ranges.Goals as goal

pub returns-clause-narrower : goal.returns-clause-narrower
returns-clause-narrower c = narrower

pub returns-clause-front : goal.returns-clause-front
returns-clause-front c = front

pub returns-clause-last : goal.returns-clause-last
returns-clause-last c = last
