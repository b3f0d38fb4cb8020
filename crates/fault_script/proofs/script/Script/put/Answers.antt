use Rattle.std.proofs.Common.{Some, ◌∙◌, ap}
use Rattle.fault_script.specs.Scripts.{Scripted, faults_in}
use Rattle.fault_script.proofs.MapLemmas.{faults_of, other_key, same_faults}
use Rattle.fault_script.proofs.script.Script.put.Goals as goal

pub returns-clause-here : goal.returns-clause-here
returns-clause-here c = faults_of c.insert.new.self.entries c.args.cycle (Some c.args.faults) c.in_ok-insert.ensures.updates.1

pub returns-clause-others : goal.returns-clause-others
returns-clause-others c = λ k other.
    same_faults c.self.inside.by_cycle.entries c.insert.new.self.entries k (c.in_ok-insert.ensures.updates.2 k (other_key c.args.cycle k other))
    ∙ ap (λ (s : Scripted). faults_in s k) c.self.view_is
