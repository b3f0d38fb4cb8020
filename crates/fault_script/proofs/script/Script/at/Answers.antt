use Rattle.std.proofs.Common.{Some, None, sym, ◌∙◌, ap}
use Rattle.fault_script.specs.Scripts.{Scripted, faults_in}
use Rattle.fault_script.proofs.MapLemmas.{faults_of}
use Rattle.fault_script.proofs.script.Script.at.Goals as goal

pub returns-in-Some : goal.returns-in-Some
returns-in-Some c =
    c.copy_faults.ensures
    ∙ (sym (faults_of c.self.inside.by_cycle.entries c.args.c (Some c.in-Some.faults.now) (sym c.in-Some.ensures.value))
    ∙ ap (λ (s : Scripted). faults_in s c.args.c) c.self.view_is)

pub returns-in-None : goal.returns-in-None
returns-in-None c =
    c.new.ensures
    ∙ (sym (faults_of c.self.inside.by_cycle.entries c.args.c None (sym c.in-None.ensures.value))
    ∙ ap (λ (s : Scripted). faults_in s c.args.c) c.self.view_is)
