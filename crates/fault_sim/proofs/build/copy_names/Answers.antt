use Rattle.std.proofs.Common.{◌∙◌, ap, List}
use Rattle.netlist_spec.specs.Netlist.{Name}
use Rattle.imp_text.specs.Names.{with_name}
use Rattle.fault_sim.proofs.BuildLemmas.{next_name}
use Rattle.fault_sim.proofs.build.copy_names.Goals as goal

pub loop-i-preserved : goal.loop-i-preserved
loop-i-preserved c =
    c.in_ok-intern.ensures.names
    ∙ (ap (λ (l : List Name). with_name l c.get.result.now) c.loop-i.invariant
    ∙ next_name c.args.names.now c.loop-i.i c.get.result.now c.len-i-end.ensures.are_names.distinct c.get.ensures)
