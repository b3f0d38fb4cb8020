use Rattle.std.proofs.Common.{sym, subst, map, take, false}
use Rattle.netlist_spec.specs.Values.{Forced}
use Rattle.imp_text.specs.declared.names.NameId.{NameId}
use Rattle.blif_read.specs.View.{name_at}
use Rattle.fault_sim.specs.declared.faults.CellFault.{CellFault}
use Rattle.fault_sim.specs.Faults.{Forces, named_faults}
use Rattle.fault_sim.proofs.FaultLemmas.{fault_named}
use Rattle.fault_sim.proofs.faults.force.Goals as goal

pub loop-fault-preserved : goal.loop-fault-preserved
loop-fault-preserved c = λ all d e.
    let nets = c.args.nets.now in
    let faults = c.args.faults.now in
    let i = c.loop-fault.fault-index in
    let none : CellFault = record { cell = record { 0 = 0 }; value = false } in
    let no_net : NameId = record { 0 = 0 } in
    let h = c.loop-fault-test.true in
    subst (λ (l : Forced). Forces all c.force_net.new.table l) (sym (fault_named all nets faults i none no_net h (c.requires.cells i none h)))
    (c.force_net.ensures all (named_faults (map (name_at all) nets) (take i faults)) (c.loop-fault.invariant all d e))
