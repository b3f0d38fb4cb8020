use Rattle.std.proofs.Common.{◌≡◌, subst, false}
use Rattle.netlist_spec.specs.Netlist.{stands_in}
use Rattle.blif_read.specs.Ids.{IsIdOf}
use Rattle.line_order.proofs.MarkLemmas.{each_of}
use Rattle.fault_sim.specs.Simulated.{Simulated}
use Rattle.fault_sim.proofs.CellLemmas.{no_cell}
use Rattle.fault_sim.proofs.sim.Sim.cell.Goals as goal

pub returns-in-None-clause-absent : goal.returns-in-None-clause-absent
returns-in-None-clause-absent c =
    let s = c.self.inside in
    subst (λ (w : Simulated). stands_in c.args.name.now w.cells ≡ false) c.self.view_is
    (no_cell s.names c.args.name.now s.cells.items (each_of (IsIdOf s.names) s.cells.items c.self.invariant.1.cells) c.in-None.ensures.absent)
