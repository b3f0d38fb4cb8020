use Rattle.netlist_spec.specs.Written.{net_name}
use Rattle.gate_net.specs.declared.gate.NetId.{NetId}
use Rattle.gate_net.specs.Gate.{net_number}
use Rattle.imp_io.proofs.BlockLemmas.{Gives-append}
use Rattle.blif_write.specs.Lines.{line_of}
use Rattle.blif_write.proofs.Steps.{each-step_of}
use Rattle.blif_write.proofs.lines.put_nets.Goals as goal

pub loop-n-preserved : goal.loop-n-preserved
loop-n-preserved g c =
    let none : NetId = record { 0 = 0 } in
    let more = each-step_of (line_of c.args.front.now) (net_name c.args.g.now) net_number c.args.nets.now c.loop-n.n-index none c.loop-n-test.true in
    rw (more, ← c.net_name.ensures.bytes) (Gives-append c.loop-n.invariant c.put_line.ensures)
