use Rattle.std.proofs.Common.{◌∙◌, ap, length, map, List, ℕ}
use Rattle.netlist_spec.specs.Placed.{numbered_ports}
use Rattle.gate_net.specs.Gate.{net_number}
use Rattle.lowering.specs.Ports.{output_put}
use Rattle.lowering.proofs.PortLemmas.{output_length, outputs_more}
use Rattle.lowering.proofs.ports.put_outputs.Goals as goal

pub loop-bind-preserved : goal.loop-bind-preserved
loop-bind-preserved c =
    let ports = numbered_ports 111 (length c.args.outs.now) in
    let outs = map net_number c.args.outs.now in (
      c.put_output.ensures
          ∙ (ap (λ (t : List ℕ). output_put ports outs t c.bind-item.result) c.loop-bind.invariant.0
          ∙ outputs_more ports outs c.args.table.now c.args.binds.now c.loop-bind.bind-index c.bind-item.result c.loop-bind-test.true c.bind-item.is),
      ap length c.put_output.ensures ∙ (output_length ports outs c.loop-bind.table c.bind-item.result ∙ c.loop-bind.invariant.1),
    )
