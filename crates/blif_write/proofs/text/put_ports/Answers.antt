use Rattle.imp_io.proofs.BlockLemmas.{Gives-append}
use Rattle.std.proofs.Common.{ap, map, subst, ◌∙◌}
use Rattle.netlist_spec.specs.Written.{Named, IsNamed}
use Rattle.gate_net.specs.Gate.{net_number}
use Rattle.named_netlist.proofs.NetLemmas.{outputs-here}
use Rattle.blif_write.proofs.text.put_ports.Goals as goal

pub returns : goal.returns
returns g c =
    let inputs = ap (λ (h : Named). h.inputs) c.g.view_is in
    let outputs = ap (λ (h : Named). h.outputs) c.g.view_is in
    let clocks = ap (λ (h : Named). h.clocks) c.g.view_is in
    rw (← inputs, ← outputs, ← clocks, ← c.deref.ensures.value, ← c.deref-2.ensures.value, ← c.deref-3.ensures.value) (Gives-append (Gives-append c.put_names.ensures c.put_nets.ensures) c.put_names-2.ensures)

pub put_nets-requires : goal.put_nets-requires
put_nets-requires g c =
    let named = subst IsNamed c.g.view_is c.g.invariant.named in
    outputs-here c.args.g.now c.deref-2.result.now named (ap (map net_number) c.deref-2.ensures.value ∙ ap (λ (h : Named). h.outputs) c.g.view_is)
