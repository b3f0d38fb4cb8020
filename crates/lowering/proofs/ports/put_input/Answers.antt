use Rattle.std.proofs.Common.{◌∙◌, sym, ap, length}
use Rattle.netlist_spec.specs.Netlist.{Name, stands_in}
use Rattle.netlist_spec.specs.Placed.{numbered_ports}
use Rattle.lowering.specs.Nets.{place_of}
use Rattle.lowering.proofs.PortLemmas.{put_here}
use Rattle.lowering.proofs.ports.put_input.Goals as goal

pub returns-in-Some : goal.returns-in-Some
returns-in-Some c =
    let ports = numbered_ports 105 (length c.args.nets.now) in
    put_here c.args.table.now c.args.nets.now c.args.bind.now c.in-Some.k c.net_of.result
    (sym (ap (place_of ports) c.bytes.ensures.bytes) ∙ c.in-Some.ensures.place)
    (sym (ap (λ (n : Name). stands_in n ports) c.bytes.ensures.bytes) ∙ c.in-Some.ensures.port)
    c.net_of.ensures
