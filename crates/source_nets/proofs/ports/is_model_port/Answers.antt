use Rattle.std.proofs.Common.{◌∙◌, ◌++◌, sym, ap}
use Rattle.netlist_spec.specs.Netlist.{Name, stands_in}
use Rattle.netlist_spec.specs.Placed.{a_model, port_names}
use Rattle.blif_read.specs.View.{model_of}
use Rattle.source_nets.specs.declared.ports.PortKind.{PortKind}
use Rattle.source_nets.specs.Ports.{ports_of}
use Rattle.source_nets.proofs.PortLemmas.{in_first_appearances, named_at, no_model_port}
use Rattle.source_nets.proofs.ports.is_model_port.Goals as goal

pub returns-in-Input : goal.returns-in-Input
returns-in-Input c =
    let all = c.args.m.now.names in
    let m = model_of c.args.m.now in
    let n = c.args.formal.now in
    let ports = port_names m.inputs ++ port_names m.clocks in
    c.has.ensures all ports c.requires.marks.inputs
    ∙ ap (λ (k : Name). stands_in k ports) (named_at all c.in-Some.id n c.in-Some.ensures.place)
    ∙ sym (in_first_appearances n ports)
    ∙ ap (λ (k : PortKind). stands_in n (ports_of k (a_model m))) (sym c.in-Input.is)

pub returns-in-Output : goal.returns-in-Output
returns-in-Output c =
    let all = c.args.m.now.names in
    let m = model_of c.args.m.now in
    let n = c.args.formal.now in
    c.has-in-Output.ensures all (port_names m.outputs) c.requires.marks.outputs
    ∙ ap (λ (k : Name). stands_in k (port_names m.outputs)) (named_at all c.in-Some.id n c.in-Some.ensures.place)
    ∙ ap (λ (k : PortKind). stands_in n (ports_of k (a_model m))) (sym c.in-Output.is)

pub returns-in-None : goal.returns-in-None
returns-in-None c = sym (no_model_port c.args.m.now c.args.kind c.args.formal.now c.requires.ids c.in-None.ensures.absent)
