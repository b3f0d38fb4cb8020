use Rattle.std.proofs.Common.{◌≡◌, ◌∙◌, sym, ap, subst, ◌+◌, List, map, get_or, All, arith}
use Rattle.netlist_spec.specs.Gates.{GateList, IsGateList}
use Rattle.gate_net.specs.Gate.{net_number}
use Rattle.gate_net.specs.Machine.{machine_of}
use Rattle.blif_read.specs.declared.file.Port.{Port}
use Rattle.lowering.specs.Numbers.{IsWithin}
use Rattle.source_nets.specs.Ports.{source_file, source_library}
use Rattle.model_lowering.specs.Inside.{IsReady}
use Rattle.source_machine.proofs.Whole.{main, ids, can_number, outputs_within, machine_made, numbered_made}
use Rattle.source_machine.proofs.machine.machine_of.Goals as goal

pub number_leaves-requires-clause-can : goal.number_leaves-requires-clause-can
number_leaves-requires-clause-can c =
    let source = c.args.source.now in
    let checked = c.args.checked.now in
    let ready : IsReady source checked = record { ready = c.requires.source; is_file = c.requires.is_file; sound = c.requires.sound; found = c.requires.checked } in
    let rm = c.index-m.result.now in
    can_number source checked ready rm c.index-m.ensures

pub overflow_add-leaves : goal.overflow_add-leaves
overflow_add-leaves c =
    let source = c.args.source.now in
    let checked = c.args.checked.now in
    let ready : IsReady source checked = record { ready = c.requires.source; is_file = c.requires.is_file; sound = c.requires.sound; found = c.requires.checked } in
    let rm = c.index-m.result.now in
    let can = can_number source checked ready rm c.index-m.ensures in
    let a = c.in_ok-leaves.ensures.leaves_are in
    let b = can.inputs in
    let d = can.latches in
    omega arith

pub new-requires : goal.new-requires
new-requires c =
    let source = c.args.source.now in
    let checked = c.args.checked.now in
    let ready : IsReady source checked = record { ready = c.requires.source; is_file = c.requires.is_file; sound = c.requires.sound; found = c.requires.checked } in
    let rm = c.index-m.result.now in
    let can = can_number source checked ready rm c.index-m.ensures in
    let a = c.in_ok-leaves.ensures.leaves_are in
    let b = can.inputs in
    let d = can.latches in
    omega arith

pub latch_rows-requires-clause-ids : goal.latch_rows-requires-clause-ids
latch_rows-requires-clause-ids c =
    let source = c.args.source.now in
    let checked = c.args.checked.now in
    let ready : IsReady source checked = record { ready = c.requires.source; is_file = c.requires.is_file; sound = c.requires.sound; found = c.requires.checked } in
    let rm = c.index-m.result.now in
    ids source checked ready rm c.index-m.ensures

pub port_nets-requires : goal.port_nets-requires
port_nets-requires c =
    let source = c.args.source.now in
    let checked = c.args.checked.now in
    let ready : IsReady source checked = record { ready = c.requires.source; is_file = c.requires.is_file; sound = c.requires.sound; found = c.requires.checked } in
    let rm = c.index-m.result.now in
    let table = c.push_gates.new.table in
    let gates = c.in_ok-push_gates.ensures _ (main source checked ready rm c.index-m.ensures) in
    subst (λ (ps : List Port). All (λ (p : Port). IsWithin table p.name) ps) (sym c.deref.ensures.value) (outputs_within source checked ready rm c.index-m.ensures table gates.size)

pub invariant_of-result : goal.invariant_of-result
invariant_of-result c =
    let source = c.args.source.now in
    let checked = c.args.checked.now in
    let ready : IsReady source checked = record { ready = c.requires.source; is_file = c.requires.is_file; sound = c.requires.sound; found = c.requires.checked } in
    let rm = c.index-m.result.now in
    let table = c.push_gates.new.table in
    let is_list : IsGateList c.push_gates.new.net = subst (λ (l : GateList). IsGateList l) c.net.view_is c.net.invariant.gates in
    let outs : map net_number c.in_ok-outputs.outputs.items ≡ map (λ (p : Port). get_or table p.name.0 0) rm.outputs.items
    = c.in_ok-outputs.ensures ∙ ap (map (λ (p : Port). get_or table p.name.0 0)) c.deref.ensures.value in
    machine_made source checked ready rm c.index-m.ensures c.in_ok-leaves.leaves.inputs (c.in_ok-leaves.leaves.inputs + c.in_ok-leaves.leaves.latches) c.number_leaves.new.table c.in_ok-leaves.ensures c.push_gates.new.net table c.in_ok-push_gates.ensures is_list
    c.in_ok-latches.latches.items c.in_ok-latches.ensures c.in_ok-outputs.outputs.items outs

pub returns-clause-numbered : goal.returns-clause-numbered
returns-clause-numbered c =
    let source = c.args.source.now in
    let checked = c.args.checked.now in
    let ready : IsReady source checked = record { ready = c.requires.source; is_file = c.requires.is_file; sound = c.requires.sound; found = c.requires.checked } in
    let rm = c.index-m.result.now in
    let table = c.push_gates.new.table in
    let is_list : IsGateList c.push_gates.new.net = subst (λ (l : GateList). IsGateList l) c.net.view_is c.net.invariant.gates in
    let outs : map net_number c.in_ok-outputs.outputs.items ≡ map (λ (p : Port). get_or table p.name.0 0) rm.outputs.items
    = c.in_ok-outputs.ensures ∙ ap (map (λ (p : Port). get_or table p.name.0 0)) c.deref.ensures.value in
    numbered_made source checked ready rm c.index-m.ensures c.in_ok-leaves.leaves.inputs (c.in_ok-leaves.leaves.inputs + c.in_ok-leaves.leaves.latches) c.number_leaves.new.table c.in_ok-leaves.ensures c.push_gates.new.net table c.in_ok-push_gates.ensures is_list
    c.in_ok-latches.latches.items c.in_ok-latches.ensures c.in_ok-outputs.outputs.items outs

pub returns-clause-machine : goal.returns-clause-machine
returns-clause-machine c x x_main =
    let source = c.args.source.now in
    let checked = c.args.checked.now in
    let ready : IsReady source checked = record { ready = c.requires.source; is_file = c.requires.is_file; sound = c.requires.sound; found = c.requires.checked } in
    let rm = c.index-m.result.now in
    let table = c.push_gates.new.table in
    let is_list : IsGateList c.push_gates.new.net = subst (λ (l : GateList). IsGateList l) c.net.view_is c.net.invariant.gates in
    let outs : map net_number c.in_ok-outputs.outputs.items ≡ map (λ (p : Port). get_or table p.name.0 0) rm.outputs.items
    = c.in_ok-outputs.ensures ∙ ap (map (λ (p : Port). get_or table p.name.0 0)) c.deref.ensures.value in
    let made = numbered_made source checked ready rm c.index-m.ensures c.in_ok-leaves.leaves.inputs (c.in_ok-leaves.leaves.inputs + c.in_ok-leaves.leaves.latches) c.number_leaves.new.table c.in_ok-leaves.ensures c.push_gates.new.net table c.in_ok-push_gates.ensures is_list c.in_ok-latches.latches.items c.in_ok-latches.ensures c.in_ok-outputs.outputs.items outs x x_main in
    c.numbered_sources_are_elaborated.ensures.machine (source_file source) (source_library source) x (machine_of c.push_gates.new.net c.in_ok-leaves.leaves.inputs c.in_ok-latches.latches.items c.in_ok-outputs.outputs.items) made.0 made.1.0 c.requires.sound x_main made.1.1
