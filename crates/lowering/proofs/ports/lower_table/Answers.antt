use Rattle.std.proofs.Common.{◌≡◌, ◌∙◌, ap, length, map, List, rules}
use Rattle.netlist_spec.specs.Covers.{table_value}
use Rattle.netlist_spec.specs.Placed.{numbered_ports}
use Rattle.netlist_spec.specs.Size.{table_cost}
use Rattle.gate_net.specs.declared.gate.NetId.{NetId}
use Rattle.gate_net.specs.Gate.{net_number}
use Rattle.lowering.specs.Ports.{input_nets, outputs_put}
use Rattle.lowering.proofs.EntryLemmas.{nets_count, notes_ports}
use Rattle.lowering.proofs.ports.lower_table.Goals as goal

pub lower-requires-clause-inputs : goal.lower-requires-clause-inputs
lower-requires-clause-inputs c =
    let same : c.from.result ≡ c.args.entry.now.ins = search rules in
    ap length c.deref.ensures.value ∙ (nets_count c.in_ok-ins.ins.items c.args.table.now c.args.binds.now c.from.result c.in_ok-ins.ensures ∙ same)

pub returns-clause-notes : goal.returns-clause-notes
returns-clause-notes c =
    let same : c.from.result ≡ c.args.entry.now.ins = search rules in
    notes_ports c.args.entry.now.ins c.args.entry.now.outs (table_value c.args.entry.now) (table_cost c.args.entry.now) c.args.binds.now c.args.net.now c.args.table.now c.lower.new.net c.put_outputs.new.table
    c.deref.result.now c.in_ok-outs.outs.items
    (ap (λ (ns : List NetId). map net_number ns) c.deref.ensures.value ∙ (c.in_ok-ins.ensures ∙ ap (input_nets c.args.table.now c.args.binds.now) same))
    c.in_ok-outs.ensures.count
    (c.put_outputs.ensures ∙ ap (λ (ns : List NetId). outputs_put (numbered_ports 111 (length ns)) (map net_number ns) c.args.table.now c.args.binds.now) c.deref-2.ensures.value)
    c.in_ok-outs.ensures.appended c.in_ok-outs.ensures.values c.in_ok-outs.ensures.cost c.in_ok-outs.ensures.reads c.in_ok-outs.ensures.extends
