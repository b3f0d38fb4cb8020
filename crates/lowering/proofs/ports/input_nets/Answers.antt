use Rattle.std.proofs.Common.{◌∙◌, ap, map, List}
use Rattle.std.proofs.lemmas.List.{with_items_is}
use Rattle.gate_net.specs.declared.gate.NetId.{NetId}
use Rattle.gate_net.specs.Gate.{net_number}
use Rattle.lowering.specs.Ports.{input_put}
use Rattle.lowering.proofs.PortLemmas.{inputs_none, inputs_more, put_length}
use Rattle.lowering.proofs.ports.input_nets.Goals as goal

pub loop-bind-init : goal.loop-bind-init
loop-bind-init c = inputs_none c.args.table.now c.args.count c.in_ok-nets.nets.items (c.in_ok-nets.ensures.items_if_clones_equal (λ y h. h))

pub loop-bind-preserved : goal.loop-bind-preserved
loop-bind-preserved c =
    let long = put_length c.args.table.now c.deref_mut.result.now c.put_input.new.nets c.bind-item.result c.put_input.ensures ∙ c.deref_mut.ensures.len in
    ap (λ (ns : List NetId). map net_number ns) (with_items_is c.loop-bind.nets c.put_input.new.nets long)
    ∙ (c.put_input.ensures
    ∙ (ap (λ (ns : List NetId). input_put c.args.table.now (map net_number ns) c.bind-item.result) c.deref_mut.ensures.value
    ∙ inputs_more c.args.table.now c.args.binds.now c.loop-bind.bind-index c.args.count c.bind-item.result (map net_number c.loop-bind.nets.items) c.requires.few c.requires.once c.loop-bind-test.true c.bind-item.is c.loop-bind.invariant))
