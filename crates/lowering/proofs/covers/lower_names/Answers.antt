use Rattle.std.proofs.Common.{◌∙◌, ap, map, List}
use Rattle.gate_net.specs.declared.gate.NetId.{NetId}
use Rattle.gate_net.specs.Gate.{net_number}
use Rattle.lowering.proofs.GateLemmas.{notes_cover}
use Rattle.lowering.specs.Numbers.{nets_for}
use Rattle.lowering.proofs.covers.lower_names.Goals as goal

pub returns : goal.returns
returns c =
    notes_cover c.deref.result.now (nets_for c.args.table.now c.args.ins.now) c.args.cover.now c.args.out.0 c.in_ok-n.n.0 c.args.net.now c.args.table.now c.cover_net.new.net
    (ap (λ (ns : List NetId). map net_number ns) c.deref.ensures.value ∙ c.in_ok-nets.ensures)
    c.in_ok-n.ensures.appended c.in_ok-n.ensures.value c.in_ok-n.ensures.cost c.in_ok-n.ensures.reads c.in_ok-n.ensures.extends
