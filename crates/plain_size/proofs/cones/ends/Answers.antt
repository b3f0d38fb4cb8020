use Rattle.std.proofs.Common.{◌∙◌, ap, get_or}
use Rattle.std.proofs.lemmas.List.{get_or_default}
use Rattle.imp_text.specs.declared.names.NameId.{NameId}
use Rattle.plain_size.specs.Nodes.{node_at}
use Rattle.encode_state.proofs.NetLemmas.{found_some, found_none}
use Rattle.plain_size.proofs.cones.ends.Goals as goal
use Rattle.plain_size.proofs.cones.ends.Goals.{in-Some+in_ok-push, in_default}

pub loop-net-preserved : goal.loop-net-preserved
loop-net-preserved c =
    let nodes = c.args.nodes.now in
    let nets = c.args.nets.now in
    let i = c.loop-net.net-index in
    let none : NameId = record { 0 = 0 } in
    elim c.match-nodes-net.branch [
      | in-Some+in_ok-push w ↦
          found_some (λ (id : NameId). node_at nodes id.0) nets i (get_or nets i none) w.in-Some.node c.loop-net.ends.items c.match-nodes-net.ends.items c.loop-net-test.true (get_or_default nets i none (get_or nets i none) c.loop-net-test.true)
          w.in-Some.is (ap (λ v. v.items) w.ends-is ∙ w.in_ok-push.ensures.items) c.loop-net.invariant
      | in_default w ↦
          found_none (λ (id : NameId). node_at nodes id.0) nets i (get_or nets i none) c.loop-net.ends.items c.match-nodes-net.ends.items c.loop-net-test.true (get_or_default nets i none (get_or nets i none) c.loop-net-test.true) w.in_default.is (ap (λ v. v.items) w.ends-is) c.loop-net.invariant
    ]
