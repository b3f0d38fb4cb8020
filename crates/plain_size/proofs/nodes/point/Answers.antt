use Rattle.std.proofs.Common.{sym, subst, ℕ, List, get_or, set, take, Some}
use Rattle.std.proofs.lemmas.List.{map_more}
use Rattle.imp_text.specs.declared.names.NameId.{NameId}
use Rattle.plain_size.specs.Nodes.{ArePointed, numbers}
use Rattle.plain_size.proofs.NodeLemmas.{pointed_more}
use Rattle.plain_size.proofs.nodes.point.Goals as goal

pub loop-net-preserved : goal.loop-net-preserved
loop-net-preserved c =
    let nets = c.args.nets.now in
    let i = c.loop-net.net-index in
    let none : NameId = record { 0 = 0 } in
    subst (λ (l : List ℕ). ArePointed l c.args.node c.args.nodes.now (set c.loop-net.nodes (get_or nets i none).0 (Some c.args.node))) (sym (map_more (λ (id : NameId). id.0) nets i none c.loop-net-test.true))
    (pointed_more (numbers (take i nets)) c.args.node (get_or nets i none).0 c.args.nodes.now c.loop-net.nodes (c.requires i none c.loop-net-test.true) c.loop-net.invariant)
