use Rattle.std.proofs.Common.{sym, ◌∙◌, ap, subst, ◌-◌, ◌<◌, List, length, map, take, drop, arith}
use Rattle.std.specs.List.{AllByRecursion}
use Rattle.std.proofs.lemmas.List.{map_more, length-map, length-take-le, length-drop}
use Rattle.gate_net.specs.declared.gate.NetId.{NetId}
use Rattle.gate_net.specs.Gate.{net_number}
use Rattle.gate_net.specs.GateNet.{net_count}
use Rattle.cone_split.proofs.Copied.{all_map_at, all_map_drop}
use Rattle.cone_split.proofs.Sums.{sum_far, sum_step, rest_is}
use Rattle.cone_split.proofs.sum.append_sum.Goals as goal

pub push-requires-in-loop-n-clause-reads : goal.push-requires-in-loop-n-clause-reads
push-requires-in-loop-n-clause-reads c =
    let nets = c.args.nets.now in
    let i = c.loop-n.n-index in
    let same = rest_is nets c.min.result c.min.ensures in
    let Rest : List NetId → Type 0 = λ rest. AllByRecursion (λ n. n < net_count c.args.dst.now) (map net_number rest) in
    let below = all_map_at (λ n. n < net_count c.args.dst.now) net_number _ i (record { 0 = 0 }) (subst Rest (sym same) (all_map_drop _ net_number 2 nets c.requires.nets)) c.loop-n-test.true in
    let far = sum_far c.args.dst.now c.loop-n.dst _ _ _ c.loop-n.invariant.gates in
    let at = c.loop-n.invariant.last in
    let long = length-map (take i (take (length nets - c.min.result) (drop c.min.result nets))) net_number in
    let short = length-take-le i (take (length nets - c.min.result) (drop c.min.result nets)) c.loop-n.auto.n-index-end in
    (omega arith, (omega arith, tt))

pub push-requires-in-loop-n-clause-room : goal.push-requires-in-loop-n-clause-room
push-requires-in-loop-n-clause-room c =
    let nets = c.args.nets.now in
    let i = c.loop-n.n-index in
    let same = ap length (rest_is nets c.min.result c.min.ensures) ∙ length-drop 2 nets in
    let far = sum_far c.args.dst.now c.loop-n.dst _ _ _ c.loop-n.invariant.gates in
    let long = length-map (take i (take (length nets - c.min.result) (drop c.min.result nets))) net_number in
    let short = length-take-le i (take (length nets - c.min.result) (drop c.min.result nets)) c.loop-n.auto.n-index-end in
    let h = c.loop-n-test.true in
    let r = c.requires.room in
    omega arith

pub loop-n-preserved : goal.loop-n-preserved
loop-n-preserved c =
    let nets = c.args.nets.now in
    let i = c.loop-n.n-index in
    let rest = take (length nets - c.min.result) (drop c.min.result nets) in
    let far = sum_far c.args.dst.now c.loop-n.dst _ _ _ c.loop-n.invariant.gates in
    let at = c.loop-n.invariant.last in
    let long = length-map (take i rest) net_number in
    let short = length-take-le i rest c.loop-n.auto.n-index-end in
    let number = c.in_ok-last-2.ensures.number in
    record {
      gates = sum_step c.args.dst.now c.loop-n.dst _ _ _ (map net_number (take i rest)) _ c.loop-n.last.0 _ c.loop-n.invariant.gates c.in_ok-last-2.ensures.ok (map_more net_number rest i (record { 0 = 0 }) c.loop-n-test.true) (omega arith);
      last = omega arith;
    }

pub returns-clause-last : goal.returns-clause-last
returns-clause-last c =
    let nets = c.args.nets.now in
    let i = c.loop-n.n-index in
    let rest = take (length nets - c.min.result) (drop c.min.result nets) in
    let far = sum_far c.args.dst.now c.loop-n.dst _ _ _ c.loop-n.invariant.gates in
    let at = c.loop-n.invariant.last in
    let long = length-map (take i rest) net_number in
    let short = length-take-le i rest c.loop-n.auto.n-index-end in
    omega arith
