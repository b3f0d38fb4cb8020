use Rattle.std.proofs.Common.{◌<◌, length, get_or, arith}
use Rattle.std.proofs.lemmas.List.{map_more, take_all}
use Rattle.gate_net.specs.Gate.{net_number}
use Rattle.cone_split.proofs.Copied.{all_map_at}
use Rattle.joined_net.proofs.NetMarks.{gains_none, gains_mark}
use Rattle.joined_net.proofs.marks.mark_all.Goals as goal

pub loop-n-init : goal.loop-n-init
loop-n-init c = gains_none c.args.marks.now

pub bounds-marks-n : goal.bounds-marks-n
bounds-marks-n c =
    let b : (get_or c.args.nets.now c.loop-n.n-index (record { 0 = 0 })).0 < length c.args.marks.now = all_map_at (λ n. n < length c.args.marks.now) net_number c.args.nets.now c.loop-n.n-index (record { 0 = 0 }) c.requires c.loop-n-test.true in
    omega arith

pub loop-n-preserved : goal.loop-n-preserved
loop-n-preserved c =
    let b : (get_or c.args.nets.now c.loop-n.n-index (record { 0 = 0 })).0 < length c.args.marks.now = all_map_at (λ n. n < length c.args.marks.now) net_number c.args.nets.now c.loop-n.n-index (record { 0 = 0 }) c.requires c.loop-n-test.true in
    gains_mark c.args.marks.now c.loop-n.marks _ _ (get_or c.args.nets.now c.loop-n.n-index (record { 0 = 0 })).0 (map_more net_number c.args.nets.now c.loop-n.n-index (record { 0 = 0 }) c.loop-n-test.true) (omega arith) c.loop-n.invariant

pub returns : goal.returns
returns c = rw (← take_all c.loop-n.n-index c.args.nets.now c.loop-n-test.false) c.loop-n.invariant
