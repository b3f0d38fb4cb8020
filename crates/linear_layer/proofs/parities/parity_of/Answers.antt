use Rattle.std.proofs.Common.{◌≡◌, sym, ◌∙◌, ap, ◌<◌, Bool, false, map, arith}
use Rattle.std.proofs.lemmas.List.{take_all}
use Rattle.netlist_spec.specs.Covers.{has_bit, parity, selected}
use Rattle.gate_net.specs.Gate.{net_number}
use Rattle.gate_net.specs.GateNet.{net_count}
use Rattle.reduction.proofs.GateReads.{reads_as, reads_joined, reads_closed}
use Rattle.reduction.proofs.Appended.{joined_as, joined_same, value_joined, count_grows}
use Rattle.reduction.proofs.Inputs.{each_at, bits_at}
use Rattle.linear_layer.proofs.OddInputs.{parity_same, parity_more, ones_set, ones_below}
use Rattle.linear_layer.proofs.parities.parity_of.Goals as goal
use Rattle.linear_layer.proofs.parities.parity_of.Goals.{then-bit+in_ok-join, else-bit}

pub join-requires-clause-n : goal.join-requires-clause-n
join-requires-clause-n c =
    let below = each_at (λ n. n < net_count c.args.net.now) c.args.ins.now c.loop-j.j (record { 0 = 0 }) c.requires.nets c.loop-j-test.true in
    let more = count_grows c.args.net.now c.loop-j.net c.loop-j.invariant.joined.extends in
    omega arith

has : (c : goal.Joined-bit) → {b : Bool} → c.bit.result ≡ b → has_bit c.args.row c.loop-j.j ≡ b
has c e = sym c.bit.ensures ∙ e

pub loop-j-preserved : goal.loop-j-preserved
loop-j-preserved c =
    elim c.if-bit.branch [
      | then-bit+in_ok-join w ↦ record {
        joined =
            joined_as c.args.net.now _ _ _ _ _ _ w.net-is w.sum-is
            (parity_more c.args.net.now c.loop-j.net c.args.row c.args.ins.now c.loop-j.j (record { 0 = 0 }) c.loop-j-test.true c.loop-j.sum _ w.in_ok-join.field-0 (has c w.if-bit.true) w.in_ok-join.ensures.extends w.in_ok-join.ensures.number w.in_ok-join.ensures.ok w.in_ok-join.ensures.bit c.loop-j.invariant.joined);
        reads = reads_as c.args.net.now _ _ (map net_number c.args.ins.now) w.net-is (reads_joined c.args.net.now c.loop-j.net _ c.args.ins.now c.loop-j.j (record { 0 = 0 }) false c.loop-j.sum _ c.loop-j-test.true c.loop-j.invariant.joined c.loop-j.invariant.reads w.in_ok-join.ensures.extends w.in_ok-join.ensures.reads);
        cost = let e = ap net_count w.net-is in let m = w.in_ok-join.ensures.ok in let ones = ones_set c.args.row c.loop-j.j (has c w.if-bit.true) in omega arith;
      }
      | else-bit w ↦ record {
        joined =
            joined_as c.args.net.now _ _ _ _ _ _ w.net-is w.sum-is
            (parity_same c.args.net.now c.loop-j.net c.args.row c.args.ins.now c.loop-j.j (record { 0 = 0 }) c.loop-j-test.true c.loop-j.sum (has c w.if-bit.false) c.loop-j.invariant.joined);
        reads = reads_as c.args.net.now _ _ (map net_number c.args.ins.now) w.net-is c.loop-j.invariant.reads;
        cost = let e = ap net_count w.net-is in let ones = ones_below c.args.row c.loop-j.j in omega arith;
      }
    ]

pub returns-clause-value : goal.returns-clause-value
returns-clause-value c =
    value_joined c.args.net.now c.loop-j.net c.joined.new.net _ c.loop-j.sum _ c.joined.result
    (joined_same c.args.net.now c.loop-j.net _ c.loop-j.sum _ (λ v. parity (selected c.args.row (bits_at v c.args.ins.now)))
    (λ v. ap (λ ins. parity (selected c.args.row (bits_at v ins))) (take_all c.loop-j.j c.args.ins.now c.loop-j-test.false)) c.loop-j.invariant.joined)
    c.joined.ensures.extends c.joined.ensures.bit

pub returns-in_err-join-clause-reads : goal.returns-in_err-join-clause-reads
returns-in_err-join-clause-reads c =
    reads_joined c.args.net.now c.loop-j.net c.join.new.net c.args.ins.now c.loop-j.j (record { 0 = 0 }) false c.loop-j.sum _ c.loop-j-test.true c.loop-j.invariant.joined c.loop-j.invariant.reads c.in_err-join.ensures.extends c.in_err-join.ensures.reads

pub returns-clause-reads : goal.returns-clause-reads
returns-clause-reads c =
    reads_closed c.args.net.now c.loop-j.net c.joined.new.net (map net_number c.args.ins.now) c.loop-j.invariant.joined.extends c.loop-j.invariant.reads c.joined.ensures.extends c.joined.ensures.reads
