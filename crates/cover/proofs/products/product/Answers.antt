use Rattle.std.proofs.Common.{◌≡◌, sym, ◌∙◌, ap, Bool, ◌&&◌, ◌<◌, true, map, arith}
use Rattle.gate_net.specs.Gate.{net_number}
use Rattle.reduction.proofs.GateReads.{reads_as, reads_joined, reads_closed}
use Rattle.std.proofs.lemmas.List.{take_all}
use Rattle.netlist_spec.specs.Covers.{row_fits, has_bit}
use Rattle.std.specs.Bool.{beq}
use Rattle.gate_net.specs.GateNet.{net_count}
use Rattle.reduction.proofs.Appended.{joined_as, joined_same, value_joined, count_grows}
use Rattle.reduction.proofs.Inputs.{each_at, bits_at}
use Rattle.cover.specs.Cover.{row_of}
use Rattle.cover.proofs.Rows.{product_same, product_more}
use Rattle.cover.proofs.products.product.Goals as goal
use Rattle.cover.proofs.products.product.Goals.{then-bit+in_ok-join, else-bit}

pub join-requires-clause-n : goal.join-requires-clause-n
join-requires-clause-n c =
    let below = each_at (λ n. n < net_count c.args.net.now) c.args.ins.now c.loop-i.i (record { 0 = 0 }) c.requires.nets c.loop-i-test.true in
    let more = count_grows c.args.net.now c.loop-i.net c.loop-i.invariant.joined.extends in
    omega arith

cares : (c : goal.Joined-bit) → {b : Bool} → c.bit.result ≡ b → has_bit c.args.row.care c.loop-i.i ≡ b
cares c e = sym (c.bit.ensures ∙ ap (λ n. has_bit n c.loop-i.i) c.from.ensures) ∙ e

pub loop-i-preserved : goal.loop-i-preserved
loop-i-preserved c =
    elim c.if-bit.branch [
      | then-bit+in_ok-join w ↦ record {
        joined =
            joined_as c.args.net.now _ _ _ _ _ _ w.net-is w.all-is
            (product_more c.args.net.now c.loop-i.net (row_of c.args.row) c.args.ins.now c.loop-i.i (record { 0 = 0 }) c.loop-i-test.true c.loop-i.all _ _ w.in_ok-join.field-0 (cares c w.if-bit.true) (λ a b. w.literal-op.ensures.answer a b ∙ ap (λ x. a && beq b x) (w.bit-then-bit.ensures ∙ ap (λ n. has_bit n c.loop-i.i) w.from-then-bit.ensures)) w.in_ok-join.ensures.extends w.in_ok-join.ensures.number w.in_ok-join.ensures.ok w.in_ok-join.ensures.bit c.loop-i.invariant.joined);
        reads = reads_as c.args.net.now _ _ (map net_number c.args.ins.now) w.net-is (reads_joined c.args.net.now c.loop-i.net _ c.args.ins.now c.loop-i.i (record { 0 = 0 }) true c.loop-i.all _ c.loop-i-test.true c.loop-i.invariant.joined c.loop-i.invariant.reads w.in_ok-join.ensures.extends w.in_ok-join.ensures.reads);
        cost = let e = ap net_count w.net-is in let m = w.in_ok-join.ensures.ok in omega arith;
      }
      | else-bit w ↦ record {
        joined =
            joined_as c.args.net.now _ _ _ _ _ _ w.net-is w.all-is
            (product_same c.args.net.now c.loop-i.net (row_of c.args.row) c.args.ins.now c.loop-i.i (record { 0 = 0 }) c.loop-i-test.true c.loop-i.all (cares c w.if-bit.false) c.loop-i.invariant.joined);
        reads = reads_as c.args.net.now _ _ (map net_number c.args.ins.now) w.net-is c.loop-i.invariant.reads;
        cost = let e = ap net_count w.net-is in omega arith;
      }
    ]

pub returns-clause-value : goal.returns-clause-value
returns-clause-value c =
    value_joined c.args.net.now c.loop-i.net c.joined.new.net _ c.loop-i.all _ c.joined.result
    (joined_same c.args.net.now c.loop-i.net _ c.loop-i.all _ (λ v. row_fits (row_of c.args.row) (bits_at v c.args.ins.now))
    (λ v. ap (λ ins. row_fits (row_of c.args.row) (bits_at v ins)) (take_all c.loop-i.i c.args.ins.now c.loop-i-test.false)) c.loop-i.invariant.joined)
    c.joined.ensures.extends c.joined.ensures.bit

pub returns-in_err-join-clause-reads : goal.returns-in_err-join-clause-reads
returns-in_err-join-clause-reads c =
    reads_joined c.args.net.now c.loop-i.net c.join.new.net c.args.ins.now c.loop-i.i (record { 0 = 0 }) true c.loop-i.all _ c.loop-i-test.true c.loop-i.invariant.joined c.loop-i.invariant.reads c.in_err-join.ensures.extends c.in_err-join.ensures.reads

pub returns-clause-reads : goal.returns-clause-reads
returns-clause-reads c =
    reads_closed c.args.net.now c.loop-i.net c.joined.new.net (map net_number c.args.ins.now) c.loop-i.invariant.joined.extends c.loop-i.invariant.reads c.joined.ensures.extends c.joined.ensures.reads
