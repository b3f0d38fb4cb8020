use Rattle.std.proofs.Common.{map, ◌≡◌, sym, ◌∙◌, ap, ◌<◌, Bool, ◌&&◌, false, get_or, length, arith}
use Rattle.std.specs.List.{list_any, range_with_len}
use Rattle.netlist_spec.specs.Covers.{has_bit}
use Rattle.gate_net.specs.Gate.{net_number}
use Rattle.gate_net.specs.GateNet.{net_count}
use Rattle.reduction.proofs.GateReads.{reads_as, reads_joined, reads_closed}
use Rattle.reduction.proofs.Appended.{joined_as, joined_same, value_joined, count_grows}
use Rattle.reduction.proofs.Inputs.{each_at, bits_at}
use Rattle.sbox_table.specs.Tables.{output_bit}
use Rattle.sbox_table.proofs.Terms.{output_same, output_more}
use Rattle.sbox_table.proofs.outputs.output.Goals as goal
use Rattle.sbox_table.proofs.outputs.output.Goals.{then-bit+in_ok-join, else-bit}

pub join-requires-clause-n : goal.join-requires-clause-n
join-requires-clause-n c =
    let long = c.requires.terms in
    let here = c.loop-k-test.true in
    let below = each_at (λ n. n < net_count c.args.net.now) c.args.terms.now c.loop-k.k (record { 0 = 0 }) c.requires.nets (omega arith) in
    let more = count_grows c.args.net.now c.loop-k.net c.loop-k.invariant.joined.extends in
    omega arith

has : (c : goal.Joined-bit) → {b : Bool} → c.bit.result ≡ b → has_bit (get_or c.args.rows.now c.loop-k.k 0) c.args.j ≡ b
has c e = sym (c.bit.ensures ∙ ap (λ n. has_bit n c.args.j) c.from.ensures) ∙ e

pub loop-k-preserved : goal.loop-k-preserved
loop-k-preserved c =
    let long = c.requires.terms in
    let here = c.loop-k-test.true in
    elim c.if-bit.branch [
      | then-bit+in_ok-join w ↦ record {
        joined =
            joined_as c.args.net.now _ _ _ _ _ _ w.net-is w.any-is
            (output_more c.args.net.now c.loop-k.net c.args.rows.now c.args.j c.args.terms.now c.loop-k.k (record { 0 = 0 }) (omega arith) c.loop-k.any _ w.in_ok-join.field-0 (has c w.if-bit.true) w.in_ok-join.ensures.extends w.in_ok-join.ensures.number w.in_ok-join.ensures.ok w.in_ok-join.ensures.bit c.loop-k.invariant.joined);
        reads = reads_as c.args.net.now _ _ (map net_number c.args.terms.now) w.net-is (reads_joined c.args.net.now c.loop-k.net _ c.args.terms.now c.loop-k.k (record { 0 = 0 }) false c.loop-k.any _ (omega arith) c.loop-k.invariant.joined c.loop-k.invariant.reads w.in_ok-join.ensures.extends w.in_ok-join.ensures.reads);
        cost = let e = ap net_count w.net-is in let m = w.in_ok-join.ensures.ok in omega arith;
      }
      | else-bit w ↦ record {
        joined =
            joined_as c.args.net.now _ _ _ _ _ _ w.net-is w.any-is
            (output_same c.args.net.now c.loop-k.net c.args.rows.now c.args.j c.args.terms.now c.loop-k.k (record { 0 = 0 }) (omega arith) c.loop-k.any (has c w.if-bit.false) c.loop-k.invariant.joined);
        reads = reads_as c.args.net.now _ _ (map net_number c.args.terms.now) w.net-is c.loop-k.invariant.reads;
        cost = let e = ap net_count w.net-is in omega arith;
      }
    ]

pub returns-clause-value : goal.returns-clause-value
returns-clause-value c =
    let end : c.loop-k.k ≡ length c.args.rows.now = let a = c.loop-k-test.false in let b = c.loop-k.auto.k-end in omega arith in
    value_joined c.args.net.now c.loop-k.net c.joined.new.net _ c.loop-k.any _ c.joined.result
    (joined_same c.args.net.now c.loop-k.net _ c.loop-k.any _ (λ v. output_bit c.args.rows.now (bits_at v c.args.terms.now) c.args.j)
    (λ v. ap (λ n. list_any (λ q. has_bit (get_or c.args.rows.now q 0) c.args.j && get_or (bits_at v c.args.terms.now) q false) (range_with_len 0 n)) end) c.loop-k.invariant.joined)
    c.joined.ensures.extends c.joined.ensures.bit

pub returns-in_err-join-clause-reads : goal.returns-in_err-join-clause-reads
returns-in_err-join-clause-reads c =
    let long = c.requires.terms in
    let here = c.loop-k-test.true in
    reads_joined c.args.net.now c.loop-k.net c.join.new.net c.args.terms.now c.loop-k.k (record { 0 = 0 }) false c.loop-k.any _ (omega arith) c.loop-k.invariant.joined c.loop-k.invariant.reads c.in_err-join.ensures.extends c.in_err-join.ensures.reads

pub returns-clause-reads : goal.returns-clause-reads
returns-clause-reads c =
    reads_closed c.args.net.now c.loop-k.net c.joined.new.net (map net_number c.args.terms.now) c.loop-k.invariant.joined.extends c.loop-k.invariant.reads c.joined.ensures.extends c.joined.ensures.reads
