use Rattle.std.proofs.Common.{sym, ◌∙◌, ap, ◌+◌, ℕ, ◌∷◌, [], ◌++◌, List, take, map, length, get_or, subst, arith}
use Rattle.std.specs.Prelude.{count_ones, sum_by}
use Rattle.std.proofs.lemmas.List.{take_more, map_more, length_push}
use Rattle.std.proofs.lemmas.List.Sums.{sum_by-append}
use Rattle.netlist_spec.specs.Covers.{parity, selected}
use Rattle.gate_net.specs.declared.gate.NetId.{NetId}
use Rattle.gate_net.specs.Gate.{net_number}
use Rattle.gate_net.specs.GateNet.{net_count}
use Rattle.reduction.proofs.GateReads.{reads_further, allowed_self}
use Rattle.reduction.proofs.Outputs.{AreAnswered, answered_more, answered_same}
use Rattle.reduction.proofs.Inputs.{bits_at}
use Rattle.linear_layer.proofs.parities.parities.Goals as goal

pub loop-row-preserved : goal.loop-row-preserved
loop-row-preserved c =
    let i = c.loop-row.row-index in
    let rows = c.args.rows.now in
    record {
      count = ap length c.in_ok-push.ensures.items ∙ (length_push c.loop-row.outs.items c.in_ok-parity_of.field-0 ∙ ap (λ n. n + 1) c.loop-row.invariant.count);
      answered =
          let P : List NetId → Type 0 = λ outs. AreAnswered c.args.net.now c.parity_of.new.net outs (λ v. map (λ r. parity (selected r (bits_at v c.args.ins.now))) (take (i + 1) rows)) in
          subst P (sym c.in_ok-push.ensures.items)
          (answered_same c.args.net.now c.parity_of.new.net (c.loop-row.outs.items ++ c.in_ok-parity_of.field-0 ∷ []) _ _
          (λ v. sym (map_more (λ (r : ℕ). parity (selected r (bits_at v c.args.ins.now))) rows i 0 c.loop-row-test.true))
          (answered_more c.args.net.now c.loop-row.net c.parity_of.new.net c.loop-row.outs.items c.in_ok-parity_of.field-0 _ _ c.in_ok-parity_of.ensures.extends c.in_ok-parity_of.ensures.appended c.in_ok-parity_of.ensures.value c.loop-row.invariant.answered));
      reads = reads_further c.args.net.now c.loop-row.net c.parity_of.new.net (map net_number c.args.ins.now) (map net_number c.args.ins.now) c.loop-row.invariant.answered.extends c.in_ok-parity_of.ensures.extends (allowed_self (map net_number c.args.ins.now) (net_count c.args.net.now)) c.loop-row.invariant.reads c.in_ok-parity_of.ensures.reads;
      cost =
          let e = ap (sum_by count_ones) (take_more rows i 0 c.loop-row-test.true) ∙ sum_by-append count_ones (take i rows) (get_or rows i 0 ∷ []) in
          let one = c.in_ok-parity_of.ensures.cost in
          omega arith;
    }

pub returns-in_err-parity_of-clause-reads : goal.returns-in_err-parity_of-clause-reads
returns-in_err-parity_of-clause-reads c =
    reads_further c.args.net.now c.loop-row.net c.parity_of.new.net (map net_number c.args.ins.now) (map net_number c.args.ins.now) c.loop-row.invariant.answered.extends c.in_err-parity_of.ensures.extends (allowed_self (map net_number c.args.ins.now) (net_count c.args.net.now)) c.loop-row.invariant.reads c.in_err-parity_of.ensures.reads

pub returns-in_err-push-clause-reads : goal.returns-in_err-push-clause-reads
returns-in_err-push-clause-reads c =
    reads_further c.args.net.now c.loop-row.net c.parity_of.new.net (map net_number c.args.ins.now) (map net_number c.args.ins.now) c.loop-row.invariant.answered.extends c.in_ok-parity_of.ensures.extends (allowed_self (map net_number c.args.ins.now) (net_count c.args.net.now)) c.loop-row.invariant.reads c.in_ok-parity_of.ensures.reads
