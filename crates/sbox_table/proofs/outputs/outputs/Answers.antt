use Rattle.std.proofs.Common.{sym, ◌∙◌, ap, ◌+◌, ◌∷◌, [], ◌++◌, List, map, length, subst, arith}
use Rattle.std.specs.List.{range_with_len}
use Rattle.std.proofs.lemmas.List.{length_push, map_push}
use Rattle.gate_net.specs.declared.gate.NetId.{NetId}
use Rattle.gate_net.specs.Gate.{net_number}
use Rattle.gate_net.specs.GateNet.{net_count}
use Rattle.reduction.proofs.GateReads.{reads_further, allowed_self}
use Rattle.reduction.proofs.Outputs.{AreAnswered, answered_more, answered_same}
use Rattle.reduction.proofs.Inputs.{bits_at}
use Rattle.sbox_table.specs.Tables.{output_bit}
use Rattle.sbox_table.proofs.Numbers.{range_push}
use Rattle.sbox_table.proofs.outputs.outputs.Goals as goal

pub loop-j-preserved : goal.loop-j-preserved
loop-j-preserved c =
    let j = c.loop-j.j in
    record {
      count = ap length c.in_ok-push.ensures.items ∙ (length_push c.loop-j.outs.items c.in_ok-output.field-0 ∙ ap (λ n. n + 1) c.loop-j.invariant.count);
      answered =
          let P : List NetId → Type 0 = λ outs. AreAnswered c.args.net.now c.output.new.net outs (λ v. map (output_bit c.args.rows.now (bits_at v c.args.terms.now)) (range_with_len 0 (j + 1))) in
          subst P (sym c.in_ok-push.ensures.items)
          (answered_same c.args.net.now c.output.new.net (c.loop-j.outs.items ++ c.in_ok-output.field-0 ∷ []) _ _
          (λ v.
          let bit = output_bit c.args.rows.now (bits_at v c.args.terms.now) in
          sym (ap (map bit) (range_push j) ∙ map_push bit (range_with_len 0 j) j))
          (answered_more c.args.net.now c.loop-j.net c.output.new.net c.loop-j.outs.items c.in_ok-output.field-0 _ _ c.in_ok-output.ensures.extends c.in_ok-output.ensures.appended c.in_ok-output.ensures.value c.loop-j.invariant.answered));
      reads = reads_further c.args.net.now c.loop-j.net c.output.new.net (map net_number c.args.terms.now) (map net_number c.args.terms.now) c.loop-j.invariant.answered.extends c.in_ok-output.ensures.extends (allowed_self (map net_number c.args.terms.now) (net_count c.args.net.now)) c.loop-j.invariant.reads c.in_ok-output.ensures.reads;
      cost = let one = c.in_ok-output.ensures.cost in omega arith;
    }

pub returns-in_err-output-clause-reads : goal.returns-in_err-output-clause-reads
returns-in_err-output-clause-reads c =
    reads_further c.args.net.now c.loop-j.net c.output.new.net (map net_number c.args.terms.now) (map net_number c.args.terms.now) c.loop-j.invariant.answered.extends c.in_err-output.ensures.extends (allowed_self (map net_number c.args.terms.now) (net_count c.args.net.now)) c.loop-j.invariant.reads c.in_err-output.ensures.reads

pub returns-in_err-push-clause-reads : goal.returns-in_err-push-clause-reads
returns-in_err-push-clause-reads c =
    reads_further c.args.net.now c.loop-j.net c.output.new.net (map net_number c.args.terms.now) (map net_number c.args.terms.now) c.loop-j.invariant.answered.extends c.in_ok-output.ensures.extends (allowed_self (map net_number c.args.terms.now) (net_count c.args.net.now)) c.loop-j.invariant.reads c.in_ok-output.ensures.reads
