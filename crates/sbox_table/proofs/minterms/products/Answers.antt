use Rattle.std.proofs.Common.{sym, ◌∙◌, ap, ◌+◌, ◌*◌, ◌<◌, Bool, ◌∷◌, [], ◌++◌, List, take, map, length, get_or, subst, arith}
use Rattle.std.proofs.lemmas.List.{length_push, map_push}
use Rattle.netlist_spec.specs.Covers.{has_bit}
use Rattle.netlist_spec.specs.Gates.{bit_number, two}
use Rattle.gate_net.specs.declared.gate.NetId.{NetId}
use Rattle.gate_net.specs.GateNet.{net_count}
use Rattle.sbox_table.proofs.MintermReads.{more_read}
use Rattle.reduction.proofs.Inputs.{each_at, bits_at, bits_more}
use Rattle.reduction.proofs.Outputs.{AreAnswered, answered_push, answered_same}
use Rattle.sbox_table.proofs.minterms.products.Goals as goal

pub push-requires-clause-reads : goal.push-requires-clause-reads
push-requires-clause-reads c =
    let more = c.loop-m.invariant.cost in
    let below = each_at (λ n. n < net_count c.args.net.now) c.args.terms.now c.loop-m.m-index (record { 0 = 0 }) c.requires.terms c.loop-m-test.true in
    let n = c.requires.n in
    (omega arith, (omega arith, tt))

pub loop-m-preserved : goal.loop-m-preserved
loop-m-preserved c =
    let i = c.loop-m.m-index in
    let terms = c.args.terms.now in
    let m : NetId = get_or terms i (record { 0 = 0 }) in
    let n = c.args.n.0 in
    record {
      count = ap length c.in_ok-push-2.ensures.items ∙ (length_push c.loop-m.all.items c.in_ok-push.field-0 ∙ ap (λ k. k + 1) c.loop-m.invariant.count);
      answered =
          let P : List NetId → Type 0 = λ all. AreAnswered c.args.net.now c.push.new.self all (λ v. map (λ b. has_bit c.args.op (2 * bit_number b + bit_number (v n))) (bits_at v (take (i + 1) terms))) in
          subst P (sym c.in_ok-push-2.ensures.items)
          (answered_same c.args.net.now c.push.new.self (c.loop-m.all.items ++ c.in_ok-push.field-0 ∷ []) _ _
          (λ v.
          let f : Bool → Bool = λ b. has_bit c.args.op (2 * bit_number b + bit_number (v n)) in
          sym (ap (map f) (bits_more v terms i (record { 0 = 0 }) c.loop-m-test.true) ∙ map_push f (bits_at v (take i terms)) (v m.0)))
          (answered_push c.args.net.now c.loop-m.net c.push.new.self c.loop-m.all.items c.in_ok-push.field-0 (two c.args.op m.0 n) _ c.in_ok-push.ensures.ok c.in_ok-push.ensures.number c.loop-m.invariant.answered));
      reads = more_read c.args.net.now c.loop-m.net c.push.new.self c.args.op c.args.terms.now c.loop-m.m-index (record { 0 = 0 }) c.args.n.0 c.push.result c.loop-m-test.true c.loop-m.invariant.answered.extends c.loop-m.invariant.reads c.push.ensures.ok c.push.ensures.err;
      cost =
          let e = ap net_count c.in_ok-push.ensures.ok in
          let h = length_push c.loop-m.net.gates (two c.args.op m.0 n) in
          let k = c.loop-m.invariant.cost in
          omega arith;
    }

pub returns-in_err-push-clause-reads : goal.returns-in_err-push-clause-reads
returns-in_err-push-clause-reads c = more_read c.args.net.now c.loop-m.net c.push.new.self c.args.op c.args.terms.now c.loop-m.m-index (record { 0 = 0 }) c.args.n.0 c.push.result c.loop-m-test.true c.loop-m.invariant.answered.extends c.loop-m.invariant.reads c.push.ensures.ok c.push.ensures.err

pub returns-in_err-push-2-clause-reads : goal.returns-in_err-push-2-clause-reads
returns-in_err-push-2-clause-reads c = more_read c.args.net.now c.loop-m.net c.push.new.self c.args.op c.args.terms.now c.loop-m.m-index (record { 0 = 0 }) c.args.n.0 c.push.result c.loop-m-test.true c.loop-m.invariant.answered.extends c.loop-m.invariant.reads c.push.ensures.ok c.push.ensures.err
