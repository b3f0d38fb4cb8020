use Rattle.std.proofs.Common.{sym, ◌∙◌, ap, ◌+◌, ◌<◌, List, [], ◌∷◌, ℕ, inl, length, map, get_or, take, arith}
use Rattle.std.proofs.lemmas.List.{take_all, length-append, length-map}
use Rattle.netlist_spec.specs.Covers.{has_bit, differ, parity}
use Rattle.netlist_spec.specs.Gates.{two}
use Rattle.guard_spec.specs.Codes.{bits_of}
use Rattle.gate_net.specs.Gate.{net_number}
use Rattle.gate_net.specs.GateNet.{net_count}
use Rattle.cone_split.proofs.Cells.{contains_head, contains_tail}
use Rattle.predictor.proofs.Checks.{chosen_roots, row_bit}
use Rattle.reduction.proofs.Appended.{count_grows}
use Rattle.reduction.proofs.GateReads.{input_at}
use Rattle.reduction.proofs.Inputs.{each_at}
use Rattle.corrector.proofs.Computed.{computed_given, computed_same, computed_push, computed_as, extends_as, count_pushed}
use Rattle.corrector.proofs.SyndromeBits.{number_at, chosen_push, chosen_skip, chosen_take, no_sum, sum_push}
use Rattle.corrector.proofs.syndromes.append_syndrome_bit.Goals as goal
use Rattle.corrector.proofs.syndromes.append_syndrome_bit.Goals.{then-bit+in_ok-sum, else-bit}

pub loop-i-init : goal.loop-i-init
loop-i-init c = record {
  computed = computed_same c.args.net.now c.args.net.now _ c.args.check.0 (λ v. v c.args.check.0) _ (λ v. no_sum v c.args.check.0) (computed_given c.args.net.now _ c.args.check.0 (contains_head c.args.check.0 (map net_number c.args.places.now)) c.requires.nets.0);
  cost = omega arith;
}

pub push-requires-clause-reads : goal.push-requires-clause-reads
push-requires-clause-reads c =
    let place = each_at (λ n. n < net_count c.args.net.now) c.args.places.now c.loop-i.i (record { 0 = 0 }) c.requires.nets.1 c.loop-i-test.true in
    let grown = count_grows c.args.net.now c.loop-i.net c.loop-i.invariant.computed.extends in
    (c.loop-i.invariant.computed.below, (omega arith, tt))

pub push-requires-clause-room : goal.push-requires-clause-room
push-requires-clause-room c =
    let rows = c.args.code.now.rows in
    let roots = map net_number c.args.places.now in
    let i = c.loop-i.i in
    let j = c.args.j in
    let n = (get_or c.args.places.now i (record { 0 = 0 })).0 in
    let set = row_bit c.args.code.now.columns c.row.result j c.requires.column ∙ (ap (λ (k : ℕ). has_bit k j) (sym c.from.ensures) ∙ (sym c.bit.ensures ∙ c.if-bit.true)) in
    let all = ap length (chosen_push rows j roots i n (bits_of c.args.code.now.columns c.row.result) c.row.ensures.bits (number_at c.args.places.now i (record { 0 = 0 }) c.loop-i-test.true) set) in
    let long = length-append (chosen_roots rows j (take i roots)) (n ∷ []) in
    let some = chosen_take rows j roots (i + 1) in
    let cost = c.loop-i.invariant.cost in
    let room = c.requires.room in
    omega arith

pub loop-i-preserved : goal.loop-i-preserved
loop-i-preserved c =
    let old = c.args.net.now in
    let check = c.args.check.0 in
    let rows = c.args.code.now.rows in
    let roots = map net_number c.args.places.now in
    let i = c.loop-i.i in
    let j = c.args.j in
    let n = (get_or c.args.places.now i (record { 0 = 0 })).0 in
    let ns = chosen_roots rows j (take i roots) in
    let row = bits_of c.args.code.now.columns c.row.result in
    let at = number_at c.args.places.now i (record { 0 = 0 }) c.loop-i-test.true in
    let bit = row_bit c.args.code.now.columns c.row.result j c.requires.column ∙ (ap (λ (k : ℕ). has_bit k j) (sym c.from.ensures) ∙ sym c.bit.ensures) in
    elim c.if-bit.branch [
      | then-bit+in_ok-sum w ↦
          (let all = chosen_push rows j roots i n row c.row.ensures.bits at (bit ∙ w.if-bit.true) in
          record {
            computed =
                computed_as old c.if-bit.net w.push.new.self _ c.if-bit.sum.0 w.in_ok-sum.sum.0 _ w.net-is (ap net_number w.sum-is)
                (computed_push old c.loop-i.net w.push.new.self (check ∷ roots) c.loop-i.sum.0 n 6 w.in_ok-sum.sum.0 _ _ w.in_ok-sum.ensures.ok w.in_ok-sum.ensures.number
                (inl (contains_tail check n roots (input_at c.args.places.now i (record { 0 = 0 }) c.loop-i-test.true)))
                (λ v _. sum_push v check n ns (chosen_roots rows j (take (i + 1) roots)) all) c.loop-i.invariant.computed);
            cost =
                let one = count_pushed c.loop-i.net w.push.new.self (two 6 c.loop-i.sum.0 n) w.in_ok-sum.ensures.ok in
                let long = ap length all ∙ length-append ns (n ∷ []) in
                let same = ap net_count w.net-is in
                let cost = c.loop-i.invariant.cost in
                omega arith;
          })
      | else-bit w ↦
          (let all = chosen_skip rows j roots i n row c.row.ensures.bits at (bit ∙ w.if-bit.false) in
          record {
            computed =
                computed_as old c.if-bit.net c.loop-i.net _ c.if-bit.sum.0 c.loop-i.sum.0 _ w.net-is (ap net_number w.sum-is)
                (computed_same old c.loop-i.net _ c.loop-i.sum.0 _ _ (λ v. ap (λ (ks : List ℕ). differ (v check) (parity (map v ks))) (sym all)) c.loop-i.invariant.computed);
            cost = ap net_count w.net-is ∙ (c.loop-i.invariant.cost ∙ ap (λ (ks : List ℕ). net_count old + length ks) (sym all));
          })
    ]

pub returns-in_err-sum-clause-extends : goal.returns-in_err-sum-clause-extends
returns-in_err-sum-clause-extends c = extends_as c.args.net.now c.loop-i.net c.push.new.self c.in_err-sum.ensures.err c.loop-i.invariant.computed.extends

pub returns-clause-computed : goal.returns-clause-computed
returns-clause-computed c =
    let roots = map net_number c.args.places.now in
    let long = length-map c.args.places.now net_number in
    let whole = take_all c.loop-i.i roots (let end = c.loop-i-test.false in omega arith) in
    computed_same c.args.net.now c.loop-i.net _ c.loop-i.sum.0 _ _ (λ v. ap (λ (ks : List ℕ). differ (v c.args.check.0) (parity (map v (chosen_roots c.args.code.now.rows c.args.j ks)))) whole) c.loop-i.invariant.computed

pub returns-clause-cost : goal.returns-clause-cost
returns-clause-cost c =
    let roots = map net_number c.args.places.now in
    let long = length-map c.args.places.now net_number in
    let whole = take_all c.loop-i.i roots (let end = c.loop-i-test.false in omega arith) in
    c.loop-i.invariant.cost ∙ ap (λ (ks : List ℕ). net_count c.args.net.now + length (chosen_roots c.args.code.now.rows c.args.j ks)) whole

pub returns-clause-extends : goal.returns-clause-extends
returns-clause-extends c = c.loop-i.invariant.computed.extends
