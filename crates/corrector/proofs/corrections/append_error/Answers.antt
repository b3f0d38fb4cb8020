use Rattle.std.proofs.Common.{sym, ◌∙◌, ap, ◌+◌, ◌||◌, ◌<◌, ◌∷◌, Bool, List, ℕ, cond, inl, get_or, arith}
use Rattle.std.specs.Prelude.{count_by}
use Rattle.std.proofs.lemmas.List.{take_all}
use Rattle.std.proofs.lemmas.List.Sums.{count_by_more_yes, count_by_more_no, sum_by-take-le}
use Rattle.netlist_spec.specs.Covers.{has_bit}
use Rattle.netlist_spec.specs.Gates.{two}
use Rattle.gate_net.specs.Gate.{net_number}
use Rattle.gate_net.specs.GateNet.{net_count}
use Rattle.cone_split.proofs.Cells.{all_contains, contains_head, contains_tail}
use Rattle.reduction.proofs.Appended.{count_grows}
use Rattle.corrector.specs.declared.hits.Hit.{Hit}
use Rattle.corrector.specs.Hits.{hit_nets, some_hit}
use Rattle.corrector.proofs.Computed.{computed_given, computed_same, computed_push, computed_as, extends_as, count_pushed}
use Rattle.corrector.proofs.ErrorBits.{no_hit, error_more, error_same, hit_known}
use Rattle.corrector.proofs.corrections.append_error.Goals as goal
use Rattle.corrector.proofs.corrections.append_error.Goals.{then-bit+in_ok-error, else-bit}

abbrev none : Hit
none = record { error = record { 0 = 0 }; net = record { 0 = 0 } }

pub loop-hit-init : goal.loop-hit-init
loop-hit-init c = record {
  computed = computed_same c.args.net.now c.args.net.now _ c.args.never.0 (λ v. v c.args.never.0) _ (λ v. no_hit v c.args.i c.args.never.0) (computed_given c.args.net.now _ c.args.never.0 (contains_head c.args.never.0 (hit_nets c.args.hits.now)) c.requires.nets.0);
  cost = omega arith;
}

pub push-requires-clause-reads : goal.push-requires-clause-reads
push-requires-clause-reads c =
    let place = all_contains (λ n. n < net_count c.args.net.now) (hit_nets c.args.hits.now) (get_or c.args.hits.now c.loop-hit.hit-index none).net.0 c.requires.nets.1 (hit_known c.args.hits.now c.loop-hit.hit-index none c.loop-hit-test.true) in
    let grown = count_grows c.args.net.now c.loop-hit.net c.loop-hit.invariant.computed.extends in
    (c.loop-hit.invariant.computed.below, (omega arith, tt))

pub push-requires-clause-room : goal.push-requires-clause-room
push-requires-clause-room c =
    let hits = c.args.hits.now in
    let k = c.loop-hit.hit-index in
    let p : Hit → Bool = λ h. has_bit h.error.0 c.args.i in
    let set = ap (λ (n : ℕ). has_bit n c.args.i) (sym c.from.ensures) ∙ (sym c.bit.ensures ∙ c.if-bit.true) in
    let one = count_by_more_yes p hits k none c.loop-hit-test.true set in
    let some = sum_by-take-le (λ (h : Hit). cond (p h) 1 0) hits (k + 1) in
    let cost = c.loop-hit.invariant.cost in
    let room = c.requires.room in
    omega arith

pub loop-hit-preserved : goal.loop-hit-preserved
loop-hit-preserved c =
    let old = c.args.net.now in
    let never = c.args.never.0 in
    let hits = c.args.hits.now in
    let i = c.args.i in
    let k = c.loop-hit.hit-index in
    let n = (get_or hits k none).net.0 in
    let p : Hit → Bool = λ h. has_bit h.error.0 i in
    let there = c.loop-hit-test.true in
    let bit = ap (λ (m : ℕ). has_bit m i) (sym c.from.ensures) ∙ sym c.bit.ensures in
    elim c.if-bit.branch [
      | then-bit+in_ok-error w ↦ record {
        computed =
            computed_as old c.if-bit.net w.push.new.self _ c.if-bit.error.0 w.in_ok-error.error.0 _ w.net-is (ap net_number w.error-is)
            (computed_push old c.loop-hit.net w.push.new.self (never ∷ hit_nets hits) c.loop-hit.error.0 n 14 w.in_ok-error.error.0 _ _ w.in_ok-error.ensures.ok w.in_ok-error.ensures.number
            (inl (contains_tail never n (hit_nets hits) (hit_known hits k none there)))
            (λ v _. error_more v i never hits k none there (bit ∙ w.if-bit.true)) c.loop-hit.invariant.computed);
        cost =
            let one = count_pushed c.loop-hit.net w.push.new.self (two 14 c.loop-hit.error.0 n) w.in_ok-error.ensures.ok in
            let more = count_by_more_yes p hits k none there (bit ∙ w.if-bit.true) in
            let same = ap net_count w.net-is in
            let cost = c.loop-hit.invariant.cost in
            omega arith;
      }
      | else-bit w ↦ record {
        computed =
            computed_as old c.if-bit.net c.loop-hit.net _ c.if-bit.error.0 c.loop-hit.error.0 _ w.net-is (ap net_number w.error-is)
            (computed_same old c.loop-hit.net _ c.loop-hit.error.0 _ _ (λ v. error_same v i never hits k none there (bit ∙ w.if-bit.false)) c.loop-hit.invariant.computed);
        cost =
            let more = count_by_more_no p hits k none there (bit ∙ w.if-bit.false) in
            let same = ap net_count w.net-is in
            let cost = c.loop-hit.invariant.cost in
            omega arith;
      }
    ]

pub returns-in_err-error-clause-extends : goal.returns-in_err-error-clause-extends
returns-in_err-error-clause-extends c = extends_as c.args.net.now c.loop-hit.net c.push.new.self c.in_err-error.ensures.err c.loop-hit.invariant.computed.extends

pub returns-clause-computed : goal.returns-clause-computed
returns-clause-computed c =
    computed_same c.args.net.now c.loop-hit.net _ c.loop-hit.error.0 _ _ (λ v. ap (λ (hs : List Hit). v c.args.never.0 || some_hit c.args.i hs v) (take_all c.loop-hit.hit-index c.args.hits.now c.loop-hit-test.false)) c.loop-hit.invariant.computed

pub returns-clause-cost : goal.returns-clause-cost
returns-clause-cost c = c.loop-hit.invariant.cost ∙ ap (λ (hs : List Hit). net_count c.args.net.now + count_by (λ (h : Hit). has_bit h.error.0 c.args.i) hs) (take_all c.loop-hit.hit-index c.args.hits.now c.loop-hit-test.false)

pub returns-clause-extends : goal.returns-clause-extends
returns-clause-extends c = c.loop-hit.invariant.computed.extends
