use Rattle.std.proofs.Common.{sym, ◌∙◌, ap, refl, ℕ, ◌<◌, ◌++◌, List, get_or, map, take, arith}
use Rattle.guard_spec.specs.Codes.{bits_of}
use Rattle.gate_net.specs.Gate.{net_number}
use Rattle.gate_net.specs.GateNet.{net_count}
use Rattle.cone_split.proofs.Copied.{all_map_at}
use Rattle.predictor.proofs.Checks.{chosen_roots, row_bit, test_set, test_clear}
use Rattle.alarm_rails.specs.Syndromes.{added_gates, whole_sum}
use Rattle.alarm_rails.proofs.Sums.{whole_below, sum_step, sum_count, sum_next}
use Rattle.alarm_rails.proofs.Steps.{number_at, chosen_one, chosen_none, one_fits}
use Rattle.alarm_rails.proofs.rails.add_sum.Goals as goal
use Rattle.alarm_rails.proofs.rails.add_sum.Goals.{then-row-j-eq1+in_ok-sum, else-row-j-eq1}

pub push-requires-clause-reads : goal.push-requires-clause-reads
push-requires-clause-reads c =
    let old = c.args.dst.now in
    let ns = chosen_roots c.args.code.now.rows c.args.j (take c.loop-i.i (map net_number c.args.places.now)) in
    let far = sum_count old c.loop-i.dst c.args.check.0 ns c.loop-i.invariant.gates in
    let sum = c.loop-i.invariant.sum in
    let below = whole_below (net_count old) c.args.check.0 ns c.requires.nets.0 in
    let place = all_map_at (λ n. n < net_count old) net_number c.args.places.now c.loop-i.i (record { 0 = 0 }) c.requires.nets.1 c.loop-i-test.true in
    (omega arith, (omega arith, tt))

pub push-requires-clause-room : goal.push-requires-clause-room
push-requires-clause-room c =
    let rows = c.args.code.now.rows in
    let roots = map net_number c.args.places.now in
    let i = c.loop-i.i in
    let j = c.args.j in
    let far = sum_count c.args.dst.now c.loop-i.dst c.args.check.0 (chosen_roots rows j (take i roots)) c.loop-i.invariant.gates in
    let at = number_at c.args.places.now c.args.places.now i (record { 0 = 0 }) refl c.loop-i-test.true in
    let row = bits_of c.args.code.now.columns c.row.result in
    let fits = one_fits rows j roots i (get_or c.args.places.now i (record { 0 = 0 })).0 row c.row.ensures.bits at (row_bit c.args.code.now.columns c.row.result j c.requires.column ∙ test_set c.row.result j c.if-row-j-eq1.true) in
    let room = c.requires.room in
    omega arith

pub loop-i-preserved : goal.loop-i-preserved
loop-i-preserved c =
    let old = c.args.dst.now in
    let rows = c.args.code.now.rows in
    let roots = map net_number c.args.places.now in
    let i = c.loop-i.i in
    let j = c.args.j in
    let n = (get_or c.args.places.now i (record { 0 = 0 })).0 in
    let at = number_at c.args.places.now c.args.places.now i (record { 0 = 0 }) refl c.loop-i-test.true in
    let row = bits_of c.args.code.now.columns c.row.result in
    let bit = row_bit c.args.code.now.columns c.row.result j c.requires.column in
    let ns = chosen_roots rows j (take i roots) in
    elim c.if-row-j-eq1.branch [
      | then-row-j-eq1+in_ok-sum w ↦
          (let all = chosen_one rows j roots i n row c.row.ensures.bits at (bit ∙ test_set c.row.result j w.if-row-j-eq1.true) in
          record {
            gates = w.dst-is ∙ sum_step old c.loop-i.dst w.push.new.self c.args.check.0 c.loop-i.sum.0 n ns _ c.loop-i.invariant.gates c.loop-i.invariant.sum w.in_ok-sum.ensures.ok all;
            sum = ap net_number w.sum-is ∙ sum_next old c.loop-i.dst c.args.check.0 w.in_ok-sum.sum.0 n ns _ c.loop-i.invariant.gates w.in_ok-sum.ensures.number all;
          })
      | else-row-j-eq1 w ↦
          (let all = sym (chosen_none rows j roots i n row c.row.ensures.bits at (bit ∙ test_clear c.row.result j w.if-row-j-eq1.false)) in
          record {
            gates = w.dst-is ∙ (c.loop-i.invariant.gates ∙ ap (λ (ks : List ℕ). record old { gates = old.gates ++ added_gates (net_count old) c.args.check.0 ks }) all);
            sum = ap net_number w.sum-is ∙ (c.loop-i.invariant.sum ∙ ap (whole_sum (net_count old) c.args.check.0) all);
          })
    ]
