use Rattle.std.proofs.Common.{sym, ◌∙◌, ap, subst, ℕ, ◌<◌, ◌++◌, List, [], ◌∷◌, length, get_or, map, take, arith}
use Rattle.std.specs.List.{AllByRecursion}
use Rattle.std.proofs.lemmas.List.{length-map, take_all}
use Rattle.netlist_spec.specs.Gates.{two}
use Rattle.gate_net.specs.declared.gate.NetId.{NetId}
use Rattle.gate_net.specs.Gate.{net_number}
use Rattle.gate_net.specs.GateNet.{net_count}
use Rattle.gate_net.specs.Words.{word_nets}
use Rattle.predictor.specs.Columns.{column_roots}
use Rattle.alarm_rails.specs.Syndromes.{alarm_gates, syndrome_bits, SyndromeBit}
use Rattle.alarm_rails.proofs.Sums.{grown_count, sum_count, whole_below}
use Rattle.alarm_rails.proofs.Alarms.{alarm_step}
use Rattle.alarm_rails.proofs.Bits.{column_bit, bits_length, places_hold, checks_hold}
use Rattle.alarm_rails.proofs.Steps.{all_more, all_at, number_at, column_grows, column_room, column_next}
use Rattle.alarm_rails.proofs.rails.add_word.Goals as goal

pub add_sum-requires-clause-nets : goal.add_sum-requires-clause-nets
add_sum-requires-clause-nets c =
    let old = c.args.dst.now in
    let w = word_nets c.args.word.now in
    let j = c.loop-j.j in
    let check = (get_or c.deref-check-items.result.now j (record { 0 = 0 })).0 in
    let at = number_at c.deref-check-items.result.now c.args.word.now.checks.items j (record { 0 = 0 }) c.deref-check-items.ensures.0 c.loop-j-test.true in
    let grows = column_grows c.args.code.now w old c.loop-j.dst c.args.alarm.0 j check c.requires.alarm c.loop-j.invariant.gates at in
    let Below : ℕ → Type 0 = λ n. n < net_count old in
    let below = all_at Below w.checks j check (checks_hold Below w c.requires.nets) at in
    (omega arith, subst (λ (ns : List NetId). AllByRecursion (λ n. n < net_count c.loop-j.dst) (map net_number ns)) (sym c.deref.ensures.0) (all_more (net_count old) (net_count c.loop-j.dst) w.places grows (places_hold Below w c.requires.nets)))

pub add_sum-requires-clause-room : goal.add_sum-requires-clause-room
add_sum-requires-clause-room c =
    let old = c.args.dst.now in
    let w = word_nets c.args.word.now in
    let j = c.loop-j.j in
    let check = (get_or c.deref-check-items.result.now j (record { 0 = 0 })).0 in
    let at = number_at c.deref-check-items.result.now c.args.word.now.checks.items j (record { 0 = 0 }) c.deref-check-items.ensures.0 c.loop-j-test.true in
    let room = column_room c.args.code.now w old c.loop-j.dst c.args.alarm.0 j check c.requires.alarm c.loop-j.invariant.gates at _ c.requires.room in
    let same = ap (λ (ns : List NetId). length (column_roots c.args.code.now j (map net_number ns))) c.deref.ensures.0 in
    omega arith

pub push-requires-clause-reads : goal.push-requires-clause-reads
push-requires-clause-reads c =
    let old = c.args.dst.now in
    let w = word_nets c.args.word.now in
    let j = c.loop-j.j in
    let check = (get_or c.deref-check-items.result.now j (record { 0 = 0 })).0 in
    let at = number_at c.deref-check-items.result.now c.args.word.now.checks.items j (record { 0 = 0 }) c.deref-check-items.ensures.0 c.loop-j-test.true in
    let grows = column_grows c.args.code.now w old c.loop-j.dst c.args.alarm.0 j check c.requires.alarm c.loop-j.invariant.gates at in
    let Below : ℕ → Type 0 = λ n. n < net_count old in
    let below = all_at Below w.checks j check (checks_hold Below w c.requires.nets) at in
    let ns = column_roots c.args.code.now j (map net_number c.deref.result.now) in
    let far = sum_count c.loop-j.dst c.add_sum.new.dst check ns c.in_ok-bit.ensures.gates in
    let bit = c.in_ok-bit.ensures.sum in
    let within = whole_below (net_count c.loop-j.dst) check ns (omega arith) in
    let here = c.loop-j.invariant.alarm in
    (omega arith, (omega arith, tt))

pub push-requires-clause-room : goal.push-requires-clause-room
push-requires-clause-room c =
    let old = c.args.dst.now in
    let w = word_nets c.args.word.now in
    let j = c.loop-j.j in
    let check = (get_or c.deref-check-items.result.now j (record { 0 = 0 })).0 in
    let at = number_at c.deref-check-items.result.now c.args.word.now.checks.items j (record { 0 = 0 }) c.deref-check-items.ensures.0 c.loop-j-test.true in
    let room = column_room c.args.code.now w old c.loop-j.dst c.args.alarm.0 j check c.requires.alarm c.loop-j.invariant.gates at _ c.requires.room in
    let same = ap (λ (ns : List NetId). length (column_roots c.args.code.now j (map net_number ns))) c.deref.ensures.0 in
    let far = sum_count c.loop-j.dst c.add_sum.new.dst check (column_roots c.args.code.now j (map net_number c.deref.result.now)) c.in_ok-bit.ensures.gates in
    omega arith

pub loop-j-preserved : goal.loop-j-preserved
loop-j-preserved c =
    let old = c.args.dst.now in
    let code = c.args.code.now in
    let w = word_nets c.args.word.now in
    let j = c.loop-j.j in
    let check = (get_or c.deref-check-items.result.now j (record { 0 = 0 })).0 in
    let at = number_at c.deref-check-items.result.now c.args.word.now.checks.items j (record { 0 = 0 }) c.deref-check-items.ensures.0 c.loop-j-test.true in
    let bit = column_bit code (map net_number c.deref.result.now) (j, check) in
    let next = column_next code w old c.loop-j.dst c.args.alarm.0 j check c.requires.alarm c.loop-j.invariant.gates at
    ∙ ap (λ (ns : List NetId). take j (syndrome_bits code w) ++ column_bit code (map net_number ns) (j, check) ∷ []) (sym c.deref.ensures.0) in
    let number = c.in_ok-alarm.ensures.number in
    let far = grown_count c.add_sum.new.dst c.push.new.self (two 14 c.loop-j.alarm.0 c.in_ok-bit.bit.0 ∷ []) c.in_ok-alarm.ensures.ok in
    record {
      gates = alarm_step old c.loop-j.dst c.add_sum.new.dst c.push.new.self c.args.alarm.0 c.loop-j.alarm.0 c.in_ok-bit.bit.0 (take j (syndrome_bits code w)) _ bit c.requires.alarm c.loop-j.invariant.gates c.loop-j.invariant.alarm c.in_ok-bit.ensures.gates c.in_ok-bit.ensures.sum c.in_ok-alarm.ensures.ok next;
      alarm = omega arith;
    }

pub returns-clause-gates : goal.returns-clause-gates
returns-clause-gates c =
    let old = c.args.dst.now in
    let w = word_nets c.args.word.now in
    let bits = syndrome_bits c.args.code.now w in
    let long = bits_length c.args.code.now w.places 0 w.checks in
    let numbers = length-map c.args.word.now.checks.items net_number in
    let items = ap length c.deref-check-items.ensures.0 in
    let all = take_all c.loop-j.j bits (omega (arith, c.loop-j-test.false)) in
    c.loop-j.invariant.gates ∙ ap (λ (ss : List SyndromeBit). record old { gates = old.gates ++ alarm_gates c.args.alarm.0 ss }) all
