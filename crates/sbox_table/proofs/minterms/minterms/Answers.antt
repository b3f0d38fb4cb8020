use Rattle.std.proofs.Common.{◌≡◌, ◌==◌, sym, ◌∙◌, ap, ◌+◌, ◌*◌, ◌^◌, ◌<◌, ◌∷◌, [], ◌++◌, ◌&&◌, true, not, List, Bool, take, map, length, get_or, subst, arith}
use Rattle.std.proofs.lemmas.List.{length_push, length-map, length-take-le}
use Rattle.std.proofs.lemmas.Nat.{pow_pos}
use Rattle.std.specs.List.{AllByRecursion, range_with_len}
use Rattle.netlist_spec.specs.Covers.{number_of}
use Rattle.netlist_spec.specs.Gates.{constant}
use Rattle.gate_net.specs.declared.gate.NetId.{NetId}
use Rattle.gate_net.specs.Gate.{net_number}
use Rattle.gate_net.specs.GateNet.{net_count}
use Rattle.reduction.proofs.Appended.{count_grows}
use Rattle.reduction.proofs.Inputs.{each_at, bits_at, bits_more}
use Rattle.reduction.proofs.Outputs.{AreAnswered, answered_none, answered_push, answered_same, answered_over, are_nets}
use Rattle.reduction.proofs.GateReads.{reads_of_push, allowed_none}
use Rattle.sbox_table.proofs.MintermReads.{input_read}
use Rattle.sbox_table.proofs.Numbers.{tests_more, cost_bound, double}
use Rattle.sbox_table.proofs.minterms.minterms.Goals as goal

pub returns-in_err-push-2-clause-cost : goal.returns-in_err-push-2-clause-cost
returns-in_err-push-2-clause-cost c =
    let some = pow_pos (length c.args.ins.now) in
    let e = ap net_count c.in_ok-push.ensures.ok in
    let h = length_push c.args.net.now.gates (constant true) in
    omega arith

pub loop-n-init : goal.loop-n-init
loop-n-init c =
    let items : c.push-2.new.self.items ≡ c.in_ok-push.field-0 ∷ [] = c.in_ok-push-2.ensures.items ∙ ap (λ all. all ++ c.in_ok-push.field-0 ∷ []) c.new-all.ensures.items in
    record {
      count = ap length items;
      answered =
          let P : List NetId → Type 0 = λ all. AreAnswered c.args.net.now c.push.new.self all (λ v. true ∷ []) in
          subst P (sym items) (answered_push c.args.net.now c.args.net.now c.push.new.self [] c.in_ok-push.field-0 (constant true) (λ v. []) c.in_ok-push.ensures.ok c.in_ok-push.ensures.number (answered_none c.args.net.now));
      reads = reads_of_push c.args.net.now c.push.new.self (constant true) (map net_number c.args.ins.now) c.push.result c.push.ensures.ok c.push.ensures.err (allowed_none (map net_number c.args.ins.now) (net_count c.args.net.now));
      cost =
          let e = ap net_count c.in_ok-push.ensures.ok in
          let h = length_push c.args.net.now.gates (constant true) in
          omega arith;
    }

pub with_input-requires-clause-terms : goal.with_input-requires-clause-terms
with_input-requires-clause-terms c =
    let P : List NetId → Type 0 = λ terms. AllByRecursion (λ n. n < net_count c.loop-n.net) (map net_number terms) in
    subst P (sym c.deref.ensures.value) (are_nets c.args.net.now c.loop-n.net c.loop-n.all.items c.loop-n.invariant.answered.appended)

pub with_input-requires-clause-n : goal.with_input-requires-clause-n
with_input-requires-clause-n c =
    let below = each_at (λ n. n < net_count c.args.net.now) c.args.ins.now c.loop-n.n-index (record { 0 = 0 }) c.requires.nets c.loop-n-test.true in
    let more = count_grows c.args.net.now c.loop-n.net c.loop-n.invariant.answered.extends in
    omega arith

pub with_input-requires-clause-room : goal.with_input-requires-clause-room
with_input-requires-clause-room c =
    let long = ap length c.deref.ensures.value ∙ c.loop-n.invariant.count in
    let within = cost_bound c.loop-n.n-index (length c.args.ins.now) (net_count c.args.net.now) (net_count c.loop-n.net) (net_count c.loop-n.net + 2 * length c.deref.result.now) (length c.deref.result.now) c.loop-n-test.true long c.loop-n.invariant.cost (omega arith) in
    let room = c.requires.room in
    omega arith

pub returns-in_err-all-clause-cost : goal.returns-in_err-all-clause-cost
returns-in_err-all-clause-cost c =
    let long = ap length c.deref.ensures.value ∙ c.loop-n.invariant.count in
    let within = cost_bound c.loop-n.n-index (length c.args.ins.now) (net_count c.args.net.now) (net_count c.loop-n.net) (net_count c.with_input.new.net) (length c.deref.result.now) c.loop-n-test.true long c.loop-n.invariant.cost c.with_input.ensures.cost in
    omega arith

pub loop-n-preserved : goal.loop-n-preserved
loop-n-preserved c =
    let i = c.loop-n.n-index in
    let ins = c.args.ins.now in
    let n = (get_or ins i (record { 0 = 0 })).0 in
    let long : length c.deref.result.now ≡ 2 ^ i = ap length c.deref.ensures.value ∙ c.loop-n.invariant.count in
    let twice = double i in
    record {
      count = let all = c.in_ok-all.ensures.count in omega arith;
      answered =
          answered_same c.args.net.now c.with_input.new.net c.in_ok-all.all.items _ _
          (λ v.
          let front = take i ins in
          let wide : length (bits_at v front) ≡ i = length-map (map net_number front) v ∙ (length-map front net_number ∙ length-take-le i ins (omega arith)) in
          sym
          (ap (λ (bits : List Bool). map (λ k. number_of bits == k) (range_with_len 0 (2 ^ (i + 1)))) (bits_more v ins i (record { 0 = 0 }) c.loop-n-test.true)
          ∙ tests_more (bits_at v front) (v n) i wide))
          (answered_over c.args.net.now c.loop-n.net c.with_input.new.net c.loop-n.all.items c.in_ok-all.all.items _ (λ v bits. map (λ b. b && not (v n)) bits ++ map (λ b. b && v n) bits) c.loop-n.invariant.answered
          (let P : List NetId → Type 0 = λ terms. AreAnswered c.loop-n.net c.with_input.new.net c.in_ok-all.all.items (λ v. map (λ b. b && not (v n)) (bits_at v terms) ++ map (λ b. b && v n) (bits_at v terms)) in
          subst P c.deref.ensures.value (record { extends = c.in_ok-all.ensures.extends; appended = c.in_ok-all.ensures.appended; has = c.in_ok-all.ensures.values })));
      reads = input_read c.args.net.now c.loop-n.net c.with_input.new.net c.args.ins.now c.loop-n.n-index (record { 0 = 0 }) c.loop-n.all.items c.deref.result.now c.loop-n-test.true c.deref.ensures.value c.loop-n.invariant.answered.extends c.loop-n.invariant.answered.appended c.loop-n.invariant.reads c.in_ok-all.ensures.extends c.in_ok-all.ensures.reads;
      cost = let one = c.in_ok-all.ensures.cost in let had = c.loop-n.invariant.cost in omega arith;
    }

pub returns-in_err-push-clause-reads : goal.returns-in_err-push-clause-reads
returns-in_err-push-clause-reads c = reads_of_push c.args.net.now c.push.new.self (constant true) (map net_number c.args.ins.now) c.push.result c.push.ensures.ok c.push.ensures.err (allowed_none (map net_number c.args.ins.now) (net_count c.args.net.now))

pub returns-in_err-push-2-clause-reads : goal.returns-in_err-push-2-clause-reads
returns-in_err-push-2-clause-reads c = reads_of_push c.args.net.now c.push.new.self (constant true) (map net_number c.args.ins.now) c.push.result c.push.ensures.ok c.push.ensures.err (allowed_none (map net_number c.args.ins.now) (net_count c.args.net.now))

pub returns-in_err-all-clause-reads : goal.returns-in_err-all-clause-reads
returns-in_err-all-clause-reads c = input_read c.args.net.now c.loop-n.net c.with_input.new.net c.args.ins.now c.loop-n.n-index (record { 0 = 0 }) c.loop-n.all.items c.deref.result.now c.loop-n-test.true c.deref.ensures.value c.loop-n.invariant.answered.extends c.loop-n.invariant.answered.appended c.loop-n.invariant.reads c.in_err-all.ensures.extends c.in_err-all.ensures.reads
