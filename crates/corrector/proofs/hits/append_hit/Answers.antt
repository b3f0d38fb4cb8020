use Rattle.std.proofs.Common.{◌∙◌, ap, ◌<◌, ◌&&◌, Bool, List, ◌∷◌, ℕ, inl, map, get_or, arith}
use Rattle.std.specs.Bool.{beq}
use Rattle.std.proofs.lemmas.List.{take_all}
use Rattle.netlist_spec.specs.Covers.{has_bit}
use Rattle.netlist_spec.specs.Gates.{two}
use Rattle.gate_net.specs.declared.gate.NetId.{NetId}
use Rattle.gate_net.specs.Gate.{net_number}
use Rattle.gate_net.specs.GateNet.{net_count}
use Rattle.cone_split.proofs.Cells.{contains_head, contains_tail}
use Rattle.reduction.proofs.Appended.{count_grows}
use Rattle.reduction.proofs.GateReads.{input_at}
use Rattle.reduction.proofs.Inputs.{each_at, bits_at}
use Rattle.corrector.specs.Hits.{spells}
use Rattle.corrector.proofs.Computed.{computed_given, computed_same, computed_push, extends_as, count_pushed}
use Rattle.corrector.proofs.HitBits.{no_bits, hit_more}
use Rattle.corrector.proofs.hits.append_hit.Goals as goal

pub loop-j-init : goal.loop-j-init
loop-j-init c = record {
  computed = computed_same c.args.net.now c.args.net.now _ c.args.always.0 (λ v. v c.args.always.0) _ (λ v. no_bits (v c.args.always.0) c.args.wanted.0) (computed_given c.args.net.now _ c.args.always.0 (contains_head c.args.always.0 (map net_number c.args.syndrome.now)) c.requires.nets.0);
  cost = omega arith;
}

pub push-requires-clause-reads : goal.push-requires-clause-reads
push-requires-clause-reads c =
    let place = each_at (λ n. n < net_count c.args.net.now) c.args.syndrome.now c.loop-j.j (record { 0 = 0 }) c.requires.nets.1 c.loop-j-test.true in
    let grown = count_grows c.args.net.now c.loop-j.net c.loop-j.invariant.computed.extends in
    (c.loop-j.invariant.computed.below, (omega arith, tt))

pub loop-j-preserved : goal.loop-j-preserved
loop-j-preserved c =
    let syndrome = c.args.syndrome.now in
    let always = c.args.always.0 in
    let j = c.loop-j.j in
    let n = (get_or syndrome j (record { 0 = 0 })).0 in
    let wanted = c.bit.ensures ∙ ap (λ (k : ℕ). has_bit k j) c.from.ensures in
    record {
      computed =
          computed_push c.args.net.now c.loop-j.net c.push.new.self (always ∷ map net_number syndrome) c.loop-j.all.0 n c.literal-op.result c.in_ok-all.all.0 _ _ c.in_ok-all.ensures.ok c.in_ok-all.ensures.number
          (inl (contains_tail always n (map net_number syndrome) (input_at syndrome j (record { 0 = 0 }) c.loop-j-test.true)))
          (λ v _. hit_more c.args.wanted.0 v syndrome j (record { 0 = 0 }) always c.literal-op.result c.loop-j-test.true (λ a b. c.literal-op.ensures a b ∙ ap (λ (x : Bool). a && beq b x) wanted))
          c.loop-j.invariant.computed;
      cost = let one = count_pushed c.loop-j.net c.push.new.self (two c.literal-op.result c.loop-j.all.0 n) c.in_ok-all.ensures.ok in let cost = c.loop-j.invariant.cost in omega arith;
    }

pub returns-in_err-all-clause-extends : goal.returns-in_err-all-clause-extends
returns-in_err-all-clause-extends c = extends_as c.args.net.now c.loop-j.net c.push.new.self c.in_err-all.ensures.err c.loop-j.invariant.computed.extends

pub returns-clause-computed : goal.returns-clause-computed
returns-clause-computed c =
    computed_same c.args.net.now c.loop-j.net _ c.loop-j.all.0 _ _ (λ v. ap (λ (ns : List NetId). v c.args.always.0 && spells c.args.wanted.0 (bits_at v ns)) (take_all c.loop-j.j c.args.syndrome.now c.loop-j-test.false)) c.loop-j.invariant.computed

pub returns-clause-cost : goal.returns-clause-cost
returns-clause-cost c = let cost = c.loop-j.invariant.cost in omega arith

pub returns-clause-extends : goal.returns-clause-extends
returns-clause-extends c = c.loop-j.invariant.computed.extends
