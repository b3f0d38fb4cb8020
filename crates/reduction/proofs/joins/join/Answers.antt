use Rattle.std.proofs.Common.{sym, ◌∙◌, ap, subst, ◌+◌, ◌*◌, Bool, Option, Some, None}
use Rattle.gate_net.specs.GateNet.{net_count}
use Rattle.reduction.proofs.GateReads.{reads_of_push, allowed_self}
use Rattle.netlist_spec.specs.Covers.{has_bit, differ}
use Rattle.netlist_spec.specs.Gates.{bit_number, two, one}
use Rattle.gate_net.specs.declared.gate.NetId.{NetId}
use Rattle.reduction.specs.Appended.{ReadsInputsAlone, bit_so_far, nets_joined}
use Rattle.reduction.proofs.Appended.{bit_of_push, first_answer}
use Rattle.reduction.proofs.joins.join.Goals as goal

pub returns-in-Some-clause-bit : goal.returns-in-Some-clause-bit
returns-in-Some-clause-bit c =
    bit_of_push c.args.net.now c.push.new.self (two c.args.op c.in-Some.m.0 c.args.n.0) _ c.push.result c.push.ensures.ok c.push.ensures.number
    (λ v. ap (λ (o : Option NetId). has_bit c.args.op (2 * bit_number (bit_so_far c.args.empty o v) + bit_number (v c.args.n.0))) (sym c.in-Some.is))

pub returns-in-None-clause-bit : goal.returns-in-None-clause-bit
returns-in-None-clause-bit c =
    bit_of_push c.args.net.now c.push-in-None.new.self (one c.answer.result c.args.n.0) _ c.push-in-None.result c.push-in-None.ensures.ok c.push-in-None.ensures.number
    (λ v.
    ap (λ (b : Bool). differ b (v c.args.n.0)) c.answer.ensures
    ∙ (first_answer c.args.op c.args.empty (v c.args.n.0) c.requires.first
    ∙ ap (λ (o : Option NetId). has_bit c.args.op (2 * bit_number (bit_so_far c.args.empty o v) + bit_number (v c.args.n.0))) (sym c.in-None.is)))

pub returns-in-Some-clause-reads : goal.returns-in-Some-clause-reads
returns-in-Some-clause-reads c =
    let P : Option NetId → Type 0 = λ o. ReadsInputsAlone c.args.net.now c.push.new.self (nets_joined o c.args.n) in
    subst P (sym c.in-Some.is)
    (reads_of_push c.args.net.now c.push.new.self (two c.args.op c.in-Some.m.0 c.args.n.0) (nets_joined (Some c.in-Some.m) c.args.n) c.push.result c.push.ensures.ok c.push.ensures.err
    (allowed_self (nets_joined (Some c.in-Some.m) c.args.n) (net_count c.args.net.now)))

pub returns-in-None-clause-reads : goal.returns-in-None-clause-reads
returns-in-None-clause-reads c =
    let P : Option NetId → Type 0 = λ o. ReadsInputsAlone c.args.net.now c.push-in-None.new.self (nets_joined o c.args.n) in
    subst P (sym c.in-None.is)
    (reads_of_push c.args.net.now c.push-in-None.new.self (one c.answer.result c.args.n.0) (nets_joined None c.args.n) c.push-in-None.result c.push-in-None.ensures.ok c.push-in-None.ensures.err
    (allowed_self (nets_joined None c.args.n) (net_count c.args.net.now)))
