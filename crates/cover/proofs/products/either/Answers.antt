use Rattle.std.proofs.Common.{sym, ◌∙◌, ap, subst, false, ◌||◌, Option, Some}
use Rattle.netlist_spec.specs.Gates.{two}
use Rattle.gate_net.specs.declared.gate.NetId.{NetId}
use Rattle.reduction.specs.Appended.{ReadsInputsAlone, bit_so_far, nets_joined}
use Rattle.gate_net.specs.GateNet.{net_count}
use Rattle.reduction.proofs.GateReads.{reads_same, reads_of_push, allowed_self}
use Rattle.reduction.proofs.Appended.{bit_of_push}
use Rattle.cover.proofs.Rows.{or_answer}
use Rattle.cover.proofs.products.either.Goals as goal

pub returns-in-Some-clause-bit : goal.returns-in-Some-clause-bit
returns-in-Some-clause-bit c =
    bit_of_push c.args.net.now c.push.new.self (two 14 c.in-Some.any.0 c.args.fits.0) _ c.push.result c.push.ensures.ok c.push.ensures.number
    (λ v. or_answer (v c.in-Some.any.0) (v c.args.fits.0) ∙ ap (λ (o : Option NetId). bit_so_far false o v || v c.args.fits.0) (sym c.in-Some.is))

pub returns-in-Some-clause-reads : goal.returns-in-Some-clause-reads
returns-in-Some-clause-reads c =
    let P : Option NetId → Type 0 = λ o. ReadsInputsAlone c.args.net.now c.push.new.self (nets_joined o c.args.fits) in
    subst P (sym c.in-Some.is)
    (reads_of_push c.args.net.now c.push.new.self (two 14 c.in-Some.any.0 c.args.fits.0) (nets_joined (Some c.in-Some.any) c.args.fits) c.push.result c.push.ensures.ok c.push.ensures.err
    (allowed_self (nets_joined (Some c.in-Some.any) c.args.fits) (net_count c.args.net.now)))

pub returns-in-None-clause-reads : goal.returns-in-None-clause-reads
returns-in-None-clause-reads c = reads_same c.args.net.now (nets_joined c.args.any c.args.fits)
