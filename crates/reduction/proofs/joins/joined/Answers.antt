use Rattle.std.proofs.Common.{sym, ap, Option, []}
use Rattle.gate_net.specs.GateNet.{net_count}
use Rattle.reduction.proofs.GateReads.{reads_same, reads_of_push, allowed_self}
use Rattle.netlist_spec.specs.Gates.{constant}
use Rattle.gate_net.specs.declared.gate.NetId.{NetId}
use Rattle.reduction.specs.Appended.{bit_so_far}
use Rattle.reduction.proofs.Appended.{bit_of_push}
use Rattle.reduction.proofs.joins.joined.Goals as goal

pub returns-in-None-clause-bit : goal.returns-in-None-clause-bit
returns-in-None-clause-bit c =
    bit_of_push c.args.net.now c.push.new.self (constant c.args.empty) _ c.push.result c.push.ensures.ok c.push.ensures.number
    (λ v. ap (λ (o : Option NetId). bit_so_far c.args.empty o v) (sym c.in-None.is))

pub returns-in-Some-clause-reads : goal.returns-in-Some-clause-reads
returns-in-Some-clause-reads c = reads_same c.args.net.now []

pub returns-in-None-clause-reads : goal.returns-in-None-clause-reads
returns-in-None-clause-reads c =
    reads_of_push c.args.net.now c.push.new.self (constant c.args.empty) [] c.push.result c.push.ensures.ok c.push.ensures.err (allowed_self [] (net_count c.args.net.now))
