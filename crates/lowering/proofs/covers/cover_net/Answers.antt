use Rattle.std.proofs.Common.{map}
use Rattle.gate_net.specs.Gate.{gate_form, net_number}
use Rattle.gate_net.specs.GateNet.{net_count}
use Rattle.netlist_spec.specs.Gates.{gate_reads}
use Rattle.reduction.proofs.Appended.{bit_of_push}
use Rattle.reduction.proofs.GateReads.{reads_of_push}
use Rattle.lowering.proofs.GateLemmas.{allowed_inputs}
use Rattle.lowering.proofs.covers.cover_net.Goals as goal

pub returns-clause-value : goal.returns-clause-value
returns-clause-value c =
    bit_of_push c.args.net.now c.push.new.self (gate_form c.gate_of_cover.result) _ c.push.result c.push.ensures.ok c.push.ensures.number c.gate_of_cover.ensures.answers

pub returns-clause-reads : goal.returns-clause-reads
returns-clause-reads c =
    reads_of_push c.args.net.now c.push.new.self (gate_form c.gate_of_cover.result) (map net_number c.args.ins.now) c.push.result c.push.ensures.ok c.push.ensures.err
    (allowed_inputs (map net_number c.args.ins.now) (net_count c.args.net.now) (gate_reads (gate_form c.gate_of_cover.result)) c.gate_of_cover.ensures.reads)
