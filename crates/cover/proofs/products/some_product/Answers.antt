use Rattle.std.proofs.Common.{ap, map, arith, List}
use Rattle.std.proofs.lemmas.List.{take_all}
use Rattle.std.specs.List.{list_any}
use Rattle.netlist_spec.specs.Netlist.{Row}
use Rattle.netlist_spec.specs.Covers.{row_fits}
use Rattle.imp_text.specs.declared.cover.Row.{Row as TextRow}
use Rattle.gate_net.specs.Gate.{net_number}
use Rattle.gate_net.specs.GateNet.{net_count}
use Rattle.reduction.proofs.GateReads.{reads_further, reads_closed, allowed_self}
use Rattle.reduction.proofs.Appended.{joined_same, value_joined}
use Rattle.reduction.proofs.Inputs.{bits_at}
use Rattle.cover.specs.Cover.{row_of}
use Rattle.cover.proofs.Rows.{some_more, some_reads}
use Rattle.cover.proofs.products.some_product.Goals as goal

pub loop-row-preserved : goal.loop-row-preserved
loop-row-preserved c = record {
  joined =
      some_more c.args.net.now c.loop-row.net c.product.new.net c.either.new.net c.args.rows.now c.args.ins.now c.loop-row.row-index _ c.loop-row-test.true c.loop-row.any c.in_ok-fits.fits c.in_ok-either.field-0
      c.in_ok-fits.ensures.extends c.in_ok-fits.ensures.appended.0 c.in_ok-fits.ensures.value c.in_ok-either.ensures.extends c.in_ok-either.ensures.net c.in_ok-either.ensures.bit c.loop-row.invariant.joined;
  reads = some_reads c.args.net.now c.loop-row.net c.product.new.net c.either.new.net (map net_number c.args.ins.now) c.loop-row.any c.in_ok-fits.fits _ c.loop-row.invariant.joined c.loop-row.invariant.reads c.in_ok-fits.ensures.extends c.in_ok-fits.ensures.appended.0 c.in_ok-fits.ensures.reads c.in_ok-either.ensures.extends c.in_ok-either.ensures.reads;
  cost = let a = c.in_ok-fits.ensures.cost in let b = c.in_ok-either.ensures.cost in omega arith;
}

pub returns-clause-value : goal.returns-clause-value
returns-clause-value c =
    value_joined c.args.net.now c.loop-row.net c.joined.new.net _ c.loop-row.any _ c.joined.result
    (joined_same c.args.net.now c.loop-row.net _ c.loop-row.any _ (λ v. list_any (λ (r : Row). row_fits r (bits_at v c.args.ins.now)) (map row_of c.args.rows.now))
    (λ v. ap (λ (rows : List TextRow). list_any (λ (r : Row). row_fits r (bits_at v c.args.ins.now)) (map row_of rows)) (take_all c.loop-row.row-index c.args.rows.now c.loop-row-test.false)) c.loop-row.invariant.joined)
    c.joined.ensures.extends c.joined.ensures.bit

pub returns-in_err-fits-clause-reads : goal.returns-in_err-fits-clause-reads
returns-in_err-fits-clause-reads c =
    let ins = map net_number c.args.ins.now in
    reads_further c.args.net.now c.loop-row.net c.product.new.net ins ins c.loop-row.invariant.joined.extends c.in_err-fits.ensures.extends (allowed_self ins (net_count c.args.net.now)) c.loop-row.invariant.reads c.in_err-fits.ensures.reads

pub returns-in_err-either-clause-reads : goal.returns-in_err-either-clause-reads
returns-in_err-either-clause-reads c =
    some_reads c.args.net.now c.loop-row.net c.product.new.net c.either.new.net (map net_number c.args.ins.now) c.loop-row.any c.in_ok-fits.fits _ c.loop-row.invariant.joined c.loop-row.invariant.reads c.in_ok-fits.ensures.extends c.in_ok-fits.ensures.appended.0 c.in_ok-fits.ensures.reads c.in_err-either.ensures.extends c.in_err-either.ensures.reads

pub returns-clause-reads : goal.returns-clause-reads
returns-clause-reads c =
    reads_closed c.args.net.now c.loop-row.net c.joined.new.net (map net_number c.args.ins.now) c.loop-row.invariant.joined.extends c.loop-row.invariant.reads c.joined.ensures.extends c.joined.ensures.reads
