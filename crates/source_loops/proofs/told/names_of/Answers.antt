use Rattle.std.proofs.Common.{sym, [], arith}
use Rattle.std.proofs.lemmas.Option.{get_or_from_slice_get}
use Rattle.netlist_spec.specs.Netlist.{IsName}
use Rattle.source_nets.proofs.SurveyLemmas.{all_at}
use Rattle.source_loops.proofs.ToldLemmas.{no_more, name_more}
use Rattle.source_loops.proofs.told.names_of.Goals as goal

pub prove-unreachable-requires : goal.prove-unreachable-requires
prove-unreachable-requires c =
    omega (arith, c.if-prove.true, c.len-count.ensures.count, no_more c.args.all.now c.len-count.ensures.are_names.distinct c.args.nets.now c.requires.within c.requires.once)

pub intern-requires-clause-some : goal.intern-requires-clause-some
intern-requires-clause-some c = (all_at IsName c.args.all.now _ c.get.result.now c.len-count.ensures.are_names.each c.get.ensures).0

pub intern-requires-clause-short : goal.intern-requires-clause-short
intern-requires-clause-short c = (all_at IsName c.args.all.now _ c.get.result.now c.len-count.ensures.are_names.each c.get.ensures).1

pub loop-net-preserved : goal.loop-net-preserved
loop-net-preserved c =
    name_more c.args.all.now c.len-count.ensures.are_names.distinct c.args.nets.now c.requires.within c.requires.once c.loop-net.net-index 0 c.get.result.now c.loop-net.names c.intern.new.self c.loop-net-test.true
    (sym (get_or_from_slice_get c.args.all.now _ c.get.result.now [] c.get.ensures)) c.loop-net.invariant c.in_ok-intern.ensures.names
