use Rattle.std.proofs.Common.{arith}
use Rattle.net_cycles.proofs.RootLemmas.{roots_closed, roots_end}
use Rattle.net_cycles.proofs.roots.find_roots.Goals as goal

pub gather-requires-clause-closed : goal.gather-requires-clause-closed
gather-requires-clause-closed c = roots_closed c.args.back.now c.args.order.now c.loop-place.place c.loop-place.roots.marks.items c.loop-place.roots.roots.items c.loop-place.invariant

pub returns : goal.returns
returns c =
    roots_end c.args.back.now c.args.order.now c.loop-place.place c.loop-place.roots.marks.items c.loop-place.roots.roots.items (omega arith) c.requires.each c.loop-place.invariant
