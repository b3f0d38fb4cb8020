use Rattle.std.proofs.Common.{ℕ}
use Rattle.net_cycles.specs.Cycles.{IsFirstOnCycle, IsOnCycle}
use Rattle.source_models.proofs.CycleLemmas.{first_of_part, part_is_graph, some_in_part}
use Rattle.source_models.proofs.sort.first_of_marked.Goals as goal

pub first_on_cycle-requires : goal.first_on_cycle-requires
first_on_cycle-requires c = part_is_graph c.args.graph.now c.in_ok-part.part c.args.marks.now c.requires.graph c.requires.marks c.requires.closed c.in_ok-part.ensures

pub unreachable-requires : goal.unreachable-requires
unreachable-requires c =
    let none : (i : ℕ) → IsOnCycle c.in_ok-part.part i → ⊥ = rw c.in-None.is at c.in_ok-first.ensures.none in
    some_in_part c.args.graph.now c.in_ok-part.part c.args.marks.now c.requires.graph c.requires.marks c.requires.closed c.in_ok-part.ensures c.requires.some none

pub returns : goal.returns
returns c =
    let first : IsFirstOnCycle c.in_ok-part.part c.in-Some.node = rw c.in-Some.is at c.in_ok-first.ensures.first in
    first_of_part c.args.graph.now c.in_ok-part.part c.args.marks.now c.requires.graph c.requires.marks c.requires.closed c.in_ok-part.ensures c.in-Some.node first
