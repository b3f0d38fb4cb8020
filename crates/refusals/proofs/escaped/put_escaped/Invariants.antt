-- The pieces so far were put whole, and the rest of the name is still to come.
use Rattle.std.proofs.Common.{◌≡◌, ℕ, List, ◌++◌, Ok}
use Rattle.std.specs.List.{flat_map}
use Rattle.std.specs.Slice.Iter.{chunks_rest, chunks_size}
use Rattle.imp_io.specs.Sink.{Puts}
use Rattle.netlist_spec.specs.Escapes.{escape}
use Rattle.refusals.proofs.escaped.put_escaped.Given as goal

abbrev pub invariant-loop-chunk : goal.invariant-loop-chunk
invariant-loop-chunk g l =
    (goal.iterator-loop-chunk g).can_next l.chunk-iterator
    × (goal.iterator-loop-chunk g).is_finite l.chunk-iterator
    × (chunks_size l.chunk-iterator ≡ 256)
    × ((done : List ℕ) × Puts {T = Unit {0}} (g.E.Sink.seen l.initial.err) done (Ok tt) (g.E.Sink.seen l.err)
    × (done ++ flat_map escape (chunks_rest l.chunk-iterator) ≡ flat_map escape l.name))
