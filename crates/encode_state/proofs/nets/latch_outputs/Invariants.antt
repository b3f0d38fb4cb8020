-- The nets of the latches so far.
use Rattle.std.proofs.Common.{◌≡◌, take}
use Rattle.std.specs.Prelude.{filter_map}
use Rattle.blif_read.specs.declared.file.Located.{Located}
use Rattle.encode_state.specs.Nets.{shown_id}
use Rattle.encode_state.proofs.nets.latch_outputs.Given as goal

abbrev pub invariant-loop-s : goal.invariant-loop-s
invariant-loop-s l = l.ids.items ≡ filter_map (λ (s : Located). shown_id s.what) (take l.s-index l.m.statements.items)
