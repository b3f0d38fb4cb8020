-- The place is put at the nets so far.
use Rattle.std.proofs.Common.{take}
use Rattle.source_loops.specs.Drivers.{Puts}
use Rattle.source_loops.proofs.drivers.put_driver.Given as goal

abbrev pub invariant-loop-id : goal.invariant-loop-id
invariant-loop-id l = Puts (take l.id-index l.nets) l.place l.initial.drivers l.drivers
