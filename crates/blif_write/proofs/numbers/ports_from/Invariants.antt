-- The ports so far.
use Rattle.std.proofs.Common.{◌≡◌, take}
use Rattle.blif_write.specs.Numbers.{ports_numbered}
use Rattle.blif_write.proofs.numbers.ports_from.Given as goal

abbrev pub invariant-loop-i : goal.invariant-loop-i
invariant-loop-i l = l.ports.items ≡ ports_numbered l.first (take l.i l.numbers)
