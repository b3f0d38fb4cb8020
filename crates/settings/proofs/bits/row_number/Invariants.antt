use Rattle.std.proofs.Common.{◌≡◌, ◌<◌, ◌^◌, take, Some}
use Rattle.guard_spec.specs.Codes.{bits_of}
use Rattle.netlist_spec.specs.Digits.{bit_of_char, each_gives}
use Rattle.settings.proofs.bits.row_number.Given as goal

abbrev pub invariant-loop-j : goal.invariant-loop-j
invariant-loop-j l = (each_gives bit_of_char (take l.j l.text) ≡ Some (bits_of l.j l.row)) × (l.row < 2 ^ l.j)
