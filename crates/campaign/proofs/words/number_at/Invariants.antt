-- The number of the bits of the places from this one on.
use Rattle.std.proofs.Common.{◌≡◌, ◌<◌, ◌-◌, ◌^◌, drop, length}
use Rattle.netlist_spec.specs.Covers.{number_of}
use Rattle.guard_spec.specs.Words.{bits_at}
use Rattle.campaign.proofs.words.number_at.Given as goal

abbrev pub invariant-loop-i : goal.invariant-loop-i
invariant-loop-i l =
    record {
      number : l.number ≡ number_of (bits_at (drop l.i l.word) l.bits);
      small : l.number < 2 ^ (length l.word - l.i);
    }
