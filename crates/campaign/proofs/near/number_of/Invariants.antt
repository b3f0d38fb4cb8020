-- The number of the bits from this one on.
use Rattle.std.proofs.Common.{◌≡◌, ◌<◌, ◌-◌, ◌^◌, drop, length}
use Rattle.netlist_spec.specs.Covers.{number_of}
use Rattle.campaign.proofs.near.number_of.Given as goal

abbrev pub invariant-loop-i : goal.invariant-loop-i
invariant-loop-i l =
    record {
      number : l.number ≡ number_of (drop l.i l.bits);
      small : l.number < 2 ^ (length l.bits - l.i);
    }
