-- The number of the bits of the places from this one on.
use Rattle.std.proofs.Common.{◌≡◌, ◌<◌, ◌-◌, ◌^◌, drop, length, map}
use Rattle.gate_net.specs.declared.machine.LatchRow.{LatchRow}
use Rattle.netlist_spec.specs.Covers.{number_of}
use Rattle.guard_spec.specs.Words.{bits_at}
use Rattle.encode_state.proofs.inits.data_inits.Given as goal

abbrev pub invariant-loop-i : goal.invariant-loop-i
invariant-loop-i l =
    record {
      number : l.number ≡ number_of (bits_at (drop l.i l.word) (map (λ (r : LatchRow). r.init) l.latches));
      small : l.number < 2 ^ (length l.word - l.i);
    }
