-- The nets so far have their numbers.
use Rattle.std.proofs.Common.{◌≡◌, ◌+◌, ◌≤◌, map, take, length}
use Rattle.netlist_spec.specs.Written.{net_name}
use Rattle.gate_net.specs.Gate.{net_number}
use Rattle.blif_read.specs.Spelled.{AreNumbers, with_names}
use Rattle.blif_write.proofs.numbers.net_numbers.Given as goal

abbrev pub invariant-loop-n : goal.invariant-loop-n
invariant-loop-n l =
    record {
      names : l.names ≡ with_names l.initial.names (map (net_name l.g) (map net_number (take l.n-index l.nets)));
      numbers : AreNumbers l.names l.numbers.items (map (net_name l.g) (map net_number (take l.n-index l.nets)));
      few : length l.names ≤ length l.initial.names + l.n-index;
    }
