-- The port words so far are read.
use Rattle.std.proofs.Common.{◌≡◌, ◌+◌, ◌≤◌, take, length, map}
use Rattle.netlist_spec.specs.ReadFaults.{actual_part}
use Rattle.netlist_spec.specs.Said.{word_bind}
use Rattle.blif_read.specs.LineTests.{words_in}
use Rattle.blif_read.specs.Spelled.{AreBinds, with_names}
use Rattle.blif_read.proofs.statement.read_binds.Given as goal

abbrev pub invariant-loop-port : goal.invariant-loop-port
invariant-loop-port l =
    record {
      names : l.names ≡ with_names l.initial.names (map actual_part (words_in (take l.port-index l.ports)));
      binds : AreBinds l.names l.binds.items (map word_bind (words_in (take l.port-index l.ports)));
      few : length l.names ≤ length l.initial.names + l.port-index;
    }
