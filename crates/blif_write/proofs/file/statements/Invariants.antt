-- The statements so far are spelled, on their lines.
use Rattle.std.proofs.Common.{◌≡◌, ◌+◌, ◌*◌, ◌-◌, ◌≤◌, ◌++◌, take, length, sum_by}
use Rattle.std.specs.List.{flat_map}
use Rattle.netlist_spec.specs.Reads.{statement_nets}
use Rattle.netlist_spec.specs.Written.{gate_statements, latch_statements, line_count, statements_from}
use Rattle.blif_read.specs.Spelled.{SpellsEach, with_names}
use Rattle.blif_write.proofs.file.statements.Given as goal

abbrev pub invariant-loop-n : goal.invariant-loop-n
invariant-loop-n l =
    record {
      names : l.names ≡ with_names l.initial.names (flat_map statement_nets (take (l.n - l.g.data_inputs) (latch_statements l.g ++ gate_statements l.g)));
      spells : SpellsEach l.names l.statements.items (statements_from l.first (take (l.n - l.g.data_inputs) (latch_statements l.g ++ gate_statements l.g)));
      line : l.line ≡ l.first + sum_by line_count (take (l.n - l.g.data_inputs) (latch_statements l.g ++ gate_statements l.g));
      low : l.line ≤ l.first + 5 * (l.n - l.g.data_inputs);
      few : length l.names ≤ length l.initial.names + 3 * (l.n - l.g.data_inputs);
    }
