-- None of the statements so far has a port that is wrong or not given.
use Rattle.std.proofs.Common.{◌≡◌, drop}
use Rattle.netlist_spec.specs.FileOrder.{a_statement}
use Rattle.netlist_spec.specs.SoundFaults.{bad_port_at}
use Rattle.blif_read.specs.declared.file.Located.{Located}
use Rattle.blif_read.specs.View.{statement_of}
use Rattle.source_nets.specs.Ports.{source_file, source_library}
use Rattle.source_placements.proofs.FirstLemmas.{first_some}
use Rattle.source_placements.proofs.ports.bad_port.Given as goal

abbrev pub invariant-loop-i : goal.invariant-loop-i
invariant-loop-i l =
    first_some (λ (s : Located). bad_port_at (source_file l.source) (source_library l.source) (a_statement (statement_of l.m.names s.what))) (drop l.i l.s-items)
    ≡ first_some (λ (s : Located). bad_port_at (source_file l.source) (source_library l.source) (a_statement (statement_of l.m.names s.what))) l.s-items
