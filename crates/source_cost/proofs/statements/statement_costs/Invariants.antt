-- The costs so far.
use Rattle.std.proofs.Common.{◌≡◌, map, take}
use Rattle.netlist_spec.specs.Size.{cost_of}
use Rattle.blif_read.specs.declared.file.Located.{Located}
use Rattle.blif_read.specs.View.{statement_of}
use Rattle.source_nets.specs.Ports.{source_file, source_library}
use Rattle.source_cost.specs.Costs.{cut}
use Rattle.source_cost.proofs.statements.statement_costs.Given as goal

abbrev pub invariant-loop-i : goal.invariant-loop-i
invariant-loop-i l =
    l.costs.items ≡ map (λ (s : Located). cut (cost_of (source_file l.source) (source_library l.source) (statement_of l.m.names s.what))) (take l.i l.m.statements.items)
