-- None of the ports so far is missing.
use Rattle.std.proofs.Common.{◌≡◌, drop, not}
use Rattle.std.specs.Bool.{then_some}
use Rattle.netlist_spec.specs.Netlist.{stands_in}
use Rattle.blif_read.specs.declared.file.Port.{Port}
use Rattle.blif_read.specs.View.{name_at}
use Rattle.source_placements.proofs.FirstLemmas.{first_some}
use Rattle.source_placements.proofs.missing.missing_among.Given as goal

abbrev pub invariant-loop-port : goal.invariant-loop-port
invariant-loop-port l =
    first_some (λ (p : Port). then_some (not (stands_in (name_at l.names p.name) l.given)) (name_at l.names p.name)) (drop l.port-index l.ports)
    ≡ first_some (λ (p : Port). then_some (not (stands_in (name_at l.names p.name) l.given)) (name_at l.names p.name)) l.ports
