use Rattle.guard_spec.specs.Codes.{rail_count}
use Rattle.size_laws.proofs.SourceCones.{layout_fits_machine}
use Rattle.size_laws.proofs.GateCones.{one_machine_size}
use Rattle.size_laws.proofs.sizes.machines_have_one_size.Goals as goal

pub returns-clause-with : goal.returns-clause-with
returns-clause-with c = one_machine_size

pub returns-clause-plain : goal.returns-clause-plain
returns-clause-plain c = λ m code mode t l. one_machine_size m code mode t (rail_count mode t) l

pub returns-clause-partitions : goal.returns-clause-partitions
returns-clause-partitions c = λ m k l state output. record { state = state.no_other; output = output.no_other }

pub returns-clause-source : goal.returns-clause-source
returns-clause-source c = layout_fits_machine
