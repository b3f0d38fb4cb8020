-- No port so far is reserved.
use Rattle.std.proofs.Common.{◌≡◌, drop}
use Rattle.main_check.proofs.Firsts.{first_some}
use Rattle.main_check.proofs.NameLemmas.{reserved_at}
use Rattle.main_check.proofs.reserved.reserved_port.Given as goal

abbrev pub invariant-loop-port : goal.invariant-loop-port
invariant-loop-port l = first_some (reserved_at l.names) (drop l.port-index l.ports) ≡ first_some (reserved_at l.names) l.ports
