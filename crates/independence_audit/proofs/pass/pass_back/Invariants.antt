-- The statements from this one on are done.
use Rattle.std.proofs.Common.{List, [], drop}
use Rattle.netlist_spec.specs.Netlist.{Model}
use Rattle.netlist_spec.specs.Models.{output_nets}
use Rattle.line_order.specs.Marks.{Marks}
use Rattle.audit_laws.specs.Along.{bits_along}
use Rattle.independence_audit.specs.Kept.{Keeps}
use Rattle.independence_audit.proofs.PassLemmas.{gates_from}
use Rattle.independence_audit.proofs.pass.pass_back.Given as goal

abbrev pub invariant-loop-i : goal.invariant-loop-i
invariant-loop-i l = (m : Model) → Marks m.names l.outputs (output_nets m) → Keeps m.names l.initial.table (bits_along m []) → Keeps m.names l.table (bits_along m (gates_from m.names (drop l.i l.statements)))
