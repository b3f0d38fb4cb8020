-- The reads so far are done.
use Rattle.std.proofs.Common.{◌≡◌, List, map, take}
use Rattle.netlist_spec.specs.Netlist.{Model}
use Rattle.netlist_spec.specs.Models.{Gate, output_nets}
use Rattle.blif_read.specs.View.{name_at}
use Rattle.line_order.specs.Marks.{Marks}
use Rattle.audit_laws.specs.Along.{bits_along, bits_partly}
use Rattle.independence_audit.specs.Kept.{Keeps, first_bits}
use Rattle.independence_audit.proofs.pass.pass_reads.Given as goal

abbrev pub invariant-loop-id : goal.invariant-loop-id
invariant-loop-id l = (m : Model) (later : List Gate) (g : Gate) → Marks m.names l.outputs (output_nets m) → first_bits l.bits ≡ bits_along m later g.out
    → Keeps m.names l.initial.table (bits_along m later) → Keeps m.names l.table (bits_partly m later g (map (name_at m.names) (take l.id-index l.ins)))
