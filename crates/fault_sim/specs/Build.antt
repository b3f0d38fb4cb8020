-- What statements give a simulator.
use Rattle.std.specs.Prelude.{Option, None, Some}
use Rattle.netlist_spec.specs.Models.{init_bit}
use Rattle.imp_text.specs.declared.names.NameId.{NameId}
use Rattle.blif_read.specs.declared.file.Statement.{Statement}
use Rattle.blif_read.specs.declared.file.Statement.TheVariants.{Names, Latch, Subckt}
use Rattle.blif_read.specs.View.{cover_of}
use Rattle.fault_sim.specs.declared.row.LatchCell.{LatchCell}
use Rattle.fault_sim.specs.Gates.{NumberedGate}

abbrev pub latch_of : Statement → Option LatchCell
latch_of (Latch d q clocking init) = Some (record { q = q; d = d; init = init_bit init })
latch_of _ = None

abbrev pub gate_of : Statement → Option NumberedGate
gate_of (Names ins out cover) = Some (record { ins = ins.items; out = out; cover = cover_of cover })
gate_of _ = None

abbrev pub cell_of : Statement → Option NameId
cell_of (Names ins out cover) = Some out
cell_of (Latch d q clocking init) = Some q
cell_of (Subckt model binds) = None
