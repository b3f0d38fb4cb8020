-- What the latches of a model that was read show, and how they start.
use Rattle.std.specs.Prelude.{Bool, false, Option, Some, None}
use Rattle.netlist_spec.specs.Models.{is_unknown}
use Rattle.imp_text.specs.declared.names.NameId.{NameId}
use Rattle.blif_read.specs.declared.file.Located.{Located}
use Rattle.blif_read.specs.declared.file.Statement.{Statement}
use Rattle.blif_read.specs.declared.file.Statement.TheVariants.{Latch}

-- the output of a latch
abbrev pub shown_by : Statement → Option NameId
shown_by (Latch d q clocking init) = Some q
shown_by _ = None

abbrev pub shown_id : Located → Option NameId
shown_id located = shown_by located.what

-- whether it is a latch with an unknown init
abbrev pub has_unknown_init : Statement → Bool
has_unknown_init (Latch d q clocking init) = is_unknown init
has_unknown_init _ = false
