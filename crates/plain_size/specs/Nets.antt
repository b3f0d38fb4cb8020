-- The nets of latches, by their numbers.
use Rattle.std.specs.Prelude.{Option, None, Some}
use Rattle.imp_text.specs.declared.names.NameId.{NameId}
use Rattle.blif_read.specs.declared.file.Statement.{Statement}
use Rattle.blif_read.specs.declared.file.Statement.TheVariants.{Latch}

-- the net that a latch stores
abbrev pub stored_id : Statement → Option NameId
stored_id (Latch d q clocking init) = Some d
stored_id _ = None
