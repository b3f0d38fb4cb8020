-- The nets of latches, by their numbers.
use Rattle.std.specs.Prelude.{Option, None, Some}
use Rattle.imp_text.specs.declared.names.NameId.{NameId}
use Rattle.blif_read.specs.declared.file.Statement.{Statement}
use Rattle.blif_read.specs.declared.file.Statement.TheVariants.{Latch}

-- the net that a latch shows
abbrev pub shown_id : Statement → Option NameId
shown_id (Latch d q clocking init) = Some q
shown_id _ = None
