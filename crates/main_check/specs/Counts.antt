-- Which statements are latches.
use Rattle.std.specs.Prelude.{Bool, true, false}
use Rattle.blif_read.specs.declared.file.Statement.{Statement}
use Rattle.blif_read.specs.declared.file.Statement.TheVariants.{Names, Latch, Subckt}

abbrev pub is_latch : Statement → Bool
is_latch (Latch d q clocking init) = true
is_latch (Names ins out cover) = false
is_latch (Subckt model binds) = false
