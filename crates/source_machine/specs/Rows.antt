-- Tables of nets by the numbers of names, and what latches show and store.
use Rattle.std.specs.Prelude.{ℕ, ◌+◌, List, [], ◌∷◌, Option, Some, None, slice_index, slice_set}
use Rattle.netlist_spec.specs.Models.{init_bit}
use Rattle.netlist_spec.specs.Gates.{LatchRow}
use Rattle.imp_text.specs.declared.names.NameId.{NameId}
use Rattle.blif_read.specs.declared.file.Located.{Located}
use Rattle.blif_read.specs.declared.file.Statement.{Statement}
use Rattle.blif_read.specs.declared.file.Statement.TheVariants.{Latch}

-- names that have the next nets, from a number on
abbrev pub numbered : List ℕ → ℕ → List NameId → List ℕ
numbered table first [] = table
numbered table first (id ∷ ids) = numbered (slice_set table id.0 first) (first + 1) ids

-- the output of a latch
abbrev pub shown_by : Statement → Option NameId
shown_by (Latch d q clocking init) = Some q
shown_by _ = None

abbrev pub shown_id : Located → Option NameId
shown_id located = shown_by located.what

-- the row of a latch, where a table has the nets of names
abbrev pub row_by : List ℕ → Statement → Option LatchRow
row_by table (Latch d q clocking init) = Some (record { d = slice_index table d.0; init = init_bit init })
row_by table _ = None

abbrev pub row_for : List ℕ → Located → Option LatchRow
row_for table located = row_by table located.what
