-- The names that a guard takes over from its source.
use Rattle.std.specs.Prelude.{ℕ, List, [], ◌∷◌, ◌++◌, nat_lt, if◌then◌else◌}
use Rattle.netlist_spec.specs.Netlist.{Name}
use Rattle.netlist_spec.specs.Elaborated.{Elaborated}

-- the names beside numbers that aren't below the first one
abbrev pub names_from : ℕ → List Name → List ℕ → List Name
names_from first [] nets = []
names_from first (x ∷ xs) [] = []
names_from first (x ∷ xs) (n ∷ nets) = if nat_lt n first then names_from first xs nets else x ∷ names_from first xs nets

-- of the data inputs, and of the outputs that are no data inputs
abbrev pub taken_over : Elaborated → List Name
taken_over e = e.data_names ++ names_from e.machine.inputs e.output_names e.machine.outputs
