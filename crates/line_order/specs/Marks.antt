-- Which of a model's names are marked, by their numbers.
use Rattle.std.specs.Prelude.{◌≡◌, ℕ, ◌<◌, Bool, false, List, [], ◌∷◌, length, slice_index_or, IsTrue}
use Rattle.netlist_spec.specs.Netlist.{Name, stands_in, are_distinct, Statement, latch}
use Rattle.netlist_spec.specs.Reads.{control_nets}
use Rattle.netlist_spec.specs.Ordered.{driven_by}

-- A name has its mark exactly where it stands in the list.
pub record Marks (all : List Name) (marks : List Bool) (listed : List Name) : Type 0 where
  pub distinct : IsTrue (are_distinct all)
  pub each_name : length marks ≡ length all
  pub marked : (k : ℕ) → k < length all → slice_index_or marks k false ≡ stands_in (slice_index_or all k []) listed

-- the control of a latch
abbrev pub controls_of : Statement → List Name
controls_of (latch d q clocking init) = control_nets clocking
controls_of _ = []

-- the output of a latch
abbrev pub latch_output_of : Statement → List Name
latch_output_of (latch d q clocking init) = q ∷ []
latch_output_of _ = []

-- the output of a cell
abbrev pub cell_of : Statement → List Name
cell_of s = driven_by s
