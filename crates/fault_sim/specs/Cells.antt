-- The cells of a model by number, and their numbers by net.
use Rattle.std.specs.Prelude.{◌≡◌, ℕ, ◌<◌, false, List, [], length, Option, None, Some, MatchOption, slice_get, slice_index_or, IsTrue}
use Rattle.netlist_spec.specs.Netlist.{Name, stands_in, are_distinct}
use Rattle.fault_sim.specs.declared.cells.CellId.{CellId}

-- Each net has the number of a cell that it is the output of, where there is one.
pub record AreCells (all cells : List Name) (by_net : List (Option CellId)) : Type 0 where
  pub distinct : IsTrue (are_distinct all)
  pub each_net : length by_net ≡ length all
  pub cell : (k : ℕ) → k < length all
      → MatchOption (slice_index_or by_net k None) (stands_in (slice_index_or all k []) cells ≡ false) (λ (c : CellId). slice_get cells c.0 ≡ Some (slice_index_or all k []))
