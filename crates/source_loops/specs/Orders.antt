-- Orders of the statements of models in which nets settle.
use Rattle.std.specs.Prelude.{◌≡◌, ◌==◌, ℕ, ◌<◌, ◌≤◌, Bool, false, List, [], length, count_by, filter_map, Option, Some, option_map, slice_get, slice_index_or, All, Contains, IsTrue}
use Rattle.netlist_spec.specs.Netlist.{Statement, Located, Model, File}
use Rattle.netlist_spec.specs.Covers.{Library}
use Rattle.netlist_spec.specs.Sound.{combines}
use Rattle.source_laws.specs.Settling.{given_nets, AreOrdered, OthersAreLeft}

-- the statement at a place
abbrev pub statement_at : Model → ℕ → Option Statement
statement_at m i = option_map (λ l. l.what) (slice_get m.statements i)

-- the statements at some places
abbrev pub statements_at : Model → List ℕ → List Statement
statements_at m places = filter_map (statement_at m) places

-- The order has the places of the statements that combine, each once. Each of these reads only nets that are given or that
-- earlier ones drive.
pub record IsModelOrder (file : File) (library : Library) (m : Model) (order : List ℕ) : Type 0 where
  pub within : All (λ i. i < length m.statements) order
  pub once : (i : ℕ) → count_by (λ k. k == i) order ≤ 1
  pub combining : (i : ℕ) (s : Located) → Contains order i → slice_get m.statements i ≡ Some s → IsTrue (combines s.what)
  pub each : (i : ℕ) (s : Located) → slice_get m.statements i ≡ Some s → IsTrue (combines s.what) → Contains order i
  pub ordered : AreOrdered file library m (given_nets m) (statements_at m order)
  pub others : OthersAreLeft file library m (statements_at m order) []

-- Each model that is used has its order, and one that isn't has no places.
pub record AreOrders (file : File) (library : Library) (used : List Bool) (orders : List (List ℕ)) : Type 0 where
  pub size : length orders ≡ length file.models
  pub order : (i : ℕ) (m : Model) (order : List ℕ) → slice_get file.models i ≡ Some m → slice_get orders i ≡ Some order → IsTrue (slice_index_or used i false) → IsModelOrder file library m order
  pub unused : (i : ℕ) (order : List ℕ) → slice_get orders i ≡ Some order → slice_index_or used i false ≡ false → order ≡ []
