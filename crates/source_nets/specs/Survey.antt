-- What is known of the statements of a file: what they are, and what they read and drive.
use Rattle.std.specs.Prelude.{◌≡◌, ◌≢◌, ◌↔◌, ℕ, ◌<◌, Bool, false, List, length, map, Some, slice_get, slice_index_or, IsTrue, Contains, ⊤}
use Rattle.std.specs.List.{AllByRecursion, AllZip}
use Rattle.netlist_spec.specs.Netlist.{Statement, names, latch, subckt, Model, File}
use Rattle.netlist_spec.specs.Covers.{Library}
use Rattle.netlist_spec.specs.Placed.{Placed, nothing, placed, model_or, table_or, linear_or_nothing}
use Rattle.netlist_spec.specs.Sound.{reads, drives, Places, IsUsed}
use Rattle.sbox_table.specs.declared.table.NamedTable.{NamedTable as ReadTable}
use Rattle.sbox_table.specs.Named.{named_table_of}
use Rattle.linear_layer.specs.declared.layer.NamedLinear.{NamedLinear as ReadLinear}
use Rattle.linear_layer.specs.Named.{named_linear_of}
use Rattle.blif_read.specs.Ids.{IsIdOf}
use Rattle.blif_read.specs.View.{name_at}
use Rattle.source_nets.specs.declared.types.Meaning.{Meaning}
use Rattle.source_nets.specs.declared.types.Meaning.TheVariants as meaning
use Rattle.source_nets.specs.declared.types.ModelSurvey.{ModelSurvey}
use Rattle.source_nets.specs.declared.types.Survey.{Survey}

abbrev pub library_of : List ReadTable → List ReadLinear → Library
library_of tables linears = record { tables = map named_table_of tables; linears = map named_linear_of linears }

-- what a meaning stands for
abbrev pub placed_at : File → Library → Meaning → Placed
placed_at file library meaning.Cell = nothing
placed_at file library meaning.Nothing = nothing
placed_at file library (meaning.Model k) = model_or (slice_get file.models k) nothing
placed_at file library (meaning.Table k) = table_or (slice_get library.tables k) nothing
placed_at file library (meaning.Linear k) = linear_or_nothing (slice_get library.linears k)

-- its place is one of its list
abbrev pub IsMeaningIn : File → Library → Meaning → Type 0
IsMeaningIn file library (meaning.Model k) = k < length file.models
IsMeaningIn file library (meaning.Table k) = k < length library.tables
IsMeaningIn file library (meaning.Linear k) = k < length library.linears
IsMeaningIn file library _ = ⊤

-- A `.names` or `.latch` is a cell, and a `.subckt` is what its name means.
abbrev pub Means : File → Library → Statement → Meaning → Type 0
Means file library (names ins out cover) m = m ≡ meaning.Cell
Means file library (latch d q clocking init) m = m ≡ meaning.Cell
Means file library (subckt name binds) m = (placed_at file library m ≡ placed file library name) × (m ≢ meaning.Cell)

-- what is known of the statements of one model
pub record IsModelSurvey (file : File) (library : Library) (m : Model) (survey : ModelSurvey) : Type 0 where
  pub means : AllZip (λ s found. Means file library s.what found) m.statements survey.meanings.items
  pub within : AllByRecursion (IsMeaningIn file library) survey.meanings.items
  pub reads : map (map (name_at m.names)) survey.reads ≡ map (λ s. reads file library s.what) m.statements
  pub drives : map (map (name_at m.names)) survey.drives ≡ map (λ s. drives file library s.what) m.statements
  pub reads_within : AllByRecursion (AllByRecursion (IsIdOf m.names)) survey.reads
  pub drives_within : AllByRecursion (AllByRecursion (IsIdOf m.names)) survey.drives

-- A model places the models at the places of its row, and no others.
pub record IsModelGraph (file : File) (graph : List (List ℕ)) : Type 0 where
  pub each : length graph ≡ length file.models
  pub within : AllByRecursion (AllByRecursion (λ k. k < length file.models)) graph
  pub places : (i : ℕ) (m : Model) (row : List ℕ) → slice_get file.models i ≡ Some m → slice_get graph i ≡ Some row
      → (k : Model) → Places file m k ↔ ((j : ℕ) × Contains row j × (slice_get file.models j ≡ Some k))

pub record IsSurvey (file : File) (library : Library) (survey : Survey) : Type 0 where
  pub models : AllZip (IsModelSurvey file library) file.models survey.models.items
  pub graph : IsModelGraph file (map (λ row. row.items) survey.graph.items)

-- a mark for each model, at those that are used
pub record AreUsedMarks (file : File) (used : List Bool) : Type 0 where
  pub each : length used ≡ length file.models
  pub marked : (i : ℕ) (m : Model) → slice_get file.models i ≡ Some m → IsTrue (slice_index_or used i false) ↔ IsUsed file m
