-- A model and a file as they are gathered line by line.
use Rattle.std.specs.Prelude.{◌≡◌, ℕ, ◌+◌, ◌^◌, ◌≤◌, Bool, true, false, List, [], ◌∷◌, ◌++◌, length, map, Option, Some, None, is_some, ⊤}
use Rattle.std.specs.List.{AllByRecursion, flat_map}
use Rattle.netlist_spec.specs.Netlist.{Name, Port, names}
use Rattle.netlist_spec.specs.Statements.{Cell, Said, model_line, names_line, row_line, Says}
use Rattle.netlist_spec.specs.Reads.{Numbered, rows_at, cover_of, inputs_in, outputs_in, clocks_in, nets_in, statements_in, first_appearances, models_of}
use Rattle.netlist_spec.specs.ReadFaults.{Kind, inputs_kind, outputs_kind, clock_kind, names_kind, row_kind}
use Rattle.netlist_spec.specs.Said.{said_of}
use Rattle.imp_text.specs.declared.cover.Cover.{Cover as ReadCover}
use Rattle.blif_read.specs.declared.line.Line.{Line as ReadLine}
use Rattle.blif_read.specs.declared.file.Port.{Port as ReadPort}
use Rattle.blif_read.specs.declared.file.Located.{Located as ReadLocated}
use Rattle.blif_read.specs.declared.file.Model.{Model as ReadModel}
use Rattle.blif_read.specs.declared.file.Statement.{Statement as ReadStatement}
use Rattle.blif_read.specs.declared.file.Statement.TheVariants.{Names}
use Rattle.blif_read.specs.declared.model.OpenCover.{OpenCover}
use Rattle.blif_read.specs.declared.model.ModelSoFar.{ModelSoFar}
use Rattle.blif_read.specs.declared.models.FileSoFar.{FileSoFar}
use Rattle.blif_read.specs.Ids.{IsIdOf, HasIds}
use Rattle.blif_read.specs.Kinds.{kind_in}
use Rattle.blif_read.specs.LineTests.{words_in, line_of, IsLine}
use Rattle.blif_read.specs.Spelled.{IsRow, cells_said, last_said, Spells, SpellsEach, SpellsSome, statement_said}
use Rattle.blif_read.specs.Summaries.{is_model, is_row}
use Rattle.blif_read.specs.View.{cover_of as cover_in, port_of, model_of}

-- Ports say these with numbers, and go on to say them where more names come behind.
pub record SpellsPorts (all : List Name) (ports : List ReadPort) (spelled : List Port) : Type 0 where
  pub same : (more : List Name) → map (port_of (all ++ more)) ports ≡ spelled
  pub within : AllByRecursion (λ (port : ReadPort). IsIdOf all port.name) ports

-- the line is a row
abbrev pub IsRowLine : Numbered → Type 0
IsRowLine (n, row_line cells last) = ⊤
IsRowLine _ = ⊥

-- the line is no row
abbrev pub IsNoRowLine : Numbered → Type 0
IsNoRowLine (n, row_line cells last) = ⊥
IsNoRowLine _ = ⊤

-- the line begins no model
abbrev pub IsNoModelLine : Numbered → Type 0
IsNoModelLine (n, model_line name) = ⊥
IsNoModelLine _ = ⊤

-- The last lines are a `.names` and rows, which the cover says. The statements are those of the lines before.
pub record IsOpenCover (all : List Name) (closed : List ReadLocated) (last : OpenCover) (lines : List Numbered) : Type 0 where
  pub before : List Numbered
  pub ins : List Name
  pub out : Name
  pub rows : List Numbered
  pub split : lines ≡ before ++ (last.line, names_line ins out) ∷ rows
  pub are_rows : AllByRecursion IsRowLine rows
  pub closed_are : SpellsEach all closed (statements_in before)
  pub cover : Spells all (Names last.ins last.out last.cover) (names ins out (cover_of (rows_at rows)))

-- The statements are those of the lines, with the open cover as the last.
abbrev pub AreStatements : List Name → List ReadLocated → Option OpenCover → List Numbered → Type 0
AreStatements all closed None lines = SpellsEach all closed (statements_in lines)
AreStatements all closed (Some last) lines = IsOpenCover all closed last lines

-- What is gathered is the model that a `.model` line and the lines behind it declare.
pub record IsModelSoFar (gathered : ModelSoFar) (n : ℕ) (name : Name) (lines : List Numbered) : Type 0 where
  pub name_is : gathered.model.name ≡ name
  pub line_is : gathered.model.line ≡ n
  pub names_are : gathered.model.names ≡ first_appearances (flat_map nets_in lines)
  pub inputs : SpellsPorts gathered.model.names gathered.model.inputs.items (flat_map inputs_in lines)
  pub outputs : SpellsPorts gathered.model.names gathered.model.outputs.items (flat_map outputs_in lines)
  pub clocks : SpellsPorts gathered.model.names gathered.model.clocks.items (flat_map clocks_in lines)
  pub statements : AreStatements gathered.model.names gathered.model.statements.items gathered.cover lines

-- The cover has one row more at its end.
abbrev pub AddsRow : ReadCover → Said → ReadCover → Type 0
AddsRow old said new = (rows : List (List Cell × Bool)) → cover_in old ≡ cover_of rows → cover_in new ≡ cover_of (rows ++ (cells_said said, last_said said) ∷ [])

-- The model of some lines stays theirs, and that of some lines becomes that of one more.
abbrev pub KeepsLines : ModelSoFar → ModelSoFar → Type 0
KeepsLines old new = (n : ℕ) (name : Name) (lines : List Numbered) → IsModelSoFar old n name lines → IsModelSoFar new n name lines

abbrev pub AddsLine : ModelSoFar → Numbered → ModelSoFar → Type 0
AddsLine old line new = (n : ℕ) (name : Name) (lines : List Numbered) → IsModelSoFar old n name lines → IsModelSoFar new n name (lines ++ line ∷ [])

-- A statement is put behind the others, or becomes the open cover.
abbrev pub PutsStatement : List ReadLocated → ℕ → ReadStatement → List ReadLocated → Option OpenCover → Type 0
PutsStatement old line what new cover =
    (all : List Name) (lines : List Numbered) (said : Said) → SpellsSome all (Some what) (statement_said said) → SpellsEach all old (statements_in lines)
    → AreStatements all new cover (lines ++ (line, said) ∷ [])

abbrev pub is_names : ReadStatement → Bool
is_names (Names ins out cover) = true
is_names _ = false

-- a line and what it says
abbrev pub numbered : ReadLine → Numbered
numbered line = (line.number, said_of (line_of line))

-- whether a cover is open behind a line
abbrev pub opens : Kind → Bool → Bool
opens names_kind before = true
opens row_kind before = before
opens _ before = false

-- the line says ports
abbrev pub declares_ports : Kind → Bool
declares_ports inputs_kind = true
declares_ports outputs_kind = true
declares_ports clock_kind = true
declares_ports _ = false

-- a row of the cover that is open
pub record IsRowOf (gathered : ModelSoFar) (line : ReadLine) : Type 0 where
  pub cover : is_some gathered.cover ≡ true
  pub row : IsRow (words_in line.words.now)

-- The line may go behind the others.
pub record FitsModel (gathered : ModelSoFar) (line : ReadLine) : Type 0 where
  pub is_line : IsLine line
  pub says : Says (line_of line) (said_of (line_of line))
  pub no_model : is_model (kind_in line.kind) ≡ false
  pub row : is_row (kind_in line.kind) ≡ true → IsRowOf gathered line
  pub room : length gathered.model.names + length line.words.now ≤ 2 ^ 31

-- The last lines are a `.model` and lines that the last model says. The other models are those of the lines before.
pub record IsLastModel (closed : List ReadModel) (last : ModelSoFar) (lines : List Numbered) : Type 0 where
  pub before : List Numbered
  pub n : ℕ
  pub name : Name
  pub body : List Numbered
  pub split : lines ≡ before ++ (n, model_line name) ∷ body
  pub no_model : AllByRecursion IsNoModelLine body
  pub closed_are : map model_of closed ≡ models_of before
  pub ids : AllByRecursion HasIds closed
  pub last_is : IsModelSoFar last n name body

abbrev pub AreModels : List ReadModel → Option ModelSoFar → List Numbered → Type 0
AreModels closed None lines = (closed ≡ []) × (lines ≡ [])
AreModels closed (Some last) lines = IsLastModel closed last lines

-- What is gathered is the file that the lines declare.
abbrev pub IsFileSoFar : FileSoFar → List Numbered → Type 0
IsFileSoFar gathered lines = AreModels gathered.closed.items gathered.last lines

-- the models are those of the lines
pub record AreClosed (models : List ReadModel) (lines : List Numbered) : Type 0 where
  pub same : map model_of models ≡ models_of lines
  pub ids : AllByRecursion HasIds models

-- The file of some lines becomes that of one more.
abbrev pub AddsToFile : FileSoFar → Numbered → FileSoFar → Type 0
AddsToFile old line new = (lines : List Numbered) → IsFileSoFar old lines → IsFileSoFar new (lines ++ line ∷ [])

-- whether a cover is open in the last model, and how many names that model has
abbrev pub has_cover : Option ModelSoFar → Bool
has_cover None = false
has_cover (Some last) = is_some last.cover

abbrev pub name_count : Option ModelSoFar → ℕ
name_count None = 0
name_count (Some last) = length last.model.names

-- a row of the cover that is open
pub record IsRowIn (last : Option ModelSoFar) (line : ReadLine) : Type 0 where
  pub cover : has_cover last ≡ true
  pub row : IsRow (words_in line.words.now)

-- The line may go behind the others.
pub record FitsFile (gathered : FileSoFar) (line : ReadLine) : Type 0 where
  pub is_line : IsLine line
  pub says : Says (line_of line) (said_of (line_of line))
  pub in_model : is_model (kind_in line.kind) ≡ false → is_some gathered.last ≡ true
  pub row : is_row (kind_in line.kind) ≡ true → IsRowIn gathered.last line
  pub room : name_count gathered.last + length line.words.now ≤ 2 ^ 31
