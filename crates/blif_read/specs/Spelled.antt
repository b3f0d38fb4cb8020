-- What lines say with names in place of numbers: names that are looked up one after another, and what their numbers
-- stand for.
use Rattle.std.specs.Prelude.{◌≡◌, ℕ, ◌≤◌, Bool, true, List, [], ◌∷◌, ◌++◌, map, Option, None, Some, slice_get, All}
use Rattle.std.specs.List.{AllByRecursion, AllZip}
use Rattle.netlist_spec.specs.Lines.{Word}
use Rattle.netlist_spec.specs.Netlist.{Name, Clocking, plain, edge, Bind, Statement, names, latch, subckt, Located}
use Rattle.netlist_spec.specs.Statements.{Cell, Said, names_line, row_line, latch_line, subckt_line}
use Rattle.netlist_spec.specs.Reads.{cover_of, nets_in, statement_nets}
use Rattle.netlist_spec.specs.ReadFaults.{is_row_of}
use Rattle.netlist_spec.specs.Said.{all_but_last, last_of, word_control, word_rises, word_init}
use Rattle.imp_text.specs.declared.names.NameId.{NameId}
use Rattle.imp_text.specs.Names.{with_name}
use Rattle.blif_read.specs.declared.file.Port.{Port as ReadPort}
use Rattle.blif_read.specs.declared.file.Bind.{Bind as ReadBind}
use Rattle.blif_read.specs.declared.file.Located.{Located as ReadLocated}
use Rattle.blif_read.specs.declared.file.Statement.{Statement as ReadStatement}
use Rattle.blif_read.specs.Ids.{IsIdOf, ids_in}
use Rattle.blif_read.specs.View.{statement_of, located_of}

-- Names.

-- names that are looked up in order, and go last where they are new
abbrev pub with_names : List Name → List Name → List Name
with_names seen [] = seen
with_names seen (n ∷ ns) = with_names (with_name seen n) ns

-- each is the number of the name beside it
abbrev pub AreNumbers : List Name → List NameId → List Name → Type 0
AreNumbers all ids spelled = AllZip (λ (id : NameId) (n : Name). slice_get all id.0 ≡ Some n) ids spelled

-- Ports.

abbrev pub port_at : ℕ → NameId → ReadPort
port_at n id = record { name = id; line = n }

-- ports of these names come behind the others, all with that line
abbrev pub AddsPorts : List Name → ℕ → List Name → List ReadPort → List ReadPort → Type 0
AddsPorts all n spelled old new = (ids : List NameId) × (new ≡ old ++ map (port_at n) ids) × AreNumbers all ids spelled

-- Statements.

-- What a statement says with numbers, and goes on to say where more names come behind.
pub record Spells (all : List Name) (s : ReadStatement) (spelled : Statement) : Type 0 where
  pub same : (more : List Name) → statement_of (all ++ more) s ≡ spelled
  pub within : All (IsIdOf all) (ids_in s)

pub record SpellsEach (all : List Name) (statements : List ReadLocated) (spelled : List Located) : Type 0 where
  pub same : (more : List Name) → map (located_of (all ++ more)) statements ≡ spelled
  pub within : AllByRecursion (λ (l : ReadLocated). All (IsIdOf all) (ids_in l.what)) statements

-- the same where there may be no statement
abbrev pub SpellsSome : List Name → Option ReadStatement → Option Statement → Type 0
SpellsSome all None None = Unit {0}
SpellsSome all None (Some spelled) = ⊥
SpellsSome all (Some s) None = ⊥
SpellsSome all (Some s) (Some spelled) = Spells all s spelled

-- the statement that a line says, a cover without the rows on later lines
abbrev pub statement_said : Said → Option Statement
statement_said (names_line ins out) = Some (names ins out (cover_of []))
statement_said (latch_line d q clocking init) = Some (latch d q clocking init)
statement_said (subckt_line model binds) = Some (subckt model binds)
statement_said _ = None

-- the nets on a line
abbrev pub nets_said : Said → List Name
nets_said said = nets_in (0, said)

-- the nets of a statement, if there is one
abbrev pub nets_of : Option Statement → List Name
nets_of None = []
nets_of (Some s) = statement_nets s

-- what the words behind `.names` say
abbrev pub names_said : List Word → Said
names_said ws = names_line (all_but_last ws) (last_of ws)

-- what the words behind D and Q say: TYPE and CONTROL, if they are there, and INIT
abbrev pub clocking_said : List Word → Clocking
clocking_said [] = plain
clocking_said (init ∷ []) = plain
clocking_said (type ∷ control ∷ rest) = edge (word_rises type) (word_control control)

abbrev pub init_said : List Word → Option ℕ
init_said [] = None
init_said (init ∷ []) = Some (word_init init)
init_said (type ∷ control ∷ []) = None
init_said (type ∷ control ∷ init ∷ rest) = Some (word_init init)

-- each has the formal part, and the number of the actual part
abbrev pub AreBinds : List Name → List ReadBind → List Bind → Type 0
AreBinds all binds spelled =
    AllZip (λ (b : ReadBind) (s : Bind). (b.formal ≡ s.formal) × (slice_get all b.actual.0 ≡ Some s.actual)) binds spelled

-- Rows.

-- the words are a row of a cover that isn't too wide
pub record IsRow (ws : List Word) : Type 0 where
  pub inputs : ℕ
  pub few : inputs ≤ 16
  pub row : is_row_of inputs ws ≡ true

abbrev pub cells_said : Said → List Cell
cells_said (row_line cells last) = cells
cells_said _ = []

abbrev pub last_said : Said → Bool
last_said (row_line cells last) = last
last_said _ = true
