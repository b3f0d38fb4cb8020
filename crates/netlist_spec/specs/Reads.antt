-- What a BLIF text says: the one file that its logical lines declare.
use Rattle.std.specs.Prelude.{◌≡◌, ℕ, ◌+◌, ◌*◌, ◌≤◌, Bool, true, false, List, [], ◌∷◌, ◌++◌, length, map, filter, not, Some, None, ⊤, IsTrue, sum_by}
use Rattle.std.specs.List.{AllByRecursion, AllZip, flat_map}
use Rattle.netlist_spec.specs.Lines.{logical_lines}
use Rattle.netlist_spec.specs.Netlist.{Name, same_name, are_distinct, Row, Cover, Clocking, edge, Statement, names, latch, subckt, Port, Located, Model, File}
use Rattle.netlist_spec.specs.Statements.{Cell, Said, model_line, inputs_line, outputs_line, clock_line, names_line, row_line, latch_line, subckt_line, Says, EachMayFollow, BeginsWithModel}

-- a logical line's number, and what the line says
abbrev pub Numbered : Type 0
Numbered = ℕ × Said

-- The places of a row as numbers: bit i of `care` is 1 where place i is `0` or `1`, and bit i of `value`
-- where it is `1`.
abbrev pub care_bit : Cell → ℕ
care_bit None = 0
care_bit (Some b) = 1

abbrev pub value_bit : Cell → ℕ
value_bit None = 0
value_bit (Some false) = 0
value_bit (Some true) = 1

abbrev pub number_by : (Cell → ℕ) → List Cell → ℕ
number_by f [] = 0
number_by f (c ∷ cs) = f c + 2 * number_by f cs

abbrev pub row_of : List Cell → Row
row_of cells = record { care = number_by care_bit cells; value = number_by value_bit cells }

-- the rows at the front of some lines
abbrev pub rows_at : List Numbered → List (List Cell × Bool)
rows_at [] = []
rows_at ((n, row_line cells last) ∷ ls) = (cells, last) ∷ rows_at ls
rows_at (_ ∷ ls) = []

-- the last character of the rows, and 1 if there are no rows
abbrev pub shared_last : List (List Cell × Bool) → Bool
shared_last [] = true
shared_last (r ∷ rs) = r.1

abbrev pub cover_of : List (List Cell × Bool) → Cover
cover_of rows = record { on = shared_last rows; rows = map (λ r. row_of r.0) rows }

-- the lines up to the next model
abbrev pub model_body : List Numbered → List Numbered
model_body [] = []
model_body ((n, model_line name) ∷ ls) = []
model_body (l ∷ ls) = l ∷ model_body ls

abbrev pub ports_at : ℕ → List Name → List Port
ports_at n ports = map (λ p. record { name = p; line = n }) ports

abbrev pub inputs_in : Numbered → List Port
inputs_in (n, inputs_line ports) = ports_at n ports
inputs_in _ = []

abbrev pub outputs_in : Numbered → List Port
outputs_in (n, outputs_line ports) = ports_at n ports
outputs_in _ = []

abbrev pub clocks_in : Numbered → List Port
clocks_in (n, clock_line ports) = ports_at n ports
clocks_in _ = []

-- the statements of some lines, each `.names` with the rows that follow it
abbrev pub statements_in : List Numbered → List Located
statements_in [] = []
statements_in ((n, names_line ins out) ∷ ls) = record { line = n; what = names ins out (cover_of (rows_at ls)) } ∷ statements_in ls
statements_in ((n, latch_line d q clocking init) ∷ ls) = record { line = n; what = latch d q clocking init } ∷ statements_in ls
statements_in ((n, subckt_line model binds) ∷ ls) = record { line = n; what = subckt model binds } ∷ statements_in ls
statements_in (_ ∷ ls) = statements_in ls

abbrev pub control_nets : Clocking → List Name
control_nets (edge rising (Some n)) = n ∷ []
control_nets _ = []

-- the nets that a statement names, from left to right; `NIL` is none
abbrev pub statement_nets : Statement → List Name
statement_nets (names ins out cover) = ins ++ out ∷ []
statement_nets (latch d q clocking init) = d ∷ q ∷ control_nets clocking
statement_nets (subckt model binds) = map (λ b. b.actual) binds

-- the net names on a line, from left to right
abbrev pub nets_in : Numbered → List Name
nets_in (n, inputs_line ports) = ports
nets_in (n, outputs_line ports) = ports
nets_in (n, clock_line ports) = ports
nets_in (n, names_line ins out) = ins ++ out ∷ []
nets_in (n, latch_line d q clocking init) = d ∷ q ∷ control_nets clocking
nets_in (n, subckt_line model binds) = map (λ b. b.actual) binds
nets_in _ = []

-- each name once, in order of first appearance
abbrev pub first_appearances : List Name → List Name
first_appearances [] = []
first_appearances (n ∷ ns) = n ∷ filter (λ m. not (same_name n m)) (first_appearances ns)

-- the model that a `.model` line and the lines up to the next one declare
abbrev pub model_of : ℕ → Name → List Numbered → Model
model_of n name lines =
    record {
      name = name;
      line = n;
      names = first_appearances (flat_map nets_in lines);
      inputs = flat_map inputs_in lines;
      outputs = flat_map outputs_in lines;
      clocks = flat_map clocks_in lines;
      statements = statements_in lines;
    }

abbrev pub models_of : List Numbered → List Model
models_of [] = []
models_of ((n, model_line name) ∷ ls) = model_of n name (model_body ls) ∷ models_of ls
models_of (_ ∷ ls) = models_of ls

-- a cover has at most 16 inputs
abbrev pub IsNarrow : Statement → Type 0
IsNarrow (names ins out cover) = length ins ≤ 16
IsNarrow _ = ⊤

abbrev pub latch_count_of : Statement → ℕ
latch_count_of (latch d q clocking init) = 1
latch_count_of _ = 0

-- the counts of one model
pub record IsWithinModelLimits (m : Model) : Type 0 where
  pub covers : AllByRecursion (λ s. IsNarrow s.what) m.statements
  pub inputs : length m.inputs ≤ 131072
  pub outputs : length m.outputs ≤ 131072
  pub clocks : length m.clocks ≤ 131072
  pub latches : sum_by (λ s. latch_count_of s.what) m.statements ≤ 131072

-- the counts of a file
pub record IsWithinLimits (file : File) : Type 0 where
  pub models : AllByRecursion IsWithinModelLimits file.models
  pub statements : sum_by (λ m. length m.statements) file.models ≤ 2000000

-- The text says this file. Each logical line fits one case of the table of statements, each may follow the
-- one before it, and the file is what the lines declare.
pub record Reads (bytes : List ℕ) (file : File) : Type 0 where
  pub lines : List Numbered
  pub cases : AllZip (λ line n. (line.number ≡ n.0) × Says line n.1) (logical_lines bytes) lines
  pub begins : BeginsWithModel (map (λ n. n.1) lines)
  pub order : EachMayFollow (map (λ n. n.1) lines)
  pub models : file.models ≡ models_of lines
  pub distinct : IsTrue (are_distinct (map (λ m. m.name) file.models))
  pub limits : IsWithinLimits file
