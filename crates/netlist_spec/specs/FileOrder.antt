-- The lines of a model in file order.
use Rattle.std.specs.Prelude.{ℕ, List, [], ◌∷◌, ◌++◌, map, Option, None, nat_le, if◌then◌else◌}
use Rattle.std.specs.List.{flat_map}
use Rattle.std.specs.Option.{option_or}
use Rattle.netlist_spec.specs.Netlist.{Name, Statement, Port, Located, Model}

-- One declaration: a name of a port line, or a statement.
pub data Declared : Type 0 where
  an_input : (name : Name) → Declared
  an_output : (name : Name) → Declared
  a_clock : (name : Name) → Declared
  a_statement : (what : Statement) → Declared

pub record Item : Type 0 where
  pub line : ℕ
  pub what : Declared

abbrev pub port_items : (Name → Declared) → List Port → List Item
port_items kind ports = map (λ p. record { line = p.line; what = kind p.name }) ports

abbrev pub statement_items : List Located → List Item
statement_items statements = map (λ s. record { line = s.line; what = a_statement s.what }) statements

-- the items with one more before the first that stands on its line or on a later one
abbrev pub place_item : Item → List Item → List Item
place_item x [] = x ∷ []
place_item x (y ∷ ys) = if nat_le x.line y.line then x ∷ y ∷ ys else y ∷ place_item x ys

abbrev pub by_line : List Item → List Item
by_line [] = []
by_line (x ∷ xs) = place_item x (by_line xs)

abbrev pub port_items_of : Model → List Item
port_items_of m =
    port_items (λ n. an_input n) m.inputs ++ port_items (λ n. an_output n) m.outputs ++ port_items (λ n. a_clock n) m.clocks

-- File order takes the lines of a model by their numbers. On one number inputs, outputs, clocks and
-- statements follow each other, each as they stand in their list.
abbrev pub items_of : Model → List Item
items_of m = by_line (port_items_of m ++ statement_items m.statements)

-- The first item for which there is an answer, where the answer may rest on the items before it.
abbrev pub first_answer : {A : Type 0} → (List Item → Item → Option A) → List Item → List Item → Option A
first_answer answer earlier [] = None
first_answer answer earlier (x ∷ xs) = option_or (answer earlier x) (first_answer answer (earlier ++ x ∷ []) xs)

-- the port that one item declares
abbrev pub declared_input : Declared → List Name
declared_input (an_input n) = n ∷ []
declared_input _ = []

abbrev pub declared_output : Declared → List Name
declared_output (an_output n) = n ∷ []
declared_output _ = []

abbrev pub declared_clock : Declared → List Name
declared_clock (a_clock n) = n ∷ []
declared_clock _ = []

-- the ports that some items declare
abbrev pub inputs_among : List Item → List Name
inputs_among items = flat_map (λ i. declared_input i.what) items

abbrev pub outputs_among : List Item → List Name
outputs_among items = flat_map (λ i. declared_output i.what) items

abbrev pub clocks_among : List Item → List Name
clocks_among items = flat_map (λ i. declared_clock i.what) items
