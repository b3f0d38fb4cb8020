-- The lines of a model as four lists, each in the order of its lines, that are merged.
use Rattle.std.specs.Prelude.{ℕ, ◌<◌, ◌≤◌, List, [], ◌∷◌, ◌++◌, length, map, drop, slice_index_or, ⊤}
use Rattle.std.specs.List.{AllByRecursion}
use Rattle.netlist_spec.specs.Netlist.{Model}
use Rattle.netlist_spec.specs.FileOrder.{an_input, an_output, a_clock, Item, port_items, statement_items, by_line}
use Rattle.blif_read.specs.declared.file.Model.{Model as ReadModel}
use Rattle.line_order.specs.declared.merge.Place.{Place}
use Rattle.line_order.specs.declared.merge.Place.TheVariants.{Input, Output, Clock, Statement as AStatement}
use Rattle.line_order.specs.declared.merge.Passed.{Passed}

-- the items of each kind
abbrev pub inputs_in : Model → List Item
inputs_in m = port_items (λ n. an_input n) m.inputs

abbrev pub outputs_in : Model → List Item
outputs_in m = port_items (λ n. an_output n) m.outputs

abbrev pub clocks_in : Model → List Item
clocks_in m = port_items (λ n. a_clock n) m.clocks

abbrev pub statements_in : Model → List Item
statements_in m = statement_items m.statements

-- what stands where no item is
abbrev pub no_item : Item
no_item = record { line = 0; what = an_input [] }

abbrev pub item_at : Model → Place → Item
item_at m (Input i) = slice_index_or (inputs_in m) i no_item
item_at m (Output i) = slice_index_or (outputs_in m) i no_item
item_at m (Clock i) = slice_index_or (clocks_in m) i no_item
item_at m (AStatement i) = slice_index_or (statements_in m) i no_item

abbrev pub IsPlace : ReadModel → Place → Type 0
IsPlace m (Input i) = i < length m.inputs.items
IsPlace m (Output i) = i < length m.outputs.items
IsPlace m (Clock i) = i < length m.clocks.items
IsPlace m (AStatement i) = i < length m.statements.items

-- the items that have not been passed, in file order
abbrev pub items_left : Model → Passed → List Item
items_left m passed =
    by_line (drop passed.inputs (inputs_in m) ++ (drop passed.outputs (outputs_in m) ++ (drop passed.clocks (clocks_in m) ++ drop passed.statements (statements_in m))))

-- Numbers that never fall.
abbrev pub Rise : List ℕ → Type 0
Rise [] = ⊤
Rise (n ∷ ns) = AllByRecursion (λ k. n ≤ k) ns × Rise ns

-- Each list of a model stands by its lines.
pub record AreByLine (m : Model) : Type 0 where
  pub inputs : Rise (map (λ p. p.line) m.inputs)
  pub outputs : Rise (map (λ p. p.line) m.outputs)
  pub clocks : Rise (map (λ p. p.line) m.clocks)
  pub statements : Rise (map (λ s. s.line) m.statements)
