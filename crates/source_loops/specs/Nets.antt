-- The nets of a model by their numbers.
use Rattle.std.specs.Prelude.{◌≡◌, ℕ, List, [], length, map, slice_index_or}
use Rattle.netlist_spec.specs.Netlist.{Name, Model, File}
use Rattle.netlist_spec.specs.Covers.{Library}
use Rattle.netlist_spec.specs.Sound.{combines, drives, reads}
use Rattle.imp_text.specs.declared.names.NameId.{NameId}
use Rattle.line_order.specs.Marks.{Marks}
use Rattle.net_order.specs.Order.{AreNets}
use Rattle.source_laws.specs.Settling.{given_nets}
use Rattle.source_loops.specs.declared.nets.ModelNets.{ModelNets}

-- the name of that number, and no bytes where there is none
abbrev pub name_of : List Name → ℕ → Name
name_of all k = slice_index_or all k []

abbrev pub numbers_of : List NameId → List ℕ
numbers_of ids = map (λ (id : NameId). id.0) ids

-- The rows have the nets that the statements read and drive, and the marks are at statements that combine and at given nets.
pub record AreNetsOf (file : File) (library : Library) (m : Model) (nets : ModelNets) : Type 0 where
  pub reads : map (map (name_of m.names)) nets.reads ≡ map (λ s. reads file library s.what) m.statements
  pub drives : map (map (name_of m.names)) nets.drives ≡ map (λ s. drives file library s.what) m.statements
  pub reads_within : AreNets (length m.names) nets.reads
  pub drives_within : AreNets (length m.names) nets.drives
  pub combines : nets.combines.items ≡ map (λ s. combines s.what) m.statements
  pub given : Marks m.names nets.given.items (given_nets m)
