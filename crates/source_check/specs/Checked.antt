-- What is known of a source that has a meaning.
use Rattle.std.specs.Prelude.{◌≡◌, ℕ, List, map}
use Rattle.netlist_spec.specs.Netlist.{Model, File}
use Rattle.netlist_spec.specs.Covers.{Library}
use Rattle.netlist_spec.specs.Size.{cost_of}
use Rattle.netlist_spec.specs.Sound.{IsMain}
use Rattle.source_nets.specs.Survey.{AreUsedMarks, IsSurvey}
use Rattle.source_loops.specs.Orders.{AreOrders}
use Rattle.source_check.specs.declared.types.Checked.{Checked}

-- what each statement of the main model costs
abbrev pub AreCosts : File → Library → List ℕ → Type 0
AreCosts file library costs = (m : Model) → IsMain file m → costs ≡ map (λ s. cost_of file library s.what) m.statements

pub record IsChecked (file : File) (library : Library) (c : Checked) : Type 0 where
  pub survey : IsSurvey file library c.survey
  pub used : AreUsedMarks file c.used.items
  pub orders : AreOrders file library c.used.items (map (λ row. row.items) c.orders.items)
  pub costs : AreCosts file library c.costs.items
