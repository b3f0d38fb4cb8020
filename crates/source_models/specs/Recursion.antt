-- What a search for models that contain themselves answers.
use Rattle.std.specs.Prelude.{◌≡◌}
use Rattle.netlist_spec.specs.Netlist.{Model, File}
use Rattle.netlist_spec.specs.Covers.{Library}
use Rattle.netlist_spec.specs.Sound.{IsUsed}
use Rattle.netlist_spec.specs.SoundFaults.{ContainsItself as DoesContainItself, IsFirstUsed}
use Rattle.source_models.specs.declared.types.Recursion.{Recursion}
use Rattle.source_models.specs.declared.types.Recursion.TheVariants.{Order, ContainsItself}
use Rattle.source_models.specs.Order.{IsPlacedFirst}

-- No used model contains itself, and the order is one of the used models. Or this is the name of the first one that does.
abbrev pub IsRecursion : File → Library → Recursion → Type 0
IsRecursion file library (Order order) = IsPlacedFirst file order.items × ((m : Model) → IsUsed file m → DoesContainItself file library m → ⊥)
IsRecursion file library (ContainsItself name) = IsFirstUsed file (λ m a. DoesContainItself file library m × (a ≡ m.name)) name
