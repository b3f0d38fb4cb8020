-- Machines that stand for a source, and that need no more than its names.
use Rattle.std.specs.Prelude.{◌≡◌}
use Rattle.netlist_spec.specs.Netlist.{Model, File}
use Rattle.netlist_spec.specs.Covers.{Library}
use Rattle.netlist_spec.specs.Sound.{IsMain}
use Rattle.netlist_spec.specs.Gates.{Machine}
use Rattle.netlist_spec.specs.Elaborated.{Elaborated, HasElaboratedForm, IsElaborated}
use Rattle.source_laws.specs.Numbered.{HasNamesOf}

-- With the names of the model the machine has what every elaborated source has.
abbrev pub CanBeNamed : Model → Machine → Type 0
CanBeNamed m machine = (e : Elaborated) → HasNamesOf m e → e.machine ≡ machine → HasElaboratedForm e

-- With the names of its main model the machine is the source, elaborated.
abbrev pub IsElaboratedByNames : File → Library → Machine → Type 0
IsElaboratedByNames file library machine =
    (m : Model) → IsMain file m → (e : Elaborated) → HasNamesOf m e → e.machine ≡ machine → IsElaborated file library m e
