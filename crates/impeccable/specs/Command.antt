-- A command as the program keeps it.
use Rattle.std.specs.Prelude.{⊤}
use Rattle.demo_laws.specs.DemoLaws.{IsDemoSize}
use Rattle.program_spec.specs.Commands.{Command, flat, code, guard, sim, audit, campaign, demo}
use Rattle.impeccable.specs.declared.command.Command.{Command as Kept}
use Rattle.impeccable.specs.declared.command.Command.TheVariants.{Flat, Code, Guard, Sim, Audit, Campaign, Demo}

abbrev pub as_asked : Kept → Command
as_asked (Flat netlist) = flat netlist.now
as_asked (Code settings) = code settings.now
as_asked (Guard settings netlist) = guard settings.now netlist.now
as_asked (Sim netlist stimulus script) = sim netlist.now stimulus.now script.now
as_asked (Audit netlist) = audit netlist.now
as_asked (Campaign settings netlist stimulus cycle) = campaign settings.now netlist.now stimulus.now cycle
as_asked (Demo size) = demo size

-- A demo is of a size that a design can have.
abbrev pub CanPerform : Kept → Type 0
CanPerform (Demo size) = IsDemoSize size
CanPerform _ = ⊤
