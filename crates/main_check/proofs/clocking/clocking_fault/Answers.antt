use Rattle.std.proofs.Common.{◌≡◌, ◌∙◌, sym, ap}
use Rattle.std.specs.Option.{option_or}
use Rattle.netlist_spec.specs.Sound.{read_nets}
use Rattle.blif_read.specs.View.{name_at, model_of}
use Rattle.main_check.specs.Clocking.{read_clock_of}
use Rattle.main_check.proofs.ClockLemmas.{second_part}
use Rattle.main_check.proofs.clocking.clocking_fault.Goals as goal

pub returns-clause-exact : goal.returns-clause-exact
returns-clause-exact c = λ file library k.
    let M = model_of c.args.m.now in
    c.read_clock-found.ensures.name (read_nets file library M) k
    ∙ ap (λ o. option_or o (read_clock_of M (read_nets file library M))) c.in_default.ensures.name
