use Rattle.std.proofs.Common.{◌≡◌, subst}
use Rattle.netlist_spec.specs.SoundFaults.{ContainsItself, IsFirstUsed}
use Rattle.source_models.specs.Recursion.{IsRecursion}
use Rattle.source_nets.specs.Ports.{source_file, source_library}
use Rattle.plain_size.proofs.SourceLemmas.{no_recursion}
use Rattle.plain_size.proofs.source.source_costs.Goals as goal

pub unreachable-requires : goal.unreachable-requires
unreachable-requires c =
    let file = source_file c.args.source.now in
    let library = source_library c.args.source.now in
    let found : IsFirstUsed file (λ m a. ContainsItself file library m × (a ≡ m.name)) c.in-ContainsItself.field-0 = subst (IsRecursion file library) c.in-ContainsItself.is c.in_ok-order.ensures in
    no_recursion file library c.requires.sound found.model found.used found.here.0
