use Rattle.std.proofs.Common.{◌≡◌, None, rules}
use Rattle.blif_read.specs.View.{file_of}
use Rattle.guard_source.specs.Faults.{refusal_of}
use Rattle.demo_tally.proofs.FaultLemmas.{guard_wants, none_of_three}
use Rattle.demo_tally.proofs.NoRefusal.{design_is_taken}
use Rattle.demo_tally.proofs.guard.guard_design.Goals as goal

pub unreachable-requires : goal.unreachable-requires
unreachable-requires c =
    let fault = c.in-Err.field-0 in
    let (n, whole, same) = c.requires.design in
    let none : refusal_of fault ≡ None = design_is_taken n (file_of c.args.file) c.args.s.now (refusal_of fault) whole same c.requires.settings c.in-Err.ensures.refused in
    none_of_three (guard_wants fault none) (λ is. search rules) (λ is. search rules) (λ is. search rules)
