-- Each net that a used model so far reads is driven.
use Rattle.std.proofs.Common.{◌≡◌, Some, take}
use Rattle.std.specs.List.{AllByRecursion}
use Rattle.netlist_spec.specs.SoundFaults.{undriven_in}
use Rattle.source_nets.specs.Ports.{source_file, source_library}
use Rattle.source_tests.proofs.FirstLemmas.{FindsNothing}
use Rattle.source_tests.proofs.undriven.first_undriven.Given as goal

abbrev pub invariant-loop-k : goal.invariant-loop-k
invariant-loop-k l =
    AllByRecursion (FindsNothing (source_file l.source) (λ m a. undriven_in (source_file l.source) (source_library l.source) m ≡ Some a)) (take l.k (source_file l.source).models)
