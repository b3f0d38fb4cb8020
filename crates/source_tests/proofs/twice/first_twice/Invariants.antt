-- Each net of the used models so far is declared and driven once.
use Rattle.std.proofs.Common.{◌≡◌, Some, take}
use Rattle.std.specs.List.{AllByRecursion}
use Rattle.netlist_spec.specs.SoundFaults.{twice_in}
use Rattle.source_nets.specs.Ports.{source_file, source_library}
use Rattle.source_tests.proofs.FirstLemmas.{FindsNothing}
use Rattle.source_tests.proofs.twice.first_twice.Given as goal

abbrev pub invariant-loop-k : goal.invariant-loop-k
invariant-loop-k l =
    AllByRecursion (FindsNothing (source_file l.source) (λ m a. twice_in (source_file l.source) (source_library l.source) m ≡ Some a)) (take l.k (source_file l.source).models)
