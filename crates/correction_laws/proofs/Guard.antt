-- Ranges of a guard make what its builder promises.
use Rattle.std.proofs.Common.{◌≡◌, ℕ, ◌≤◌, List, length, map, Contains}
use Rattle.netlist_spec.specs.Gates.{Machine}
use Rattle.guard_spec.specs.Codes.{Code, Mode}
use Rattle.guard_spec.specs.Words.{Layout, IsPartition, codewords}
use Rattle.guard_spec.specs.Plain.{IsMachineSizeWith}
use Rattle.guard_spec.specs.Rails.{SomeNoCodeword}
use Rattle.guard_spec.specs.Regions.{Guarded}
use Rattle.netlist_spec.specs.GateRanges.{Region}
use Rattle.guard_laws.specs.Places.{latches_of_words}
use Rattle.guard_laws.specs.Promised.{IsGuardOf, cell_count}
use Rattle.correction_laws.specs.Few.{IsFew}
use Rattle.guard_laws.specs.Within.{IsMadeWithin}
use Rattle.correction_laws.proofs.Few.{few_cells}
use Rattle.guard_laws.proofs.Within.{covers, separate, reads_data, answers_alone, rails_alone}

pub guard_of : (g : Guarded) (source : Machine) (code : Code) (mode : Mode) (radius rails : ℕ) (l : Layout) (watched : List ℕ) → IsMadeWithin g source code mode radius l watched (SomeNoCodeword g code l (length source.outputs)) → g.rails ≡ rails
    → map (λ r. r.init) g.machine.latches ≡ codewords code l.state (map (λ r. r.init) source.latches) → ((n : ℕ) → IsMachineSizeWith source code mode radius rails l n → cell_count g ≤ n) → IsGuardOf g source code mode radius rails l
guard_of g source code mode radius rails l watched is many inits size =
    let Bad = SomeNoCodeword g code l (length source.outputs) in
    record {
      is_machine = is.is_machine;
      own_nets = is.own_nets;
      covers = covers g source code mode radius l watched Bad is;
      separate = separate g source code mode radius l watched Bad is;
      reads = reads_data g source code mode radius l watched Bad is;
      outputs = is.outputs;
      rail_number = many;
      inits = inits;
      answers = answers_alone g source code mode radius l watched Bad is;
      tells = rails_alone g source code mode radius l watched Bad is;
      size = size;
    }

pub few_guard_of : (g : Guarded) (source : Machine) (code : Code) (mode : Mode) (radius rails k : ℕ) (l : Layout) (watched : List ℕ) → IsMadeWithin g source code mode radius l watched (SomeNoCodeword g code l (length source.outputs)) → g.rails ≡ rails
    → map (λ r. r.init) g.machine.latches ≡ codewords code l.state (map (λ r. r.init) source.latches) → length g.machine.latches ≡ latches_of_words code l.state → IsPartition (length source.outputs) k l.output
    → ((r : Region) → Contains g.regions r → IsFew source code mode radius rails l r) → IsGuardOf g source code mode radius rails l
few_guard_of g source code mode radius rails k l watched is many inits latches partition few =
    guard_of g source code mode radius rails l watched is many inits (λ n size. few_cells source code mode radius l rails k n partition size g is.row is.in_order latches few)
