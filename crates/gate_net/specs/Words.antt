-- Words by their nets.
use Rattle.std.specs.Prelude.{ℕ, List, ◌++◌, map}
use Rattle.gate_net.specs.Gate.{net_number}
use Rattle.gate_net.specs.declared.words.WordNets.{WordNets as MachineWord}

-- the nets of a word: its data places and its check places
pub record WordNets : Type 0 where
  pub places : List ℕ
  pub checks : List ℕ

abbrev pub nets_of : WordNets → List ℕ
nets_of w = w.places ++ w.checks

abbrev pub word_nets : MachineWord → WordNets
word_nets w = record { places = map net_number w.places.items; checks = map net_number w.checks.items }
