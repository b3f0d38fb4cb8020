-- The words that the rails of a guard watch.
use Rattle.std.specs.Prelude.{ℕ, ◌+◌, ◌*◌, List, [], ◌∷◌, ◌++◌, length, map, slice_index_or, slice_range}
use Rattle.std.specs.List.{range_with_len, enumerate_from}
use Rattle.netlist_spec.specs.Gates.{Machine}
use Rattle.guard_spec.specs.Codes.{Code}
use Rattle.guard_spec.specs.Words.{Words, Layout}
use Rattle.gate_net.specs.Words.{WordNets}

-- the state words: latches from net `at` on
abbrev pub state_nets : Code → ℕ → Words → List WordNets
state_nets code at [] = []
state_nets code at (w ∷ ws) =
    record { places = range_with_len at (length w); checks = range_with_len (at + length w) code.columns } ∷ state_nets code (at + length w + code.columns) ws

-- an output word, with its number: outputs of the source and check outputs
abbrev pub output_nets_of : Code → ℕ → List ℕ → ℕ × List ℕ → WordNets
output_nets_of code p outputs word =
    record { places = map (λ i. slice_index_or outputs i 0) word.1; checks = slice_range outputs (p + word.0 * code.columns) (p + word.0 * code.columns + code.columns) }

-- the words of a guard of a source with p outputs
abbrev pub watched_words : Machine → Code → Layout → ℕ → List WordNets
watched_words machine code l p =
    state_nets code machine.inputs l.state ++ map (output_nets_of code p machine.outputs) (enumerate_from 0 l.output)
