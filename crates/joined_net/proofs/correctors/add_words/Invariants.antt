use Rattle.std.proofs.Common.{◌≡◌, ◌+◌, ◌≤◌, ℕ, List, length, map, sum_by, take}
use Rattle.encode_state.specs.Types.{words_in}
use Rattle.gate_net.specs.Gate.{net_number}
use Rattle.gate_net.specs.GateNet.{net_count}
use Rattle.guard_laws.specs.Places.{latches_of_words}
use Rattle.cone_split.specs.Ranges.{KeepsGates}
use Rattle.joined_net.specs.Words.{CoversCosts, GainsWords}
use Rattle.joined_net.proofs.correctors.add_words.Given as goal

abbrev pub invariant-loop-entry : goal.invariant-loop-entry
invariant-loop-entry l = record {
  kept : KeepsGates l.initial.net l.net;
  gained : GainsWords l.c l.t l.inputs (length l.initial.nets) l.marks (words_in (take l.entry-index l.words)) l.net (map net_number l.nets);
  at : l.at ≡ l.inputs + latches_of_words l.c (words_in (take l.entry-index l.words));
  room : (cost : List ℕ → ℕ) → CoversCosts l.c l.t l.inputs l.marks cost → net_count l.net ≤ net_count l.initial.net + sum_by cost (words_in (take l.entry-index l.words));
}
