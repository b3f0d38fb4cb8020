use Rattle.std.proofs.Common.{map, take}
use Rattle.encode_state.specs.Types.{words_in}
use Rattle.gate_net.specs.Gate.{net_number}
use Rattle.guard_net.specs.Built.{GainsChecks}
use Rattle.guard_net.proofs.words.add_output_checks.Given as goal

abbrev pub invariant-loop-word : goal.invariant-loop-word
invariant-loop-word l = GainsChecks l.m l.code (words_in (take l.word-index l.words)) (map net_number l.leaf) l.initial.s.net l.s.net (map net_number l.initial.s.cells.items) (map net_number l.s.cells.items)
