use Rattle.std.proofs.Common.{◌≡◌, ◌+◌, length, map, take}
use Rattle.guard_spec.specs.Codes.{syndrome_of}
use Rattle.gate_net.specs.Gate.{net_number}
use Rattle.gate_net.specs.GateNet.{net_count}
use Rattle.gate_net.specs.Words.{nets_of, word_nets}
use Rattle.corrector.specs.Computed.{AreComputed}
use Rattle.corrector.proofs.SyndromeBits.{column_sizes}
use Rattle.corrector.proofs.syndromes.append_syndrome.Given as goal

abbrev pub invariant-loop-j : goal.invariant-loop-j
invariant-loop-j l = record {
  computed : AreComputed l.fn.net l.net (nets_of (word_nets l.word)) (map net_number l.bits.items) (λ v. take l.j (syndrome_of l.code (length l.word.places.items) (map v (nets_of (word_nets l.word)))));
  count : length l.bits.items ≡ l.j;
  cost : net_count l.net ≡ net_count l.fn.net + column_sizes l.code.rows (map net_number l.word.places.items) l.j;
}
