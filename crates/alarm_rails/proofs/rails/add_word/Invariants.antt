use Rattle.std.proofs.Common.{◌≡◌, ◌+◌, ◌++◌, take}
use Rattle.gate_net.specs.GateNet.{net_count}
use Rattle.gate_net.specs.Words.{word_nets}
use Rattle.alarm_rails.specs.Syndromes.{alarm_gates, syndrome_bits}
use Rattle.alarm_rails.proofs.rails.add_word.Given as goal

abbrev pub invariant-loop-j : goal.invariant-loop-j
invariant-loop-j l = record {
  gates : l.dst ≡ record l.fn.dst { gates = l.fn.dst.gates ++ alarm_gates l.fn.alarm.0 (take l.j (syndrome_bits l.code (word_nets l.word))) };
  alarm : net_count l.dst ≡ l.alarm.0 + 1;
}
