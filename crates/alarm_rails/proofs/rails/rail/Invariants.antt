use Rattle.std.proofs.Common.{◌≡◌, ◌+◌, ◌++◌, map, take}
use Rattle.gate_net.specs.GateNet.{net_count}
use Rattle.gate_net.specs.Words.{word_nets}
use Rattle.alarm_rails.specs.Syndromes.{rail_gates}
use Rattle.alarm_rails.proofs.rails.rail.Given as goal

abbrev pub invariant-loop-word : goal.invariant-loop-word
invariant-loop-word l = record {
  gates : l.dst ≡ record l.fn.dst { gates = l.fn.dst.gates ++ rail_gates l.code (net_count l.fn.dst) (take l.word-index (map word_nets l.words)) };
  alarm : net_count l.dst ≡ l.alarm.0 + 1;
}
