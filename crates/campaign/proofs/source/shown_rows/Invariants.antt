-- The source was run so far.
use Rattle.std.proofs.Common.{◌≡◌, length, take}
use Rattle.campaign.specs.Runs.{ShowsTo}
use Rattle.gate_net.specs.GateNet.{net_count}
use Rattle.campaign.proofs.source.shown_rows.Given as goal

abbrev pub invariant-loop-c : goal.invariant-loop-c
invariant-loop-c l =
    record {
      shows : ShowsTo l.source (take l.c l.stimulus.cycles) l.rows.items l.state.items;
      x : length l.x.items ≡ l.source.inputs;
      state : length l.state.items ≡ length l.source.latches;
      row : length l.row.items ≡ net_count l.source.net;
    }
