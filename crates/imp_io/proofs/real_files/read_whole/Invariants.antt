-- What was read so far is at most what may be read, was counted, and is gone from the front of what was left.
use Rattle.std.proofs.Common.{◌≡◌, ◌≤◌, ◌-◌, vec_len}
use Rattle.std.specs.Io.KnownBytes.{Consumes}
use Rattle.imp_io.specs.Counts.{raised_by}
use Rattle.imp_io.proofs.real_files.read_whole.Given as goal

abbrev pub invariant-loop-bytes : goal.invariant-loop-bytes
invariant-loop-bytes g l = record {
  within : vec_len l.bytes ≤ l.most;
  read : Consumes (g.S.Read.remaining l.initial.from) (g.S.Read.remaining l.from) l.bytes.items;
  faults : l.counts.faults ≡ l.initial.counts.faults;
  taken : l.counts.taken ≡ raised_by l.initial.counts.taken (vec_len l.bytes);
}

abbrev pub decreases-loop-bytes : goal.decreases-loop-bytes
decreases-loop-bytes g l = l.most - vec_len l.bytes
