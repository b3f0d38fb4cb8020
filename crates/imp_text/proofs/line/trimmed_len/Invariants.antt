-- What is cut off at the end are blanks.
use Rattle.std.proofs.Common.{◌≡◌, ◌≤◌, length, take}
use Rattle.netlist_spec.specs.Lines.{trimmed}
use Rattle.imp_text.proofs.line.trimmed_len.Given as goal

abbrev pub invariant-loop-len : goal.invariant-loop-len
invariant-loop-len l = record {
  within : l.len ≤ length l.bytes;
  blanks : trimmed (take l.len l.bytes) ≡ trimmed l.bytes;
}

abbrev pub decreases-loop-len : goal.decreases-loop-len
decreases-loop-len l = l.len
