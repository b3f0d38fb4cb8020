-- What is put to the error output.
use Rattle.std.specs.Prelude.{◌≡◌, ℕ, List, Result, MatchOption}
use Rattle.std.specs.Io.KnownBytes.{Appends}
use Rattle.imp_io.specs.Counts.{Stayed}
use Rattle.imp_io.specs.Sink.{SinkSeen, AppendsPrefix, Puts}
use Rattle.imp_io.specs.declared.fault.SinkFault.{SinkFault}
use Rattle.program_spec.specs.ErrorLines.{Answer, answer_line}

-- The line was put, or a prefix of it at the first put that failed.
abbrev pub PutsAnswer : {T : Type 0} → Answer → SinkSeen → Result T SinkFault → SinkSeen → Type 0
PutsAnswer answer old result new = MatchOption (answer_line answer) (new ≡ old) (λ line. Puts old line result new)

-- A prefix of the line stands there, and the whole line where no put failed or found no memory.
pub record SaysLine (line : List ℕ) (old new : SinkSeen) : Type 0 where
  pub prefix : AppendsPrefix old.written new.written line
  pub whole : Stayed old.faults new.faults → Stayed old.denied new.denied → Appends old.written new.written line

-- the line of the answer is told, and a success tells nothing
abbrev pub Says : Answer → SinkSeen → SinkSeen → Type 0
Says answer old new = MatchOption (answer_line answer) (new ≡ old) (λ line. SaysLine line old new)
