-- What is known of what text is put to, and what a put does.
use Rattle.std.specs.Prelude.{◌≡◌, ℕ, ◌^◌, ◌<◌, ◌≤◌, List, ◌++◌, Result, Ok, Err, None, Some, OnOk, OnErr, IsErrOf}
use Rattle.std.specs.Io.KnownBytes.{Appends}
use Rattle.std.specs.Borrow.{Bor}
use Rattle.std.specs.declared.option.Option.{Option}
use Rattle.imp_io.specs.declared.fault.SinkFault.{SinkFault}
use Rattle.imp_io.specs.declared.fault.SinkFault.TheVariants.{Failed, NoMemory}
use Rattle.imp_io.specs.Counts.{Rose, raised_by}

-- What is known of a sink at a moment: the bytes that were written, where they are known, how many puts have failed,
-- and how many found no memory.
pub record SinkSeen : Type 0 where
  pub written : Option (List ℕ)
  pub faults : ℕ
  pub denied : ℕ

-- each count is below 2^64
pub record HasSmallCounts (sink : SinkSeen) : Type 0 where
  pub faults_small : sink.faults < 2 ^ 64
  pub denied_small : sink.denied < 2 ^ 64

-- known bytes grow by a prefix of the text
pub record AppendsPrefix (old new : Option (List ℕ)) (text : List ℕ) : Type 0 where
  pub front : List ℕ
  pub rest : List ℕ
  pub parts : text ≡ front ++ rest
  pub appended : Appends old new front

-- A text that is put, in one piece or in several, with that answer. It is Ok only where no put has failed.
pub record Puts {T : Type 0} (old : SinkSeen) (text : List ℕ) (result : Result T SinkFault) (new : SinkSeen) : Type 0 where
  pub whole : OnOk result (Appends old.written new.written text)
  pub kept : OnOk result (new.faults ≡ old.faults)
  pub prefix : OnErr result (AppendsPrefix old.written new.written text)
  pub failed : IsErrOf result Failed → Rose old.faults new.faults
  pub no_memory : IsErrOf result NoMemory → Rose old.denied new.denied
  pub faults_stay : old.faults ≤ new.faults
  pub denied_stays : old.denied ≤ new.denied

-- a text that is put in one piece, unless a put has failed before; the faults are the first so far
abbrev pub PutsOnce : Option SinkFault → SinkSeen → List ℕ → Option SinkFault → SinkSeen → Type 0
PutsOnce (Some fault) old text now new = (now ≡ Some fault) × (new ≡ old)
PutsOnce None old text None new = Puts {T = Unit {0}} old text (Ok tt) new
PutsOnce None old text (Some fault) new = Puts {T = Unit {0}} old text (Err fault) new

-- the count of faults after a put that counts nothing but its own failure
abbrev pub faults_after : {T : Type 0} → ℕ → Result T SinkFault → ℕ
faults_after faults (Ok _) = faults
faults_after faults (Err Failed) = raised_by faults 1
faults_after faults (Err NoMemory) = faults

-- the bytes of a piece
abbrev pub bytes_of : Bor (List ℕ) → List ℕ
bytes_of piece = piece.now
