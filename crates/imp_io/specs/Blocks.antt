-- What was given to blocks over a sink.
use Rattle.std.specs.Prelude.{◌≡◌, ℕ, List, ◌++◌, Result, Ok, Err, None, Some, IsSome}
use Rattle.std.specs.declared.option.Option.{Option}
use Rattle.imp_io.specs.declared.fault.SinkFault.{SinkFault}
use Rattle.imp_io.specs.declared.blocks.Blocks.{Blocks}
use Rattle.imp_io.specs.Sink.{SinkSeen, Puts}

-- A text that was given to a block since the sink below was at `start`. Where no fault came, the block holds what isn't
-- put yet; else the fault is that of a put of the text.
abbrev pub StandsAt : SinkSeen → List ℕ → SinkSeen → List ℕ → Option SinkFault → Type 0
StandsAt start text below held None =
    (done : List ℕ) × Puts {T = Unit {0}} start done (Ok tt) below × (text ≡ done ++ held)
StandsAt start text below held (Some fault) = Puts {T = Unit {0}} start text (Err fault) below

module _ {O : Type 0} (seen : O → SinkSeen) where
  -- that text was given since the sink was at `start`
  abbrev pub Stands : SinkSeen → List ℕ → Blocks O → Type 0
  Stands start text blocks = StandsAt start text (seen blocks.to.now) blocks.block.items blocks.stopped

  -- a piece is given behind any text, and nothing is put behind a fault
  pub record Gives (old : Blocks O) (piece : List ℕ) (new : Blocks O) : Type 0 where
    pub same_sink : new.to.ghost_name ≡ old.to.ghost_name
    pub text : (start : SinkSeen) (text : List ℕ) → Stands start text old → Stands start (text ++ piece) new
    pub stopped : IsSome old.stopped → (new.stopped ≡ old.stopped) × (seen new.to.now ≡ seen old.to.now)

  -- all that was given is put, with that answer
  pub record Flushes {T : Type 0} (old : Blocks O) (result : Result T SinkFault) (new : Blocks O) : Type 0 where
    pub same_sink : new.to.ghost_name ≡ old.to.ghost_name
    pub text : (start : SinkSeen) (text : List ℕ) → Stands start text old → Puts start text result (seen new.to.now)
    pub stopped : IsSome old.stopped → seen new.to.now ≡ seen old.to.now
