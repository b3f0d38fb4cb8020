-- How a demo ends, whatever is known of the files.
use Rattle.std.specs.Prelude.{◌≡◌, ◌⊎◌, List, ℕ}
use Rattle.std.specs.Io.KnownBytes.{Appends}
use Rattle.imp_io.specs.Counts.{Rose}
use Rattle.imp_io.specs.Sink.{SinkSeen, AppendsPrefix}
use Rattle.netlist_spec.specs.Runs.{IsSteady}
use Rattle.program_spec.specs.CampaignText.{IsDemoText}
use Rattle.impeccable.specs.declared.outcome.Outcome.{Outcome}
use Rattle.impeccable.specs.declared.outcome.Outcome.TheVariants.{Done, WriteFault, NoMemory}

-- of a text that a demo of this size may write this holds
abbrev pub HasDemoText : ℕ → (List ℕ → Type 0) → Type 0
HasDemoText size P = (text : List ℕ) × IsDemoText size text (λ t. IsSteady t) × P text

abbrev pub EndsDemo : ℕ → SinkSeen → SinkSeen → Outcome → Type 0
-- a whole text was appended, and no put failed
EndsDemo size out out' Done =
    (out'.faults ≡ out.faults) × HasDemoText size (λ text. Appends out.written out'.written text)
-- a prefix of a text was appended
EndsDemo size out out' WriteFault =
    Rose out.faults out'.faults × HasDemoText size (λ text. AppendsPrefix out.written out'.written text)
-- nothing was written, or a put found no memory and a prefix of a text was appended
EndsDemo size out out' NoMemory =
    (out' ≡ out)
    ⊎ (Rose out.denied out'.denied × HasDemoText size (λ text. AppendsPrefix out.written out'.written text))
EndsDemo size out out' _ = ⊥
