-- The steps of `code`: where it stands after each, and what stops it there.
use Rattle.std.proofs.Common.{◌≡◌, ◌≤◌, List, ℕ, Ok, Some, None, sym, subst}
use Rattle.std.specs.Prelude.{Option, IsSomeAnd, length}
use Rattle.imp_io.specs.Files.{FilesSeen}
use Rattle.guard_spec.specs.SettingsFile.{settings_of_bytes}
use Rattle.guard_spec.specs.Words.{Settings}
use Rattle.program_spec.specs.Commands.{code, other_limit}
use Rattle.program_spec.specs.Printed.{IsReport}
use Rattle.program_spec.specs.Walk.{Walk, end}
use Rattle.program_spec.specs.Steps.{settings_in}
use Rattle.program_spec.specs.Verdict.{IsReportText, walk_of}
use Rattle.impeccable.specs.declared.ended.Stop.{Stop}
use Rattle.impeccable.specs.Ended.{stop_answer}
use Rattle.impeccable.specs.Loads.{StopsLoad, WhereHeld}
use Rattle.impeccable.specs.Steps.{Passed, Stops}
use Rattle.impeccable.proofs.LoadsLemmas.{tested-passes, tested-stops}
use Rattle.impeccable.proofs.StepLemmas.{starts}

-- what is left of the walk behind the load
abbrev of_settings : Settings → Walk
of_settings s = end

-- the settings are held
abbrev IsHeld : FilesSeen → List ℕ → Settings → Type 0
IsHeld old n s = WhereHeld old n (λ bytes. (length bytes ≤ other_limit) × (settings_of_bytes bytes ≡ Ok s))

pub what-is-read : (settings : List ℕ) (old : FilesSeen) (s : Settings) → (found : Settings) × (s ≡ found) × IsHeld old settings found → IsHeld old settings s
what-is-read settings old s (found, same, held) = subst (λ (f : Settings). IsHeld old settings f) (sym same) held

pub settled : (settings : List ℕ) (old : FilesSeen) (s : Settings) → IsHeld old settings s → Passed old (walk_of (code settings)) end
settled settings old s held = tested-passes old (walk_of (code settings)) settings other_limit Settings settings_in of_settings s (starts old (walk_of (code settings))) held

pub unsettled : (settings : List ℕ) (old new : FilesSeen) (stop : Stop) → StopsLoad Settings old settings other_limit settings_in (stop_answer stop) new → Stops (code settings) old stop new
unsettled settings old new stop h = tested-stops (code settings) old new settings other_limit Settings settings_in of_settings stop (starts old (walk_of (code settings))) h

-- the report that is written, of the bytes that are held
pub report-text : (seen : Option (List ℕ)) (s : Settings) (text : List ℕ) → IsReport s.code text
    → IsSomeAnd seen (λ bytes. (length bytes ≤ other_limit) × (settings_of_bytes bytes ≡ Ok s)) → IsSomeAnd seen (λ bytes. IsReportText bytes text)
report-text None s text report h = absurd h
report-text (Some bytes) s text report h = record { s = s; is_settings = h.1; is_report = report }
