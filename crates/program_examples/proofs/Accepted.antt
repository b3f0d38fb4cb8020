-- The register that turns its bit, with a code of two places, is accepted.
use Rattle.std.proofs.Common.{◌≡◌, refl, ◌<◌, ◌≤◌, [], ◌∷◌, length, codes, true, false, Ok, inl, inr, arith, lit<, lit≤}
use Rattle.std.specs.Str.{chars, is_utf8}
use Rattle.toml.proofs.OnLiterals.{toml_on_literals}
use Rattle.netlist_spec.specs.SourceRun.{Bits}
use Rattle.guard_spec.specs.Codes.{IsDistance, weight, encoded}
use Rattle.guard_spec.specs.SettingsFile.{settings_of_bytes}
use Rattle.program_spec.specs.Verdict.{IsAccepted}
use Rattle.spec_examples.specs.Examples.{parity_code, parity_settings, inverter_file, inverter_model, inverter_layout}
use Rattle.program_examples.specs.ProgramExamples.{parity_text, inverter_contents}
use Rattle.spec_examples.proofs.Small.{inverter_reads}
use Rattle.spec_examples.proofs.Inverter.{inverter_is_sound, inverter_plain}

pub parity_is_read : settings_of_bytes parity_text ≡ Ok parity_settings
unfolding toml_on_literals settings_of_bytes is_utf8 chars
parity_is_read = refl

pub parity_distance : IsDistance parity_code 2
parity_distance =
    record { least = true ∷ []; places = refl; nonzero = lit< tt; reached = refl; bound = least }
  where
    least : (u : Bits) → length u ≡ 1 → 0 < weight u → 2 ≤ weight (encoded parity_code u)
    least [] e h = absurd (omega arith)
    least (true ∷ []) e h = lit≤ tt
    least (false ∷ []) e h = absurd (omega arith)
    least (b ∷ c ∷ bs) e h = absurd (omega arith)

pub inverter_is_accepted : IsAccepted inverter_contents (codes "s.toml") (codes "inv.blif")
inverter_is_accepted =
    inr (
      lit≤ tt,
      inl (
        parity_settings,
        parity_is_read,
        inl (
          tt,
          (2, parity_distance, lit≤ tt),
          inr (
            lit≤ tt,
            inl (
              inverter_file,
              inverter_reads,
              inl (
                tt,
                inverter_is_sound,
                inl (
                  inverter_model,
                  refl,
                  inl (
                    inverter_layout,
                    (refl, record { state = (refl, (lit≤ tt, lit≤ tt)); output = (refl, (lit≤ tt, lit≤ tt)) }),
                    inl (tt, (38, inverter_plain, lit≤ tt), refl),
                  ),
                ),
              ),
            ),
          ),
        ),
      ),
    )
