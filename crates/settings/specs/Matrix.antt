-- The rows of a check matrix as texts.
use Rattle.std.specs.Prelude.{ℕ, List, length, Option, Some, None, Result, ok_or, codes, ◌==◌, if◌then◌else◌}
use Rattle.netlist_spec.specs.Digits.{bits_of_text}
use Rattle.netlist_spec.specs.SourceRun.{Bits}
use Rattle.guard_spec.specs.SettingsFile.{SettingsFault, bad_shape, as_text, then_gives, texts_of, bit_rows, needed, ◌>>=◌}
use Rattle.toml.specs.Data.{Data, Members}

-- the row of a text of so many characters
abbrev pub row_at : ℕ → Data → Option Bits
row_at width d = then_gives (as_text d) (λ text. if length text == width then bits_of_text text else None)

-- the length of a text
abbrev pub text_length : Data → Option ℕ
text_length d = then_gives (as_text d) (λ text. Some (length text))

-- the rows that `check` has
abbrev pub check_of : Members → Result (List Bits) SettingsFault
check_of doc = do
  texts ← needed (codes "check") (codes "check") texts_of doc
  ok_or (bit_rows 12 16 texts) bad_shape
