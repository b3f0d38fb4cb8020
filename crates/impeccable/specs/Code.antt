-- What `code` writes.
use Rattle.std.specs.Prelude.{◌≡◌, ℕ, ◌+◌, ◌-◌, ◌/◌, List, [], ◌∷◌, ◌++◌, codes, decimal}
use Rattle.guard_spec.specs.Codes.{Code, IsDistance, IsLeastData, bits_of, data_places}
use Rattle.program_spec.specs.Printed.{bits_text, number_line}
use Rattle.impeccable.specs.declared.code.Report.{Report}

-- the lines of the two sizes and of the word
abbrev pub size_text : ℕ → ℕ → List ℕ
size_text n k = number_line (codes "code " ++ decimal n) k

abbrev pub word_line : ℕ → ℕ → List ℕ
word_line places word = codes "word " ++ bits_text (bits_of places word) ++ 10 ∷ []

abbrev pub report_lines : Report → List ℕ
report_lines report =
    size_text report.places report.data_places
    ++ number_line (codes "distance") report.distance
    ++ word_line report.data_places report.least.0
    ++ number_line (codes "detects") report.detects
    ++ number_line (codes "corrects") report.corrects

-- The numbers are those of the code.
pub record Measures (code : Code) (report : Report) : Type 0 where
  pub places : report.places ≡ data_places code + code.columns
  pub width : report.data_places ≡ data_places code
  pub distance : IsDistance code report.distance
  pub least : IsLeastData code report.distance (bits_of (data_places code) report.least.0)
  pub detects : report.detects ≡ report.distance - 1
  pub corrects : report.corrects ≡ (report.distance - 1) / 2
