-- The lines of a report are its text.
use Rattle.std.proofs.Common.{◌≡◌, ℕ, ◌+◌, ◌-◌, ◌/◌, arith, List, [], ◌∷◌, ◌++◌, codes, length, refl, ap, ◌∙◌, append_assoc}
use Rattle.std.proofs.lemmas.List.{length-map, map-append}
use Rattle.std.proofs.lemmas.List.FromFn.{length-map-range_with_len, map-range_with_len_more}
use Rattle.netlist_spec.specs.Covers.{has_bit}
use Rattle.netlist_spec.specs.Statements.{bit_char}
use Rattle.impeccable.specs.declared.code.Report.{Report}
use Rattle.guard_spec.specs.Codes.{Code, bits_of, data_places}
use Rattle.program_spec.specs.Printed.{IsReport, bits_text, number_line, report_text}
use Rattle.impeccable.specs.Code.{Measures, report_lines, size_text, word_line}

regroup : (s d w b z x y : List ℕ) → ((((s ++ d) ++ ((w ++ b) ++ z)) ++ x) ++ y) ≡ (((((s ++ d) ++ w) ++ b) ++ z) ++ x) ++ y
regroup s d w b z x y = simp append_assoc

lines-of : (n k d w x y : ℕ) → (((size_text n k ++ number_line (codes "distance") d) ++ word_line k w) ++ number_line (codes "detects") x) ++ number_line (codes "corrects") y ≡ (((((size_text n k ++ number_line (codes "distance") d) ++ codes "word ") ++ bits_text (bits_of k w)) ++ 10 ∷ []) ++ number_line (codes "detects") x) ++ number_line (codes "corrects") y
lines-of n k d w x y = regroup (size_text n k) (number_line (codes "distance") d) (codes "word ") (bits_text (bits_of k w)) (10 ∷ []) (number_line (codes "detects") x) (number_line (codes "corrects") y)

same-report : (code : Code) (n k d w x y : ℕ) → n ≡ data_places code + code.columns → k ≡ data_places code → x ≡ d - 1 → y ≡ (d - 1) / 2
    → (((((size_text n k ++ number_line (codes "distance") d) ++ codes "word ") ++ bits_text (bits_of k w)) ++ 10 ∷ []) ++ number_line (codes "detects") x) ++ number_line (codes "corrects") y ≡ report_text code d (bits_of (data_places code) w)
same-report code n k d w x y hn hk hx hy = rw (hn, hk, hx, hy) refl

pub lines-are : (code : Code) (report : Report) → Measures code report → report_lines report ≡ report_text code report.distance (bits_of (data_places code) report.least.0)
lines-are code report m =
    lines-of report.places report.data_places report.distance report.least.0 report.detects report.corrects
    ∙ same-report code report.places report.data_places report.distance report.least.0 report.detects report.corrects m.places m.width m.detects m.corrects

-- one place more
pub bits-more : (w i : ℕ) → bits_text (bits_of (i + 1) w) ≡ bits_text (bits_of i w) ++ bit_char (has_bit w i) ∷ []
bits-more w i = ap bits_text (map-range_with_len_more (λ j. has_bit w j) 0 i i (omega arith)) ∙ map-append bit_char (bits_of i w) (has_bit w i ∷ [])

pub bits-long : (w i : ℕ) → length (bits_text (bits_of i w)) ≡ i
bits-long w i = length-map (bits_of i w) bit_char ∙ length-map-range_with_len (λ j. has_bit w j) 0 i

-- what is measured is a report
pub is-report : (code : Code) (report : Report) → Measures code report → IsReport code (report_lines report)
is-report code report m =
    record { d = report.distance; is_distance = m.distance; u = bits_of (data_places code) report.least.0; is_least = m.least; is_text = lines-are code report m }
