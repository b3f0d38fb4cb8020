-- The netlist of the demo design is read as its file.
use Rattle.std.proofs.Common.{◌≡◌, refl, sym, ◌∙◌, ap, subst, ℕ, ◌+◌, ◌*◌, ◌≤◌, List, [], ◌∷◌, codes, length, arith}
use Rattle.std.specs.Prelude.{sum_by}
use Rattle.std.specs.List.{AllByRecursion, flat_map}
use Rattle.netlist_spec.specs.Lines.{logical_lines}
use Rattle.netlist_spec.specs.Statements.{Said, model_line, IsStatement}
use Rattle.netlist_spec.specs.Reads.{IsNarrow, latch_count_of, IsWithinModelLimits, IsWithinLimits, Reads, ports_at}
use Rattle.netlist_spec.specs.Text.{line_text}
use Rattle.netlist_spec.specs.WrittenLines.{HasPlainWords, spelled_lines}
use Rattle.program_spec.specs.Demo.{demo_netlist}
use Rattle.netlist_spec.proofs.WrittenLines.{plain_words, lines_back, reads_lines}
use Rattle.demo_laws.specs.DemoFile.{loaded, demo_located, input_names, demo_model, demo_file}
use Rattle.demo_laws.specs.DemoLaws.{IsDemoSize}
use Rattle.demo_laws.proofs.Ranges.{all_unmapped, length_mapped}
use Rattle.demo_laws.proofs.Parts.{statements_are, each_statement}
use Rattle.demo_laws.proofs.Sound.{sum_of_parts, statement_count, output_count, ports_length}
use Rattle.demo_laws.proofs.Lines.{inner_lines, lines_are, IsGood, all_good}
use Rattle.demo_laws.proofs.Declared.{demo_follows, models_declared}

plain_of : (ls : List Said) → AllByRecursion IsGood ls → AllByRecursion HasPlainWords ls
plain_of [] h = tt
plain_of (l ∷ ls) h = (plain_words l h.0.plain_names, plain_of ls h.1)

statements_of : (ls : List Said) → AllByRecursion IsGood ls → AllByRecursion IsStatement ls
statements_of [] h = tt
statements_of (l ∷ ls) h = (h.0.statement, statements_of ls h.1)

module _ (n : ℕ) (size : IsDemoSize n) where
  abbrev all_lines : List Said
  all_lines = model_line (codes "demo") ∷ inner_lines n

  cut : logical_lines (demo_netlist n) ≡ spelled_lines 1 all_lines
  cut = ap (λ l. logical_lines (flat_map line_text l)) (lines_are n) ∙ lines_back all_lines (plain_of all_lines (all_good n size))

  narrow : AllByRecursion (λ s. IsNarrow s.what) (demo_located n)
  narrow =
      all_unmapped IsNarrow (λ s. s.what) (demo_located n)
      (subst (λ l. AllByRecursion IsNarrow l) (sym (statements_are n)) (each_statement n IsNarrow (λ i h. tt) (λ j h. tt) (λ i h. omega arith) (λ i h. omega arith)))

  latches_counted : sum_by (λ s. latch_count_of s.what) (demo_located n) ≡ 4 * n
  latches_counted = sum_of_parts n latch_count_of 1 0 0 0 (λ i. refl) (λ j. refl) (λ i. refl) (λ i. refl) ∙ omega arith

  model_within : IsWithinModelLimits (demo_model n)
  model_within =
      let ins : length (ports_at 2 (input_names n)) ≡ length (input_names n) = ports_length 2 (input_names n) in
      let named : length (input_names n) ≡ 4 * n + 1 = (let e = length_mapped loaded 0 (4 * n) in omega arith) in
      let outs = output_count n size in
      let latches = latches_counted in
      record { covers = narrow; inputs = omega (arith, size); outputs = omega (arith, size); clocks = omega arith; latches = omega (arith, size) }

  within : IsWithinLimits (demo_file n)
  within =
      let count = statement_count n in
      record { models = (model_within, tt); statements = all (length (demo_located n)) count }
    where
      all : (c : ℕ) → c ≡ 13 * n → 0 + c ≤ 2000000
      all c e = omega (arith, size)

  pub demo_is_read : Reads (demo_netlist n) (demo_file n)
  demo_is_read =
      reads_lines 1 all_lines (demo_netlist n) (demo_file n) cut (statements_of all_lines (all_good n size)) tt (demo_follows n) (sym (models_declared n size)) refl within
