-- A text without a fault says the file that its logical lines declare.
use Rattle.std.proofs.Common.{◌≡◌, refl, sym, ◌∙◌, subst, ℕ, ◌≤◌, List, [], ◌∷◌, ◌++◌, map, length, false, ◌⊎◌, inl, inr, Option, Some, None, arith}
use Rattle.std.specs.Prelude.{sum_by}
use Rattle.std.specs.List.{AllByRecursion, AllZip}
use Rattle.netlist_spec.specs.Lines.{Line, is_empty, logical_lines}
use Rattle.netlist_spec.specs.Netlist.{File}
use Rattle.netlist_spec.specs.Statements.{Says}
use Rattle.netlist_spec.specs.Reads.{Numbered, models_of, IsWithinLimits, Reads}
use Rattle.netlist_spec.specs.ReadFaults.{ReadFault, fault_from, read_fault}
use Rattle.netlist_spec.specs.Said.{said_of, declared_lines, declared_file}
use Rattle.netlist_spec.proofs.NoFault.{line_at, lines_are, nothing_yet, Room, AllCome, reads_no_fault}
use Rattle.netlist_spec.proofs.SaidLines.{HasWords, says_said}
use Rattle.netlist_spec.proofs.LineWords.{lines_have_words}
use Rattle.netlist_spec.proofs.FirstFault.{first_passes, no_fault_tells}
use Rattle.netlist_spec.proofs.Passes.{Passes, line_passes, lines_come, lines_begin, lines_follow}
use Rattle.netlist_spec.proofs.WithinLimits.{lines_have_room, names_of}

-- A line without a fault says what is computed from it.
pub line_says : (earlier : List Line) (l : Line) → HasWords l → Passes earlier l → Says l (said_of l)
line_says earlier l h p = says_said earlier l h p.unknown p.wrong_count p.long_name p.port_word p.latch p.row

lines_say : (earlier lines : List Line) → AllByRecursion HasWords lines → fault_from earlier lines ≡ None → AllZip (λ line n. (line.number ≡ n.0) × Says line n.1) lines (declared_lines lines)
lines_say earlier [] h none = tt
lines_say earlier (l ∷ ls) h none =
    let parts = first_passes earlier l ls none in
    ((refl, line_says earlier l h.0 (line_passes earlier l parts.0)), lines_say (earlier ++ l ∷ []) ls h.1 parts.1)

some_declared : (lines : List Line) → is_empty lines ≡ false → is_empty (declared_lines lines) ≡ false
some_declared [] h = h
some_declared (l ∷ ls) h = refl

within : (ns : List Numbered) → Room [] ns → IsWithinLimits (record { models = models_of ns })
within ns r =
    record {
      models = r.later;
      statements = let h = r.statements in let goal : sum_by (λ m. length m.statements) (models_of ns) ≤ 2000000 = omega arith in goal;
    }

pub no_fault_reads : (bytes : List ℕ) → read_fault bytes ≡ None → Reads bytes (declared_file (logical_lines bytes))
no_fault_reads bytes h =
    let lines : List Line = logical_lines bytes in
    let ns : List Numbered = declared_lines lines in
    let told = no_fault_tells bytes h in
    let cases : AllZip (λ line n. (line.number ≡ n.0) × Says line n.1) lines ns = lines_say [] lines (lines_have_words bytes) told.1 in
    let none : fault_from [] (map line_at ns) ≡ None = subst (λ ls. fault_from [] ls ≡ None) (lines_are lines ns cases) told.1 in
    let come : AllCome None ns = lines_come [] None ns nothing_yet none in
    record {
      lines = ns;
      cases = cases;
      begins = lines_begin ns (some_declared lines told.0) come;
      order = lines_follow ns None come;
      models = refl;
      distinct = (names_of [] ns none).1;
      limits = within ns (lines_have_room ns none);
    }

pub never_both : (bytes : List ℕ) (file : File) (fault : ReadFault) → Reads bytes file → read_fault bytes ≡ Some fault → ⊥
never_both bytes file fault r h = let none : read_fault bytes ≡ None = reads_no_fault bytes file r in let e : None ≡ Some fault = sym none ∙ h in cc e

pub read_or_refused : (bytes : List ℕ) → ((read_fault bytes ≡ None) × Reads bytes (declared_file (logical_lines bytes))) ⊎ ((fault : ReadFault) × (read_fault bytes ≡ Some fault))
read_or_refused bytes = go (read_fault bytes) refl
  where
    go : (o : Option ReadFault) → read_fault bytes ≡ o → ((read_fault bytes ≡ None) × Reads bytes (declared_file (logical_lines bytes))) ⊎ ((fault : ReadFault) × (read_fault bytes ≡ Some fault))
    go None e = inl (e, no_fault_reads bytes e)
    go (Some fault) e = inr (fault, e)
