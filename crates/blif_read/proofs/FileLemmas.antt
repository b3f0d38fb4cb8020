-- The steps of the reader that gathers a file.
use Rattle.std.proofs.Common.{◌≡◌, ◌<◌, ◌≤◌, ◌+◌, ◌-◌, ◌^◌, ◌==◌, ℕ, Bool, true, false, ◌&&◌, not, List, [], ◌∷◌, ◌++◌, length, refl, sym, ap, ◌∙◌, arith, Option, None, Some, append_assoc, append-nil, subst}
use Rattle.std.specs.Prelude.{is_some, nat_lt, if◌then◌else◌}
use Rattle.std.specs.Bool.{then_some}
use Rattle.std.specs.Option.{option_or}
use Rattle.std.proofs.lemmas.Bool.{ltb-false}
use Rattle.std.proofs.lemmas.List.{map-append, length-map}
use denote.Ref.{Bor}
use Rattle.netlist_spec.specs.Lines.{Word, Line, is_empty, logical_lines}
use Rattle.netlist_spec.specs.Netlist.{Quantity, cover_inputs, file_statements}
use Rattle.netlist_spec.specs.ReadFaults.{ReadFault, Kind, model_kind, inputs_kind, outputs_kind, clock_kind, names_kind, latch_kind, subckt_kind, end_kind, other_kind, row_kind, arguments, count_fault, fault_from, line_fault, read_fault, is_row_of_open}
use Rattle.netlist_spec.specs.Reads.{Numbered, Reads, models_of}
use Rattle.netlist_spec.specs.Said.{said_of, declared_lines, declared_file}
use Rattle.netlist_spec.proofs.FirstFault.{still_no_fault}
use Rattle.netlist_spec.proofs.Passes.{line_passes}
use Rattle.netlist_spec.proofs.ReadOrRefused.{line_says, no_fault_reads}
use Rattle.imp_text.specs.Reading.{Reading}
use Rattle.blif_read.specs.declared.line.Line.{Line as ReadLine}
use Rattle.blif_read.specs.declared.models.FileSoFar.{FileSoFar}
use Rattle.blif_read.specs.declared.summary.Room.{Room}
use Rattle.blif_read.specs.declared.summary.Summary.{Summary}
use Rattle.blif_read.specs.Building.{AddsToFile, FitsFile, IsFileSoFar, has_cover, name_count, numbered, opens}
use Rattle.blif_read.specs.declared.file.File.{File as ReadFile}
use Rattle.blif_read.specs.View.{file_of}
use Rattle.blif_read.specs.Kinds.{kind_in}
use Rattle.blif_read.specs.LineTests.{words_in, line_of, IsLine}
use Rattle.blif_read.specs.Spelled.{IsRow}
use Rattle.blif_read.specs.Summaries.{is_model, is_row, Summarizes, order_fault, words_fault, row_fault, model_fault, count_fault_by, passed_by, fault_by, open_after, IsAfter}
use Rattle.blif_read.proofs.FewWords.{word_count, word_count-append, few_in_text}
use Rattle.blif_read.proofs.ReaderLemmas.{IsSoFar, no_fault_at_end}
use Rattle.blif_read.proofs.SummaryLemmas.{fault_is, known_after}

-- a cover has at most 16 inputs
abbrev IsNarrow : Option ℕ → Type 0
IsNarrow None = Unit {0}
IsNarrow (Some inputs) = inputs ≤ 16

-- The lines so far have no fault, and the file gathers them.
pub record IsReadSoFar (bytes : List ℕ) (reading : Reading) (s : Summary) (file : FileSoFar) : Type 0 where
  pub source : reading.source ≡ bytes
  pub earlier : List Line
  pub split : logical_lines bytes ≡ earlier ++ reading.left
  pub none : fault_from [] earlier ≡ None
  pub known : Summarizes earlier s
  pub gathered : IsFileSoFar file (declared_lines earlier)
  pub model : is_some file.last ≡ s.has_model
  pub cover : has_cover file.last ≡ is_some s.open_inputs
  pub narrow : IsNarrow s.open_inputs
  pub few : name_count file.last ≤ word_count earlier

pub so_far_of : {bytes : List ℕ} {reading : Reading} {s : Summary} {file : FileSoFar} → IsReadSoFar bytes reading s file → IsSoFar bytes reading s
so_far_of is = record { source = is.source; earlier = is.earlier; split = is.split; none = is.none; known = is.known }

-- ---- What a line that passes says of the summary.

both_none : (a b : Option ReadFault) → option_or a b ≡ None → (a ≡ None) × (b ≡ None)
both_none None b h = (refl, h)
both_none (Some f) b h = cc h

test_none : (b : Bool) (f : ReadFault) → then_some b f ≡ None → b ≡ false
test_none true f h = cc h
test_none false f h = refl

-- the parts of the tests
record PassesBy (s : Summary) (k : Kind) (l : Line) : Type 0 where
  pub order : order_fault s k l ≡ None
  pub row : row_fault s k l ≡ None
  pub counts : count_fault_by s k l ≡ None

passes_by : (s : Summary) (k : Kind) (l : Line) → fault_by s k l ≡ None → PassesBy s k l
passes_by s k l h =
    let a = both_none (order_fault s k l) _ h in
    let b = both_none (words_fault k l) _ a.1 in
    let c = both_none (row_fault s k l) _ b.1 in
    let d = both_none (model_fault s k l) _ c.1 in
    record { order = a.0; row = c.0; counts = d.1 }

-- a line that begins no model stands in one
in_model : (s : Summary) (k : Kind) (l : Line) → PassesBy s k l → is_model k ≡ false → s.has_model ≡ true
in_model s k l p other =
    let a = both_none _ _ p.order in
    let b = both_none _ _ a.1 in
    go s.has_model (is_model k) (test_none _ _ b.0) other
  where
    go : (has model : Bool) → (not has && not model) ≡ false → model ≡ false → has ≡ true
    go true model h o = refl
    go false true h o = cc o
    go false false h o = cc h

-- a row is one of the cover that is open
row_of_open : (s : Summary) (k : Kind) (l : Line) → PassesBy s k l → is_row k ≡ true → is_row_of_open s.open_inputs l.words ≡ true
row_of_open s k l p row =
    let a = both_none _ _ p.row in
    go (is_row k) (is_row_of_open s.open_inputs l.words) (test_none _ _ a.0) row
  where
    go : (b fits : Bool) → (b && not fits) ≡ false → b ≡ true → fits ≡ true
    go true true h r = refl
    go true false h r = cc h
    go false fits h r = cc r

narrow_row : (inputs : Option ℕ) (l : Line) → IsNarrow inputs → is_row_of_open inputs l.words ≡ true → (is_some inputs ≡ true) × IsRow l.words
narrow_row None l narrow row = cc row
narrow_row (Some p) l narrow row = (refl, record { inputs = p; few = narrow; row = row })

-- a cover is open behind a line
pub open_some : (k : Kind) (count : ℕ) (before : Option ℕ) → opens k (is_some before) ≡ is_some (open_after k count before)
open_some model_kind count before = refl
open_some inputs_kind count before = refl
open_some outputs_kind count before = refl
open_some clock_kind count before = refl
open_some names_kind count before = refl
open_some latch_kind count before = refl
open_some subckt_kind count before = refl
open_some end_kind count before = refl
open_some other_kind count before = refl
open_some row_kind count before = refl

count_none : (n : ℕ) (o : Option Quantity) → count_fault n o ≡ None → o ≡ None
count_none n None h = refl
count_none n (Some q) h = cc h

few_inputs : (room : Room) (count : ℕ) → passed_by room names_kind count ≡ None → IsNarrow (Some (count - 1))
few_inputs room count h = go (nat_lt 16 (count - 1)) refl h
  where
    go : (b : Bool) → nat_lt 16 (count - 1) ≡ b → (if b then Some cover_inputs else if room.statements == 0 then Some file_statements else None) ≡ None → count - 1 ≤ 16
    go true e g = cc g
    go false e g = ltb-false 16 (count - 1) e

pub narrow_after : (s : Summary) (k : Kind) (l : Line) → fault_by s k l ≡ None → IsNarrow s.open_inputs → IsNarrow (open_after k (length (arguments l)) s.open_inputs)
narrow_after s model_kind l h narrow = tt
narrow_after s inputs_kind l h narrow = tt
narrow_after s outputs_kind l h narrow = tt
narrow_after s clock_kind l h narrow = tt
narrow_after s names_kind l h narrow = few_inputs s.room (length (arguments l)) (count_none l.number _ (passes_by s names_kind l h).counts)
narrow_after s latch_kind l h narrow = tt
narrow_after s subckt_kind l h narrow = tt
narrow_after s end_kind l h narrow = tt
narrow_after s other_kind l h narrow = tt
narrow_after s row_kind l h narrow = narrow

-- ---- The steps.

pub read_at_start : (bytes : List ℕ) (reading : Reading) (s : Summary) (file : FileSoFar) → reading ≡ record { source = bytes; left = logical_lines bytes } → Summarizes [] s → s.has_model ≡ false → s.open_inputs ≡ None → IsFileSoFar file [] → file.last ≡ None → IsReadSoFar bytes reading s file
read_at_start bytes reading s file is known no_model no_cover gathered none =
    record {
      source = ap (λ (r : Reading). r.source) is;
      earlier = [];
      split = sym (ap (λ (r : Reading). r.left) is);
      none = refl;
      known = known;
      gathered = gathered;
      model = ap is_some none ∙ sym no_model;
      cover = ap has_cover none ∙ ap is_some (sym no_cover);
      narrow = subst IsNarrow (sym no_cover) tt;
      few = let e : name_count file.last ≡ 0 = ap name_count none in omega (arith, e);
    }

declared_more : (lines : List Line) (l : Line) → declared_lines (lines ++ l ∷ []) ≡ declared_lines lines ++ (l.number, said_of l) ∷ []
declared_more lines l = map-append (λ (k : Line). (k.number, said_of k)) lines (l ∷ [])

pub read_more : (bytes : List ℕ) (old new : Reading) (s t : Summary) (file after : FileSoFar) (line : ReadLine) → IsReadSoFar bytes old s file → old.left ≡ line_of line ∷ new.left → new.source ≡ old.source → IsLine line → fault_by s (kind_in line.kind) (line_of line) ≡ None → IsAfter s (kind_in line.kind) (line_of line) t
    → AddsToFile file (numbered line) after → is_some after.last ≡ true → has_cover after.last ≡ opens (kind_in line.kind) (has_cover file.last) → name_count after.last ≤ name_count file.last + length line.words.now → IsReadSoFar bytes new t after
read_more bytes old new s t file after line is first source is_line passes after_is adds model cover few =
    let k = kind_in line.kind in
    let l = line_of line in
    let none : line_fault is.earlier l ≡ None = fault_is is.earlier s k l (sym is_line.kind) is.known ∙ passes in
    record {
      source = source ∙ is.source;
      earlier = is.earlier ++ l ∷ [];
      split = is.split ∙ (ap (λ (ls : List Line). is.earlier ++ ls) first ∙ sym (append_assoc is.earlier (l ∷ []) new.left));
      none = still_no_fault is.earlier l is.none none;
      known = known_after is.earlier s t k l (sym is_line.kind) is.known none after_is;
      gathered = subst (λ (ns : List Numbered). IsFileSoFar after ns) (sym (declared_more is.earlier l)) (adds (declared_lines is.earlier) is.gathered);
      model = model ∙ (sym (has_model_after s k l passes) ∙ sym after_is.has_model);
      cover = cover ∙ (ap (opens k) is.cover ∙ (open_some k (length (arguments l)) s.open_inputs ∙ ap is_some (sym after_is.open_inputs)));
      narrow = subst IsNarrow (sym after_is.open_inputs) (narrow_after s k l passes is.narrow);
      few = omega (arith, few, is.few, word_count-append is.earlier (l ∷ []), length-map line.words.now (λ (w : Bor Word). w.now));
    }
  where
    has_model_after : (s : Summary) (k : Kind) (l : Line) → fault_by s k l ≡ None → (if is_model k then true else s.has_model) ≡ true
    has_model_after s k l h = go (is_model k) refl
      where
        go : (b : Bool) → is_model k ≡ b → (if b then true else s.has_model) ≡ true
        go true e = refl
        go false e = in_model s k l (passes_by s k l h) e

-- a line that passes fits
pub fits_next : (bytes : List ℕ) (old new : Reading) (s : Summary) (file : FileSoFar) (line : ReadLine) → length bytes < 2 ^ 32 → IsReadSoFar bytes old s file → old.left ≡ line_of line ∷ new.left → IsLine line → fault_by s (kind_in line.kind) (line_of line) ≡ None → FitsFile file line
fits_next bytes old new s file line short is first is_line passes =
    let k = kind_in line.kind in
    let l = line_of line in
    let earlier = is.earlier in
    let p : PassesBy s k l = passes_by s k l passes in
    let none : line_fault earlier l ≡ None = fault_is earlier s k l (sym is_line.kind) is.known ∙ passes in
    let all : word_count (logical_lines bytes) ≡ word_count earlier + (length l.words + word_count new.left)
    = ap word_count (is.split ∙ ap (λ (ls : List Line). earlier ++ ls) first) ∙ word_count-append earlier (l ∷ new.left) in
    record {
      is_line = is_line;
      says = line_says earlier l (record { some = not_empty line.words.now is_line.some; bytes = is_line.bytes }) (line_passes earlier l none);
      in_model = λ other. is.model ∙ in_model s k l p other;
      row = λ row.
          let both = narrow_row s.open_inputs l is.narrow (row_of_open s k l p row) in
          record { cover = is.cover ∙ both.0; row = both.1 };
      room = omega (arith, all, is.few, few_in_text bytes, short, length-map line.words.now (λ (w : Bor Word). w.now));
    }
  where
    not_empty : (ws : List (Bor Word)) → 0 < length ws → is_empty (words_in ws) ≡ false
    not_empty [] h = absurd (omega arith)
    not_empty (w ∷ ws) h = refl

-- Behind the last line the text says the file of all lines.
pub read_at_end : (bytes : List ℕ) (reading : Reading) (s : Summary) (gathered : FileSoFar) (file : ReadFile) → IsReadSoFar bytes reading s gathered → reading.left ≡ [] → s.has_model ≡ true
    → ((lines : List Numbered) → IsFileSoFar gathered lines → file_of file ≡ record { models = models_of lines }) → Reads bytes (file_of file)
read_at_end bytes reading s gathered file is left model same =
    let none : read_fault bytes ≡ None = no_fault_at_end bytes reading s (so_far_of is) left model in
    let whole : logical_lines bytes ≡ is.earlier = is.split ∙ (ap (λ (ls : List Line). is.earlier ++ ls) left ∙ append-nil is.earlier) in
    let here : file_of file ≡ declared_file is.earlier = same (declared_lines is.earlier) is.gathered in
    subst (Reads bytes) (sym (here ∙ ap declared_file (sym whole))) (no_fault_reads bytes none)
