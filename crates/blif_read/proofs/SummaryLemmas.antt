-- What is known of the lines so far decides the next line as its definition does, and stays known behind it.
use Rattle.std.proofs.Common.{◌≡◌, ◌<◌, ◌≤◌, ◌+◌, ◌-◌, ℕ, Bool, true, false, ◌&&◌, ◌||◌, not, cond, List, [], ◌∷◌, ◌++◌, length, drop, refl, sym, ap, ap₂, subst, zero, suc, ◌∙◌, arith, Option, None, Some, append-nil}
use Rattle.std.specs.Prelude.{◌==◌, nat_lt, codes, if◌then◌else◌, slice_index_or, count_by}
use Rattle.std.specs.Bool.{then_some}
use Rattle.std.specs.Option.{option_or}
use Rattle.std.specs.List.{list_any}
use Rattle.std.proofs.lemmas.Bool.{and_parts, or_parts, not-false, eqb-true, ltb-false, ltb-true, lt-ltb, le-ltb}
use Rattle.std.proofs.lemmas.List.{length-map}
use Rattle.std.proofs.lemmas.Bool.Decides.{nat_tests}
use denote.Ref.{Bor}
use Rattle.netlist_spec.specs.Lines.{Word, Line, is_empty}
use Rattle.netlist_spec.specs.Netlist.{Name, same_name, stands_in, Quantity, cover_inputs, model_inputs, model_outputs, model_clocks, model_latches, file_statements}
use Rattle.netlist_spec.specs.ReadFaults.{ReadFault, after_end, no_model, unknown_statement, word_count, long_name, bad_subckt, bad_latch, bad_row, mixed_cover, twice_model, Kind, model_kind, inputs_kind, outputs_kind, clock_kind, names_kind, latch_kind, subckt_kind, end_kind, other_kind, row_kind, kind_index, kind_of, is_kind, first_word, arguments, comes_after_end, comes_before_model, is_unknown_statement, has_wrong_count, has_long_name, has_bad_port_word, is_bad_latch, is_bad_row, is_mixed, is_model_again, passed_count, count_fault, line_fault, is_row_of_open, is_last_word, is_cells_word, last_word, open_inputs, open_rows, differs_from_first, lines_of_model, names_declared, is_statement, is_bad_port_word, is_latch_form}
use Rattle.netlist_spec.proofs.OneMoreLine.{end_before, model_before, inputs_open, rows_open, model_lines, models_before, declared_before, counted_before}
use Rattle.netlist_spec.proofs.Passes.{line_passes}
use Rattle.netlist_spec.specs.Statements.{bit_char}
use Rattle.imp_text.specs.Names.{with_name}
use Rattle.imp_text.proofs.NamesLemmas.{same_name-comm, same_name-true, with_name-absent}
use Rattle.blif_read.specs.declared.summary.Room.{Room}
use Rattle.blif_read.specs.declared.summary.Summary.{Summary}
use Rattle.blif_read.specs.LineTests.{words_in, is_wrong_count, any_long}
use Rattle.blif_read.specs.Summaries.{is_model, is_row, order_fault, words_fault, differs_from, passed_by, fault_by, open_after, last_of_row, last_after, room_after, IsAfter, HasRoom, RowsShare, Summarizes}

pub count_behind : (ws : List (Bor Word)) → length (drop 1 (words_in ws)) ≡ length ws - 1
count_behind [] = refl
count_behind (w ∷ ws) = omega (arith, length-map ws (λ (v : Bor Word). v.now))

pub last_fault : (a b c d e : Option ReadFault) → a ≡ None → b ≡ None → c ≡ None → d ≡ None → option_or a (option_or b (option_or c (option_or d e))) ≡ e
last_fault None None None None e h i j k = refl
last_fault (Some f) b c d e h i j k = cc h
last_fault None (Some f) c d e h i j k = cc i
last_fault None None (Some f) d e h i j k = cc j
last_fault None None None (Some f) e h i j k = cc k

-- One line.

-- the count of words by the kind
wrong_count_is : (k : Kind) (ws : List Word) → (((kind_index k == 0) && not (length ws == 1)) || ((kind_index k == 4) && (length ws == 0)) || ((kind_index k == 6) && (length ws == 0)) || ((kind_index k == 7) && not (length ws == 0))) ≡ is_wrong_count k (length ws)
wrong_count_is model_kind ws = or_false_3 (not (length ws == 1))
  where
    or_false_3 : (b : Bool) → (((b || false) || false) || false) ≡ b
    or_false_3 true = refl
    or_false_3 false = refl
wrong_count_is inputs_kind ws = refl
wrong_count_is outputs_kind ws = refl
wrong_count_is clock_kind ws = refl
wrong_count_is names_kind ws = or_false_2 (length ws == 0)
  where
    or_false_2 : (b : Bool) → ((b || false) || false) ≡ b
    or_false_2 true = refl
    or_false_2 false = refl
wrong_count_is latch_kind ws = refl
wrong_count_is subckt_kind ws = or_false_1 (length ws == 0)
  where
    or_false_1 : (b : Bool) → (b || false) ≡ b
    or_false_1 true = refl
    or_false_1 false = refl
wrong_count_is end_kind ws = refl
wrong_count_is other_kind ws = refl
wrong_count_is row_kind ws = refl

empty_is : (ws : List Word) → is_empty ws ≡ (length ws == 0)
empty_is [] = refl
empty_is (w ∷ ws) = grind arith

has_wrong_count_is : (k : Kind) (l : Line) → kind_of l ≡ k → has_wrong_count l ≡ is_wrong_count k (length (arguments l))
has_wrong_count_is k l e =
    let ws = arguments l in
    ap₂
    (λ j b. ((kind_index j == 0) && not (length ws == 1)) || ((kind_index j == 4) && b) || ((kind_index j == 6) && b) || ((kind_index j == 7) && not b))
    e (empty_is ws)
    ∙ wrong_count_is k ws

-- What the rows so far share.

differs_is : (rows : List Line) (last : Option Bool) (l : Line) → RowsShare rows last → differs_from_first rows l ≡ differs_from last (last_word l)
differs_is [] last l e = ap (λ o. differs_from o (last_word l)) (sym e)
differs_is (first ∷ rest) last l (b, is, word) =
    ap (λ w. not (same_name w (last_word l))) word
    ∙ (at b ∙ ap (λ o. differs_from o (last_word l)) (sym is))
  where
    at : (b : Bool) → not (same_name (bit_char b ∷ []) (last_word l)) ≡ differs_from (Some b) (last_word l)
    at true = ap not (same_name-comm (49 ∷ []) (last_word l))
    at false = ap not (same_name-comm (48 ∷ []) (last_word l))

same_or : (a b : Bool) (f : ReadFault) (x y : Option ReadFault) → a ≡ b → x ≡ y → option_or (then_some a f) x ≡ option_or (then_some b f) y
same_or a b f x y e h = ap₂ (λ t r. option_or (then_some t f) r) e h

flat_4 : (a b c d rest : Option ReadFault) → option_or a (option_or b (option_or c (option_or d rest))) ≡ option_or (option_or a (option_or b (option_or c d))) rest
flat_4 (Some f) b c d rest = refl
flat_4 None (Some f) c d rest = refl
flat_4 None None (Some f) d rest = refl
flat_4 None None None d rest = refl

flat_3 : (a b c rest : Option ReadFault) → option_or a (option_or b (option_or c rest)) ≡ option_or (option_or a (option_or b c)) rest
flat_3 (Some f) b c rest = refl
flat_3 None (Some f) c rest = refl
flat_3 None None c rest = refl

flat_2 : (a b rest : Option ReadFault) → option_or a (option_or b rest) ≡ option_or (option_or a b) rest
flat_2 (Some f) b rest = refl
flat_2 None b rest = refl

-- Counts.

abbrev first_by : Kind → ℕ → ℕ → ℕ → ℕ → ℕ → ℕ → Option Quantity
first_by k n i o c a s =
    if (kind_index k == 4) && nat_lt 16 (n - 1) then Some cover_inputs
    else if (kind_index k == 1) && nat_lt 131072 i then Some model_inputs
    else if (kind_index k == 2) && nat_lt 131072 o then Some model_outputs
    else if (kind_index k == 3) && nat_lt 131072 c then Some model_clocks
    else if (kind_index k == 5) && nat_lt 131072 a then Some model_latches
    else if ((kind_index k == 4) || (kind_index k == 5) || (kind_index k == 6)) && nat_lt 2000000 s then Some file_statements
    else None

-- more than fits is more than is left
room_lt : (m i r n : ℕ) → i + r ≡ m → nat_lt m (i + n) ≡ nat_lt r n
room_lt m i r n e = at (nat_lt r n) refl
  where
    at : (b : Bool) → nat_lt r n ≡ b → nat_lt m (i + n) ≡ b
    at true h = lt-ltb m (i + n) (omega (arith, ltb-true r n h))
    at false h = le-ltb m (i + n) (omega (arith, ltb-false r n h))

room_zero : (m i r : ℕ) → i + r ≡ m → nat_lt m (i + 1) ≡ (r == 0)
room_zero m i r e = room_lt m i r 1 e ∙ below_one r
  where
    below_one : (n : ℕ) → nat_lt n 1 ≡ (n == 0)
    below_one n = grind (arith, nat_tests)

-- the counts behind a line, by its kind
abbrev with_names : ℕ → Kind → ℕ → ℕ → ℕ
with_names j k n count = count + cond (kind_index k == j) n 0

abbrev is_statement_kind : Kind → Bool
is_statement_kind k = (kind_index k == 4) || (kind_index k == 5) || (kind_index k == 6)

first_is : (k : Kind) (n i o c a s : ℕ) (room : Room) → i + room.inputs ≡ 131072 → o + room.outputs ≡ 131072 → c + room.clocks ≡ 131072 → a + room.latches ≡ 131072 → s + room.statements ≡ 2000000
    → first_by k n (with_names 1 k n i) (with_names 2 k n o) (with_names 3 k n c) (with_names 5 k 1 a) (s + cond (is_statement_kind k) 1 0) ≡ passed_by room k n
first_is model_kind n i o c a s room hi ho hc ha hs = refl
first_is inputs_kind n i o c a s room hi ho hc ha hs = ap (λ b. if b then Some model_inputs else None) (room_lt 131072 i room.inputs n hi)
first_is outputs_kind n i o c a s room hi ho hc ha hs = ap (λ b. if b then Some model_outputs else None) (room_lt 131072 o room.outputs n ho)
first_is clock_kind n i o c a s room hi ho hc ha hs = ap (λ b. if b then Some model_clocks else None) (room_lt 131072 c room.clocks n hc)
first_is names_kind n i o c a s room hi ho hc ha hs = ap (λ b. if nat_lt 16 (n - 1) then Some cover_inputs else if b then Some file_statements else None) (room_zero 2000000 s room.statements hs)
first_is latch_kind n i o c a s room hi ho hc ha hs =
    ap₂ (λ b d. if b then Some model_latches else if d then Some file_statements else None) (room_zero 131072 a room.latches ha) (room_zero 2000000 s room.statements hs)
first_is subckt_kind n i o c a s room hi ho hc ha hs = ap (λ b. if b then Some file_statements else None) (room_zero 2000000 s room.statements hs)
first_is end_kind n i o c a s room hi ho hc ha hs = refl
first_is other_kind n i o c a s room hi ho hc ha hs = refl
first_is row_kind n i o c a s room hi ho hc ha hs = refl

-- a count of some lines and one more, by its kind
names_more : (j : Kind) (lines : List Line) (l : Line) (k : Kind) → kind_of l ≡ k → names_declared j (lines ++ l ∷ []) ≡ with_names (kind_index j) k (length (arguments l)) (names_declared j lines)
names_more j lines l k e = declared_before j lines l ∙ ap (λ i. names_declared j lines + cond (kind_index i == kind_index j) (length (arguments l)) 0) e

latches_more : (lines : List Line) (l : Line) (k : Kind) → kind_of l ≡ k → count_by (is_kind latch_kind) (lines ++ l ∷ []) ≡ with_names 5 k 1 (count_by (is_kind latch_kind) lines)
latches_more lines l k e = counted_before (is_kind latch_kind) lines l ∙ ap (λ i. count_by (is_kind latch_kind) lines + cond (kind_index i == 5) 1 0) e

statements_more : (lines : List Line) (l : Line) (k : Kind) → kind_of l ≡ k → count_by is_statement (lines ++ l ∷ []) ≡ count_by is_statement lines + cond (is_statement_kind k) 1 0
statements_more lines l k e = counted_before is_statement lines l ∙ ap (λ i. count_by is_statement lines + cond (is_statement_kind i) 1 0) e

passed_is : (earlier : List Line) (l : Line) (k : Kind) (room : Room) → kind_of l ≡ k → HasRoom earlier room → passed_count earlier l ≡ passed_by room k (length (arguments l))
passed_is earlier l k room e has =
    let lines = lines_of_model earlier in
    let n = length (arguments l) in
    ap (λ j. first_by j n (names_declared inputs_kind (lines ++ l ∷ [])) (names_declared outputs_kind (lines ++ l ∷ [])) (names_declared clock_kind (lines ++ l ∷ [])) (count_by (is_kind latch_kind) (lines ++ l ∷ [])) (count_by is_statement (earlier ++ l ∷ []))) e
    ∙ (ap (λ i. first_by k n i (names_declared outputs_kind (lines ++ l ∷ [])) (names_declared clock_kind (lines ++ l ∷ [])) (count_by (is_kind latch_kind) (lines ++ l ∷ [])) (count_by is_statement (earlier ++ l ∷ []))) (names_more inputs_kind lines l k e)
    ∙ (ap₂ (λ o c. first_by k n (with_names 1 k n (names_declared inputs_kind lines)) o c (count_by (is_kind latch_kind) (lines ++ l ∷ [])) (count_by is_statement (earlier ++ l ∷ []))) (names_more outputs_kind lines l k e) (names_more clock_kind lines l k e)
    ∙ (ap₂ (λ a s. first_by k n (with_names 1 k n (names_declared inputs_kind lines)) (with_names 2 k n (names_declared outputs_kind lines)) (with_names 3 k n (names_declared clock_kind lines)) a s) (latches_more lines l k e) (statements_more earlier l k e)
    ∙ first_is k n (names_declared inputs_kind lines) (names_declared outputs_kind lines) (names_declared clock_kind lines) (count_by (is_kind latch_kind) lines) (count_by is_statement earlier) room has.inputs has.outputs has.clocks has.latches has.statements)))

-- The tests of a line are those of its definition.
pub fault_is : (earlier : List Line) (s : Summary) (k : Kind) (l : Line) → kind_of l ≡ k → Summarizes earlier s → line_fault earlier l ≡ fault_by s k l
fault_is earlier s k l e is =
    let ws = arguments l in
    same_or (comes_after_end earlier l) (s.ended && not (is_model k)) (after_end l.number) _ _ (ap₂ (λ b j. b && not (kind_index j == 0)) (sym is.ended) e)
    (same_or (comes_before_model earlier l) (not s.has_model && not (is_model k)) (no_model l.number) _ _ (ap₂ (λ b j. not b && not (kind_index j == 0)) (sym is.has_model) e)
    (same_or (is_unknown_statement l) (kind_index k == 8) (unknown_statement l.number (first_word l)) _ _ (ap (λ j. kind_index j == 8) e)
    (same_or (has_wrong_count l) (is_wrong_count k (length ws)) (word_count l.number) _ _ (has_wrong_count_is k l e)
    (same_or (has_long_name l) (any_long k ws) (long_name l.number) _ _ (ap (λ j. any_long j ws) e)
    (same_or (has_bad_port_word l) ((kind_index k == 6) && list_any is_bad_port_word (drop 1 ws)) (bad_subckt l.number) _ _ (ap (λ j. (kind_index j == 6) && list_any is_bad_port_word (drop 1 ws)) e)
    (same_or (is_bad_latch l) ((kind_index k == 5) && not (is_latch_form ws)) (bad_latch l.number) _ _ (ap (λ j. (kind_index j == 5) && not (is_latch_form ws)) e)
    (same_or (is_bad_row earlier l) (is_row k && not (is_row_of_open s.open_inputs l.words)) (bad_row l.number) _ _ (ap₂ (λ j o. (kind_index j == 9) && not (is_row_of_open o l.words)) e (sym is.inputs_open))
    (same_or (is_mixed earlier l) (is_row k && differs_from s.shared_last (last_word l)) (mixed_cover l.number) _ _ (ap₂ (λ j b. (kind_index j == 9) && b) e (differs_is (open_rows earlier) s.shared_last l is.shared_last))
    (same_or (is_model_again earlier l) (is_model k && list_any (λ n. stands_in n s.models) ws) (twice_model l.number (slice_index_or ws 0 [])) _ _ (ap₂ (λ j ms. (kind_index j == 0) && list_any (λ n. stands_in n ms) ws) e (sym is.models))
    (ap (count_fault l.number) (passed_is earlier l k s.room e is.room)))))))))))
    ∙ (flat_4 (then_some (s.ended && not (is_model k)) (after_end l.number)) (then_some (not s.has_model && not (is_model k)) (no_model l.number)) (then_some (kind_index k == 8) (unknown_statement l.number (first_word l))) (then_some (is_wrong_count k (length ws)) (word_count l.number)) _
    ∙ ap (option_or (order_fault s k l))
    (flat_3 (then_some (any_long k ws) (long_name l.number)) (then_some ((kind_index k == 6) && list_any is_bad_port_word (drop 1 ws)) (bad_subckt l.number)) (then_some ((kind_index k == 5) && not (is_latch_form ws)) (bad_latch l.number)) _
    ∙ ap (option_or (words_fault k l))
    (flat_2 (then_some (is_row k && not (is_row_of_open s.open_inputs l.words)) (bad_row l.number)) (then_some (is_row k && differs_from s.shared_last (last_word l)) (mixed_cover l.number)) _)))

-- Behind a line that passes.

open_is : (k : Kind) (n : ℕ) (before : Option ℕ) → open_after k n before ≡ cond (kind_index k == 9) before (cond (kind_index k == 4) (Some (n - 1)) None)
open_is model_kind n before = refl
open_is inputs_kind n before = refl
open_is outputs_kind n before = refl
open_is clock_kind n before = refl
open_is names_kind n before = refl
open_is latch_kind n before = refl
open_is subckt_kind n before = refl
open_is end_kind n before = refl
open_is other_kind n before = refl
open_is row_kind n before = refl

last_word_is : (w : Word) → is_last_word w ≡ true → w ≡ bit_char (same_name w (codes "1")) ∷ []
last_word_is w h = go (same_name w (codes "0")) (same_name w (codes "1")) refl refl h
  where
    go : (a b : Bool) → same_name w (codes "0") ≡ a → same_name w (codes "1") ≡ b → (a || b) ≡ true → w ≡ bit_char b ∷ []
    go a true e f h = same_name-true w (codes "1") f
    go true false e f h = same_name-true w (codes "0") e
    go false false e f h = cc h

rows_pushed : (rows : List Line) (l : Line) (last : Option Bool) → RowsShare rows last → is_last_word (last_word l) ≡ true → RowsShare (rows ++ l ∷ []) (last_of_row (last_word l) last)
rows_pushed [] l last none h = (same_name (last_word l) (codes "1"), ap (last_of_row (last_word l)) none, last_word_is (last_word l) h)
rows_pushed (first ∷ rest) l last (b, is, word) h = (b, ap (last_of_row (last_word l)) is, word)

rows_after : (b : Bool) (rows : List Line) (l : Line) (last : Option Bool) → RowsShare rows last → (b ≡ true → is_last_word (last_word l) ≡ true) → RowsShare (cond b (rows ++ l ∷ []) []) (cond b (last_of_row (last_word l) last) None)
rows_after true rows l last share h = rows_pushed rows l last share (h refl)
rows_after false rows l last share h = refl

last_of_open : (o : Option ℕ) (ws : List Word) → is_row_of_open o ws ≡ true → is_last_word (slice_index_or ws (length ws - 1) []) ≡ true
last_of_open None ws h = cc h
last_of_open (Some p) [] h = cc h
last_of_open (Some p) (last ∷ []) h = (and_parts (p == 0) (is_last_word last) h).1
last_of_open (Some p) (cells ∷ last ∷ []) h = (and_parts (nat_lt 0 p && is_cells_word p cells) (is_last_word last) h).1
last_of_open (Some p) (a ∷ b ∷ c ∷ ws) h = cc h

models_step : (b : Bool) (ws : List Word) (models : List Name) → (b ≡ true → (length ws == 1) ≡ true) → (b && list_any (λ n. stands_in n models) ws) ≡ false → cond b (with_name models (slice_index_or ws 0 [])) models ≡ models ++ cond b ws []
models_step false ws models one new = sym (append-nil models)
models_step true [] models one new = cc (one refl)
models_step true (w ∷ []) models one new = with_name-absent models w (or_parts (stands_in w models) false new).0
models_step true (w ∷ v ∷ ws) models one new = absurd (omega (arith, eqb-true (length (w ∷ v ∷ ws)) 1 (one refl)))

one_name : (k : Kind) (n : ℕ) → is_wrong_count k n ≡ false → is_model k ≡ true → (n == 1) ≡ true
one_name model_kind n h m = not-false (n == 1) h
one_name inputs_kind n h m = cc m
one_name outputs_kind n h m = cc m
one_name clock_kind n h m = cc m
one_name names_kind n h m = cc m
one_name latch_kind n h m = cc m
one_name subckt_kind n h m = cc m
one_name end_kind n h m = cc m
one_name other_kind n h m = cc m
one_name row_kind n h m = cc m

model_or : (b h : Bool) → cond b true h ≡ (h || b)
model_or true true = refl
model_or true false = refl
model_or false true = refl
model_or false false = refl

none_cond : (b : Bool) (q : Quantity) (o : Option Quantity) → cond b (Some q) o ≡ None → (b ≡ false) × (o ≡ None)
none_cond true q o h = cc h
none_cond false q o h = (refl, h)

-- the counts behind a line
abbrev names_after : ℕ → Kind → ℕ → ℕ → ℕ
names_after j k n count = cond (kind_index k == 0) 0 (with_names j k n count)

record Fits (k : Kind) (n i o c a s : ℕ) (room : Room) : Type 0 where
  inputs : names_after 1 k n i + room.inputs ≡ 131072
  outputs : names_after 2 k n o + room.outputs ≡ 131072
  clocks : names_after 3 k n c + room.clocks ≡ 131072
  latches : names_after 5 k 1 a + room.latches ≡ 131072
  statements : (s + cond (is_statement_kind k) 1 0) + room.statements ≡ 2000000

some_left : (n : ℕ) → (n == 0) ≡ false → 0 < n
some_left zero h = cc h
some_left (suc n) h = omega arith

room_fits : (k : Kind) (n i o c a s : ℕ) (room : Room) → i + room.inputs ≡ 131072 → o + room.outputs ≡ 131072 → c + room.clocks ≡ 131072 → a + room.latches ≡ 131072 → s + room.statements ≡ 2000000 → passed_by room k n ≡ None → Fits k n i o c a s (room_after room k n)
room_fits model_kind n i o c a s room hi ho hc ha hs p = record { inputs = refl; outputs = refl; clocks = refl; latches = refl; statements = omega (arith, hs) }
room_fits inputs_kind n i o c a s room hi ho hc ha hs p =
    let fits : n ≤ room.inputs = ltb-false room.inputs n (none_cond (nat_lt room.inputs n) model_inputs None p).0 in
    record { inputs = omega (arith, hi, fits); outputs = omega (arith, ho); clocks = omega (arith, hc); latches = omega (arith, ha); statements = omega (arith, hs) }
room_fits outputs_kind n i o c a s room hi ho hc ha hs p =
    let fits : n ≤ room.outputs = ltb-false room.outputs n (none_cond (nat_lt room.outputs n) model_outputs None p).0 in
    record { inputs = omega (arith, hi); outputs = omega (arith, ho, fits); clocks = omega (arith, hc); latches = omega (arith, ha); statements = omega (arith, hs) }
room_fits clock_kind n i o c a s room hi ho hc ha hs p =
    let fits : n ≤ room.clocks = ltb-false room.clocks n (none_cond (nat_lt room.clocks n) model_clocks None p).0 in
    record { inputs = omega (arith, hi); outputs = omega (arith, ho); clocks = omega (arith, hc, fits); latches = omega (arith, ha); statements = omega (arith, hs) }
room_fits names_kind n i o c a s room hi ho hc ha hs p =
    let rest = none_cond (nat_lt 16 (n - 1)) cover_inputs (if room.statements == 0 then Some file_statements else None) p in
    let some = some_left room.statements (none_cond (room.statements == 0) file_statements None rest.1).0 in
    record { inputs = omega (arith, hi); outputs = omega (arith, ho); clocks = omega (arith, hc); latches = omega (arith, ha); statements = omega (arith, hs, some) }
room_fits latch_kind n i o c a s room hi ho hc ha hs p =
    let rest = none_cond (room.latches == 0) model_latches (if room.statements == 0 then Some file_statements else None) p in
    let more = some_left room.latches rest.0 in
    let some = some_left room.statements (none_cond (room.statements == 0) file_statements None rest.1).0 in
    record { inputs = omega (arith, hi); outputs = omega (arith, ho); clocks = omega (arith, hc); latches = omega (arith, ha, more); statements = omega (arith, hs, some) }
room_fits subckt_kind n i o c a s room hi ho hc ha hs p =
    let some = some_left room.statements (none_cond (room.statements == 0) file_statements None p).0 in
    record { inputs = omega (arith, hi); outputs = omega (arith, ho); clocks = omega (arith, hc); latches = omega (arith, ha); statements = omega (arith, hs, some) }
room_fits end_kind n i o c a s room hi ho hc ha hs p = record { inputs = omega (arith, hi); outputs = omega (arith, ho); clocks = omega (arith, hc); latches = omega (arith, ha); statements = omega (arith, hs) }
room_fits other_kind n i o c a s room hi ho hc ha hs p = record { inputs = omega (arith, hi); outputs = omega (arith, ho); clocks = omega (arith, hc); latches = omega (arith, ha); statements = omega (arith, hs) }
room_fits row_kind n i o c a s room hi ho hc ha hs p = record { inputs = omega (arith, hi); outputs = omega (arith, ho); clocks = omega (arith, hc); latches = omega (arith, ha); statements = omega (arith, hs) }

names_behind : (j : Kind) (earlier : List Line) (l : Line) (k : Kind) → kind_of l ≡ k → names_declared j (lines_of_model (earlier ++ l ∷ [])) ≡ names_after (kind_index j) k (length (arguments l)) (names_declared j (lines_of_model earlier))
names_behind j earlier l k e =
    ap (names_declared j) (model_lines earlier l)
    ∙ (ap (λ i. names_declared j (cond (kind_index i == 0) [] (lines_of_model earlier ++ l ∷ []))) e ∙ go (kind_index k == 0))
  where
    go : (b : Bool) → names_declared j (cond b [] (lines_of_model earlier ++ l ∷ [])) ≡ cond b 0 (with_names (kind_index j) k (length (arguments l)) (names_declared j (lines_of_model earlier)))
    go true = refl
    go false = names_more j (lines_of_model earlier) l k e

latches_behind : (earlier : List Line) (l : Line) (k : Kind) → kind_of l ≡ k → count_by (is_kind latch_kind) (lines_of_model (earlier ++ l ∷ [])) ≡ names_after 5 k 1 (count_by (is_kind latch_kind) (lines_of_model earlier))
latches_behind earlier l k e =
    ap (count_by (is_kind latch_kind)) (model_lines earlier l)
    ∙ (ap (λ i. count_by (is_kind latch_kind) (cond (kind_index i == 0) [] (lines_of_model earlier ++ l ∷ []))) e ∙ go (kind_index k == 0))
  where
    go : (b : Bool) → count_by (is_kind latch_kind) (cond b [] (lines_of_model earlier ++ l ∷ [])) ≡ cond b 0 (with_names 5 k 1 (count_by (is_kind latch_kind) (lines_of_model earlier)))
    go true = refl
    go false = latches_more (lines_of_model earlier) l k e

room_kept : (earlier : List Line) (l : Line) (k : Kind) (old new : Room) → kind_of l ≡ k → HasRoom earlier old → passed_count earlier l ≡ None → new ≡ room_after old k (length (arguments l)) → HasRoom (earlier ++ l ∷ []) new
room_kept earlier l k old new e has none is =
    let n = length (arguments l) in
    let lines = lines_of_model earlier in
    let passed : passed_by old k n ≡ None = sym (passed_is earlier l k old e has) ∙ none in
    let fits = room_fits k n (names_declared inputs_kind lines) (names_declared outputs_kind lines) (names_declared clock_kind lines) (count_by (is_kind latch_kind) lines) (count_by is_statement earlier) old has.inputs has.outputs has.clocks has.latches has.statements passed in
    record {
      inputs = ap₂ (λ a b. a + b) (names_behind inputs_kind earlier l k e) (ap (λ (r : Room). r.inputs) is) ∙ fits.inputs;
      outputs = ap₂ (λ a b. a + b) (names_behind outputs_kind earlier l k e) (ap (λ (r : Room). r.outputs) is) ∙ fits.outputs;
      clocks = ap₂ (λ a b. a + b) (names_behind clock_kind earlier l k e) (ap (λ (r : Room). r.clocks) is) ∙ fits.clocks;
      latches = ap₂ (λ a b. a + b) (latches_behind earlier l k e) (ap (λ (r : Room). r.latches) is) ∙ fits.latches;
      statements = ap₂ (λ a b. a + b) (statements_more earlier l k e) (ap (λ (r : Room). r.statements) is) ∙ fits.statements;
    }

pub known_after : (earlier : List Line) (old new : Summary) (k : Kind) (l : Line) → kind_of l ≡ k → Summarizes earlier old → line_fault earlier l ≡ None → IsAfter old k l new → Summarizes (earlier ++ l ∷ []) new
known_after earlier old new k l e is passes after =
    let p = line_passes earlier l passes in
    let ws = arguments l in
    let rows : RowsShare (cond (is_row k) (open_rows earlier ++ l ∷ []) []) (last_after k (last_word l) old.shared_last)
    = rows_after (is_row k) (open_rows earlier) l old.shared_last is.shared_last
    (λ row. let open_now : (true && not (is_row_of_open (open_inputs earlier) l.words)) ≡ false = sym (ap (λ b. b && not (is_row_of_open (open_inputs earlier) l.words)) (ap (λ j. kind_index j == 9) e ∙ row)) ∙ p.row in
    last_of_open (open_inputs earlier) l.words (not-false _ open_now)) in
    let place : open_rows (earlier ++ l ∷ []) ≡ cond (is_row k) (open_rows earlier ++ l ∷ []) [] = rows_open earlier l ∙ ap (λ j. cond (kind_index j == 9) (open_rows earlier ++ l ∷ []) []) e in
    let wrong : is_wrong_count k (length ws) ≡ false = sym (has_wrong_count_is k l e) ∙ p.wrong_count in
    let again : (is_model k && list_any (λ n. stands_in n old.models) ws) ≡ false
    = ap₂ (λ j ms. (kind_index j == 0) && list_any (λ n. stands_in n ms) ws) (sym e) is.models ∙ p.again in
    record {
      ended = after.ended ∙ (ap (λ j. kind_index j == 7) (sym e) ∙ sym (end_before earlier l));
      has_model = after.has_model ∙ (model_or (is_model k) old.has_model ∙ (ap₂ (λ h j. h || (kind_index j == 0)) is.has_model (sym e) ∙ sym (model_before earlier l)));
      inputs_open = after.open_inputs ∙ (open_is k (length ws) old.open_inputs
          ∙ (ap₂ (λ o j. cond (kind_index j == 9) o (cond (kind_index j == 4) (Some (length ws - 1)) None)) is.inputs_open (sym e) ∙ sym (inputs_open earlier l)));
      shared_last = let P : List Line → Option Bool → Type 0 = λ ls o. RowsShare ls o in subst (λ o. P (open_rows (earlier ++ l ∷ [])) o) (sym after.shared_last) (subst (λ ls. P ls (last_after k (last_word l) old.shared_last)) (sym place) rows);
      models = after.models ∙ (models_step (is_model k) ws old.models (one_name k (length ws) wrong) again
          ∙ (ap₂ (λ ms j. ms ++ cond (kind_index j == 0) ws []) is.models (sym e) ∙ sym (models_before earlier l)));
      room = room_kept earlier l k old.room new.room e is.room p.counts after.room;
    }

-- before the first line
pub nothing_known : (s : Summary) → s.ended ≡ false → s.has_model ≡ false → s.open_inputs ≡ None → s.shared_last ≡ None → s.models ≡ [] → s.room ≡ record { inputs = 131072; outputs = 131072; clocks = 131072; latches = 131072; statements = 2000000 } → Summarizes [] s
nothing_known s ended model inputs last models room =
    record {
      ended = ended;
      has_model = model;
      inputs_open = inputs;
      shared_last = last;
      models = models;
      room = record {
        inputs = ap (λ (r : Room). 0 + r.inputs) room;
        outputs = ap (λ (r : Room). 0 + r.outputs) room;
        clocks = ap (λ (r : Room). 0 + r.clocks) room;
        latches = ap (λ (r : Room). 0 + r.latches) room;
        statements = ap (λ (r : Room). 0 + r.statements) room;
      };
    }
