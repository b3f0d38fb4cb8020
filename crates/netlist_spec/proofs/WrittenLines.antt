-- Lines whose words are plain are cut back as they were spelled, so a text of them says the file that they declare.
use Rattle.std.proofs.Common.{◌≡◌, refl, ◌∙◌, ap, ap₂, ℕ, ◌+◌, List, [], ◌∷◌, ◌++◌, map, filter, Bool, true, false, ◌&&◌, not, cond, append_assoc, arith}
use Rattle.std.proofs.Math.Numerals.{one-add}
use Rattle.std.specs.Prelude.{◌==◌, nat_lt, IsTrue, ◌^◌, ◌%◌, decimal, ◌<◌, IfSome, Option, Some, None, codes}
use Rattle.std.specs.List.{AllByRecursion, AllZip, flat_map, list_all, enumerate_from, slice_split, join_with_byte}
use Rattle.std.proofs.lemmas.Grind.{common_steps}
use Rattle.std.proofs.lemmas.Fmt.{decimal_by_steps}
use Rattle.std.proofs.lemmas.List.Folds.{list_all-append}
use Rattle.netlist_spec.specs.Lines.{Word, Line, is_blank, is_empty, words, without_comment, trimmed, ends_with_backslash, logical_from, with_words, logical_lines}
use Rattle.netlist_spec.specs.Statements.{Cell, bit_char, cell_char, edge_word, control_word, clocking_words, init_words, bind_word, row_words, Said, model_line, inputs_line, outputs_line, clock_line, names_line, row_line, latch_line, subckt_line, end_line, spelling, IsStatement, Says, EachMayFollow, BeginsWithModel}
use Rattle.netlist_spec.specs.Netlist.{Name, is_word_byte, are_distinct, Clocking, plain, edge, Bind, Model, File}
use Rattle.netlist_spec.specs.Reads.{models_of, IsWithinLimits, Reads}
use Rattle.netlist_spec.specs.Text.{line_text, written_lines, unknown_line, model_text}
use Rattle.netlist_spec.specs.WrittenLines.{IsPlainWord, HasPlainControl, HasPlainNames, HasPlainWords, spelled_line, spelled_lines, comment_line, HasNoFeed}
use Rattle.netlist_spec.proofs.OneValue.{passes_both}
use Rattle.netlist_spec.proofs.Occurrences.{turn}

-- ---- bytes

-- what is asked of a byte inside a line
abbrev IsLineByte : ℕ → Type 0
IsLineByte b = ((b == 10) ≡ false) × ((b == 35) ≡ false)

abbrev IsLine : List ℕ → Type 0
IsLine bytes = AllByRecursion IsLineByte bytes

-- a byte of a word
abbrev IsWordByte : ℕ → Type 0
IsWordByte b = (is_blank b ≡ false) × IsLineByte b

no_feed : (b : ℕ) → is_blank b ≡ false → (b == 10) ≡ false
no_feed b h = grind (arith, common_steps, h)

no_blank : (b : ℕ) → nat_lt 32 b ≡ true → is_blank b ≡ false
no_blank b h = grind (arith, common_steps, h)

word_byte : (b : ℕ) → is_word_byte b ≡ true → IsWordByte b
word_byte b h =
    let both = passes_both _ _ h in
    let inside = no_blank b both.0 in
    (inside, (no_feed b inside, turn _ both.1))

word_bytes : (w : Word) → list_all is_word_byte w ≡ true → AllByRecursion IsWordByte w
word_bytes [] h = tt
word_bytes (b ∷ w) h =
    let both = passes_both _ _ h in
    (word_byte b both.0, word_bytes w both.1)

line_append : (xs ys : List ℕ) → IsLine xs → IsLine ys → IsLine (xs ++ ys)
line_append [] ys h k = k
line_append (x ∷ xs) ys h k = (h.0, line_append xs ys h.1 k)

line_word : (w : Word) → AllByRecursion IsWordByte w → IsLine w
line_word [] h = tt
line_word (b ∷ w) h = (h.0.1, line_word w h.1)

-- ---- the line feeds

cut_line : (line rest : List ℕ) → IsLine line → slice_split (λ b. b == 10) (line ++ 10 ∷ rest) ≡ line ∷ slice_split (λ b. b == 10) rest
cut_line [] rest h = refl
cut_line (b ∷ line) rest h = rw (h.0.0, cut_line line rest h.1) refl

-- ---- one line

uncommented : (line : List ℕ) → IsLine line → without_comment line ≡ line
uncommented [] h = refl
uncommented (b ∷ line) h = rw (h.0.1, one-add) (ap (λ l. b ∷ l) (uncommented line h.1))

some_append : (xs ys : List ℕ) → is_empty ys ≡ false → is_empty (xs ++ ys) ≡ false
some_append [] ys h = h
some_append (x ∷ xs) ys h = refl

-- a byte stays where another one stays behind it, or where it is no blank
trimmed_step : (x : ℕ) (rest front : List ℕ) (blank : Bool) → front ≡ rest → is_empty rest ≡ false → cond (blank && is_empty front) [] (x ∷ front) ≡ x ∷ rest
trimmed_step x rest front true same some = rw (same, some) refl
trimmed_step x rest front false same some = ap (λ l. x ∷ l) same

trimmed_append : (xs ys : List ℕ) → is_empty ys ≡ false → trimmed ys ≡ ys → trimmed (xs ++ ys) ≡ xs ++ ys
trimmed_append [] ys some h = h
trimmed_append (x ∷ xs) ys some h = trimmed_step x (xs ++ ys) (trimmed (xs ++ ys)) (is_blank x) (trimmed_append xs ys some h) (some_append xs ys some)

trimmed_word : (w : Word) → AllByRecursion IsWordByte w → trimmed w ≡ w
trimmed_word [] h = refl
trimmed_word (b ∷ w) h = rw (h.0.0) (ap (λ l. b ∷ l) (trimmed_word w h.1))

-- ---- the words of a line

abbrev IsSpelled : List Word → Type 0
IsSpelled ws = AllByRecursion IsPlainWord ws

abbrev joined_words : List Word → List ℕ
joined_words ws = join_with_byte 32 ws

some_word : (w : Word) → IsPlainWord w → is_empty w ≡ false
some_word w h = turn _ h.is_word

line_words : (ws : List Word) → IsSpelled ws → IsLine (joined_words ws)
line_words [] h = tt
line_words (w ∷ []) h = line_word w (word_bytes w h.0.is_plain)
line_words (w ∷ v ∷ ws) h = line_append w (32 ∷ joined_words (v ∷ ws)) (line_word w (word_bytes w h.0.is_plain)) ((refl, refl), line_words (v ∷ ws) h.1)

some_joined : (w : Word) (ws : List Word) → is_empty w ≡ false → is_empty (joined_words (w ∷ ws)) ≡ false
some_joined w [] h = h
some_joined [] (v ∷ ws) h = cc
some_joined (b ∷ w) (v ∷ ws) h = refl

trimmed_words : (ws : List Word) → IsSpelled ws → trimmed (joined_words ws) ≡ joined_words ws
trimmed_words [] h = refl
trimmed_words (w ∷ []) h = trimmed_word w (word_bytes w h.0.is_plain)
trimmed_words (w ∷ v ∷ ws) h =
    let rest = joined_words (v ∷ ws) in
    let behind : trimmed (32 ∷ rest) ≡ 32 ∷ rest = trimmed_step 32 rest (trimmed rest) true (trimmed_words (v ∷ ws) h.1) (some_joined v ws (some_word v h.1.0)) in
    trimmed_append w (32 ∷ rest) refl behind

closed_step : (b : ℕ) (line : List ℕ) → is_empty line ≡ false → ends_with_backslash (b ∷ line) ≡ ends_with_backslash line
closed_step b [] h = cc h
closed_step b (c ∷ line) h = refl

closed_append : (xs ys : List ℕ) → is_empty ys ≡ false → ends_with_backslash (xs ++ ys) ≡ ends_with_backslash ys
closed_append [] ys h = refl
closed_append (x ∷ xs) ys h = closed_step x (xs ++ ys) (some_append xs ys h) ∙ closed_append xs ys h

closed_words : (ws : List Word) → IsSpelled ws → ends_with_backslash (joined_words ws) ≡ false
closed_words [] h = refl
closed_words (w ∷ []) h = turn _ h.0.is_closed
closed_words (w ∷ v ∷ ws) h =
    let rest = joined_words (v ∷ ws) in
    closed_append w (32 ∷ rest) refl ∙ closed_step 32 rest (some_joined v ws (some_word v h.1.0)) ∙ closed_words (v ∷ ws) h.1

cut_word : (w rest : List ℕ) → AllByRecursion IsWordByte w → slice_split is_blank (w ++ 32 ∷ rest) ≡ w ∷ slice_split is_blank rest
cut_word [] rest h = refl
cut_word (b ∷ w) rest h = rw (h.0.0, cut_word w rest h.1) refl

whole_word : (w : Word) → AllByRecursion IsWordByte w → slice_split is_blank w ≡ w ∷ []
whole_word [] h = refl
whole_word (b ∷ w) h = rw (h.0.0, whole_word w h.1) refl

kept_word : (w : Word) (parts : List Word) → is_empty w ≡ false → filter (λ p. not (is_empty p)) (w ∷ parts) ≡ w ∷ filter (λ p. not (is_empty p)) parts
kept_word w parts h = rw h refl

words_back : (ws : List Word) → IsSpelled ws → words (joined_words ws) ≡ ws
words_back [] h = refl
words_back (w ∷ []) h = ap (filter (λ p. not (is_empty p))) (whole_word w (word_bytes w h.0.is_plain)) ∙ kept_word w [] (some_word w h.0)
words_back (w ∷ v ∷ ws) h =
    ap (filter (λ p. not (is_empty p))) (cut_word w (joined_words (v ∷ ws)) (word_bytes w h.0.is_plain))
    ∙ kept_word w (slice_split is_blank (joined_words (v ∷ ws))) (some_word w h.0) ∙ ap (λ l. w ∷ l) (words_back (v ∷ ws) h.1)

-- ---- the lines

-- each case of the table of statements has a word
some_spelling : (said : Said) → is_empty (spelling said) ≡ false
some_spelling (model_line name) = refl
some_spelling (inputs_line ports) = refl
some_spelling (outputs_line ports) = refl
some_spelling (clock_line ports) = refl
some_spelling (names_line ins out) = refl
some_spelling (row_line [] last) = refl
some_spelling (row_line (c ∷ cells) last) = refl
some_spelling (latch_line d q clocking init) = refl
some_spelling (subckt_line model binds) = refl
some_spelling end_line = refl

-- a line that isn't joined with the next
cut_first : (n : ℕ) (line text : List ℕ) (ws : List Word) (rest : List (List ℕ)) → trimmed (without_comment line) ≡ text → ends_with_backslash text ≡ false → words text ≡ ws
    → logical_from n (line ∷ rest) ≡ record { number = n; words = ws } ∷ logical_from (n + 1) rest
cut_first n line text ws rest is_text stops is_words = rw (is_text, stops, is_words) refl

kept_line : (n : ℕ) (ws : List Word) (rest : List Line) → is_empty ws ≡ false → with_words (record { number = n; words = ws } ∷ rest) ≡ record { number = n; words = ws } ∷ with_words rest
kept_line n ws rest h = rw h refl

cut_spelled : (n : ℕ) (said : Said) (rest : List ℕ) → HasPlainWords said
    → with_words (logical_from n (slice_split (λ b. b == 10) (line_text said ++ rest))) ≡ spelled_line (n, said) ∷ with_words (logical_from (n + 1) (slice_split (λ b. b == 10) rest))
cut_spelled n said rest h =
    let line = joined_words (spelling said) in
    let is_line : IsLine line = line_words (spelling said) h in
    let is_text : trimmed (without_comment line) ≡ line = ap trimmed (uncommented line is_line) ∙ trimmed_words (spelling said) h in
    ap (λ l. with_words (logical_from n l)) (ap (slice_split (λ b. b == 10)) (append_assoc line (10 ∷ []) rest) ∙ cut_line line rest is_line)
    ∙ ap with_words (cut_first n line line (spelling said) (slice_split (λ b. b == 10) rest) is_text (closed_words (spelling said) h) (words_back (spelling said) h))
    ∙ kept_line n (spelling said) (logical_from (n + 1) (slice_split (λ b. b == 10) rest)) (some_spelling said)

cut_from : (n : ℕ) (lines : List Said) → AllByRecursion HasPlainWords lines → with_words (logical_from n (slice_split (λ b. b == 10) (flat_map line_text lines))) ≡ spelled_lines n lines
cut_from n [] h = refl
cut_from n (said ∷ lines) h = cut_spelled n said (flat_map line_text lines) h.0 ∙ ap (λ l. spelled_line (n, said) ∷ l) (cut_from (n + 1) lines h.1)

-- The lines of a text whose words are plain are those that were spelled, numbered from 1.
pub lines_back : (lines : List Said) → AllByRecursion HasPlainWords lines → logical_lines (flat_map line_text lines) ≡ spelled_lines 1 lines
lines_back lines h = cut_from 1 lines h

-- The bytes between its line feeds are the lines, and there are none behind the last one.
pub feeds_back : (lines : List Said) → AllByRecursion HasPlainWords lines → slice_split (λ b. b == 10) (flat_map line_text lines) ≡ map (λ said. join_with_byte 32 (spelling said)) lines ++ [] ∷ []
feeds_back [] h = refl
feeds_back (said ∷ lines) h =
    let line = joined_words (spelling said) in
    ap (slice_split (λ b. b == 10)) (append_assoc line (10 ∷ []) (flat_map line_text lines)) ∙ cut_line line (flat_map line_text lines) (line_words (spelling said) h.0)
    ∙ ap (λ l. line ∷ l) (feeds_back lines h.1)

-- ---- a comment line

cut_feed : (line rest : List ℕ) → HasNoFeed line → slice_split (λ b. b == 10) (line ++ 10 ∷ rest) ≡ line ∷ slice_split (λ b. b == 10) rest
cut_feed [] rest h = refl
cut_feed (b ∷ line) rest h =
    let both = passes_both _ _ h in
    let other : (b == 10) ≡ false = turn _ both.0 in
    let more = cut_feed line rest both.1 in
    rw (other, more) refl

-- Behind a comment line they are numbered from 2.
pub lines_back_behind : (comment : List ℕ) (lines : List Said) → HasNoFeed comment → AllByRecursion HasPlainWords lines
    → logical_lines (comment_line comment ++ flat_map line_text lines) ≡ spelled_lines 2 lines
lines_back_behind comment lines h p =
    ap (λ l. with_words (logical_from 1 l)) (ap (λ l. slice_split (λ b. b == 10) (35 ∷ l)) (append_assoc comment (10 ∷ []) (flat_map line_text lines)) ∙ cut_feed (35 ∷ comment) (flat_map line_text lines) h)
    ∙ cut_from 2 lines p

-- The line on unknown inits is a comment line.
digit_no_feed : (n : ℕ) → n < 10 → (not ((48 + n) == 10) && true) ≡ true
digit_no_feed n h = grind (arith, common_steps, h)

pub decimal_no_feed : (n : ℕ) → n < 2 ^ 64 → HasNoFeed (decimal n)
decimal_no_feed n small =
    decimal_by_steps (λ n ds. HasNoFeed ds) digit_no_feed
    (λ n ds far h. list_all-append (λ b. not (b == 10)) ds ((48 + n % 10) ∷ []) ∙ ap₂ (λ a b. a && b) h (digit_no_feed (n % 10) (omega arith))) n small

abbrev pub unknown_comment : ℕ → List ℕ
unknown_comment unknown = codes " unknown inits " ++ decimal unknown

pub unknown_line_is : (unknown : ℕ) → unknown_line unknown ≡ comment_line (unknown_comment unknown)
unknown_line_is unknown = refl

pub unknown_no_feed : (unknown : ℕ) → unknown < 2 ^ 64 → HasNoFeed (unknown_comment unknown)
unknown_no_feed unknown small = decimal_no_feed unknown small

-- The lines of a written model.
pub written_back : (unknown : ℕ) (m : Model) → unknown < 2 ^ 64 → AllByRecursion HasPlainWords (written_lines m) → logical_lines (model_text unknown m) ≡ spelled_lines 2 (written_lines m)
written_back unknown m small h = lines_back_behind (unknown_comment unknown) (written_lines m) (unknown_no_feed unknown small) h

-- ---- names make the words of a line plain

pub plain_append : (xs ys : List Word) → AllByRecursion IsPlainWord xs → AllByRecursion IsPlainWord ys → AllByRecursion IsPlainWord (xs ++ ys)
plain_append [] ys h k = k
plain_append (x ∷ xs) ys h k = (h.0, plain_append xs ys h.1 k)

-- what is checked by computing
computed : (w : Word) → not (is_empty w) ≡ true → list_all is_word_byte w ≡ true → not (ends_with_backslash w) ≡ true → IsPlainWord w
computed w a b c = record { is_word = a; is_plain = b; is_closed = c }

cell_plain : (c : Cell) → is_word_byte (cell_char c) ≡ true
cell_plain (Some true) = refl
cell_plain (Some false) = refl
cell_plain None = refl

cells_plain : (cs : List Cell) → list_all is_word_byte (map cell_char cs) ≡ true
cells_plain [] = refl
cells_plain (c ∷ cs) = rw (cell_plain c) (cells_plain cs)

cell_closed : (c : Cell) → (cell_char c == 92) ≡ false
cell_closed (Some true) = refl
cell_closed (Some false) = refl
cell_closed None = refl

cells_closed : (cs : List Cell) → ends_with_backslash (map cell_char cs) ≡ false
cells_closed [] = refl
cells_closed (c ∷ []) = cell_closed c
cells_closed (c ∷ d ∷ cs) = cells_closed (d ∷ cs)

bit_plain : (b : Bool) → IsPlainWord (bit_char b ∷ [])
bit_plain true = computed _ refl refl refl
bit_plain false = computed _ refl refl refl

row_plain : (cells : List Cell) (last : Bool) → AllByRecursion IsPlainWord (row_words cells last)
row_plain [] last = (bit_plain last, tt)
row_plain (c ∷ cells) last = (record { is_word = refl; is_plain = cells_plain (c ∷ cells); is_closed = ap not (cells_closed (c ∷ cells)) }, (bit_plain last, tt))

edge_plain : (rising : Bool) → IsPlainWord (edge_word rising)
edge_plain true = computed _ refl refl refl
edge_plain false = computed _ refl refl refl

control_plain : (control : Option Name) → IfSome control IsPlainWord → IsPlainWord (control_word control)
control_plain None h = computed _ refl refl refl
control_plain (Some n) h = h

clocking_plain : (clocking : Clocking) → HasPlainControl clocking → AllByRecursion IsPlainWord (clocking_words clocking)
clocking_plain plain h = tt
clocking_plain (edge rising control) h = (edge_plain rising, (control_plain control h, tt))

digit_plain : (n : ℕ) → n < 4 → is_word_byte (48 + n) ≡ true
digit_plain n h = grind (arith, common_steps, h)

digit_closed : (n : ℕ) → n < 4 → not ((48 + n) == 92) ≡ true
digit_closed n h = grind (arith, common_steps, h)

init_plain : (init : Option ℕ) → IfSome init (λ n. n < 4) → AllByRecursion IsPlainWord (init_words init)
init_plain None h = tt
init_plain (Some n) h = (record { is_word = refl; is_plain = ap (λ b. b && true) (digit_plain n h); is_closed = digit_closed n h }, tt)

formal_plain : (formal actual : List ℕ) → list_all is_word_byte formal ≡ true → list_all is_word_byte actual ≡ true → list_all is_word_byte (formal ++ 61 ∷ actual) ≡ true
formal_plain [] actual h k = k
formal_plain (b ∷ formal) actual h k =
    let both = passes_both _ _ h in
    let here : is_word_byte b ≡ true = both.0 in
    rw here (formal_plain formal actual both.1 k)

bind_plain : (b : Bind) → IsPlainWord b.formal → IsPlainWord b.actual → IsPlainWord (bind_word b)
bind_plain b formal actual =
    record {
      is_word = ap not (some_append b.formal (61 ∷ b.actual) refl);
      is_plain = formal_plain b.formal b.actual formal.is_plain actual.is_plain;
      is_closed = ap not (closed_append b.formal (61 ∷ b.actual) refl ∙ closed_step 61 b.actual (some_word b.actual actual)) ∙ actual.is_closed;
    }

binds_plain : (bs : List Bind) → AllByRecursion (λ b. IsPlainWord b.formal × IsPlainWord b.actual) bs → AllByRecursion IsPlainWord (map bind_word bs)
binds_plain [] h = tt
binds_plain (b ∷ bs) h = (bind_plain b h.0.0 h.0.1, binds_plain bs h.1)

pub plain_words : (said : Said) → HasPlainNames said → HasPlainWords said
plain_words (model_line name) h = (computed _ refl refl refl, (h, tt))
plain_words (inputs_line ports) h = (computed _ refl refl refl, h)
plain_words (outputs_line ports) h = (computed _ refl refl refl, h)
plain_words (clock_line ports) h = (computed _ refl refl refl, h)
plain_words (names_line ins out) h = (computed _ refl refl refl, plain_append ins (out ∷ []) h.0 (h.1, tt))
plain_words (row_line cells last) h = row_plain cells last
plain_words (latch_line d q clocking init) h =
    (computed _ refl refl refl, (h.0, (h.1, plain_append (clocking_words clocking) (init_words init) (clocking_plain clocking h.2) (init_plain init h.3))))
plain_words (subckt_line model binds) h = (computed _ refl refl refl, (h.0, binds_plain binds h.1))
plain_words end_line h = (computed _ refl refl refl, tt)

-- ---- reading what was spelled

says_lines : (n : ℕ) (lines : List Said) → AllByRecursion IsStatement lines → AllZip (λ line k. (line.number ≡ k.0) × Says line k.1) (spelled_lines n lines) (enumerate_from n lines)
says_lines n [] h = tt
says_lines n (said ∷ lines) h = ((refl, (refl, h.0)), says_lines (n + 1) lines h.1)

numbered_back : (n : ℕ) (lines : List Said) → map (λ k. k.1) (enumerate_from n lines) ≡ lines
numbered_back n [] = refl
numbered_back n (said ∷ lines) = ap (λ l. said ∷ l) (numbered_back (n + 1) lines)

-- A text whose logical lines spell these lines says the file that they declare.
pub reads_lines : (n : ℕ) (lines : List Said) (bytes : List ℕ) (file : File) → logical_lines bytes ≡ spelled_lines n lines → AllByRecursion IsStatement lines
    → BeginsWithModel lines → EachMayFollow lines → file.models ≡ models_of (enumerate_from n lines) → IsTrue (are_distinct (map (λ m. m.name) file.models)) → IsWithinLimits file → Reads bytes file
reads_lines n lines bytes file cut statements begins order models distinct limits =
    record {
      lines = enumerate_from n lines;
      cases = rw cut (says_lines n lines statements);
      begins = rw numbered_back begins;
      order = rw numbered_back order;
      models = models;
      distinct = distinct;
      limits = limits;
    }
