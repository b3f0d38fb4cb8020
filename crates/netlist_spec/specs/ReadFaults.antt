-- Why a text says no file: the first logical line that fits no case, and on it the first of these tests.
use Rattle.std.specs.Prelude.{filter, ℕ, ◌-◌, Bool, true, false, ◌&&◌, ◌||◌, List, [], ◌∷◌, ◌++◌, length, take, drop, not, codes, Option, Some, None, nat_lt, ◌==◌, if◌then◌else◌, sum_by, count_by, slice_index_or}
use Rattle.std.specs.Bool.{then_some}
use Rattle.std.specs.Option.{option_or}
use Rattle.std.specs.List.{list_all, list_any, flat_map, last_or}
use Rattle.netlist_spec.specs.Lines.{Word, Line, is_empty, logical_lines}
use Rattle.netlist_spec.specs.Netlist.{Name, same_name, stands_in, Quantity, cover_inputs, model_inputs, model_outputs, model_clocks, model_latches, file_statements}

pub data ReadFault : Type 0 where
  unknown_statement : (line : ℕ) (word : Word) → ReadFault
  bad_row : (line : ℕ) → ReadFault
  mixed_cover : (line : ℕ) → ReadFault
  bad_latch : (line : ℕ) → ReadFault
  no_model : (line : ℕ) → ReadFault
  long_name : (line : ℕ) → ReadFault
  too_many : (line : ℕ) (what : Quantity) → ReadFault
  twice_model : (line : ℕ) (name : Name) → ReadFault
  bad_subckt : (line : ℕ) → ReadFault
  after_end : (line : ℕ) → ReadFault
  word_count : (line : ℕ) → ReadFault

-- What the first word of a line says: one of the eight statements, another word that begins with `.`, or
-- none, so that the line can only be a row.
pub data Kind : Type 0 where
  model_kind : Kind
  inputs_kind : Kind
  outputs_kind : Kind
  clock_kind : Kind
  names_kind : Kind
  latch_kind : Kind
  subckt_kind : Kind
  end_kind : Kind
  other_kind : Kind
  row_kind : Kind

abbrev pub first_word : Line → Word
first_word l = slice_index_or l.words 0 []

-- the words behind the first
abbrev pub arguments : Line → List Word
arguments l = drop 1 l.words

abbrev pub begins_with_dot : Word → Bool
begins_with_dot [] = false
begins_with_dot (c ∷ cs) = c == 46

abbrev pub word_kind : Word → Kind
word_kind w =
    if same_name w (codes ".model") then model_kind
    else if same_name w (codes ".inputs") then inputs_kind
    else if same_name w (codes ".outputs") then outputs_kind
    else if same_name w (codes ".clock") then clock_kind
    else if same_name w (codes ".names") then names_kind
    else if same_name w (codes ".latch") then latch_kind
    else if same_name w (codes ".subckt") then subckt_kind
    else if same_name w (codes ".end") then end_kind
    else if begins_with_dot w then other_kind
    else row_kind

abbrev pub kind_of : Line → Kind
kind_of l = word_kind (first_word l)

-- a number for each kind
abbrev pub kind_index : Kind → ℕ
kind_index model_kind = 0
kind_index inputs_kind = 1
kind_index outputs_kind = 2
kind_index clock_kind = 3
kind_index names_kind = 4
kind_index latch_kind = 5
kind_index subckt_kind = 6
kind_index end_kind = 7
kind_index other_kind = 8
kind_index row_kind = 9

abbrev pub is_kind : Kind → Line → Bool
is_kind k l = kind_index (kind_of l) == kind_index k

-- the line before
abbrev pub last_line : List Line → Option Line
last_line earlier = last_or None earlier

abbrev pub is_kind_of_some : Kind → Option Line → Bool
is_kind_of_some k None = false
is_kind_of_some k (Some l) = is_kind k l

-- A line follows `.end` and isn't `.model`.
abbrev pub comes_after_end : List Line → Line → Bool
comes_after_end earlier l = is_kind_of_some end_kind (last_line earlier) && not (is_kind model_kind l)

-- A line other than `.model` stands before the first `.model`.
abbrev pub comes_before_model : List Line → Line → Bool
comes_before_model earlier l = not (list_any (is_kind model_kind) earlier) && not (is_kind model_kind l)

-- The first word begins with `.` and is none of the eight words.
abbrev pub is_unknown_statement : Line → Bool
is_unknown_statement l = is_kind other_kind l

-- `.model` without exactly one name, `.names` or `.subckt` without a word, `.end` with a word
abbrev pub has_wrong_count : Line → Bool
has_wrong_count l =
    (is_kind model_kind l && not (length (arguments l) == 1))
    || (is_kind names_kind l && is_empty (arguments l))
    || (is_kind subckt_kind l && is_empty (arguments l))
    || (is_kind end_kind l && not (is_empty (arguments l)))

-- A port word is cut at its first `=`. One without `=` has no part.
abbrev pub has_equals : Word → Bool
has_equals w = list_any (λ c. c == 61) w

abbrev pub formal_part : Word → Name
formal_part [] = []
formal_part (c ∷ cs) = if c == 61 then [] else c ∷ formal_part cs

abbrev pub actual_part : Word → Name
actual_part [] = []
actual_part (c ∷ cs) = if c == 61 then cs else actual_part cs

abbrev pub parts_of : Word → List Name
parts_of w = if has_equals w then formal_part w ∷ actual_part w ∷ [] else []

-- After `.latch` the first two words are names, as far as they are there; of four or five words the fourth too.
abbrev pub latch_names : List Word → List Name
latch_names ws =
    take 2 ws ++ (if (length ws == 4) || (length ws == 5) then take 1 (drop 3 ws) else [])

-- the names of a line
abbrev pub names_for : Kind → List Word → List Name
names_for model_kind ws = ws
names_for inputs_kind ws = ws
names_for outputs_kind ws = ws
names_for clock_kind ws = ws
names_for names_kind ws = ws
names_for latch_kind ws = latch_names ws
names_for subckt_kind ws = take 1 ws ++ flat_map parts_of (drop 1 ws)
names_for _ ws = []

abbrev pub has_long_name : Line → Bool
has_long_name l = list_any (λ n. nat_lt 255 (length n)) (names_for (kind_of l) (arguments l))

-- A port word of `.subckt` has no `=`, or an empty part.
abbrev pub is_bad_port_word : Word → Bool
is_bad_port_word w = not (has_equals w) || is_empty (formal_part w) || is_empty (actual_part w)

abbrev pub has_bad_port_word : Line → Bool
has_bad_port_word l = is_kind subckt_kind l && list_any is_bad_port_word (drop 1 (arguments l))

abbrev pub is_edge_word : Word → Bool
is_edge_word w = same_name w (codes "re") || same_name w (codes "fe")

abbrev pub is_init_word : Word → Bool
is_init_word w = list_any (same_name w) (codes "0" ∷ codes "1" ∷ codes "2" ∷ codes "3" ∷ [])

-- D and Q, then nothing, INIT, TYPE and CONTROL, or TYPE, CONTROL and INIT
abbrev pub is_latch_form : List Word → Bool
is_latch_form (d ∷ q ∷ []) = true
is_latch_form (d ∷ q ∷ init ∷ []) = is_init_word init
is_latch_form (d ∷ q ∷ edge ∷ control ∷ []) = is_edge_word edge
is_latch_form (d ∷ q ∷ edge ∷ control ∷ init ∷ []) = is_edge_word edge && is_init_word init
is_latch_form _ = false

-- The number of words isn't 2 to 5, or TYPE or INIT is none of those.
abbrev pub is_bad_latch : Line → Bool
is_bad_latch l = is_kind latch_kind l && not (is_latch_form (arguments l))

-- the line with which the cover begins that directly precedes: the last line that can't be a row
abbrev pub last_other_line : List Line → Option Line
last_other_line earlier = last_line (filter (λ l. not (is_kind row_kind l)) earlier)

abbrev pub inputs_of_cover : Option Line → Option ℕ
inputs_of_cover None = None
inputs_of_cover (Some l) = if is_kind names_kind l then Some (length (arguments l) - 1) else None

-- its number of inputs, if it is a `.names`
abbrev pub open_inputs : List Line → Option ℕ
open_inputs earlier = inputs_of_cover (last_other_line earlier)

abbrev pub is_last_word : Word → Bool
is_last_word w = same_name w (codes "0") || same_name w (codes "1")

abbrev pub is_cells_word : ℕ → Word → Bool
is_cells_word p w = (length w == p) && list_all (λ c. (c == 48) || (c == 49) || (c == 45)) w

-- for p inputs, p characters of `0`, `1`, `-`, and then `0` or `1`; for no inputs the last character alone
abbrev pub is_row_of : ℕ → List Word → Bool
is_row_of p (last ∷ []) = (p == 0) && is_last_word last
is_row_of p (cells ∷ last ∷ []) = nat_lt 0 p && is_cells_word p cells && is_last_word last
is_row_of p _ = false

abbrev pub is_row_of_open : Option ℕ → List Word → Bool
is_row_of_open None ws = false
is_row_of_open (Some p) ws = is_row_of p ws

-- The first word doesn't begin with `.` and the line is no row of the cover that directly precedes it, or no
-- cover does.
abbrev pub is_bad_row : List Line → Line → Bool
is_bad_row earlier l = is_kind row_kind l && not (is_row_of_open (open_inputs earlier) l.words)

-- the lines behind the last one that passes a test
abbrev pub lines_behind : (Line → Bool) → List Line → List Line
lines_behind p [] = []
lines_behind p (l ∷ ls) = if list_any p ls then lines_behind p ls else if p l then ls else l ∷ ls

-- the rows so far of the cover that directly precedes: the lines behind the last one that can't be a row
abbrev pub open_rows : List Line → List Line
open_rows earlier = lines_behind (λ l. not (is_kind row_kind l)) earlier

-- a row's last word
abbrev pub last_word : Line → Word
last_word l = slice_index_or l.words (length l.words - 1) []

abbrev pub differs_from_first : List Line → Line → Bool
differs_from_first [] l = false
differs_from_first (first ∷ rest) l = not (same_name (last_word first) (last_word l))

-- The row's last character differs from that of the cover's first row.
abbrev pub is_mixed : List Line → Line → Bool
is_mixed earlier l = is_kind row_kind l && differs_from_first (open_rows earlier) l

-- the names of the models of some lines
abbrev pub model_names : List Line → List Name
model_names lines = flat_map (λ l. if is_kind model_kind l then arguments l else []) lines

abbrev pub is_model_again : List Line → Line → Bool
is_model_again earlier l = is_kind model_kind l && list_any (λ n. stands_in n (model_names earlier)) (arguments l)

-- the lines since the last `.model`
abbrev pub lines_of_model : List Line → List Line
lines_of_model earlier = lines_behind (is_kind model_kind) earlier

abbrev pub names_declared : Kind → List Line → ℕ
names_declared k lines = sum_by (λ l. if is_kind k l then length (arguments l) else 0) lines

abbrev pub is_statement : Line → Bool
is_statement l = is_kind names_kind l || is_kind latch_kind l || is_kind subckt_kind l

-- the first count that is past its number, of the line, the lines of its model up to it, and all lines up to it
abbrev pub first_passed : Line → List Line → List Line → Option Quantity
first_passed l here all =
    if is_kind names_kind l && nat_lt 16 (length (arguments l) - 1) then Some cover_inputs
    else if is_kind inputs_kind l && nat_lt 131072 (names_declared inputs_kind here) then Some model_inputs
    else if is_kind outputs_kind l && nat_lt 131072 (names_declared outputs_kind here) then Some model_outputs
    else if is_kind clock_kind l && nat_lt 131072 (names_declared clock_kind here) then Some model_clocks
    else if is_kind latch_kind l && nat_lt 131072 (count_by (is_kind latch_kind) here) then Some model_latches
    else if is_statement l && nat_lt 2000000 (count_by is_statement all) then Some file_statements
    else None

-- The count that the line brings past its number.
abbrev pub passed_count : List Line → Line → Option Quantity
passed_count earlier l = first_passed l (lines_of_model earlier ++ l ∷ []) (earlier ++ l ∷ [])

abbrev pub count_fault : ℕ → Option Quantity → Option ReadFault
count_fault line None = None
count_fault line (Some what) = Some (too_many line what)

-- The first of the tests that a line fails, given the lines before it, none of which fails one.
abbrev pub line_fault : List Line → Line → Option ReadFault
line_fault earlier l =
    option_or (then_some (comes_after_end earlier l) (after_end l.number))
    (option_or (then_some (comes_before_model earlier l) (no_model l.number))
    (option_or (then_some (is_unknown_statement l) (unknown_statement l.number (first_word l)))
    (option_or (then_some (has_wrong_count l) (word_count l.number))
    (option_or (then_some (has_long_name l) (long_name l.number))
    (option_or (then_some (has_bad_port_word l) (bad_subckt l.number))
    (option_or (then_some (is_bad_latch l) (bad_latch l.number))
    (option_or (then_some (is_bad_row earlier l) (bad_row l.number))
    (option_or (then_some (is_mixed earlier l) (mixed_cover l.number))
    (option_or (then_some (is_model_again earlier l) (twice_model l.number (slice_index_or (arguments l) 0 [])))
    (count_fault l.number (passed_count earlier l)))))))))))

abbrev pub fault_from : List Line → List Line → Option ReadFault
fault_from earlier [] = None
fault_from earlier (l ∷ ls) = option_or (line_fault earlier l) (fault_from (earlier ++ l ∷ []) ls)

-- The answer for a text that says no file. A text without a logical line has no model, with line 0.
abbrev pub read_fault : List ℕ → Option ReadFault
read_fault bytes =
    let lines = logical_lines bytes in
    if is_empty lines then Some (no_model 0) else fault_from [] lines
