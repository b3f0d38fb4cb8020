-- The tests of a line by what is known of the lines before it, and what is known behind it.
use Rattle.std.specs.Prelude.{◌≡◌, ℕ, ◌+◌, ◌-◌, Bool, true, false, ◌&&◌, not, ◌==◌, nat_lt, List, [], ◌∷◌, length, drop, codes, Option, None, Some, if◌then◌else◌, slice_index_or, count_by}
use Rattle.std.specs.Bool.{then_some}
use Rattle.std.specs.Option.{option_or}
use Rattle.std.specs.List.{list_any}
use Rattle.netlist_spec.specs.Lines.{Word, Line}
use Rattle.netlist_spec.specs.Netlist.{Name, same_name, stands_in, Quantity, cover_inputs, model_inputs, model_outputs, model_clocks, model_latches, file_statements}
use Rattle.netlist_spec.specs.ReadFaults.{ReadFault, unknown_statement, bad_row, mixed_cover, bad_latch, no_model, long_name, twice_model, bad_subckt, after_end, word_count, Kind, model_kind, inputs_kind, outputs_kind, clock_kind, names_kind, latch_kind, subckt_kind, end_kind, row_kind, kind_index, first_word, arguments, is_bad_port_word, is_latch_form, is_row_of_open, last_word, count_fault, is_kind, last_line, is_kind_of_some, open_inputs, open_rows, lines_of_model, model_names, names_declared, is_statement}
use Rattle.netlist_spec.specs.Statements.{bit_char}
use Rattle.imp_text.specs.Names.{with_name}
use Rattle.blif_read.specs.declared.summary.Room.{Room}
use Rattle.blif_read.specs.declared.summary.Summary.{Summary}
use Rattle.blif_read.specs.LineTests.{is_wrong_count, any_long}

-- Tests.

abbrev pub is_model : Kind → Bool
is_model k = kind_index k == 0

abbrev pub is_row : Kind → Bool
is_row k = kind_index k == 9

abbrev pub order_fault : Summary → Kind → Line → Option ReadFault
order_fault s k l =
    option_or (then_some (s.ended && not (is_model k)) (after_end l.number))
    (option_or (then_some (not s.has_model && not (is_model k)) (no_model l.number))
    (option_or (then_some (kind_index k == 8) (unknown_statement l.number (first_word l)))
    (then_some (is_wrong_count k (length (arguments l))) (word_count l.number))))

abbrev pub words_fault : Kind → Line → Option ReadFault
words_fault k l =
    option_or (then_some (any_long k (arguments l)) (long_name l.number))
    (option_or (then_some ((kind_index k == 6) && list_any is_bad_port_word (drop 1 (arguments l))) (bad_subckt l.number))
    (then_some ((kind_index k == 5) && not (is_latch_form (arguments l))) (bad_latch l.number)))

-- The last character of the rows so far, if there are some, isn't the word.
abbrev pub differs_from : Option Bool → Word → Bool
differs_from None w = false
differs_from (Some true) w = not (same_name w (codes "1"))
differs_from (Some false) w = not (same_name w (codes "0"))

abbrev pub row_fault : Summary → Kind → Line → Option ReadFault
row_fault s k l =
    option_or (then_some (is_row k && not (is_row_of_open s.open_inputs l.words)) (bad_row l.number))
    (then_some (is_row k && differs_from s.shared_last (last_word l)) (mixed_cover l.number))

abbrev pub model_fault : Summary → Kind → Line → Option ReadFault
model_fault s k l =
    then_some (is_model k && list_any (λ n. stands_in n s.models) (arguments l)) (twice_model l.number (slice_index_or (arguments l) 0 []))

-- the first count that a line with so many words behind the first brings past its number
abbrev pub passed_by : Room → Kind → ℕ → Option Quantity
passed_by room names_kind count = if nat_lt 16 (count - 1) then Some cover_inputs else if room.statements == 0 then Some file_statements else None
passed_by room inputs_kind count = if nat_lt room.inputs count then Some model_inputs else None
passed_by room outputs_kind count = if nat_lt room.outputs count then Some model_outputs else None
passed_by room clock_kind count = if nat_lt room.clocks count then Some model_clocks else None
passed_by room latch_kind count = if room.latches == 0 then Some model_latches else if room.statements == 0 then Some file_statements else None
passed_by room subckt_kind count = if room.statements == 0 then Some file_statements else None
passed_by room _ count = None

abbrev pub count_fault_by : Summary → Kind → Line → Option ReadFault
count_fault_by s k l = count_fault l.number (passed_by s.room k (length (arguments l)))

-- all tests, in their order
abbrev pub fault_by : Summary → Kind → Line → Option ReadFault
fault_by s k l =
    option_or (order_fault s k l) (option_or (words_fault k l) (option_or (row_fault s k l) (option_or (model_fault s k l) (count_fault_by s k l))))

-- What is known behind a line that passes them.

abbrev pub open_after : Kind → ℕ → Option ℕ → Option ℕ
open_after names_kind count before = Some (count - 1)
open_after row_kind count before = before
open_after _ count before = None

abbrev pub last_of_row : Word → Option Bool → Option Bool
last_of_row w None = Some (same_name w (codes "1"))
last_of_row w (Some last) = Some last

abbrev pub last_after : Kind → Word → Option Bool → Option Bool
last_after k w last = if is_row k then last_of_row w last else None

abbrev pub models_after : Kind → List Word → List Name → List Name
models_after k ws models = if is_model k then with_name models (slice_index_or ws 0 []) else models

abbrev pub room_after : Room → Kind → ℕ → Room
room_after room model_kind count = record { inputs = 131072; outputs = 131072; clocks = 131072; latches = 131072; statements = room.statements }
room_after room inputs_kind count = record room { inputs = room.inputs - count }
room_after room outputs_kind count = record room { outputs = room.outputs - count }
room_after room clock_kind count = record room { clocks = room.clocks - count }
room_after room latch_kind count = record room { latches = room.latches - 1; statements = room.statements - 1 }
room_after room names_kind count = record room { statements = room.statements - 1 }
room_after room subckt_kind count = record room { statements = room.statements - 1 }
room_after room _ count = room

pub record IsAfter (old : Summary) (k : Kind) (l : Line) (new : Summary) : Type 0 where
  pub ended : new.ended ≡ (kind_index k == 7)
  pub has_model : new.has_model ≡ (if is_model k then true else old.has_model)
  pub open_inputs : new.open_inputs ≡ open_after k (length (arguments l)) old.open_inputs
  pub shared_last : new.shared_last ≡ last_after k (last_word l) old.shared_last
  pub models : new.models ≡ models_after k (arguments l) old.models
  pub room : new.room ≡ room_after old.room k (length (arguments l))

-- What is left of each count.
pub record HasRoom (earlier : List Line) (room : Room) : Type 0 where
  pub inputs : names_declared inputs_kind (lines_of_model earlier) + room.inputs ≡ 131072
  pub outputs : names_declared outputs_kind (lines_of_model earlier) + room.outputs ≡ 131072
  pub clocks : names_declared clock_kind (lines_of_model earlier) + room.clocks ≡ 131072
  pub latches : count_by (is_kind latch_kind) (lines_of_model earlier) + room.latches ≡ 131072
  pub statements : count_by is_statement earlier + room.statements ≡ 2000000

-- There are no rows, or the first one's last character is the bit.
abbrev pub RowsShare : List Line → Option Bool → Type 0
RowsShare [] last = last ≡ None
RowsShare (first ∷ rest) last = (b : Bool) × (last ≡ Some b) × (last_word first ≡ bit_char b ∷ [])

-- what is known is so of the lines before
pub record Summarizes (earlier : List Line) (s : Summary) : Type 0 where
  pub ended : s.ended ≡ is_kind_of_some end_kind (last_line earlier)
  pub has_model : s.has_model ≡ list_any (is_kind model_kind) earlier
  pub inputs_open : s.open_inputs ≡ open_inputs earlier
  pub shared_last : RowsShare (open_rows earlier) s.shared_last
  pub models : s.models ≡ model_names earlier
  pub room : HasRoom earlier s.room
