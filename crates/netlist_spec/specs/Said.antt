-- What a logical line says, computed from its words. Where the line is at fault this is some value that nothing asks for.
use Rattle.std.specs.Prelude.{ℕ, ◌-◌, Bool, true, false, List, [], ◌∷◌, map, codes, Option, Some, None, ◌==◌, if◌then◌else◌, slice_index_or}
use Rattle.netlist_spec.specs.Lines.{Word, Line}
use Rattle.netlist_spec.specs.Netlist.{Name, same_name, plain, edge, Bind, File}
use Rattle.netlist_spec.specs.Statements.{Cell, Said, model_line, inputs_line, outputs_line, clock_line, names_line, row_line, latch_line, subckt_line, end_line}
use Rattle.netlist_spec.specs.Reads.{Numbered, models_of}
use Rattle.netlist_spec.specs.ReadFaults.{Kind, model_kind, inputs_kind, outputs_kind, clock_kind, names_kind, latch_kind, subckt_kind, end_kind, other_kind, row_kind, kind_of, arguments, formal_part, actual_part}

-- the words but the last one, and the last one
abbrev pub all_but_last : List Word → List Word
all_but_last [] = []
all_but_last (w ∷ []) = []
all_but_last (w ∷ v ∷ ws) = w ∷ all_but_last (v ∷ ws)

abbrev pub last_of : List Word → Word
last_of [] = []
last_of (w ∷ []) = w
last_of (w ∷ v ∷ ws) = last_of (v ∷ ws)

-- a row's last character
abbrev pub word_bit : Word → Bool
word_bit w = same_name w (codes "1")

-- one place of a row
abbrev pub char_cell : ℕ → Cell
char_cell c = if c == 48 then Some false else if c == 49 then Some true else None

-- A row of one word has no places.
abbrev pub row_said : List Word → Said
row_said (last ∷ []) = row_line [] (word_bit last)
row_said (cells ∷ last ∷ rest) = row_line (map char_cell cells) (word_bit last)
row_said _ = end_line

-- `NIL` is no control
abbrev pub word_control : Word → Option Name
word_control w = if same_name w (codes "NIL") then None else Some w

abbrev pub word_rises : Word → Bool
word_rises w = same_name w (codes "re")

-- an init is one digit
abbrev pub word_init : Word → ℕ
word_init w = slice_index_or w 0 0 - 48

-- D and Q, then nothing, INIT, TYPE and CONTROL, or TYPE, CONTROL and INIT
abbrev pub latch_said : List Word → Said
latch_said (d ∷ q ∷ []) = latch_line d q plain None
latch_said (d ∷ q ∷ init ∷ []) = latch_line d q plain (Some (word_init init))
latch_said (d ∷ q ∷ type ∷ control ∷ []) = latch_line d q (edge (word_rises type) (word_control control)) None
latch_said (d ∷ q ∷ type ∷ control ∷ init ∷ rest) = latch_line d q (edge (word_rises type) (word_control control)) (Some (word_init init))
latch_said _ = end_line

-- A port word is cut at its first `=`.
abbrev pub word_bind : Word → Bind
word_bind w = record { formal = formal_part w; actual = actual_part w }

abbrev pub subckt_said : List Word → Said
subckt_said [] = end_line
subckt_said (model ∷ ports) = subckt_line model (map word_bind ports)

-- by the kind of the first word, the words behind it, and all words
abbrev pub said_by : Kind → List Word → List Word → Said
said_by model_kind ws all = model_line (slice_index_or ws 0 [])
said_by inputs_kind ws all = inputs_line ws
said_by outputs_kind ws all = outputs_line ws
said_by clock_kind ws all = clock_line ws
said_by names_kind ws all = names_line (all_but_last ws) (last_of ws)
said_by latch_kind ws all = latch_said ws
said_by subckt_kind ws all = subckt_said ws
said_by end_kind ws all = end_line
said_by other_kind ws all = end_line
said_by row_kind ws all = row_said all

abbrev pub said_of : Line → Said
said_of l = said_by (kind_of l) (arguments l) l.words

-- what some lines say, each with its number
abbrev pub declared_lines : List Line → List Numbered
declared_lines lines = map (λ l. (l.number, said_of l)) lines

-- the file that they declare
abbrev pub declared_file : List Line → File
declared_file lines = record { models = models_of (declared_lines lines) }
