-- The tests of a line by the kind of its first word and the words behind it.
use Rattle.std.specs.Prelude.{◌≡◌, ◌<◌, ℕ, Bool, false, not, ◌==◌, nat_lt, List, map, length, Option, None, Some, if◌then◌else◌}
use Rattle.std.specs.List.{AllByRecursion, list_any}
use denote.Ref.{Bor}
use Rattle.netlist_spec.specs.Lines.{Word, Line, is_empty}
use Rattle.netlist_spec.specs.Netlist.{Name}
use Rattle.netlist_spec.specs.ReadFaults.{Kind, model_kind, names_kind, subckt_kind, end_kind, names_for, has_equals, formal_part, actual_part, kind_of}
use Rattle.blif_read.specs.declared.line.Line.{Line as ReadLine}
use Rattle.blif_read.specs.Kinds.{kind_in}

-- the bytes of each word
abbrev pub words_in : List (Bor Word) → List Word
words_in words = map (λ w. w.now) words

-- `.model` without exactly one name, `.names` or `.subckt` without a word, `.end` with a word
abbrev pub is_wrong_count : Kind → ℕ → Bool
is_wrong_count model_kind count = not (count == 1)
is_wrong_count names_kind count = count == 0
is_wrong_count subckt_kind count = count == 0
is_wrong_count end_kind count = not (count == 0)
is_wrong_count _ count = false

abbrev pub is_long : Name → Bool
is_long n = nat_lt 255 (length n)

-- whether a name of a line is too long
abbrev pub any_long : Kind → List Word → Bool
any_long k ws = list_any is_long (names_for k ws)

abbrev pub is_equals : ℕ → Bool
is_equals c = c == 61

-- the two parts of a port word, cut at its first `=`
abbrev pub port_parts : Word → Option (Name × Name)
port_parts w = if has_equals w then Some (formal_part w, actual_part w) else None

-- the bytes of two parts
abbrev pub parts_now : Option (Bor Word × Bor Word) → Option (Name × Name)
parts_now None = None
parts_now (Some parts) = Some (parts.0.now, parts.1.now)

-- the line that the words are
abbrev pub line_of : ReadLine → Line
line_of line = record { number = line.number; words = words_in line.words.now }

-- a word of a line has a byte
abbrev pub HasByte : Word → Type 0
HasByte w = is_empty w ≡ false

-- The kind is that of the first word, and each word has a byte.
pub record IsLine (line : ReadLine) : Type 0 where
  pub kind : kind_in line.kind ≡ kind_of (line_of line)
  pub some : 0 < length line.words.now
  pub bytes : AllByRecursion HasByte (words_in line.words.now)
