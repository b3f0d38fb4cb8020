-- The statements of Berkeley BLIF that this language has, and how a logical line spells each.
use Rattle.std.specs.Prelude.{◌≡◌, ◌≢◌, ℕ, ◌+◌, ◌<◌, Bool, true, false, List, [], ◌∷◌, ◌++◌, length, map, codes, Option, Some, None, ⊤, ◌==◌, IfSome}
use Rattle.std.specs.List.{AllByRecursion, list_any}
use Rattle.netlist_spec.specs.Lines.{Word, Line}
use Rattle.netlist_spec.specs.Netlist.{Name, IsName, Clocking, plain, edge, Bind}

-- One place of a row: 0, 1, or `-`, which is no bit.
abbrev pub Cell : Type 0
Cell = Option Bool

-- what one logical line says
pub data Said : Type 0 where
  model_line : (name : Name) → Said
  inputs_line : (ports : List Name) → Said
  outputs_line : (ports : List Name) → Said
  clock_line : (ports : List Name) → Said
  names_line : (ins : List Name) (out : Name) → Said
  row_line : (cells : List Cell) (last : Bool) → Said
  latch_line : (d q : Name) (clocking : Clocking) (init : Option ℕ) → Said
  subckt_line : (model : Name) (binds : List Bind) → Said
  end_line : Said

abbrev pub bit_char : Bool → ℕ
bit_char false = 48
bit_char true = 49

abbrev pub cell_char : Cell → ℕ
cell_char (Some b) = bit_char b
cell_char None = 45

-- `re` is the rising and `fe` the falling edge.
abbrev pub edge_word : Bool → Word
edge_word true = codes "re"
edge_word false = codes "fe"

abbrev pub control_word : Option Name → Word
control_word (Some n) = n
control_word None = codes "NIL"

abbrev pub clocking_words : Clocking → List Word
clocking_words plain = []
clocking_words (edge rising control) = edge_word rising ∷ control_word control ∷ []

-- an init is one digit
abbrev pub init_words : Option ℕ → List Word
init_words (Some n) = ((48 + n) ∷ []) ∷ []
init_words None = []

-- `FORMAL=ACTUAL`
abbrev pub bind_word : Bind → Word
bind_word b = b.formal ++ 61 ∷ b.actual

-- For p inputs a row has p characters of `0`, `1` and `-` and then, as a word of its own, its last
-- character. For no inputs it has the last character alone.
abbrev pub row_words : List Cell → Bool → List Word
row_words [] last = (bit_char last ∷ []) ∷ []
row_words (c ∷ cs) last = map cell_char (c ∷ cs) ∷ (bit_char last ∷ []) ∷ []

-- the words of a line
abbrev pub spelling : Said → List Word
spelling (model_line name) = codes ".model" ∷ name ∷ []
spelling (inputs_line ports) = codes ".inputs" ∷ ports
spelling (outputs_line ports) = codes ".outputs" ∷ ports
spelling (clock_line ports) = codes ".clock" ∷ ports
spelling (names_line ins out) = codes ".names" ∷ (ins ++ out ∷ [])
spelling (row_line cells last) = row_words cells last
spelling (latch_line d q clocking init) = codes ".latch" ∷ d ∷ q ∷ (clocking_words clocking ++ init_words init)
spelling (subckt_line model binds) = codes ".subckt" ∷ model ∷ map bind_word binds
spelling end_line = codes ".end" ∷ []

-- A control is a name, and one that is spelled `NIL` is none.
abbrev pub IsClocking : Clocking → Type 0
IsClocking plain = ⊤
IsClocking (edge rising control) = IfSome control (λ n. IsName n × (n ≢ codes "NIL"))

-- A port word is cut at its first `=`, so a formal has none.
abbrev pub IsBind : Bind → Type 0
IsBind b = IsName b.formal × (list_any (λ c. c == 61) b.formal ≡ false) × IsName b.actual

-- what a line may say
abbrev pub IsStatement : Said → Type 0
IsStatement (model_line name) = IsName name
IsStatement (inputs_line ports) = AllByRecursion IsName ports
IsStatement (outputs_line ports) = AllByRecursion IsName ports
IsStatement (clock_line ports) = AllByRecursion IsName ports
IsStatement (names_line ins out) = AllByRecursion IsName ins × IsName out
IsStatement (row_line cells last) = ⊤
IsStatement (latch_line d q clocking init) = IsName d × IsName q × IsClocking clocking × IfSome init (λ n. n < 4)
IsStatement (subckt_line model binds) = IsName model × AllByRecursion IsBind binds
IsStatement end_line = ⊤

-- The line fits this case of the table of statements.
abbrev pub Says : Line → Said → Type 0
Says line said = (line.words ≡ spelling said) × IsStatement said

-- What may stand on the line after another. Rows directly follow their `.names` or another row of it; each
-- has a character for each input, and all rows of one cover have the same last character. After `.end` a
-- model begins. The first case that fits counts: only `.model` behind `.end`, a row only behind these two, and
-- anything else behind anything else.
abbrev pub MayFollow : Said → Said → Type 0
MayFollow end_line (model_line name) = ⊤
MayFollow end_line _ = ⊥
MayFollow (names_line ins out) (row_line cells last) = length cells ≡ length ins
MayFollow (row_line cells last) (row_line more again) = (length more ≡ length cells) × (again ≡ last)
MayFollow _ (row_line cells last) = ⊥
MayFollow _ _ = ⊤

abbrev pub EachMayFollow : List Said → Type 0
EachMayFollow [] = ⊤
EachMayFollow (a ∷ []) = ⊤
EachMayFollow (a ∷ b ∷ rest) = MayFollow a b × EachMayFollow (b ∷ rest)

-- a text begins with a model
abbrev pub BeginsWithModel : List Said → Type 0
BeginsWithModel (model_line name ∷ rest) = ⊤
BeginsWithModel _ = ⊥
