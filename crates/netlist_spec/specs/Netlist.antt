-- What a BLIF text declares, as plain data. A net is known by its name.
use Rattle.std.specs.Prelude.{◌≢◌, ⊤, IfSome, ℕ, ◌<◌, ◌≤◌, Bool, true, ◌&&◌, List, [], ◌∷◌, length, Option, not, nat_lt, nat_eq, ◌==◌, ◌||◌, codes, IsTrue}
use Rattle.std.specs.Str.{bytes_eq}
use Rattle.std.specs.List.{list_any, list_all, starts_with}
use Rattle.netlist_spec.specs.Lines.{ends_with_backslash}

-- A name is a word of 1 to 255 bytes.
abbrev pub Name : Type 0
Name = List ℕ

abbrev pub IsName : List ℕ → Type 0
IsName bytes = (0 < length bytes) × (length bytes ≤ 255)

-- A byte that a word of a text may have is no blank and no `#`.
abbrev pub is_word_byte : ℕ → Bool
is_word_byte b = nat_lt 32 b && not (b == 35)

-- a name that may be a word of a text
pub record IsWordName (name : Name) : Type 0 where
  pub is_name : IsName name
  pub bytes : IsTrue (list_all is_word_byte name)

-- A name is reserved where it begins with `guard:`, as the nets that a guard adds, or ends with a backslash, which would
-- join a written line with the next.
abbrev pub is_reserved : Name → Bool
is_reserved n = starts_with nat_eq n (codes "guard:") || ends_with_backslash n

-- whether two names have the same bytes
abbrev pub same_name : Name → Name → Bool
same_name = bytes_eq

-- whether the name stands in the list
abbrev pub stands_in : Name → List Name → Bool
stands_in n ns = list_any (same_name n) ns

-- whether no name stands twice in the list
abbrev pub are_distinct : List Name → Bool
are_distinct [] = true
are_distinct (n ∷ ns) = not (stands_in n ns) && are_distinct ns

-- One row of a single-output cover. Bit i of both numbers speaks of input i. A place with `-` has 0 in both.
pub record Row : Type 0 where
  pub care : ℕ
  pub value : ℕ

-- The rows of a cover and the last character that they share.
pub record Cover : Type 0 where
  pub on : Bool
  pub rows : List Row

-- How a latch is clocked: no pair, or an edge (`re` rises, `fe` falls) and a control. No control is `NIL`.
pub data Clocking : Type 0 where
  plain : Clocking
  edge : (rising : Bool) (control : Option Name) → Clocking

-- A control is none, or one of these names. `NIL` stands for none, so no control is named so.
abbrev pub HasControlAmong : List Name → Clocking → Type 0
HasControlAmong ports plain = ⊤
HasControlAmong ports (edge rising control) = IfSome control (λ n. IsTrue (stands_in n ports) × (n ≢ codes "NIL"))

-- `FORMAL=ACTUAL`: a port of the placed model and the net that stands for it.
pub record Bind : Type 0 where
  pub formal : Name
  pub actual : Name

pub data Statement : Type 0 where
  names : (ins : List Name) (out : Name) (cover : Cover) → Statement
  latch : (d q : Name) (clocking : Clocking) (init : Option ℕ) → Statement
  subckt : (model : Name) (binds : List Bind) → Statement

-- a name that a port line declares, and the line
pub record Port : Type 0 where
  pub name : Name
  pub line : ℕ

pub record Located : Type 0 where
  pub line : ℕ
  pub what : Statement

-- One model. `names` are its distinct nets; in a file that was read they stand in order of first appearance.
pub record Model : Type 0 where
  pub name : Name
  pub line : ℕ
  pub names : List Name
  pub inputs : List Port
  pub outputs : List Port
  pub clocks : List Port
  pub statements : List Located

-- A file. Its first model is the main one.
pub record File : Type 0 where
  pub models : List Model

-- a count whose limit may be passed
pub data Quantity : Type 0 where
  cover_inputs : Quantity
  model_inputs : Quantity
  model_outputs : Quantity
  model_clocks : Quantity
  model_latches : Quantity
  file_statements : Quantity
  source_cost : Quantity
