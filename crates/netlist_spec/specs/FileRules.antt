-- What holds of every file that a reader answers, whatever its text is.
use Rattle.std.specs.Prelude.{◌≢◌, ℕ, ◌<◌, ◌≤◌, ◌^◌, List, [], ◌∷◌, ◌++◌, length, map, codes, Option, Some, None, IsTrue, IfSome, ⊤}
use Rattle.std.specs.List.{AllByRecursion, flat_map}
use Rattle.netlist_spec.specs.Netlist.{Name, IsWordName, stands_in, are_distinct, Row, Clocking, plain, edge, Statement, names, latch, subckt, Model, File}
use Rattle.netlist_spec.specs.Reads.{statement_nets, IsWithinLimits}
use Rattle.netlist_spec.specs.Covers.{has_bit}
use Rattle.netlist_spec.specs.Placed.{port_names}

-- A row of p inputs cares for none past them, and its value has no bit outside of those that it cares for.
pub record IsRowOf (p : ℕ) (row : Row) : Type 0 where
  pub care : row.care < 2 ^ p
  pub value : (i : ℕ) → IsTrue (has_bit row.value i) → IsTrue (has_bit row.care i)

-- No control is named `NIL`, which stands for none.
abbrev pub HasControl : Clocking → Type 0
HasControl plain = ⊤
HasControl (edge rising control) = IfSome control (λ n. n ≢ codes "NIL")

-- what a statement keeps beside its nets
abbrev pub IsDeclarable : Statement → Type 0
IsDeclarable (names ins out cover) = AllByRecursion (IsRowOf (length ins)) cover.rows
IsDeclarable (latch d q clocking init) = HasControl clocking × IfSome init (λ n. n < 4)
IsDeclarable (subckt model binds) = IsWordName model × AllByRecursion (λ b. IsWordName b.formal) binds

-- the nets of a model's ports and statements
abbrev pub nets_of : Model → List Name
nets_of m = port_names m.inputs ++ port_names m.outputs ++ port_names m.clocks ++ flat_map (λ s. statement_nets s.what) m.statements

-- Line numbers from `low` on never fall, and none is above `high`, where that is given.
abbrev pub NeverFall : ℕ → Option ℕ → List ℕ → Type 0
NeverFall low high [] = ⊤
NeverFall low high (n ∷ ns) = (low ≤ n) × IfSome high (λ h. n ≤ h) × NeverFall n high ns

-- The line numbers of a model begin at its own line. The next model, if there is one, stands on no earlier line.
pub record HasLines (next : Option ℕ) (m : Model) : Type 0 where
  pub own : IfSome next (λ n. m.line ≤ n)
  pub inputs : NeverFall m.line next (map (λ p. p.line) m.inputs)
  pub outputs : NeverFall m.line next (map (λ p. p.line) m.outputs)
  pub clocks : NeverFall m.line next (map (λ p. p.line) m.clocks)
  pub statements : NeverFall m.line next (map (λ s. s.line) m.statements)

-- the line of the first of some models
abbrev pub first_line : List Model → Option ℕ
first_line [] = None
first_line (m ∷ ms) = Some m.line

-- The models stand one behind the other.
abbrev pub HaveLines : List Model → Type 0
HaveLines [] = ⊤
HaveLines (m ∷ ms) = HasLines (first_line ms) m × HaveLines ms

-- what each model keeps
pub record IsFileModel (m : Model) : Type 0 where
  pub name : IsWordName m.name
  -- `names` are the nets of the ports and statements, each once
  pub distinct : IsTrue (are_distinct m.names)
  pub word_names : AllByRecursion IsWordName m.names
  pub used : AllByRecursion (λ n. IsTrue (stands_in n (nets_of m))) m.names
  pub named : AllByRecursion (λ n. IsTrue (stands_in n m.names)) (nets_of m)
  pub statements : AllByRecursion (λ s. IsDeclarable s.what) m.statements

-- The file has a model, its models' names are distinct, and its counts are within their limits.
pub record IsFile (file : File) : Type 0 where
  pub some_model : 1 ≤ length file.models
  pub distinct : IsTrue (are_distinct (map (λ m. m.name) file.models))
  pub models : AllByRecursion IsFileModel file.models
  pub limits : IsWithinLimits file
  pub lines : HaveLines file.models
