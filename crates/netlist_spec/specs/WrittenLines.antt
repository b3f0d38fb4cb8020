-- Written lines whose words are plain: they are cut back as they were spelled.
use Rattle.std.specs.Prelude.{ℕ, ◌<◌, List, [], ◌∷◌, ◌++◌, map, not, ◌==◌, IsTrue, IfSome, ⊤}
use Rattle.std.specs.List.{AllByRecursion, list_all, enumerate_from}
use Rattle.netlist_spec.specs.Lines.{Word, Line, is_empty, ends_with_backslash}
use Rattle.netlist_spec.specs.Netlist.{is_word_byte, Clocking, plain, edge}
use Rattle.netlist_spec.specs.Statements.{Said, model_line, inputs_line, outputs_line, clock_line, names_line, row_line, latch_line, subckt_line, end_line, spelling}
use Rattle.netlist_spec.specs.Reads.{Numbered}

-- One or more word bytes, of which the last is no backslash: at the end of a line it would join the next one.
pub record IsPlainWord (w : Word) : Type 0 where
  pub is_word : IsTrue (not (is_empty w))
  pub is_plain : IsTrue (list_all is_word_byte w)
  pub is_closed : IsTrue (not (ends_with_backslash w))

-- The words of the line are such words.
abbrev pub HasPlainWords : Said → Type 0
HasPlainWords said = AllByRecursion IsPlainWord (spelling said)

-- a control is such a word, or none
abbrev pub HasPlainControl : Clocking → Type 0
HasPlainControl plain = ⊤
HasPlainControl (edge rising control) = IfSome control IsPlainWord

-- The names on the line are such words, and an init is 0 to 3.
abbrev pub HasPlainNames : Said → Type 0
HasPlainNames (model_line name) = IsPlainWord name
HasPlainNames (inputs_line ports) = AllByRecursion IsPlainWord ports
HasPlainNames (outputs_line ports) = AllByRecursion IsPlainWord ports
HasPlainNames (clock_line ports) = AllByRecursion IsPlainWord ports
HasPlainNames (names_line ins out) = AllByRecursion IsPlainWord ins × IsPlainWord out
HasPlainNames (row_line cells last) = ⊤
HasPlainNames (latch_line d q clocking init) = IsPlainWord d × IsPlainWord q × HasPlainControl clocking × IfSome init (λ n. n < 4)
HasPlainNames (subckt_line model binds) = IsPlainWord model × AllByRecursion (λ b. IsPlainWord b.formal × IsPlainWord b.actual) binds
HasPlainNames end_line = ⊤

-- the logical line that spells what is said
abbrev pub spelled_line : Numbered → Line
spelled_line n = record { number = n.0; words = spelling n.1 }

-- the logical lines that spell these, numbered from n
abbrev pub spelled_lines : ℕ → List Said → List Line
spelled_lines n lines = map spelled_line (enumerate_from n lines)

-- A comment line begins with `#` and has no LF but the one at its end.
abbrev pub comment_line : List ℕ → List ℕ
comment_line comment = 35 ∷ (comment ++ 10 ∷ [])

abbrev pub HasNoFeed : List ℕ → Type 0
HasNoFeed bytes = IsTrue (list_all (λ b. not (b == 10)) bytes)
