-- What a reader of lines has gone through, and what is left.
use Rattle.std.specs.Prelude.{ℕ, ◌+◌, ◌≤◌, Bool, true, false, List, length, ◌==◌}
use Rattle.std.specs.List.{slice_split}
use Rattle.netlist_spec.specs.Lines.{Line, logical_from, plain_from, with_words}
use Rattle.imp_text.specs.declared.lines.Place.{Place}

-- A reader of lines: its source, and the lines that it has yet to answer.
pub record Reading : Type 0 where
  pub source : List ℕ
  pub left : List Line

-- the lines, numbered from n, of the physical lines of a text, where these are joined and where they are not
abbrev pub numbered : Bool → ℕ → List (List ℕ) → List Line
numbered true n ls = logical_from n ls
numbered false n ls = plain_from n ls

-- the lines of some bytes behind `before` other lines
abbrev pub lines_from : Bool → ℕ → List ℕ → List Line
lines_from joins before bytes = numbered joins (before + 1) (slice_split (λ b. b == 10) bytes)

-- those of them that have words
abbrev pub lines_left : Bool → ℕ → List ℕ → List Line
lines_left joins before bytes = with_words (lines_from joins before bytes)

-- a place in the source, behind at most as many lines as bytes
pub record IsPlace (source : List ℕ) (place : Place) : Type 0 where
  pub within : place.start ≤ length source
  pub counted : place.before ≤ place.start
