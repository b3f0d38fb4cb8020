-- The text of one line, where lines are joined and where they are not.
use Rattle.std.specs.Prelude.{ℕ, Bool, true, false, ◌&&◌, List, if◌then◌else◌}
use Rattle.netlist_spec.specs.Lines.{without_comment, trimmed, ends_with_backslash, without_last}

-- whether the next line is joined
abbrev pub goes_on : Bool → List ℕ → Bool
goes_on joins line = joins && ends_with_backslash (trimmed (without_comment line))

-- the line without its comment and without a backslash that joins
abbrev pub text_of_line : Bool → List ℕ → List ℕ
text_of_line true line =
    let text = trimmed (without_comment line) in if ends_with_backslash text then without_last text else text
text_of_line false line = without_comment line
