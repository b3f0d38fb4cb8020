use Rattle.std.proofs.Common.{◌≡◌, length, All}
use Rattle.imp_text.specs.Tokens.{IsWithin}
use Rattle.imp_text_tests.proofs.tests.all_lines.Given as goal

abbrev pub invariant-loop-word : goal.invariant-loop-word
invariant-loop-word l = All (IsWithin l.source) l.word-items

abbrev pub invariant-loop-text : goal.invariant-loop-text
invariant-loop-text l = l.lines.source ≡ l.source

abbrev pub decreases-loop-text : goal.decreases-loop-text
decreases-loop-text l = length l.lines.left
