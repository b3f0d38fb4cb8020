use Rattle.std.proofs.Common.{rules, ◌≡◌, ◌+◌, None, Some, arith, sym}
use Rattle.std.specs.List.{position}
use Rattle.std.proofs.lemmas.Grind.{common_steps}
use Rattle.std.proofs.lemmas.List.{take_rest}
use Rattle.blif_read.specs.LineTests.{is_equals}
use Rattle.blif_read.proofs.WordTests.{parts-at_none, parts-at}
use Rattle.blif_read.proofs.words.split_port.Goals as goal

pub returns-in_err-at : goal.returns-in_err-at
returns-in_err-at c =
    let none : position is_equals c.args.word.now ≡ None = grind (arith, common_steps) in
    rw (c.from_residual.ensures, parts-at_none c.args.word.now none) search rules

pub returns : goal.returns
returns c =
    let word = c.args.word.now in
    let at = c.in_ok-at.at in
    let some : position is_equals word ≡ Some at = grind (arith, common_steps, c.in_ok-at.was) in
    rw (take_rest word (at + 1)) (sym (parts-at word at some))
