use Rattle.std.proofs.Common.{arith, sym, ◌∙◌, ◌<◌, ◌≤◌, length, length-take-le}
use Rattle.imp_text.proofs.LineTextLemmas.{text_of_line-joined}
use Rattle.imp_text.proofs.line.line_text.Goals as goal

pub returns-then-ends_with_backslash-clause-text : goal.returns-then-ends_with_backslash-clause-text
returns-then-ends_with_backslash-clause-text c =
    let line = c.args.line.now in
    let end = c.index_or_len-end.result in
    let n = c.trimmed_len-end.result in
    let shorter : n ≤ end = omega (arith, c.trimmed_len-end.ensures.within, length-take-le end line c.index_or_len-end.ensures.within) in
    let within : n ≤ length line = omega (arith, c.index_or_len-end.ensures.within) in
    let some : 0 < n = omega (arith, c.ends_with_backslash.ensures.some c.if-ends_with_backslash.true, length-take-le n line within) in
    rw c.if-not-joins.false (text_of_line-joined line end n c.index_or_len-end.ensures.index c.index_or_len-end.ensures.within shorter some c.trimmed_len-end.ensures.trimmed (sym c.ends_with_backslash.ensures.value ∙ c.if-ends_with_backslash.true))
