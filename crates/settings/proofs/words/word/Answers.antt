use Rattle.std.proofs.Common.{◌∙◌}
use Rattle.toml.specs.View.{view}
use Rattle.settings.proofs.Arrays.{word_fits, word_misfits}
use Rattle.settings.proofs.words.word.Goals as goal

pub returns-then-is_word_len : goal.returns-then-is_word_len
returns-then-is_word_len c =
    let values = c.in-Some.values.now in
    rw (word_fits (view c.args.value.now) values.items c.in-Some.ensures c.args.k c.len.result (c.len.ensures ∙ values.ok.0) c.if-is_word_len.ensures) (rw c.deref.ensures.value at c.names.ensures)

pub returns-else-is_word_len : goal.returns-else-is_word_len
returns-else-is_word_len c =
    let values = c.in-Some.values.now in
    word_misfits (view c.args.value.now) values.items c.in-Some.ensures c.args.k c.len.result (c.len.ensures ∙ values.ok.0) c.if-is_word_len.ensures
