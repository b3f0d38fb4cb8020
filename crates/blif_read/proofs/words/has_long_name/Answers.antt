use Rattle.std.proofs.Common.{◌≡◌, ◌∙◌, sym, rules}
use Rattle.std.specs.List.{list_any}
use Rattle.blif_read.specs.LineTests.{words_in, is_long}
use Rattle.blif_read.proofs.WordTests.{any_words}
use Rattle.blif_read.proofs.words.has_long_name.Goals as goal

pub returns-in-Model : goal.returns-in-Model
returns-in-Model c =
    let long : c.any_is_long.result ≡ list_any is_long (words_in c.args.words.now) = c.any_is_long.ensures ∙ sym (any_words is_long c.args.words.now) in
    search rules
