use Rattle.toml.specs.View.{view}
use Rattle.settings.proofs.Arrays.{words_at}
use Rattle.settings.proofs.words.words_in_array.Goals as goal

pub returns-in-Some : goal.returns-in-Some
returns-in-Some c =
    let is = words_at (view c.args.value.now) c.in-Some.values.now.items c.in-Some.ensures c.args.k in
    rw is (rw c.deref.ensures.value at c.words.ensures)
