use Rattle.toml.specs.View.{view}
use Rattle.settings.proofs.Arrays.{texts_at}
use Rattle.settings.proofs.linears.layer_of_value.Goals as goal

pub returns-in-Some : goal.returns-in-Some
returns-in-Some c =
    let is = texts_at (view c.args.value.now) c.in-Some.values.now.items c.in-Some.ensures in
    rw is (rw c.deref.ensures.value at c.layer.ensures)
