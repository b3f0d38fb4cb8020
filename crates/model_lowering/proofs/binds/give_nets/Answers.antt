use Rattle.std.proofs.Common.{ap, ap₂, ◌∙◌, List, ℕ}
use Rattle.blif_read.specs.View.{bind_of}
use Rattle.std.proofs.Common.{drop, map, ◌+◌}
use Rattle.netlist_spec.specs.Netlist.{Name}
use Rattle.model_lowering.specs.Binds.{note, given_inside}
use Rattle.model_lowering.proofs.BindSteps.{given_step}
use Rattle.model_lowering.proofs.binds.give_nets.Goals as goal

pub loop-bind-preserved : goal.loop-bind-preserved
loop-bind-preserved c =
    let outer = c.args.outer.now in
    let inner = c.args.inner.now in
    let a = given_step outer inner c.args.table.now c.args.binds.now c.loop-bind.bind-index c.bind-item.result c.loop-bind.inside c.loop-bind-test.true c.bind-item.is in
    let noted = c.note.ensures ∙ ap₂ (λ (n : Name) (v : ℕ). note inner n v c.loop-bind.inside) c.bytes.ensures.bytes c.net_at-net.ensures in
    ap (λ (t : List ℕ). given_inside outer inner c.args.table.now (map (bind_of outer) (drop (c.loop-bind.bind-index + 1) c.args.binds.now)) t) noted ∙ (a ∙ c.loop-bind.invariant)
