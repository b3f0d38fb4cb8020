use Rattle.std.proofs.Common.{◌≡◌, sym, ap, ap₂, ◌∙◌, Option, List, ℕ, Bool, drop, map, ◌+◌}
use Rattle.std.specs.Prelude.{if◌then◌else◌}
use Rattle.netlist_spec.specs.Netlist.{Name, Model, stands_in}
use Rattle.netlist_spec.specs.Placed.{nothing, a_model, model_or, output_ports}
use Rattle.blif_read.specs.View.{model_of, bind_of, name_at}
use Rattle.lowering.specs.Nets.{net_in}
use Rattle.model_lowering.specs.Binds.{note, answered_outside}
use Rattle.model_lowering.proofs.BindSteps.{answered_step}
use Rattle.model_lowering.proofs.Places.{is_mapped}
use Rattle.model_lowering.proofs.binds.take_nets.Goals as goal
use Rattle.model_lowering.proofs.binds.take_nets.Goals.{then-is_port, else-is_port}

pub loop-bind-preserved : goal.loop-bind-preserved
loop-bind-preserved c k at =
    let outer = c.args.outer.now in
    let ports = output_ports (a_model k) in
    let b = c.bind-item.result in
    let inside = c.args.inside.now in
    let old = c.loop-bind.table in
    let a = answered_step outer k.names ports inside c.args.binds.now c.loop-bind.bind-index b old c.loop-bind-test.true c.bind-item.is in
    let tested : c.is_port.result ≡ stands_in b.formal ports
    = c.is_port.ensures ∙ (ap (λ (o : Option Model). stands_in c.bytes-formal.result.now (output_ports (model_or o nothing))) at ∙ ap (λ (n : Name). stands_in n ports) c.bytes-formal.ensures.bytes) in
    let is : model_of c.index.result.now ≡ k = is_mapped model_of c.args.source.now.file.now.models.items c.args.place c.index.result.now k c.requires.place c.index.ensures at in
    let noted = note outer (name_at outer b.actual) (net_in k.names inside b.formal) old in
    let one : c.if-is_port.table ≡ (if stands_in b.formal ports then noted else old)
    = elim c.if-is_port.branch [
      | then-is_port w ↦
          let net : w.net_of-net.result ≡ net_in k.names inside b.formal
          = w.net_of-net.ensures ∙ ap₂ (λ (x : Model) (n : Name). net_in x.names inside n) is c.bytes-formal.ensures.bytes in
          w.table-is ∙ (w.note_at.ensures ∙ (ap (λ (v : ℕ). note outer (name_at outer b.actual) v old) net ∙ ap (λ (t : Bool). if t then noted else old) (sym w.if-is_port.true ∙ tested)))
      | else-is_port w ↦ w.table-is ∙ ap (λ (t : Bool). if t then noted else old) (sym w.if-is_port.false ∙ tested)
    ] in
    ap (λ (t : List ℕ). answered_outside outer k.names ports inside (map (bind_of outer) (drop (c.loop-bind.bind-index + 1) c.args.binds.now)) t) one ∙ (a ∙ c.loop-bind.invariant k at)
