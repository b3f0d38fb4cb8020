use Rattle.std.proofs.Common.{refl, sym, ◌∙◌, ap, subst, arith}
use Rattle.netlist_spec.specs.Netlist.{File}
use Rattle.netlist_spec.specs.Ordered.{IsOrdered}
use Rattle.netlist_spec.specs.Written.{Named}
use Rattle.guard_spec.specs.Codes.{rail_count}
use Rattle.guard_spec.specs.Tally.{IsMachineTally}
use Rattle.guard_spec.specs.Words.{Settings}
use Rattle.gate_net.specs.GateNet.{net_count}
use Rattle.blif_read.specs.View.{file_of as read_file}
use Rattle.named_netlist.proofs.WrittenModel.{written_model}
use Rattle.campaign.specs.Runs.{IsGuardShape}
use Rattle.campaign.specs.Views.{tally_in}
use Rattle.guard_source.specs.declared.source.SourceGuard.{SourceGuard}
use Rattle.guard_tally.proofs.CellCount.{written_cells}
use Rattle.guard_tally.proofs.tally.tally_guard.Goals as goal

pub single-requires-clause-ordered : goal.single-requires-clause-ordered
single-requires-clause-ordered c =
    let g = c.args.g.now in
    let made = c.requires.made in
    let shaped = c.guards_have_their_shape.ensures made.0 c.args.s.now g.named g.machine g.layout made.1 in
    subst IsOrdered (sym c.in_ok-file.ensures.file) shaped.0

pub single-requires-clause-shape : goal.single-requires-clause-shape
single-requires-clause-shape c =
    let g = c.args.g.now in
    let s = c.args.s.now in
    let made = c.requires.made in
    let shaped = c.guards_have_their_shape.ensures made.0 s g.named g.machine g.layout made.1 in
    let file = read_file c.in_ok-file.file in
    let said : IsGuardShape file g.machine g.layout s.code (rail_count s.mode s.bound) = subst (λ (f : File). IsGuardShape f g.machine g.layout s.code (rail_count s.mode s.bound)) (sym c.in_ok-file.ensures.file) shaped.1 in
    let seen = subst (λ (k : SourceGuard). IsGuardShape file k.machine k.layout s.code (rail_count s.mode s.bound)) (sym c.g.view_is) said in
    subst (λ (x : Settings). IsGuardShape file c.g.inside.0.1.0 c.g.inside.0.1.1.0 x.code (rail_count x.mode x.bound)) (sym c.s.view_is) seen

pub returns : goal.returns
returns c =
    let g = c.args.g.now in
    let s = c.args.s.now in
    let seen = ap (λ (k : SourceGuard). k.named) c.g.view_is in
    let inputs = ap (λ (n : Named). n.data_inputs) seen in
    let nets = c.len.ensures.count ∙ ap (λ (n : Named). net_count n.net) seen in
    let counted = c.from.ensures in
    let named = c.in_ok-file.ensures.is_named in
    let leaves = named.leaves in
    let cells = written_cells g.named named in
    let file = read_file c.in_ok-file.file in
    let xs = c.args.stimulus.now.cycles in
    let tally = tally_in c.in_ok-outcomes.outcomes in
    let of_settings = subst (λ (x : Settings). IsMachineTally file c.g.inside.0.1.0 x.code c.g.inside.0.1.1.0 x.mode x.bound xs c.args.cycle tally) c.s.view_is c.in_ok-outcomes.ensures in
    let of_guard = subst (λ (k : SourceGuard). IsMachineTally file k.machine s.code k.layout s.mode s.bound xs c.args.cycle tally) c.g.view_is of_settings in
    record {
      model = written_model g.named;
      is_model = refl;
      cells = omega (arith, inputs, nets, counted, leaves, cells);
      outcomes = subst (λ (f : File). IsMachineTally f g.machine s.code g.layout s.mode s.bound xs c.args.cycle tally) c.in_ok-file.ensures.file of_guard;
      reading = c.in_ok-file.ensures.reading;
    }
