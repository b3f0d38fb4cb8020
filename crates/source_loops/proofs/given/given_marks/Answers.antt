use Rattle.std.proofs.Common.{◌∙◌, ap, subst, List, ◌++◌}
use Rattle.std.specs.List.{flat_map}
use Rattle.std.proofs.lemmas.Result.{IfOk-weaker}
use Rattle.netlist_spec.specs.Netlist.{Name}
use Rattle.netlist_spec.specs.Placed.{port_names}
use Rattle.blif_read.specs.declared.file.Located.{Located}
use Rattle.blif_read.specs.View.{model_of, statement_of}
use Rattle.line_order.specs.Marks.{Marks, latch_output_of}
use Rattle.line_order.proofs.TableLemmas.{latches_named}
use Rattle.source_laws.specs.Settling.{given_nets}
use Rattle.source_loops.proofs.given.given_marks.Goals as goal

pub returns : goal.returns
returns c =
    let all = c.args.m.now.names in
    let m = model_of c.args.m.now in
    let declared = port_names m.inputs ++ port_names m.clocks in
    let latches = ap (flat_map (λ (s : Located). latch_output_of (statement_of all s.what))) c.deref.ensures.value ∙ latches_named all c.args.m.now.statements.items in
    let marked = subst (Marks all c.mark_latches.new.marks) (ap (λ (ns : List Name). declared ++ ns) latches) (c.mark_latches.ensures.marked all declared c.in_ok-marks.ensures) in
    IfOk-weaker c.flags_of.result _ _ (λ given f. f (given_nets m) marked) c.flags_of.ensures
