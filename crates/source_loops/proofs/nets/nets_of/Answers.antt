use Rattle.std.proofs.Common.{◌∙◌, sym, ap, subst, map, length}
use Rattle.net_order.specs.Order.{AreNets}
use Rattle.source_loops.specs.Nets.{name_of}
use Rattle.source_loops.proofs.RowLemmas.{rows_named, rows_are_nets}
use Rattle.source_loops.proofs.nets.nets_of.Goals as goal

pub returns : goal.returns
returns c = λ file library s.
    let all = c.args.m.now.names in
    record {
      reads = ap (map (map (name_of all))) c.in_ok-graph_of.ensures ∙ (rows_named all c.args.survey.now.reads ∙ s.reads);
      drives = ap (map (map (name_of all))) c.in_ok-graph_of-2.ensures ∙ (rows_named all c.args.survey.now.drives ∙ s.drives);
      reads_within = subst (AreNets (length all)) (sym c.in_ok-graph_of.ensures) (rows_are_nets all c.args.survey.now.reads s.reads_within);
      drives_within = subst (AreNets (length all)) (sym c.in_ok-graph_of-2.ensures) (rows_are_nets all c.args.survey.now.drives s.drives_within);
      combines = c.in_ok-combining_marks.ensures;
      given = c.in_ok-given_marks.ensures;
    }
