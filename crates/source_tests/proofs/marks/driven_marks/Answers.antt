use Rattle.std.proofs.Common.{◌++◌, ap, map}
use Rattle.std.specs.List.{flat_map}
use Rattle.netlist_spec.specs.Netlist.{Located}
use Rattle.netlist_spec.specs.Placed.{port_names}
use Rattle.netlist_spec.specs.Sound.{drives}
use Rattle.blif_read.specs.View.{name_at, model_of}
use Rattle.line_order.proofs.MarkLemmas.{listed_as}
use Rattle.source_nets.specs.Ports.{source_file, source_library}
use Rattle.source_tests.proofs.NetLemmas.{rows_are, once_marked}
use Rattle.source_tests.proofs.marks.driven_marks.Goals as goal

pub returns : goal.returns
returns c =
    let F = source_file c.args.source.now in
    let L = source_library c.args.source.now in
    let M = model_of c.args.m.now in
    let all = c.args.m.now.names in
    let declared = port_names M.inputs ++ port_names M.clocks in
    once_marked all c.mark_rows.new.marks declared (flat_map (λ (s : Located). drives F L s.what) M.statements)
    (listed_as all c.mark_rows.new.marks _ _
    (ap (λ ns. declared ++ ns) (rows_are (map (name_at all)) c.args.survey.now.drives (λ (s : Located). drives F L s.what) M.statements c.requires.survey.drives))
    (c.mark_rows.ensures.marked all _ c.in_ok-marks.ensures))
