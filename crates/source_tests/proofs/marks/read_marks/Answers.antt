use Rattle.std.proofs.Common.{◌∙◌, ◌++◌, ap, ap₂, List, [], map}
use Rattle.netlist_spec.specs.Netlist.{Name, Located}
use Rattle.netlist_spec.specs.Sound.{reads, read_nets}
use Rattle.blif_read.specs.declared.file.Port.{Port}
use Rattle.blif_read.specs.View.{name_at, model_of}
use Rattle.line_order.proofs.MarkLemmas.{listed_as}
use Rattle.line_order.proofs.TableLemmas.{ports_named}
use Rattle.source_nets.specs.Ports.{source_file, source_library}
use Rattle.source_tests.proofs.NetLemmas.{rows_are}
use Rattle.source_tests.proofs.marks.read_marks.Goals as goal

pub returns : goal.returns
returns c =
    let F = source_file c.args.source.now in
    let L = source_library c.args.source.now in
    let m = c.args.m.now in
    let M = model_of m in
    let all = m.names in
    listed_as all c.mark_ports.new.self _ (read_nets F L M)
    (ap₂ (λ (xs ys : List Name). xs ++ ys)
    (rows_are (map (name_at all)) c.args.survey.now.reads (λ (s : Located). reads F L s.what) M.statements c.requires.survey.reads)
    (ap (map (λ (p : Port). name_at all p.name)) c.deref.ensures.value ∙ ports_named all m.outputs.items))
    (c.mark_ports.ensures.marked all _ (c.mark_rows.ensures.marked all [] c.in_ok-marks.ensures))
