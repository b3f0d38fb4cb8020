use Rattle.std.proofs.Common.{◌∙◌, ap, map}
use Rattle.std.proofs.lemmas.List.{take_all}
use Rattle.netlist_spec.specs.Netlist.{Located as SpecLocated}
use Rattle.netlist_spec.specs.Sound.{combines}
use Rattle.blif_read.specs.declared.file.Located.{Located}
use Rattle.blif_read.specs.View.{statement_of, located_of}
use Rattle.source_nets.proofs.SurveyLemmas.{mapped_twice}
use Rattle.source_loops.proofs.nets.combining_marks.Goals as goal

pub returns : goal.returns
returns c =
    let all = c.args.m.now.names in
    c.loop-s.invariant ∙ ap (map (λ (s : Located). combines (statement_of all s.what))) (take_all c.loop-s.s-index c.deref-s-items.result.now c.loop-s-test.false ∙ c.deref-s-items.ensures.value)
    ∙ mapped_twice (λ (s : SpecLocated). combines s.what) (located_of all) c.args.m.now.statements.items
