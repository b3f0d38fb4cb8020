use Rattle.std.proofs.Common.{◌+◌, sym, subst, take}
use Rattle.std.specs.List.{AllZip}
use Rattle.blif_read.specs.Ids.{HasIds}
use Rattle.source_nets.specs.Ports.{IsPortMarks}
use Rattle.source_nets.proofs.SurveyLemmas.{zip_more}
use Rattle.source_nets.proofs.ports.port_marks.Goals as goal

pub model_marks-requires : goal.model_marks-requires
model_marks-requires c = subst HasIds (sym c.m-item.is) (c.requires c.loop-m.m-index c.m-item.result c.loop-m-test.true)

pub loop-m-preserved : goal.loop-m-preserved
loop-m-preserved c =
    subst (AllZip IsPortMarks (take (c.loop-m.m-index + 1) c.args.models.now)) (sym c.in_ok-push.ensures.items)
    (zip_more IsPortMarks c.args.models.now c.loop-m.marks.items c.loop-m.m-index c.m-item.result c.in_ok-model_marks.field-0 c.loop-m-test.true c.m-item.is c.loop-m.invariant c.in_ok-model_marks.ensures)
