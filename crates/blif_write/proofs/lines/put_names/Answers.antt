use Rattle.imp_io.proofs.BlockLemmas.{Gives-append}
use Rattle.std.proofs.Common.{◌≡◌, [], get_or}
use Rattle.std.proofs.lemmas.Option.{get_or_from_slice_get}
use Rattle.imp_text.specs.declared.names.NameId.{NameId}
use Rattle.blif_read.specs.View.{name_at}
use Rattle.blif_write.specs.Lines.{line_of}
use Rattle.blif_write.proofs.Steps.{each-step}
use Rattle.blif_write.proofs.lines.put_names.Goals as goal

pub loop-id-preserved : goal.loop-id-preserved
loop-id-preserved g c =
    let none : NameId = record { 0 = 0 } in
    let at = get_or c.args.ids.now c.loop-id.id-index none in
    let named : name_at c.args.names.now at ≡ c.get.result.now = get_or_from_slice_get c.args.names.now at.0 c.get.result.now [] c.get.ensures in
    rw (each-step (line_of c.args.front.now) (name_at c.args.names.now) c.args.ids.now c.loop-id.id-index none c.loop-id-test.true, named)
    (Gives-append c.loop-id.invariant c.put_line.ensures)
