use Rattle.std.proofs.Common.{◌≤◌, ap, length, map, arith}
use Rattle.std.proofs.lemmas.List.{take_all}
use Rattle.gate_net.specs.Bit.{bit_of}
use Rattle.blif_read.specs.View.{model_of}
use Rattle.imp_io.proofs.BlockLemmas.{Gives-append, Gives-nil, Gives-text}
use Rattle.program_spec.specs.Printed.{bits_lines}
use Rattle.impeccable.proofs.AuditLemmas.{lines-so-far, no-lines}
use Rattle.impeccable.proofs.audit.Audited.put_lines.Goals as goal

pub loop-place-init : goal.loop-place-init
loop-place-init g c = Gives-text (no-lines (model_of c.args.self.now.model)) (Gives-nil _)

pub loop-place-preserved : goal.loop-place-preserved
loop-place-preserved g c = Gives-text (lines-so-far (model_of c.args.self.now.model) c.args.bits.now c.loop-place.place _ c.loop-place-test.true c.requires.few) (Gives-append c.loop-place.invariant c.put_line.ensures)

pub returns : goal.returns
returns g c =
    let past : length c.args.bits.now ≤ c.loop-place.place = omega arith in
    Gives-text (ap (λ bs. bits_lines (model_of c.args.self.now.model) (map bit_of bs)) (take_all c.loop-place.place c.args.bits.now past)) c.loop-place.invariant
