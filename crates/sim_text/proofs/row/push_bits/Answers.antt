use Rattle.netlist_spec.specs.Digits.{bit_of_char}
use Rattle.std.proofs.Common.{sym}
use Rattle.sim_text.proofs.BitLemmas.{gives_none}
use Rattle.sim_text.proofs.RowLemmas.{pushed_more, room_left}
use Rattle.sim_text.proofs.row.push_bits.Goals as goal

pub push-requires : goal.push-requires
push-requires c = room_left c.args.word.now c.loop-c.c-index c.args.bits.now c.loop-c.bits c.loop-c-test.true c.requires c.loop-c.invariant

pub returns-in_default : goal.returns-in_default
returns-in_default c = gives_none bit_of_char c.args.word.now c.loop-c.c-index 0 c.loop-c-test.true (sym c.in_default.ensures)

pub loop-c-preserved : goal.loop-c-preserved
loop-c-preserved c = pushed_more c.args.word.now c.loop-c.c-index c.in-Some.bit c.args.bits.now c.loop-c.bits c.push.new.self c.loop-c-test.true c.loop-c.invariant (sym c.in-Some.ensures) c.in_ok-push.ensures
