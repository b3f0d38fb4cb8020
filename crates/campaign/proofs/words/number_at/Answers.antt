use Rattle.std.proofs.Common.{◌≡◌, ◌<◌, ◌-◌, suc, false, length, get_or, arith}
use Rattle.encode_state.proofs.InitLemmas.{bit_more, bit_small}
use Rattle.campaign.proofs.words.number_at.Goals as goal

pub loop-i-preserved : goal.loop-i-preserved
loop-i-preserved c =
    let word = c.args.word.now in
    let bits = c.args.bits.now in
    let i = c.loop-i.i in
    let most = c.loop-i.auto.i in
    let test = c.loop-i-test.true in
    let before : i ≡ suc (i - 1) = omega arith in
    let inside : i - 1 < length word = omega arith in
    let left : length word - (i - 1) ≡ suc (length word - i) = omega arith in
    record {
      number = bit_more word bits i (i - 1) c.loop-i.number c.bit.result before inside c.loop-i.invariant.number c.bit.ensures;
      small = bit_small (get_or bits (get_or word (i - 1) 0) false) c.loop-i.number c.bit.result (length word - i) (length word - (i - 1)) left c.loop-i.invariant.small c.bit.ensures;
    }
