use Rattle.std.proofs.Common.{◌≡◌, ◌∙◌, ◌<◌, ◌-◌, suc, false, length, get_or, arith}
use Rattle.encode_state.proofs.InitLemmas.{bit_small}
use Rattle.campaign.proofs.NearLemmas.{bit_before, byte_is}
use Rattle.campaign.proofs.near.number_of.Goals as goal

pub loop-i-preserved : goal.loop-i-preserved
loop-i-preserved c =
    let bits = c.args.bits.now in
    let i = c.loop-i.i in
    let most = c.loop-i.auto.i in
    let test = c.loop-i-test.true in
    let before : i ≡ suc (i - 1) = omega arith in
    let inside : i - 1 < length bits = omega arith in
    let left : length bits - (i - 1) ≡ suc (length bits - i) = omega arith in
    record {
      number = bit_before bits i (i - 1) c.loop-i.number c.from.result before inside c.loop-i.invariant.number (c.from.ensures ∙ byte_is (get_or bits (i - 1) false));
      small = bit_small (get_or bits (i - 1) false) c.loop-i.number c.from.result (length bits - i) (length bits - (i - 1)) left c.loop-i.invariant.small (c.from.ensures ∙ byte_is (get_or bits (i - 1) false));
    }
