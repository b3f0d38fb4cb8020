use Rattle.std.proofs.Common.{map}
use Rattle.gate_net.specs.Gate.{net_number}
use Rattle.guard_net.specs.Built.{put_word}
use Rattle.guard_net.proofs.DataPlaces.{place_put}
use Rattle.guard_net.proofs.leaves.put_places.Goals as goal

pub loop-p-preserved : goal.loop-p-preserved
loop-p-preserved c =
    place_put c.args.at c.loop-p.p c.args.word.now (put_word c.args.at c.args.word.now (map net_number c.args.places.now)) c.loop-p.places c.loop-p-test.true c.loop-p.invariant
