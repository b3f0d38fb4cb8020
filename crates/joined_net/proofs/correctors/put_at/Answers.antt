use Rattle.std.proofs.Common.{map}
use Rattle.gate_net.specs.Gate.{net_number}
use Rattle.joined_net.specs.Words.{put_nets}
use Rattle.joined_net.proofs.CorrectedWords.{all_put, net_put}
use Rattle.joined_net.proofs.correctors.put_at.Goals as goal

pub loop-p-preserved : goal.loop-p-preserved
loop-p-preserved c =
    net_put c.loop-p.p c.args.word.now (put_nets c.args.word.now (map net_number c.args.found.now) (map net_number c.args.nets.now)) c.args.found.now c.loop-p.nets (record { 0 = 0 }) c.loop-p-test.true c.requires.count c.loop-p.invariant

pub returns : goal.returns
returns c = all_put c.loop-p.p c.args.word.now (put_nets c.args.word.now (map net_number c.args.found.now) (map net_number c.args.nets.now)) c.args.found.now c.loop-p.nets c.loop-p-test.false c.loop-p.invariant
