use Rattle.std.proofs.Common.{◌+◌, ◌∙◌, ap, map}
use Rattle.std.proofs.lemmas.List.{take_all}
use Rattle.gate_net.specs.Gate.{net_number}
use Rattle.guard_net.proofs.Lists.{numbers_of_part}
use Rattle.guard_net.proofs.rails.part.Goals as goal

pub returns : goal.returns
returns c =
    ap (map net_number) (c.loop-n.invariant ∙ take_all _ _ c.loop-n-test.false)
    ∙ numbers_of_part c.args.nets.now c.args.first (c.args.first + c.args.len)
