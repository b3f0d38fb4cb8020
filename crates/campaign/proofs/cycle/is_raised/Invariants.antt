-- No rail so far is 1.
use Rattle.std.proofs.Common.{◌≡◌, false, take}
use Rattle.std.specs.List.{list_any}
use Rattle.campaign.proofs.cycle.is_raised.Given as goal

abbrev pub invariant-loop-rail : goal.invariant-loop-rail
invariant-loop-rail l = list_any (λ b. b) (take l.rail-index l.rails) ≡ false
