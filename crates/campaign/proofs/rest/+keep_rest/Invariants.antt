-- As many cycles as are still to be kept.
use Rattle.campaign.proofs.rest.+keep_rest.Given as goal

abbrev pub decreases-keep_rest : goal.decreases-keep_rest
decreases-keep_rest l = l.count
