use Rattle.spec_examples.proofs.Ring.{ring_is_refused}
use Rattle.spec_examples.proofs.small_ring_is_refused.Goals as goal

pub returns : goal.returns
returns c = ring_is_refused
