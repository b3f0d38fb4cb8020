use Rattle.spec_examples.proofs.DeepChain.{chain_is_refused}
use Rattle.spec_examples.proofs.small_chain_is_too_deep.Goals as goal

pub returns : goal.returns
returns c = chain_is_refused
