use Rattle.std.proofs.Common.{refl}
use Rattle.std.specs.Fmt.{digits}
use Rattle.spec_examples.proofs.small_words_are_encoded.Goals as goal

pub returns-clause-latches : goal.returns-clause-latches
unfolding digits
returns-clause-latches c = refl

pub returns-clause-stores : goal.returns-clause-stores
unfolding digits
returns-clause-stores c = refl

pub returns-clause-checks : goal.returns-clause-checks
unfolding digits
returns-clause-checks c = refl

pub returns-clause-rails : goal.returns-clause-rails
unfolding digits
returns-clause-rails c = refl

pub returns-clause-two_words : goal.returns-clause-two_words
unfolding digits
returns-clause-two_words c = refl
