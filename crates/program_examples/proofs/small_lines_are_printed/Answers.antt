use Rattle.std.proofs.Common.{refl}
use Rattle.std.specs.Fmt.{digits}
use Rattle.program_examples.proofs.small_lines_are_printed.Goals as goal

pub returns-clause-report : goal.returns-clause-report
unfolding digits
returns-clause-report c = refl

pub returns-clause-refusal : goal.returns-clause-refusal
unfolding digits
returns-clause-refusal c = refl

pub returns-clause-tally : goal.returns-clause-tally
unfolding digits
returns-clause-tally c = refl

pub returns-clause-demo : goal.returns-clause-demo
unfolding digits
returns-clause-demo c = refl
