use Rattle.program_examples.proofs.SmallTexts.{inverter_is_printed, parity_is_reported, independent_is_printed, finding_is_printed}
use Rattle.program_examples.proofs.small_texts_are_printed.Goals as goal

pub returns-clause-run : goal.returns-clause-run
returns-clause-run c = inverter_is_printed

pub returns-clause-report : goal.returns-clause-report
returns-clause-report c = parity_is_reported

pub returns-clause-independent : goal.returns-clause-independent
returns-clause-independent c = independent_is_printed

pub returns-clause-finding : goal.returns-clause-finding
returns-clause-finding c = finding_is_printed
