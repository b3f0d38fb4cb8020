use Rattle.spec_examples.proofs.Audit.{shared_is_found, apart_is_independent}
use Rattle.spec_examples.proofs.Findings.{wide_is_found, unused_is_found, output_read_is_found}
use Rattle.spec_examples.proofs.small_audits_are_told.Goals as goal

pub returns-clause-shared : goal.returns-clause-shared
returns-clause-shared c = shared_is_found

pub returns-clause-independent : goal.returns-clause-independent
returns-clause-independent c = apart_is_independent

pub returns-clause-wide : goal.returns-clause-wide
returns-clause-wide c = wide_is_found

pub returns-clause-unused : goal.returns-clause-unused
returns-clause-unused c = unused_is_found

pub returns-clause-output_read : goal.returns-clause-output_read
returns-clause-output_read c = output_read_is_found
