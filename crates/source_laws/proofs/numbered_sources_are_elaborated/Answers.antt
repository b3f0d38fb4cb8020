use Rattle.source_laws.proofs.Numbered.{numbered_machine}
use Rattle.source_laws.proofs.Form.{source_is_elaborated}
use Rattle.source_laws.proofs.numbered_sources_are_elaborated.Goals as goal

pub returns : goal.returns
returns c = record { machine = numbered_machine; source = source_is_elaborated }
