use Rattle.block_code.proofs.Shapes.{is_code}
use Rattle.block_code.proofs.code.Code.k.Goals as goal

pub returns-clause-valid : goal.returns-clause-valid
returns-clause-valid c = rw (← c.self.view_is) (is_code _ _ c.self.invariant)
