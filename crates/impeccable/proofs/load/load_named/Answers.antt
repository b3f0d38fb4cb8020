-- Only a load that failed is counted at its file.
use Rattle.std.proofs.Common.{sym, ◌∙◌}
use Rattle.impeccable.proofs.OwnLemmas.{load-keeps}
use Rattle.impeccable.proofs.load.load_named.Goals as goal

pub returns-in-Ok-clause-own : goal.returns-in-Ok-clause-own
returns-in-Ok-clause-own g c = load-keeps _ _ _ _ _ c.load.ensures.loads (λ e. let both = sym c.in-Ok.is ∙ e in cc)

pub returns-in-Err-Failed-clause-own : goal.returns-in-Err-Failed-clause-own
returns-in-Err-Failed-clause-own g c = c.load.ensures.loads.same_others
