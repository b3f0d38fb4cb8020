use Rattle.std.proofs.Common.{refl}
use Rattle.law_examples.proofs.sizes.small_labels_stand_in_order.Goals as goal

pub returns-clause-bits : goal.returns-clause-bits
returns-clause-bits c = record { own = refl; all = refl }

pub returns-clause-kinds : goal.returns-clause-kinds
returns-clause-kinds c = record { given = refl; stores = refl; nexts = refl; checks = refl; rail_labels = refl; inner = refl }
