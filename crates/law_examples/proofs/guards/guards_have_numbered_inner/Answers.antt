use Rattle.std.proofs.Common.{refl}
use Rattle.std.specs.Fmt.{digits}
use Rattle.law_examples.proofs.guards.guards_have_numbered_inner.Goals as goal

pub returns : goal.returns
unfolding digits
returns c = record {
  each = (refl, (refl, (refl, (refl, (refl, (refl, (refl, (refl, (refl, (refl, tt))))))))));
  order = refl;
}
