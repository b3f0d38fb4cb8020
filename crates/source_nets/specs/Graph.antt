-- The models that are placed, by their places.
use Rattle.std.specs.Prelude.{ℕ, Option, None, Some}
use Rattle.source_nets.specs.declared.types.Meaning.{Meaning}
use Rattle.source_nets.specs.declared.types.Meaning.TheVariants.{Model}

abbrev pub model_place : Meaning → Option ℕ
model_place (Model k) = Some k
model_place _ = None
