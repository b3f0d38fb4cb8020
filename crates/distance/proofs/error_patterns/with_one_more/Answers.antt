use Rattle.std.proofs.Common.{◌≡◌, ℕ, ◌+◌, subst, arith}
use Rattle.distance.specs.Levels.{IsLevel}
use Rattle.distance.proofs.LevelLemmas.{level_more}
use Rattle.distance.proofs.error_patterns.with_one_more.Goals as goal

pub loop-place-preserved : goal.loop-place-preserved
loop-place-preserved c = λ n level.
    rw c.in_ok-push_with.ensures (level_more c.args.places n c.loop-place.place c.args.words.now _ c.loop-place-test.true level (c.loop-place.invariant n level))

pub returns : goal.returns
returns c = λ n level.
    let last : c.loop-place.place ≡ c.args.places = omega arith in
    subst (λ (place : ℕ). IsLevel place (n + 1) c.loop-place.raised.items) last (c.loop-place.invariant n level)
