use Rattle.std.proofs.Common.{◌∷◌, ℕ}
use Rattle.program_spec.specs.Demo.{numbered}
use Rattle.demo_design.proofs.Ranges.{grown}
use Rattle.demo_design.proofs.lines.push_words.Goals as goal

pub loop-i-preserved : goal.loop-i-preserved
loop-i-preserved c = grown (λ (i : ℕ). 32 ∷ numbered c.args.letter i) c.loop-i.i _ _ _ c.loop-i.invariant c.in_ok-push_word.ensures
