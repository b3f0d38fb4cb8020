use Rattle.demo_laws.proofs.Latches.{latch_count}
use Rattle.demo_laws.proofs.Sound.{demo_is_sound, statement_count, cost_is}
use Rattle.demo_laws.proofs.demo_is_sound.Goals as goal

pub returns : goal.returns
returns c = record { sound = demo_is_sound; counts = λ n size. (statement_count n, latch_count n); cost = cost_is }
