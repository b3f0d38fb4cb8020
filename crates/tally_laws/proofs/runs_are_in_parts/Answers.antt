use Rattle.tally_laws.proofs.Parts.{parts, run_of_parts, grown}
use Rattle.tally_laws.proofs.runs_are_in_parts.Goals as goal

pub returns : goal.returns
returns c = record { parts = λ m faults c s xs ys states outs r. parts m faults c s xs ys states outs r; joined = λ m faults c s now xs ys states more outs later r q. run_of_parts m faults c s now xs ys states more outs later r q; grown = λ m faults c s now x y next xs states outs r q. grown m faults c s now x y next xs states outs r q }
