-- What the types of a campaign stand for.
use Rattle.guard_spec.specs.Tally.{Outcome, right, alarmed, decoded, wrong, Tally}
use Rattle.tally_laws.specs.Seen.{Seen}
use Rattle.campaign.specs.declared.seen.Outcome.{Outcome as FoundOutcome}
use Rattle.campaign.specs.declared.seen.Outcome.TheVariants.{Right, Alarmed, Decoded, Wrong}
use Rattle.campaign.specs.declared.seen.Seen.{Seen as SeenSoFar}
use Rattle.campaign.specs.declared.tally.Tally.{Tally as Counts}

abbrev pub seen_of : SeenSoFar → Seen
seen_of s = record { right = s.right; raised = s.raised; in_time = s.in_time; near = s.near }

abbrev pub outcome_in : FoundOutcome → Outcome
outcome_in Right = right
outcome_in Alarmed = alarmed
outcome_in Decoded = decoded
outcome_in Wrong = wrong

abbrev pub tally_in : Counts → Tally
tally_in n = record { right = n.right; alarmed = n.alarmed; decoded = n.decoded; wrong = n.wrong }
