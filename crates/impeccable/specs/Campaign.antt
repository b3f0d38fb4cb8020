-- What `campaign` writes.
use Rattle.std.specs.Prelude.{ℕ, List, ◌++◌}
use Rattle.guard_tally.specs.Tallied.{lines_of}
use Rattle.impeccable.specs.declared.campaign_run.Tried.{Tried}
use Rattle.impeccable.specs.Flat.{named_text}

-- the five lines of the tally, and then the text of the guard
abbrev pub campaign_text : Tried → List ℕ
campaign_text tried = lines_of tried.tally ++ named_text tried.guarded.guard.named
