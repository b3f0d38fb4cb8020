-- What correctors and rails cost.
use Rattle.std.specs.Prelude.{ℕ, ◌+◌, ◌*◌, ◌≤◌, List, length, All}
use Rattle.guard_spec.specs.Codes.{Code, data_places}
use Rattle.guard_spec.specs.Words.{Words, Layout}
use Rattle.guard_spec.specs.Plain.{ones}

-- what a rail has for one word
abbrev pub watch_cost : Code → List ℕ → ℕ
watch_cost code w = ones code (length w) + 2 * code.columns

-- No word has more places than the code has rows.
abbrev pub AreShort : Code → Words → Type 0
AreShort code words = All (λ w. length w ≤ data_places code) words

pub record HasShortWords (code : Code) (l : Layout) : Type 0 where
  pub state : AreShort code l.state
  pub output : AreShort code l.output
