-- What is seen of the cycles of a run so far decides its outcome.
use Rattle.std.specs.Prelude.{◌≡◌, ℕ, Bool, true, false, ◌&&◌, ◌||◌, List, [], ◌∷◌, ◌++◌, length, take, nat_le, if◌then◌else◌}
use Rattle.std.specs.Bool.{beq}
use Rattle.std.specs.List.{list_all, enumerate_from}
use Rattle.std.specs.Cmp.Lexicographic.{pointwise}
use Rattle.netlist_spec.specs.SourceRun.{Bits}
use Rattle.guard_spec.specs.Codes.{Code, Mode, detect, correct, encoded, apart}
use Rattle.guard_spec.specs.Words.{Layout, bits_at, output_word}
use Rattle.guard_spec.specs.Contained.{is_alarmed}
use Rattle.guard_spec.specs.Tally.{Outcome, right, alarmed, decoded, wrong, outcome_of}

-- Of some cycles in a row: all source outputs are right; some rail is 1; for each cycle with a wrong output a rail is 1 in
-- it or in an earlier one of them; each output word is near.
pub record Seen : Type 0 where
  pub right : Bool
  pub raised : Bool
  pub in_time : Bool
  pub near : Bool

abbrev pub nothing_seen : Seen
nothing_seen = record { right = true; raised = false; in_time = true; near = true }

-- some cycles and then others
abbrev pub then_seen : Seen → Seen → Seen
then_seen a b =
    record {
      right = a.right && b.right;
      raised = a.raised || b.raised;
      in_time = a.in_time && (a.raised || b.in_time);
      near = a.near && b.near;
    }

module _ (code : Code) (l : Layout) (p t : ℕ) where
  abbrev pub is_right_cycle : Bits → Bits → Bool
  is_right_cycle y z = pointwise beq (take p z) y

  abbrev pub is_near_cycle : Bits → Bits → Bool
  is_near_cycle y z =
      list_all (λ (w : ℕ × List ℕ). nat_le (apart (output_word code p z w) (encoded code (bits_at w.1 y))) t) (enumerate_from 0 l.output)

  -- one cycle, in which the source shows y and the guard z
  abbrev pub seen_cycle : Bits → Bits → Seen
  seen_cycle y z =
      record {
        right = is_right_cycle y z;
        raised = is_alarmed code l p z;
        in_time = is_right_cycle y z || is_alarmed code l p z;
        near = is_near_cycle y z;
      }

  abbrev pub seen : List Bits → List Bits → Seen
  seen [] zs = nothing_seen
  seen (y ∷ ys) [] = nothing_seen
  seen (y ∷ ys) (z ∷ zs) = then_seen (seen_cycle y z) (seen ys zs)

abbrev pub outcome_seen : Mode → Seen → Outcome
outcome_seen detect a = if a.right then right else if a.in_time then alarmed else wrong
outcome_seen correct a = if a.right then right else if a.near then decoded else wrong

abbrev pub OutcomesAreSeen : Code → Layout → (p : ℕ) → Mode → (t : ℕ) → (ys zs : List Bits) → Type 0
OutcomesAreSeen code l p mode t ys zs = length zs ≡ length ys → outcome_of code l p mode t ys zs ≡ outcome_seen mode (seen code l p t ys zs)

abbrev pub SeenInParts : Code → Layout → (p t : ℕ) → (ys zs more later : List Bits) → Type 0
SeenInParts code l p t ys zs more later =
    length zs ≡ length ys → seen code l p t (ys ++ more) (zs ++ later) ≡ then_seen (seen code l p t ys zs) (seen code l p t more later)

-- The outcome of a run in three parts, as where it ends early: what is seen of the last part is that of the free run.
abbrev pub OutcomesByParts : Code → Layout → (p : ℕ) → Mode → (t : ℕ) → (ys zs wanted shown more later : List Bits) → Type 0
OutcomesByParts code l p mode t ys zs wanted shown more later =
    length zs ≡ length ys → length shown ≡ length wanted → length later ≡ length more
    → outcome_of code l p mode t (ys ++ (wanted ++ more)) (zs ++ (shown ++ later))
    ≡ outcome_seen mode (then_seen (then_seen (seen code l p t ys zs) (seen code l p t wanted shown)) (seen code l p t more later))
