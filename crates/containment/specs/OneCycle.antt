-- Detection in one cycle.
use Rattle.std.specs.Prelude.{ℕ, ◌<◌, ◌⊎◌, Bool, List, length, map, IsTrue}
use Rattle.netlist_spec.specs.SourceRun.{Bits}
use Rattle.netlist_spec.specs.Gates.{Machine, ForcedNets}
use Rattle.guard_spec.specs.Codes.{Code, data_places, detect, correct}
use Rattle.guard_spec.specs.Words.{Words, Layout, IsPartition}
use Rattle.guard_spec.specs.Contained.{IsWholeAt, is_alarmed}
use Rattle.guard_spec.specs.Count.{StateWordsAre, IsNear}
use Rattle.guard_spec.specs.Rails.{SomeStateWord, SomeWord, IsNoCodeword, SomeNoCodeword}
use Rattle.guard_spec.specs.Regions.{Guarded}
use Rattle.containment.specs.Built.{IsCoded}
use Rattle.containment.specs.Cycles.{IsCycle, IsWrongInFew, OutputsAreNear, shown_state}

-- Words that are less than d places apart from the right ones are right, or one of them is no codeword.
pub record WordsTell (code : Code) (d : ℕ) : Type 0 where
  pub state : (latches at n : ℕ) (ws : Words) (s bits : Bits) → IsPartition latches (data_places code) ws → n < d
      → StateWordsAre code (IsNear code correct n s) ws bits at
      → StateWordsAre code (IsNear code detect n s) ws bits at ⊎ SomeStateWord code (IsNoCodeword code) ws bits at
  pub output : (source : Machine) (l : Layout) (n : ℕ) (y shown z : Bits) → IsCoded source code d l → n < d
      → OutputsAreNear code l (length source.outputs) n y z
      → IsWholeAt code l (length source.outputs) y z ⊎ SomeWord code l (length source.outputs) (IsNoCodeword code) shown z

-- In values of a cycle some rail is 1. The source has p outputs.
abbrev pub IsAlarmIn : Guarded → Code → Layout → (p : ℕ) → (ℕ → Bool) → Type 0
IsAlarmIn g code l p v = IsTrue (is_alarmed code l p (map v g.machine.outputs))

-- In a cycle with fewer faulty cells than rails, a rail is 1 where some word is no codeword.
abbrev pub AlarmsInOneCycle : Guarded → Machine → Code → Layout → Type 0
AlarmsInOneCycle g source code l =
    (cells : List ℕ) (x s y next stored : Bits) (faults : ForcedNets) (v : ℕ → Bool)
    → IsCycle g source cells x s y next stored faults v → length cells < g.rails
    → SomeNoCodeword g code l (length source.outputs) v
    → IsAlarmIn g code l (length source.outputs) v

-- Each output word is whole, and at most n places are wrong.
pub record IsWholeAndFew (g : Guarded) (code : Code) (l : Layout) (p n : ℕ) (y next : Bits) (v : ℕ → Bool) : Type 0 where
  pub whole : IsWholeAt code l p y (map v g.machine.outputs)
  pub few : IsWrongInFew g code l p n y next v

-- A cycle with fewer faulty cells than d and than rails, in which each state word is shown less than d places apart from
-- the right one, is whole and wrong in as few places as there are such cells, or a rail is 1.
abbrev pub DetectsInOneCycle : Guarded → Machine → Code → ℕ → Layout → Type 0
DetectsInOneCycle g source code d l =
    (cells : List ℕ) (x s y next stored : Bits) (faults : ForcedNets) (v : ℕ → Bool) (n : ℕ)
    → IsCycle g source cells x s y next stored faults v
    → length cells < d → length cells < g.rails → n < d
    → StateWordsAre code (IsNear code correct n s) l.state (shown_state g v) 0
    → IsWholeAndFew g code l (length source.outputs) (length cells) y next v ⊎ IsAlarmIn g code l (length source.outputs) v
