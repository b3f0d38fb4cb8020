-- Guards that correct t faulty cells and tell of more.
use Rattle.std.specs.Prelude.{◌≡◌, ℕ, ◌+◌, ◌*◌, ◌<◌, ◌≤◌, ◌⊎◌, List, length, sum_by}
use Rattle.netlist_spec.specs.Netlist.{Model, File}
use Rattle.netlist_spec.specs.Covers.{Library}
use Rattle.netlist_spec.specs.Models.{output_nets}
use Rattle.netlist_spec.specs.SourceRun.{Bits}
use Rattle.netlist_spec.specs.Runs.{IsSteady}
use Rattle.guard_spec.specs.Codes.{Code, correct}
use Rattle.guard_spec.specs.Words.{Settings, Layout}
use Rattle.guard_spec.specs.Plain.{ones, pattern_count, IsPlain}
use Rattle.netlist_spec.specs.Ordered.{IsOrdered}
use Rattle.netlist_spec.specs.CellBits.{IsIndependent}
use Rattle.guard_spec.specs.Shaped.{IsShapedBy}
use Rattle.guard_spec.specs.Rails.{IsFarWord, RailsTellIn}
use Rattle.guard_spec.specs.Contained.{at_cycle, DecodesAt, IsUpBy, UnderFaults, IsFaithful}

-- the distance that a guard needs which corrects t faulty cells and tells of s
abbrev pub dual_distance : ℕ → ℕ → ℕ
dual_distance t s = t + s + 1

-- In all cycles up to each one every output word decodes, or a rail is up by then.
abbrev pub DecodesOrTells : Code → Layout → ℕ → ℕ → ℕ → List Bits → List Bits → Type 0
DecodesOrTells code l p t cycles outs zs =
    (c : ℕ) → c < cycles → ((i : ℕ) → i ≤ c → DecodesAt code l p t (at_cycle outs i) (at_cycle zs i)) ⊎ IsUpBy code l p zs c

-- Under at most t fixed cells each output word decodes in every cycle; under at most s it does so, or a rail is up.
pub record ContainsTwice (g source : File) (library : Library) (m : Model) (code : Code) (l : Layout) (t s : ℕ) : Type 0 where
  pub corrects : UnderFaults g source library (IsSteady t) (λ faults cycles states outs stored zs. (c : ℕ) → c < cycles → DecodesAt code l (length (output_nets m)) t (at_cycle outs c) (at_cycle zs c))
  pub detects : UnderFaults g source library (IsSteady s) (λ faults cycles states outs stored zs. DecodesOrTells code l (length (output_nets m)) t cycles outs zs)

-- what a far rail costs for one word of m places, and for all words
abbrev pub far_word_cost : Code → ℕ → ℕ → ℕ
far_word_cost code t m = ones code m + 2 * code.columns + pattern_count code t m * code.columns + 2

abbrev pub far_rail_cost : Code → ℕ → Layout → ℕ
far_rail_cost code t l = 1 + sum_by (λ w. far_word_cost code t (length w)) l.state + sum_by (λ w. far_word_cost code t (length w)) l.output

-- The size is the plain size in correction and s + 1 far rails.
pub record IsDualSize (source : File) (settings : Settings) (s : ℕ) (m : Model) (l : Layout) (n : ℕ) : Type 0 where
  pub corrector_size : ℕ
  pub is_corrector_size : IsPlain source settings.library m settings.code correct settings.bound l corrector_size
  pub total : n ≡ corrector_size + (s + 1) * far_rail_cost settings.code settings.bound l

-- The shape of a guard with s + 1 rails, of at most that size.
abbrev pub IsDualShaped : File → File → Settings → ℕ → Type 0
IsDualShaped g source settings s = IsShapedBy g source settings (s + 1) (IsDualSize source settings s)

-- G is a guard of the source that corrects as many faulty cells as the bound says and tells of s. Its rails tell of words
-- that are far from every codeword, in every cycle and under all faults.
pub record IsDualGuard (g source : File) (settings : Settings) (s : ℕ) : Type 0 where
  pub ordered : IsOrdered g
  pub shaped : IsDualShaped g source settings s
  pub independent : IsIndependent g
  pub faithful : IsFaithful g source settings.library shaped.source_model settings.code shaped.layout
  pub contains : ContainsTwice g source settings.library shaped.source_model settings.code shaped.layout settings.bound s
  pub tells : RailsTellIn shaped.guard_model settings.code shaped.layout (length (output_nets shaped.source_model)) (s + 1) (IsFarWord settings.code settings.bound)
