-- All single faults of a guard in one cycle, sorted by what they do.
use Rattle.std.specs.Prelude.{◌≡◌, ℕ, ◌+◌, Bool, true, false, ◌||◌, List, [], ◌∷◌, length, take, count_by, Some, nat_le, ◌==◌, if◌then◌else◌}
use Rattle.std.specs.Bool.{beq}
use Rattle.std.specs.List.{AllZip, list_all, list_any, flat_map, enumerate_from, range_with_len}
use Rattle.std.specs.Cmp.Lexicographic.{pointwise}
use Rattle.netlist_spec.specs.Netlist.{Name, Model, File}
use Rattle.netlist_spec.specs.Models.{main_model, output_nets}
use Rattle.netlist_spec.specs.SourceRun.{Bits, Stream, SourceRun}
use Rattle.netlist_spec.specs.Gates.{Machine, GateRun}
use Rattle.netlist_spec.specs.Ordered.{cell_nets}
use Rattle.netlist_spec.specs.Runs.{Fault, Run}
use Rattle.guard_spec.specs.Codes.{Code, Mode, detect, correct, encoded, apart}
use Rattle.guard_spec.specs.Words.{Settings, Layout, bits_at, output_word}
use Rattle.guard_spec.specs.Contained.{at_cycle, is_alarmed}

pub data Outcome : Type 0 where
  right : Outcome
  alarmed : Outcome
  decoded : Outcome
  wrong : Outcome

-- A guard of a source with p outputs shows zs where the source shows ys.

abbrev pub cycles_of : List Bits → List ℕ
cycles_of ys = range_with_len 0 (length ys)

-- all source outputs are right in this cycle
abbrev pub is_right_at : ℕ → List Bits → List Bits → ℕ → Bool
is_right_at p ys zs c = pointwise beq (take p (at_cycle zs c)) (at_cycle ys c)

-- all source outputs are right in all cycles
abbrev pub is_right : ℕ → List Bits → List Bits → Bool
is_right p ys zs = list_all (is_right_at p ys zs) (cycles_of ys)

-- for every cycle with a wrong output a rail is 1 in that cycle or before
abbrev pub is_alarmed_in_time : Code → Layout → ℕ → List Bits → List Bits → Bool
is_alarmed_in_time code l p ys zs = list_all (λ c. is_right_at p ys zs c || list_any (is_alarmed code l p) (take (c + 1) zs)) (cycles_of ys)

-- in every cycle each output word is at most t places apart from the codeword of the source's word
abbrev pub is_near : Code → Layout → ℕ → ℕ → List Bits → List Bits → Bool
is_near code l p t ys zs =
    list_all (λ c. list_all (λ (w : ℕ × List ℕ). nat_le (apart (output_word code p (at_cycle zs c) w) (encoded code (bits_at w.1 (at_cycle ys c)))) t) (enumerate_from 0 l.output)) (cycles_of ys)

abbrev pub wrong_outcome : Code → Layout → ℕ → Mode → ℕ → List Bits → List Bits → Outcome
wrong_outcome code l p detect t ys zs = if is_alarmed_in_time code l p ys zs then alarmed else wrong
wrong_outcome code l p correct t ys zs = if is_near code l p t ys zs then decoded else wrong

-- A run is right if all source outputs are right in all cycles. Else, in detection, it may be alarmed, and in
-- correction decoded. Else it is wrong.
abbrev pub outcome_of : Code → Layout → ℕ → Mode → ℕ → List Bits → List Bits → Outcome
outcome_of code l p mode t ys zs = if is_right p ys zs then right else wrong_outcome code l p mode t ys zs

pub record Tally : Type 0 where
  pub right : ℕ
  pub alarmed : ℕ
  pub decoded : ℕ
  pub wrong : ℕ

-- a number for each outcome
abbrev pub outcome_index : Outcome → ℕ
outcome_index right = 0
outcome_index alarmed = 1
outcome_index decoded = 2
outcome_index wrong = 3

abbrev pub is_same_outcome : Outcome → Outcome → Bool
is_same_outcome a b = outcome_index a == outcome_index b

abbrev pub tally_of : List Outcome → Tally
tally_of os =
    record {
      right = count_by (is_same_outcome right) os;
      alarmed = count_by (is_same_outcome alarmed) os;
      decoded = count_by (is_same_outcome decoded) os;
      wrong = count_by (is_same_outcome wrong) os;
    }

-- one fault for each cell and each of 0 and 1, in the given cycle
abbrev pub single_faults : ℕ → List Name → List Fault
single_faults cycle cells =
    flat_map (λ n. record { cycle = cycle; cell = n; bit = false } ∷ record { cycle = cycle; cell = n; bit = true } ∷ []) cells

-- The tally of the runs of a guard with one fault each, where the source has p outputs and shows ys on the stream.
pub record IsTallyBeside (g : File) (code : Code) (l : Layout) (p : ℕ) (mode : Mode) (t : ℕ) (xs : Stream) (ys : List Bits) (cycle : ℕ) (tally : Tally) : Type 0 where
  pub guard_model : Model
  pub is_guard_model : main_model g ≡ Some guard_model
  pub outcomes : List Outcome
  pub each : AllZip (λ fault o. (stored zs : List Bits) × Run g xs (fault ∷ []) stored zs × (o ≡ outcome_of code l p mode t ys zs)) (single_faults cycle (cell_nets guard_model)) outcomes
  pub counts : tally ≡ tally_of outcomes

-- the tally beside a run of the source
pub record IsTally (g source : File) (s : Settings) (l : Layout) (xs : Stream) (cycle : ℕ) (tally : Tally) : Type 0 where
  pub source_model : Model
  pub is_source_model : main_model source ≡ Some source_model
  pub states : List Bits
  pub outs : List Bits
  pub source_run : SourceRun source s.library xs states outs
  pub sorted : IsTallyBeside g s.code l (length (output_nets source_model)) s.mode s.bound xs outs cycle tally

-- the tally beside a run of the machine that the source stands for
pub record IsMachineTally (g : File) (source : Machine) (code : Code) (l : Layout) (mode : Mode) (t : ℕ) (xs : Stream) (cycle : ℕ) (tally : Tally) : Type 0 where
  pub states : List Bits
  pub outs : List Bits
  pub source_run : GateRun source xs [] states outs
  pub sorted : IsTallyBeside g code l (length source.outputs) mode t xs outs cycle tally
