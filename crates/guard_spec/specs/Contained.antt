-- What a guard keeps without faults and under few faults.
use Rattle.std.specs.Prelude.{◌≡◌, ℕ, suc, ◌+◌, ◌*◌, ◌<◌, ◌≤◌, ◌⊎◌, Bool, false, List, [], length, take, drop, slice_index_or, IsTrue}
use Rattle.std.specs.List.{AllByRecursion, list_any, enumerate_from}
use Rattle.netlist_spec.specs.Netlist.{Model, File}
use Rattle.netlist_spec.specs.Covers.{Library}
use Rattle.netlist_spec.specs.Models.{output_nets}
use Rattle.netlist_spec.specs.SourceRun.{Bits, Stream, SourceRun}
use Rattle.netlist_spec.specs.Runs.{Fault, faults_at, is_fault_list, Run, FreeRun}
use Rattle.guard_spec.specs.Codes.{Code, encoded, Decodes}
use Rattle.guard_spec.specs.Words.{Layout, bits_at, codewords, output_word}

-- the bits of cycle c
abbrev pub at_cycle : List Bits → ℕ → Bits
at_cycle rows c = slice_index_or rows c []

-- the first p outputs, which are the source's, are right
abbrev pub IsRightAt : ℕ → Bits → Bits → Type 0
IsRightAt p y z = take p z ≡ y

-- the stored bits of each state word are the codeword of that word of the source's state
abbrev pub IsEncodedAt : Code → Layout → Bits → Bits → Type 0
IsEncodedAt code l s stored = stored ≡ codewords code l.state s

-- The source has p outputs y, and the guard has the outputs z.
module _ (code : Code) (l : Layout) (p : ℕ) where
  -- the outputs behind the check outputs
  abbrev pub shown_rails : Bits → Bits
  shown_rails z = drop (p + length l.output * code.columns) z

  -- each output word is the codeword of that word of the source's outputs
  abbrev pub IsWholeAt : Bits → Bits → Type 0
  IsWholeAt y z = AllByRecursion (λ (word : ℕ × List ℕ). output_word code p z word ≡ encoded code (bits_at word.1 y)) (enumerate_from 0 l.output)

  -- each output word decodes to that word of the source's outputs
  abbrev pub DecodesAt : ℕ → Bits → Bits → Type 0
  DecodesAt t y z = AllByRecursion (λ (word : ℕ × List ℕ). Decodes code t (output_word code p z word) (bits_at word.1 y)) (enumerate_from 0 l.output)

  -- some rail is 1
  abbrev pub is_alarmed : Bits → Bool
  is_alarmed z = list_any (λ b. b) (shown_rails z)

  -- some rail is 1 in some cycle up to c, with c included
  abbrev pub IsUpBy : List Bits → ℕ → Type 0
  IsUpBy zs c = (i : ℕ) × (i ≤ c) × IsTrue (is_alarmed (at_cycle zs i))

  -- Without faults: in every cycle each output word is whole and every rail is 0, and the stored bits are encoded, also
  -- behind the last cycle.
  pub record IsQuiet (cycles : ℕ) (states outs stored zs : List Bits) : Type 0 where
    pub whole : (c : ℕ) → c < cycles → IsWholeAt (at_cycle outs c) (at_cycle zs c)
    pub no_alarm : (c : ℕ) → c < cycles → is_alarmed (at_cycle zs c) ≡ false
    pub kept : (c : ℕ) → c ≤ cycles → IsEncodedAt code l (at_cycle states c) (at_cycle stored c)

  -- In detection, for every cycle: each output word is whole in all cycles up to it, or a rail is up by then.
  abbrev pub IsDetected : ℕ → List Bits → List Bits → Type 0
  IsDetected cycles outs zs =
      (c : ℕ) → c < cycles → ((i : ℕ) → i ≤ c → IsWholeAt (at_cycle outs i) (at_cycle zs i)) ⊎ IsUpBy zs c

  -- In correction, in every cycle each output word decodes to that word of the source's outputs. In a cycle without
  -- faulty cells, as `IsFaultless` says of it, it is whole, and behind that cycle the stored bits are encoded.
  pub record IsCorrected (t : ℕ) (IsFaultless : ℕ → Type 0) (cycles : ℕ) (states outs stored zs : List Bits) : Type 0 where
    pub decoded : (c : ℕ) → c < cycles → DecodesAt t (at_cycle outs c) (at_cycle zs c)
    pub whole : (c : ℕ) → c < cycles → IsFaultless c → IsWholeAt (at_cycle outs c) (at_cycle zs c)
    pub repaired : (c : ℕ) → c < cycles → IsFaultless c → IsEncodedAt code l (at_cycle states (suc c)) (at_cycle stored (suc c))

-- On every stream the run of the guard without faults gives the source's outputs and no alarm.
abbrev pub IsFaithful : File → File → Library → Model → Code → Layout → Type 0
IsFaithful g source library m code l =
    (xs : Stream) (states outs stored zs : List Bits)
    → SourceRun source library xs states outs → FreeRun g xs stored zs
    → IsQuiet code l (length (output_nets m)) (length xs) states outs stored zs

-- On every stream, under every fault list of a kind, what is said of the cycles holds.
abbrev pub UnderFaults : File → File → Library → (List Fault → Type 0) → (List Fault → ℕ → List Bits → List Bits → List Bits → List Bits → Type 0) → Type 0
UnderFaults g source library allowed claim =
    (xs : Stream) (faults : List Fault) (states outs stored zs : List Bits)
    → IsTrue (is_fault_list faults) → allowed faults
    → SourceRun source library xs states outs → Run g xs faults stored zs
    → claim faults (length xs) states outs stored zs

-- Containment in detection, for the fault lists that are allowed.
abbrev pub Detects : File → File → Library → Model → Code → Layout → (List Fault → Type 0) → Type 0
Detects g source library m code l allowed =
    UnderFaults g source library allowed (λ faults cycles states outs stored zs. IsDetected code l (length (output_nets m)) cycles outs zs)

-- Containment in correction.
abbrev pub Corrects : File → File → Library → Model → Code → Layout → ℕ → (List Fault → Type 0) → Type 0
Corrects g source library m code l t allowed =
    UnderFaults g source library allowed (λ faults cycles states outs stored zs. IsCorrected code l (length (output_nets m)) t (λ c. faults_at c faults ≡ []) cycles states outs stored zs)
