-- The texts that commands print.
use Rattle.std.specs.Prelude.{◌≡◌, ℕ, ◌+◌, ◌-◌, ◌/◌, Some, List, [], ◌∷◌, ◌++◌, length, map, codes, decimal, slice_index_or}
use Rattle.std.specs.List.{AllZip, flat_map, zip}
use Rattle.netlist_spec.specs.Netlist.{Name, Model, File}
use Rattle.netlist_spec.specs.Statements.{bit_char}
use Rattle.netlist_spec.specs.Models.{main_model, latch_outputs, output_nets}
use Rattle.netlist_spec.specs.SourceRun.{Bits, Stream}
use Rattle.netlist_spec.specs.Ordered.{cell_nets}
use Rattle.netlist_spec.specs.Runs.{Fault, Run}
use Rattle.guard_spec.specs.Codes.{Code, data_places, IsDistance, IsLeastData}
use Rattle.netlist_spec.specs.CellBits.{Bit, latch_bit, output_bit, cells_of, HasOneBit, IsIndependent, IsFinding, Finding, wide, unused, shared, reads_output}
use Rattle.guard_spec.specs.Tally.{Tally}

-- a word and a number on a line
abbrev pub number_line : List ℕ → ℕ → List ℕ
number_line word n = word ++ 32 ∷ (decimal n ++ 10 ∷ [])

abbrev pub bits_text : Bits → List ℕ
bits_text bits = map bit_char bits

-- One line per cycle: one character per output, or `-` where there is none.
abbrev pub outputs_text : Bits → List ℕ
outputs_text [] = codes "-"
outputs_text (b ∷ bs) = bits_text (b ∷ bs)

abbrev pub run_text : List Bits → List ℕ
run_text zs = flat_map (λ z. outputs_text z ++ 10 ∷ []) zs

-- The text of a simulation: the outputs of the run of an ordered file on a stream under a fault list.
pub record IsRunText (file : File) (xs : Stream) (faults : List Fault) (text : List ℕ) : Type 0 where
  pub states : List Bits
  pub outs : List Bits
  pub is_run : Run file xs faults states outs
  pub is_text : text ≡ run_text outs

-- The report on a code: its size, its distance with the least data word of that weight, place 0 first, and how
-- many errors it detects and corrects.
abbrev pub report_text : Code → ℕ → Bits → List ℕ
report_text code d u =
    codes "code " ++ decimal (data_places code + code.columns) ++ 32 ∷ (decimal (data_places code) ++ 10 ∷ [])
    ++ number_line (codes "distance") d
    ++ codes "word " ++ bits_text u ++ 10 ∷ []
    ++ number_line (codes "detects") (d - 1)
    ++ number_line (codes "corrects") ((d - 1) / 2)

pub record IsReport (code : Code) (text : List ℕ) : Type 0 where
  pub d : ℕ
  pub is_distance : IsDistance code d
  pub u : Bits
  pub is_least : IsLeastData code d u
  pub is_text : text ≡ report_text code d u

-- A bit by its kind and its net.
abbrev pub bit_text : Model → Bit → List ℕ
bit_text m (latch_bit i) = codes "latch " ++ slice_index_or (latch_outputs m) i []
bit_text m (output_bit i) = codes "output " ++ slice_index_or (output_nets m) i []

abbrev pub finding_text : Model → Finding → List ℕ
finding_text m (wide cell) = codes "wide " ++ cell ++ 10 ∷ []
finding_text m (unused cell) = codes "unused " ++ cell ++ 10 ∷ []
finding_text m (shared cell one other) = codes "shared " ++ cell ++ 32 ∷ (bit_text m one ++ 32 ∷ (bit_text m other ++ 10 ∷ []))
finding_text m (reads_output net cell) = codes "output-read " ++ net ++ 32 ∷ (cell ++ 10 ∷ [])

abbrev pub bits_lines : Model → List Bit → List ℕ
bits_lines m bits = flat_map (λ (p : Name × Bit). p.0 ++ 32 ∷ (bit_text m p.1 ++ 10 ∷ [])) (zip (cell_nets m) bits)

abbrev pub independent_text : Model → List Bit → List ℕ
independent_text m bits = number_line (codes "independent") (length bits) ++ bits_lines m bits

-- where each cell serves one bit, the bits of the cells
abbrev pub AreBits : Model → List Bit → Type 0
AreBits m bits = AllZip (λ s bit. HasOneBit m s bit) (cells_of m) bits

-- The text of an audit without a finding: the one bit of each cell.
pub record IsIndependentText (file : File) (text : List ℕ) : Type 0 where
  pub model : Model
  pub is_model : main_model file ≡ Some model
  pub independent : IsIndependent file
  pub bits : List Bit
  pub are_bits : AreBits model bits
  pub is_text : text ≡ independent_text model bits

-- The text of an audit with a finding.
pub record IsFindingText (file : File) (text : List ℕ) : Type 0 where
  pub model : Model
  pub is_model : main_model file ≡ Some model
  pub finding : Finding
  pub is_finding : IsFinding model finding
  pub is_text : text ≡ finding_text model finding

-- The five lines of a tally: the cells, and how their runs end.
abbrev pub tally_text : ℕ → Tally → List ℕ
tally_text cells t =
    number_line (codes "cells") cells ++ number_line (codes "right") t.right ++ number_line (codes "alarmed") t.alarmed
    ++ number_line (codes "decoded") t.decoded ++ number_line (codes "wrong") t.wrong

-- the lines that a demo begins with
abbrev pub demo_text : ℕ → ℕ → ℕ → List ℕ
demo_text statements latches plain =
    number_line (codes "statements") statements ++ number_line (codes "latches") latches ++ number_line (codes "plain") plain
