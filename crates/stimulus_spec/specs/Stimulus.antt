-- Stimulus and script files.
use Rattle.std.specs.Prelude.{ℕ, zero, suc, ◌+◌, Bool, true, false, List, [], ◌∷◌, ◌++◌, length, count_by, codes, Option, Some, None, Result, Ok, Err, nat_le, nat_lt, ◌==◌, if◌then◌else◌}
use Rattle.std.specs.Bool.{then_some}
use Rattle.std.specs.List.{list_any}
use Rattle.netlist_spec.specs.Lines.{Word, Line, plain_lines}
use Rattle.netlist_spec.specs.Digits.{decimal_of, bits_of_text}
use Rattle.netlist_spec.specs.Netlist.{Name, same_name, stands_in}
use Rattle.netlist_spec.specs.SourceRun.{Bits, Stream}
use Rattle.netlist_spec.specs.Runs.{Fault, same_place}

-- One cycle of a stimulus: one word with one character `0` or `1` per data input, in order; or `-` where there
-- is no data input.
abbrev pub stimulus_row : ℕ → List Word → Option Bits
stimulus_row zero (w ∷ []) = then_some (same_name w (codes "-")) []
stimulus_row (suc n) (w ∷ []) = if length w == suc n then bits_of_text w else None
stimulus_row _ _ = None

-- a row before the rows that follow it, or the number of its line where it is none
abbrev pub with_row : ℕ → Option Bits → Result Stream ℕ → Result Stream ℕ
with_row line None later = Err line
with_row line (Some x) (Ok xs) = Ok (x ∷ xs)
with_row line (Some x) (Err n) = Err n

-- Each line with words is one cycle. The first line that isn't so, or that would be cycle 1,000,000, is at
-- fault, and its number is told.
abbrev pub stimulus_from : ℕ → ℕ → List Line → Result Stream ℕ
stimulus_from inputs cycle [] = Ok []
stimulus_from inputs cycle (l ∷ ls) =
    if nat_lt cycle 1000000 then with_row l.number (stimulus_row inputs l.words) (stimulus_from inputs (cycle + 1) ls) else Err l.number

abbrev pub stimulus_of : ℕ → List ℕ → Result Stream ℕ
stimulus_of inputs bytes = stimulus_from inputs 0 (plain_lines bytes)

-- ---- scripts

pub data ScriptFault : Type 0 where
  bad_script : (line : ℕ) → ScriptFault
  no_such_cell : (line : ℕ) → ScriptFault
  more_than_sixteen : (line : ℕ) → ScriptFault

-- a cycle, the output net of a cell, and `0` or `1`
abbrev pub script_bit : Word → Option Bool
script_bit w = if same_name w (codes "0") then Some false else if same_name w (codes "1") then Some true else None

abbrev pub script_entry : List Word → Option Fault
script_entry (cycle ∷ cell ∷ bit ∷ []) = entry (decimal_of 999999 cycle) (script_bit bit)
  where
    entry : Option ℕ → Option Bool → Option Fault
    entry (Some c) (Some b) = Some (record { cycle = c; cell = cell; bit = b })
    entry _ _ = None
script_entry _ = None

-- On the first line at fault, in this order: it isn't of this form; no cell has that net; an earlier line has
-- the same cycle and cell; sixteen earlier lines have the same cycle.
abbrev pub entry_fault : List Name → List Fault → ℕ → Fault → Option ScriptFault
entry_fault cells earlier line a =
    if stands_in a.cell cells then
    (if list_any (same_place a) earlier then Some (bad_script line)
    else if nat_le 16 (count_by (λ b. b.cycle == a.cycle) earlier) then Some (more_than_sixteen line)
    else None)
    else Some (no_such_cell line)

abbrev pub go_on : Option ScriptFault → Result (List Fault) ScriptFault → Result (List Fault) ScriptFault
go_on (Some fault) later = Err fault
go_on None later = later

-- what a line with this entry gives, where `next` reads the lines after it
abbrev pub with_entry : List Name → List Fault → ℕ → Option Fault → (Fault → Result (List Fault) ScriptFault) → Result (List Fault) ScriptFault
with_entry cells earlier line None next = Err (bad_script line)
with_entry cells earlier line (Some a) next = go_on (entry_fault cells earlier line a) (next a)

abbrev pub script_from : List Name → List Fault → List Line → Result (List Fault) ScriptFault
script_from cells earlier [] = Ok earlier
script_from cells earlier (l ∷ ls) =
    with_entry cells earlier l.number (script_entry l.words) (λ a. script_from cells (earlier ++ a ∷ []) ls)

abbrev pub script_of : List Name → List ℕ → Result (List Fault) ScriptFault
script_of cells bytes = script_from cells [] (plain_lines bytes)
