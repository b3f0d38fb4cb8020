-- An audit by one pass over the cells, the last one first.
use Rattle.std.specs.Prelude.{◌≡◌, ℕ, Bool, false, List, [], ◌∷◌, ◌++◌, length, map, filter_map, Option, Some, None, slice_get, nat_lt, if◌then◌else◌}
use Rattle.std.specs.Option.{option_or}
use Rattle.netlist_spec.specs.Netlist.{Name, Statement, names, latch, subckt, Model, File}
use Rattle.netlist_spec.specs.Models.{Gate, as_gate, output_nets}
use Rattle.netlist_spec.specs.FileRules.{NeverFall, IsFile}
use Rattle.netlist_spec.specs.FileOrder.{a_statement}
use Rattle.netlist_spec.specs.Ordered.{IsOrdered, is_subckt}
use Rattle.netlist_spec.specs.CellBits.{Bit, latch_bit, output_bit, IsBitOf, HasOneBit, HasTwoBits, is_rail_name, output_read, IsIndependentCell, IsIndependent, cells_of, Finding, wide, unused, shared, reads_output, FindsOf, IsFinding}
use Rattle.audit_laws.specs.FirstBits.{FirstBits, no_bit, one_bit, two_bits, AreFirstBits, latch_bits}
use Rattle.audit_laws.specs.Along.{bits_along}

abbrev pub gates_among_cells : List Statement → List Gate
gates_among_cells ss = filter_map as_gate ss

-- what is kept for a cell when the later cells are done
abbrev pub cell_bits : Model → List Statement → Statement → FirstBits
cell_bits m later (names ins out cover) = bits_along m (gates_among_cells later) out
cell_bits m later (latch d q clocking init) = latch_bits m q
cell_bits m later (subckt model binds) = no_bit

abbrev pub names_rail : Option Name → Bool
names_rail None = false
names_rail (Some n) = is_rail_name n

-- whether a bit is a rail
abbrev pub is_rail : Model → Bit → Bool
is_rail m (latch_bit i) = false
is_rail m (output_bit i) = names_rail (slice_get (output_nets m) i)

abbrev pub finding_of_read : Name → Bool → Option Name → Option Finding
finding_of_read cell rail None = None
finding_of_read cell rail (Some net) = if rail then None else Some (reads_output net cell)

abbrev pub finding_of_bits : Model → Name → Option Name → FirstBits → Option Finding
finding_of_bits m cell read no_bit = Some (unused cell)
finding_of_bits m cell read (one_bit bit) = finding_of_read cell (is_rail m bit) read
finding_of_bits m cell read (two_bits one other) = Some (shared cell one other)

-- what is found of a cell of which this is kept
abbrev pub finding_of : Model → Statement → FirstBits → Option Finding
finding_of m (names ins out cover) kept = if nat_lt 2 (length ins) then Some (wide out) else finding_of_bits m out (output_read m (names ins out cover)) kept
finding_of m (latch d q clocking init) kept = finding_of_bits m q None kept
finding_of m (subckt model binds) kept = None

-- What is found first in some last cells. A pass from the last cell to the first replaces what it has found by what it
-- finds of one more.
abbrev pub first_finding : Model → List Statement → Option Finding
first_finding m [] = None
first_finding m (s ∷ later) = option_or (finding_of m s (cell_bits m later s)) (first_finding m later)

-- the cell is a `.names` or a latch
abbrev pub IsNoSubckt : Statement → Type 0
IsNoSubckt s = is_subckt (a_statement s) ≡ false

-- What is kept decides whether the cell has one bit, and what is found of it. Where nothing is found, one bit is kept.
abbrev pub KeptBitsDecide : Model → Statement → FirstBits → Type 0
KeptBitsDecide m s kept =
    IsNoSubckt s → AreFirstBits (IsBitOf m s) kept
    → ((bit : Bit) → kept ≡ one_bit bit → HasOneBit m s bit)
    × ((one other : Bit) → kept ≡ two_bits one other → HasTwoBits m s one other)
    × (finding_of m s kept ≡ None → IsIndependentCell m s)
    × (finding_of m s kept ≡ None → (bit : Bit) × (kept ≡ one_bit bit))
    × ((finding : Finding) → finding_of m s kept ≡ Some finding → FindsOf m s finding)

-- In an ordered file whose statements stand by their lines, the pass finds what an audit finds, and each cell's bits: where
-- it finds nothing, one bit of each cell.
pub record AuditsInOnePass (file : File) (m : Model) : Type 0 where
  pub kept : (before : List Statement) (s : Statement) (later : List Statement) → cells_of m ≡ before ++ s ∷ later → AreFirstBits (IsBitOf m s) (cell_bits m later s)
  pub nothing : first_finding m (cells_of m) ≡ None → IsIndependent file
  pub one_each : first_finding m (cells_of m) ≡ None → (before : List Statement) (s : Statement) (later : List Statement) → cells_of m ≡ before ++ s ∷ later
      → (bit : Bit) × (cell_bits m later s ≡ one_bit bit) × HasOneBit m s bit
  pub something : (finding : Finding) → first_finding m (cells_of m) ≡ Some finding → IsFinding m finding

abbrev pub OrderedFilesAuditInOnePass : File → ℕ → Option ℕ → Type 0
OrderedFilesAuditInOnePass file low high =
    (ordered : IsOrdered file) → NeverFall low high (map (λ s. s.line) ordered.model.statements) → AuditsInOnePass file ordered.model

-- A file that was read stands by its lines.
abbrev pub ReadFilesAuditInOnePass : File → Type 0
ReadFilesAuditInOnePass file = IsFile file → (ordered : IsOrdered file) → AuditsInOnePass file ordered.model
