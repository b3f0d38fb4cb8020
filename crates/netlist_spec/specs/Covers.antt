-- The values of covers, S-boxes and linear layers at some bits.
use Rattle.std.specs.Prelude.{◌≡◌, ℕ, ◌+◌, ◌*◌, ◌^◌, ◌<◌, ◌≤◌, Bool, true, false, ◌&&◌, ◌||◌, List, [], ◌∷◌, ◌++◌, IsTrue, length, map, not, ◌==◌, if◌then◌else◌, slice_index}
use Rattle.std.specs.Bool.{beq}
use Rattle.std.specs.List.{list_all, list_any, enumerate_from, AllByRecursion}
use Rattle.std.specs.Int.{bit_at}
use Rattle.netlist_spec.specs.Lines.{is_empty}
use Rattle.netlist_spec.specs.Netlist.{Name, IsName, are_distinct, Row, Cover}

-- whether bit i of the number is 1
abbrev pub has_bit : ℕ → ℕ → Bool
has_bit n i = bit_at n i == 1

-- A row fits some bits if each place that it cares for has its value there.
abbrev pub row_fits : Row → List Bool → Bool
row_fits row bits =
    list_all (λ (p : ℕ × Bool). not (has_bit row.care p.0) || beq p.1 (has_bit row.value p.0)) (enumerate_from 0 bits)

-- Berkeley BLIF's single-output cover: if some row fits the bits, its value is the last character of the
-- rows; if none fits, the opposite. Without rows it is 0.
abbrev pub cover_value : Cover → List Bool → Bool
cover_value cover bits =
    if is_empty cover.rows then false
    else if list_any (λ row. row_fits row bits) cover.rows then cover.on
    else not cover.on

-- An S-box: a place for each number that the inputs may spell, and the outputs at it.
pub record Table : Type 0 where
  pub ins : ℕ
  pub outs : ℕ
  pub rows : List ℕ

-- 1 to 8 inputs and outputs, a row for each number that the inputs spell, and no bit past the outputs
pub record IsTable (t : Table) : Type 0 where
  pub ins : (1 ≤ t.ins) × (t.ins ≤ 8)
  pub outs : (1 ≤ t.outs) × (t.outs ≤ 8)
  pub count : length t.rows ≡ 2 ^ t.ins
  pub each : AllByRecursion (λ n. n < 2 ^ t.outs) t.rows

-- the number that bits spell, the first of them lowest
abbrev pub number_of : List Bool → ℕ
number_of [] = 0
number_of (b ∷ bs) = (if b then 1 else 0) + 2 * number_of bs

-- Output j of an S-box is bit j of the value at the number that the inputs spell.
abbrev pub table_value : Table → List Bool → ℕ → Bool
table_value t bits j = has_bit (slice_index t.rows (number_of bits)) j

-- A linear layer: bit j of a row is 1 where the row has a 1 for input j.
pub record Linear : Type 0 where
  pub rows : List ℕ
  pub width : ℕ

-- 1 to 128 rows and inputs, and no bit of a row past the inputs
pub record IsLinear (l : Linear) : Type 0 where
  pub rows : (1 ≤ length l.rows) × (length l.rows ≤ 128)
  pub width : (1 ≤ l.width) × (l.width ≤ 128)
  pub each : AllByRecursion (λ n. n < 2 ^ l.width) l.rows

-- whether two bits differ, which is their sum without carry
abbrev pub differ : Bool → Bool → Bool
differ false b = b
differ true b = not b

-- whether the number of ones is odd
abbrev pub parity : List Bool → Bool
parity [] = false
parity (b ∷ bs) = differ b (parity bs)

-- the bits at which the row has a 1, and 0 elsewhere
abbrev pub selected : ℕ → List Bool → List Bool
selected row bits = map (λ (p : ℕ × Bool). has_bit row p.0 && p.1) (enumerate_from 0 bits)

-- Output i of a linear layer is the parity of the inputs at which row i has a 1.
abbrev pub linear_value : Linear → List Bool → ℕ → Bool
linear_value l bits i = parity (selected (slice_index l.rows i) bits)

pub record NamedTable : Type 0 where
  pub name : Name
  pub table : Table

pub record NamedLinear : Type 0 where
  pub name : Name
  pub layer : Linear

-- what a `.subckt` may name beside the models of the file
pub record Library : Type 0 where
  pub tables : List NamedTable
  pub linears : List NamedLinear

-- The entries of a library are tables and layers within their limits, and no name stands twice, also not in both lists.
pub record IsLibrary (library : Library) : Type 0 where
  pub distinct : IsTrue (are_distinct (map (λ t. t.name) library.tables ++ map (λ l. l.name) library.linears))
  pub names : AllByRecursion IsName (map (λ t. t.name) library.tables ++ map (λ l. l.name) library.linears)
  pub tables : AllByRecursion (λ t. IsTable t.table) library.tables
  pub linears : AllByRecursion (λ l. IsLinear l.layer) library.linears

abbrev pub empty_library : Library
empty_library = record { tables = []; linears = [] }
