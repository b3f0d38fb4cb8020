-- Gates with the answers of covers.
use Rattle.std.specs.Prelude.{◌≡◌, ℕ, ◌+◌, ◌*◌, Bool, List, [], ◌∷◌, map, Contains}
use Rattle.std.specs.List.{AllByRecursion}
use Rattle.netlist_spec.specs.Netlist.{Cover}
use Rattle.netlist_spec.specs.Covers.{has_bit, cover_value}
use Rattle.netlist_spec.specs.Gates.{GateForm, bit_number, gate_answer, gate_reads}

-- A gate that reads some of these nets has the answers of the cover at their bits.
pub record HasAnswers (nets : List ℕ) (cover : Cover) (gate : GateForm) : Type 0 where
  pub reads : AllByRecursion (λ n. Contains nets n) (gate_reads gate)
  pub answers : (v : ℕ → Bool) → gate_answer gate v ≡ cover_value cover (map v nets)

-- Bit 2a + b is the cover's answer at a and b.
pub record HasOp (cover : Cover) (op : ℕ) : Type 0 where
  pub answers : (a b : Bool) → has_bit op (2 * bit_number a + bit_number b) ≡ cover_value cover (a ∷ b ∷ [])
