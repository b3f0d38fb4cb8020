-- Ranges of gates.
use Rattle.std.specs.Prelude.{◌≡◌, ℕ, suc, ◌<◌, ◌≤◌}
use Rattle.netlist_spec.specs.Gates.{GateList, ReadsNet}
use Rattle.netlist_spec.specs.CellBits.{Bit}

-- A range of gates that belongs to one bit and ends with that bit's own cell.
pub record Region : Type 0 where
  pub bit : Bit
  pub first : ℕ
  pub end : ℕ

-- Net n lies in the region.
abbrev pub LiesIn : Region → ℕ → Type 0
LiesIn r n = (r.first ≤ n) × (n < r.end)

-- The region's last gate is n, or reads it through gates of the region.
pub data LeadsToEnd (net : GateList) (r : Region) : ℕ → Type 0 where
  is_end : {n : ℕ} → r.end ≡ suc n → LeadsToEnd net r n
  is_read : {n k : ℕ} → LiesIn r k → ReadsNet net k n → LeadsToEnd net r k → LeadsToEnd net r n
