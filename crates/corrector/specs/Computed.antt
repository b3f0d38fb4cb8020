-- Nets that appended gates compute from given nets.
use Rattle.std.specs.Prelude.{ℕ, ◌<◌, ◌≤◌, ◌⊎◌, Bool, List, Contains}
use Rattle.std.specs.List.{AllByRecursion}
use Rattle.netlist_spec.specs.Gates.{GateList}
use Rattle.gate_net.specs.GateNet.{net_count}
use Rattle.reduction.specs.Appended.{Extends, HasBit, HasBits, ReadsInputsAlone}

-- The appended gates read the given nets and each other alone, and the net is a given or an appended one. It has this bit in
-- each valuation in which the appended gates have their answers.
pub record IsComputed (old new : GateList) (ins : List ℕ) (n : ℕ) (bit : (ℕ → Bool) → Bool) : Type 0 where
  pub extends : Extends old new
  pub reads : ReadsInputsAlone old new ins
  pub known : Contains ins n ⊎ (net_count old ≤ n)
  pub below : n < net_count new
  pub has : HasBit old new n bit

-- the same of a row of nets
pub record AreComputed (old new : GateList) (ins nets : List ℕ) (bits : (ℕ → Bool) → List Bool) : Type 0 where
  pub extends : Extends old new
  pub reads : ReadsInputsAlone old new ins
  pub known : (n : ℕ) → Contains nets n → Contains ins n ⊎ (net_count old ≤ n)
  pub below : AllByRecursion (λ n. n < net_count new) nets
  pub has : HasBits old new nets bits
