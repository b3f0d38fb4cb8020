-- A joined list that has a corrector for each word that a D net or an output of the source needs.
use Rattle.std.specs.Prelude.{ℕ, ◌⊎◌, List, map, Contains}
use Rattle.netlist_spec.specs.Gates.{GateList, Machine}
use Rattle.guard_spec.specs.Codes.{Code}
use Rattle.guard_spec.specs.Words.{Layout}
use Rattle.correction_laws.specs.Joined.{Corrector, IsJoined, IsServed}

-- Correctors and the source's gates over corrected nets, in one list, from which each D net and each output can be copied.
pub record IsReadyToCopy (source : Machine) (code : Code) (l : Layout) (t : ℕ) (joined : GateList) (nets : List ℕ) (first : ℕ) : Type 0 where
  pub correctors : List Corrector
  pub joined_list : IsJoined source code l t joined correctors nets first
  pub served : (x : ℕ) → Contains (map (λ r. r.d) source.latches) x ⊎ Contains source.outputs x → IsServed source correctors x
