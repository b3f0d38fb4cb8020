-- Ranges stay where gates are appended behind them.
use Rattle.std.proofs.Common.{sym, subst, ℕ, ◌≤◌, List, ◌++◌}
use Rattle.netlist_spec.specs.Gates.{GateForm, GateList, Machine}
use Rattle.netlist_spec.specs.GateRanges.{Region}
use Rattle.guard_spec.specs.Codes.{Code}
use Rattle.guard_spec.specs.Words.{Layout}
use Rattle.gate_net.specs.GateNet.{net_count}
use Rattle.gate_net.proofs.Ranges.{front as front_answers}
use Rattle.cone_split.specs.Ranges.{KeepsGates}
use Rattle.cone_split.proofs.Ranges.{all_lead_longer, alone_longer}
use Rattle.guard_laws.specs.Rows.{IsRangeOf}

module _ (source : Machine) (code : Code) (l : Layout) (leaf : List ℕ) (r : Region) where
  more_behind : (front : GateList) (more : List GateForm) → r.end ≤ net_count front → IsRangeOf front leaf source code l r → IsRangeOf (record front { gates = front.gates ++ more }) leaf source code l r
  more_behind front more high is = record {
    reads = alone_longer front more leaf r high is.reads;
    leads = all_lead_longer front more r is.leads;
    value = λ last v u e answers evaluation. is.value last v u e (front_answers front more r.first r.end v answers) evaluation;
  }

  pub range_kept : (front net : GateList) → KeepsGates front net → r.end ≤ net_count front → IsRangeOf front leaf source code l r → IsRangeOf net leaf source code l r
  range_kept front net (more, e) high is = subst (λ (x : GateList). IsRangeOf x leaf source code l r) (sym e) (more_behind front more high is)
