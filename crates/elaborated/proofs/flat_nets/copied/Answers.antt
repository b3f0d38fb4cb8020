use Rattle.std.proofs.Common.{◌≡◌, ◌-◌, ◌+◌, ◌++◌, ◌∷◌, [], sym, ◌∙◌, ap, take, arith, List, ℕ, Some, slice_get, ◌<◌, ◌≤◌, subst}
use Rattle.std.proofs.lemmas.List.{length-take-le}
use Rattle.std.specs.List.{AllByRecursion}
use Rattle.netlist_spec.specs.Gates.{GateForm, GateList, gate_reads}
use Rattle.gate_net.specs.Gate.{gate_form}
use Rattle.gate_net.specs.GateNet.{net_count, IsNet}
use Rattle.elaborated.proofs.Cells.{reads_at, taken}
use Rattle.elaborated.proofs.flat_nets.copied.Goals as goal

-- as many nets as have been passed
passed : (net copy : GateList) (n : ℕ) → net.leaves ≤ n → n < net_count net → copy ≡ record { leaves = net.leaves; gates = take (n - net.leaves) net.gates } → net_count copy ≡ n
passed net copy n low high is =
    let long = length-take-le (n - net.leaves) net.gates (omega arith) in
    let count = ap net_count is in
    omega arith

reads : (net copy : GateList) (n : ℕ) (gate : GateForm) → IsNet net → net.leaves ≤ n → n < net_count net → copy ≡ record { leaves = net.leaves; gates = take (n - net.leaves) net.gates } → slice_get net.gates (n - net.leaves) ≡ Some gate → AllByRecursion (λ k. k < net_count copy) (gate_reads gate)
reads net copy n gate well low high is at =
    subst (λ (count : ℕ). AllByRecursion (λ k. k < count) (gate_reads gate)) (sym (passed net copy n low high is))
    (reads_at net.leaves (n - net.leaves) n net.gates gate well.gates at (omega arith))

pushed : (net copy new : GateList) (n : ℕ) (gate : GateForm) → net.leaves ≤ n → copy ≡ record { leaves = net.leaves; gates = take (n - net.leaves) net.gates } → slice_get net.gates (n - net.leaves) ≡ Some gate → new ≡ record copy { gates = copy.gates ++ gate ∷ [] }
    → new ≡ record { leaves = net.leaves; gates = take (n + 1 - net.leaves) net.gates }
pushed net copy new n gate low is at more =
    let place : (n - net.leaves) + 1 ≡ n + 1 - net.leaves = omega arith in
    more ∙ ap (λ (g : GateList). record g { gates = g.gates ++ gate ∷ [] }) is
    ∙ ap (λ (l : List GateForm). record net { gates = l }) (sym (taken net.gates (n - net.leaves) gate at) ∙ ap (λ (k : ℕ). take k net.gates) place)

pub push-requires-clause-reads : goal.push-requires-clause-reads
push-requires-clause-reads c =
    reads c.args.net.now c.loop-n.copy c.loop-n.n (gate_form c.gate.result) c.len-n-end.ensures.well_formed c.loop-n.invariant.0 (omega (arith, c.len-n-end.ensures.count)) c.loop-n.invariant.1 c.gate.ensures

pub push-requires-clause-room : goal.push-requires-clause-room
push-requires-clause-room c =
    let well = c.len-n-end.ensures.well_formed in
    let count = passed c.args.net.now c.loop-n.copy c.loop-n.n c.loop-n.invariant.0 (omega (arith, c.len-n-end.ensures.count)) c.loop-n.invariant.1 in
    omega (arith, well.small, count, c.len-n-end.ensures.count)

pub loop-n-preserved : goal.loop-n-preserved
loop-n-preserved c = (
  omega arith,
  pushed c.args.net.now c.loop-n.copy c.push.new.self c.loop-n.n (gate_form c.gate.result) c.loop-n.invariant.0 c.loop-n.invariant.1 c.gate.ensures c.in_ok-push.ensures.ok,
)
