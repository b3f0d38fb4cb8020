use Rattle.std.proofs.Common.{◌≡◌, ℕ, ◌-◌, ◌<◌, ◌≤◌, get_or, Some, slice_get, ap, subst, arith}
use Rattle.std.specs.Result.{OnOk, IfOk}
use Rattle.netlist_spec.specs.Netlist.{Statement}
use Rattle.netlist_spec.specs.Reads.{statement_nets}
use Rattle.blif_read.specs.Spelled.{Spells, with_names}
use Rattle.blif_write.proofs.FileLemmas.{gate-case}
use Rattle.netlist_spec.specs.Written.{Named, IsNamed}
use Rattle.gate_net.specs.Gate.{gate_form}
use Rattle.named_netlist.proofs.NetLemmas.{reads-at, store-here}
use Rattle.blif_write.proofs.file.statement.Goals as goal

pub latch-requires-clause-d : goal.latch-requires-clause-d
latch-requires-clause-d c =
    let named = subst IsNamed c.g.view_is c.g.invariant.named in
    let first : c.g.inside.data_inputs ≡ c.args.g.now.data_inputs = ap (λ (h : Named). h.data_inputs) c.g.view_is in
    let leaves : c.g.inside.net.leaves ≡ c.args.g.now.net.leaves = ap (λ (h : Named). h.net.leaves) c.g.view_is in
    let rows = ap (λ (h : Named). h.latches) c.g.view_is in
    let low : c.args.g.now.data_inputs ≤ c.args.n.0 = c.requires.cell in
    let high : c.args.n.0 < c.args.g.now.net.leaves = omega arith in
    let row = c.index.result.now in
    let is : row ≡ get_or c.g.inside.latches.items (c.args.n.0 - c.args.g.now.data_inputs) row = subst (λ (a : ℕ). row ≡ get_or c.g.inside.latches.items (c.args.n.0 - a) row) first c.index.ensures in
    store-here c.args.g.now c.g.inside.latches.items c.args.n.0 row named rows is low high

pub gate-requires-else-n-leaves-clause-reads : goal.gate-requires-else-n-leaves-clause-reads
gate-requires-else-n-leaves-clause-reads c =
    let named = subst IsNamed c.g.view_is c.g.invariant.named in
    let leaves : c.g.inside.net.leaves ≡ c.args.g.now.net.leaves = ap (λ (h : Named). h.net.leaves) c.g.view_is in
    let low : c.args.g.now.net.leaves ≤ c.args.n.0 = omega arith in
    let gate = gate_form c.gate.result in
    let here = subst (λ (h : Named). slice_get h.net.gates (c.args.n.0 - h.net.leaves) ≡ Some gate) c.g.view_is c.gate.ensures in
    reads-at c.args.g.now.net c.args.n.0 gate named.gates low here

pub returns-else-n-leaves-clause-names : goal.returns-else-n-leaves-clause-names
returns-else-n-leaves-clause-names c =
    let named = subst IsNamed c.g.view_is c.g.invariant.named in
    let leaves : c.g.inside.net.leaves ≡ c.args.g.now.net.leaves = ap (λ (h : Named). h.net.leaves) c.g.view_is in
    let low : c.args.g.now.net.leaves ≤ c.args.n.0 = omega arith in
    let gate = gate_form c.gate.result in
    let here = subst (λ (h : Named). slice_get h.net.gates (c.args.n.0 - h.net.leaves) ≡ Some gate) c.g.view_is c.gate.ensures in
    subst (λ (s : Statement). OnOk c.gate-else-n-leaves.result (c.gate-else-n-leaves.new.names ≡ with_names c.args.names.now (statement_nets s))) (gate-case c.args.g.now c.args.n.0 gate low here) c.gate-else-n-leaves.ensures.names

pub returns-else-n-leaves-clause-spells : goal.returns-else-n-leaves-clause-spells
returns-else-n-leaves-clause-spells c =
    let named = subst IsNamed c.g.view_is c.g.invariant.named in
    let leaves : c.g.inside.net.leaves ≡ c.args.g.now.net.leaves = ap (λ (h : Named). h.net.leaves) c.g.view_is in
    let low : c.args.g.now.net.leaves ≤ c.args.n.0 = omega arith in
    let gate = gate_form c.gate.result in
    let here = subst (λ (h : Named). slice_get h.net.gates (c.args.n.0 - h.net.leaves) ≡ Some gate) c.g.view_is c.gate.ensures in
    subst (λ (s : Statement). IfOk c.gate-else-n-leaves.result (λ r. Spells c.gate-else-n-leaves.new.names r s)) (gate-case c.args.g.now c.args.n.0 gate low here) c.gate-else-n-leaves.ensures.spells
