use Rattle.imp_io.proofs.BlockLemmas.{Gives-append, Gives-text}
use Rattle.std.proofs.Common.{◌≡◌, ◌-◌, ◌≤◌, Some, slice_get, ap, subst, sym, arith}
use Rattle.netlist_spec.specs.Written.{Named, IsNamed}
use Rattle.gate_net.specs.Gate.{gate_form}
use Rattle.blif_write.specs.Lines.{gate_text}
use Rattle.named_netlist.proofs.NetLemmas.{reads-at}
use Rattle.blif_write.proofs.Steps.{numbered-step}
use Rattle.blif_write.proofs.text.put_gates.Goals as goal

pub put_gate-requires-clause-reads : goal.put_gate-requires-clause-reads
put_gate-requires-clause-reads g c =
    let named = subst IsNamed c.g.view_is c.g.invariant.named in
    let leaves : c.g.inside.net.leaves ≡ c.args.g.now.net.leaves = ap (λ (h : Named). h.net.leaves) c.g.view_is in
    let low : c.args.g.now.net.leaves ≤ c.loop-n.n = omega arith in
    let gate = gate_form c.gate.result in
    let here = subst (λ (h : Named). slice_get h.net.gates (c.loop-n.n - h.net.leaves) ≡ Some gate) c.g.view_is c.gate.ensures in
    reads-at c.args.g.now.net c.loop-n.n gate named.gates low here

pub loop-n-preserved : goal.loop-n-preserved
loop-n-preserved g c =
    let named = subst IsNamed c.g.view_is c.g.invariant.named in
    let leaves : c.g.inside.net.leaves ≡ c.args.g.now.net.leaves = ap (λ (h : Named). h.net.leaves) c.g.view_is in
    let low : c.args.g.now.net.leaves ≤ c.loop-n.n = omega arith in
    let gate = gate_form c.gate.result in
    let here = subst (λ (h : Named). slice_get h.net.gates (c.loop-n.n - h.net.leaves) ≡ Some gate) c.g.view_is c.gate.ensures in
    Gives-text (sym (numbered-step (gate_text c.args.g.now) c.args.g.now.net.leaves c.loop-n.n c.args.g.now.net.gates gate low here))
    (Gives-append c.loop-n.invariant c.put_gate.ensures)
