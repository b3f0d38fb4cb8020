use Rattle.imp_io.proofs.BlockLemmas.{Gives-append, Gives-text}
use Rattle.std.proofs.Common.{◌≡◌, ℕ, ◌-◌, ◌<◌, ◌≤◌, get_or, ap, subst, sym, arith}
use Rattle.netlist_spec.specs.Written.{Named, IsNamed}
use Rattle.gate_net.specs.Machine.{latch_row}
use Rattle.blif_write.specs.Lines.{latch_text}
use Rattle.named_netlist.proofs.NetLemmas.{latch-here, store-here}
use Rattle.blif_write.proofs.Steps.{numbered-step}
use Rattle.blif_write.proofs.text.put_latches.Goals as goal

pub put_latch-requires-clause-d : goal.put_latch-requires-clause-d
put_latch-requires-clause-d g c =
    let named = subst IsNamed c.g.view_is c.g.invariant.named in
    let first : c.g.inside.data_inputs ≡ c.args.g.now.data_inputs = ap (λ (h : Named). h.data_inputs) c.g.view_is in
    let leaves : c.g.inside.net.leaves ≡ c.args.g.now.net.leaves = ap (λ (h : Named). h.net.leaves) c.g.view_is in
    let rows = ap (λ (h : Named). h.latches) c.g.view_is in
    let low : c.args.g.now.data_inputs ≤ c.loop-n.n = omega arith in
    let high : c.loop-n.n < c.args.g.now.net.leaves = omega arith in
    let row = c.index.result.now in
    let is : row ≡ get_or c.g.inside.latches.items (c.loop-n.n - c.args.g.now.data_inputs) row = subst (λ (a : ℕ). row ≡ get_or c.g.inside.latches.items (c.loop-n.n - a) row) first c.index.ensures in
    store-here c.args.g.now c.g.inside.latches.items c.loop-n.n row named rows is low high

pub loop-n-preserved : goal.loop-n-preserved
loop-n-preserved g c =
    let named = subst IsNamed c.g.view_is c.g.invariant.named in
    let first : c.g.inside.data_inputs ≡ c.args.g.now.data_inputs = ap (λ (h : Named). h.data_inputs) c.g.view_is in
    let leaves : c.g.inside.net.leaves ≡ c.args.g.now.net.leaves = ap (λ (h : Named). h.net.leaves) c.g.view_is in
    let rows = ap (λ (h : Named). h.latches) c.g.view_is in
    let low : c.args.g.now.data_inputs ≤ c.loop-n.n = omega arith in
    let high : c.loop-n.n < c.args.g.now.net.leaves = omega arith in
    let row = c.index.result.now in
    let is : row ≡ get_or c.g.inside.latches.items (c.loop-n.n - c.args.g.now.data_inputs) row = subst (λ (a : ℕ). row ≡ get_or c.g.inside.latches.items (c.loop-n.n - a) row) first c.index.ensures in
    let here = latch-here c.args.g.now c.g.inside.latches.items c.loop-n.n row named rows is low high in
    Gives-text (sym (numbered-step (latch_text c.args.g.now) c.args.g.now.data_inputs c.loop-n.n c.args.g.now.latches (latch_row row) low here))
    (Gives-append c.loop-n.invariant c.put_latch.ensures)
