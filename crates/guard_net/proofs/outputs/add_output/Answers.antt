use Rattle.std.proofs.Common.{◌≡◌, ◌-◌, ◌≤◌, sym, ap, subst, ℕ, map, length, arith}
use Rattle.netlist_spec.specs.Gates.{Machine}
use Rattle.gate_net.specs.Gate.{net_number}
use Rattle.guard_net.specs.Built.{GainsOutput}
use Rattle.guard_net.proofs.ShownOutputs.{copied, last_cell, single}
use Rattle.guard_net.proofs.outputs.add_output.Goals as goal

pub returns : goal.returns
returns c =
    let m = c.args.m.now in
    let leaf = map net_number c.args.leaf.now in
    let old = c.args.s.now.net in
    let new = c.add_copies.new.s.net in
    let copies = c.in_ok-add_copies.ensures in
    let one = single copies.cells.0 copies.cells.1 in
    let cells = c.add_copies.new.s.cells in
    let filled = cells.ok.0 in
    let at : c.len.result - 1 ≡ length cells.items - 1 = omega (arith, c.len.ensures, filled) in
    let last : c.index.result.now.0 ≡ one.0 = last_cell cells.items (map net_number c.args.s.now.cells.items) copies.cells.0 (c.len.result - 1) one.0 c.index.result.now one.1 copies.cells.2 at c.index.ensures in
    let source = c.args.source.now in
    let inputs = ap (λ (n : Machine). n.inputs) c.source.view_is in
    let above : source.inputs ≤ c.args.x.0 = let h = c.if-x-source.false in omega (arith, h, inputs) in
    subst (λ (k : ℕ). GainsOutput source m leaf c.args.x.0 c.args.o.0 k old new) (sym last)
    (copied c.words_have_places.ensures m leaf c.args.o.0 old new copies.cells.0 one.0 one.1 copies.cells.3 source c.args.x.0 copies.kept above copies.few)
