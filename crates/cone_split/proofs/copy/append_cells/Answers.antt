use Rattle.std.proofs.Common.{◌≡◌, sym, ◌∙◌, ap, subst, ℕ, ◌+◌, ◌<◌, ◌≤◌, List, [], ◌∷◌, ◌++◌, length, map, take, get_or, arith}
use Rattle.std.specs.List.{AllByRecursion}
use Rattle.std.proofs.lemmas.List.{take_more, length-take-le, length-append, append_assoc}
use Rattle.std.proofs.lemmas.List.Elements.{Contains-get_or}
use Rattle.std.proofs.lemmas.Option.{slice_get-get_or}
use Rattle.netlist_spec.specs.Gates.{GateForm, GateList}
use Rattle.gate_net.specs.Gate.{gate_form, net_number}
use Rattle.gate_net.specs.GateNet.{net_count}
use Rattle.cone_split.specs.Copies.{AreCopied, IsImage, IsSameOver}
use Rattle.cone_split.proofs.Cells.{rises_above}
use Rattle.cone_split.proofs.Copied.{zip_length, zip_push, reads_have_images, copy_reads_below}
use Rattle.cone_split.proofs.copy.append_cells.Goals as goal

-- how far the list has come
so_far : (old now : GateList) (hs : List GateForm) (i : ℕ) (cells : List ℕ) (net : GateList) (leaf : List ℕ) → now ≡ record old { gates = old.gates ++ hs } → i ≤ length cells
    → AreCopied net leaf cells (net_count old) (take i cells) hs → net_count now ≡ net_count old + i
so_far old now hs i cells net leaf e h all =
    let a = zip_length _ (take i cells) hs all in
    let b = length-take-le i cells h in
    let l = length-append old.gates hs in
    let f = ap net_count e in
    omega arith

pub gate-requires-clause-gate : goal.gate-requires-clause-gate
gate-requires-clause-gate c = rises_above c.args.src.now.leaves c.args.cells.now _ c.requires.cells.rise (Contains-get_or c.args.cells.now c.loop-n.n-index 0 c.loop-n-test.true)

pub copied-gate-requires-clause-nets : goal.copied-gate-requires-clause-nets
copied-gate-requires-clause-nets c =
    let cells = c.args.cells.now in
    let there = Contains-get_or cells c.loop-n.n-index 0 c.loop-n-test.true in
    reads_have_images c.args.src.now cells (length c.args.leaf.now) (get_or cells c.loop-n.n-index 0) (gate_form c.gate.result) c.requires.cells c.requires.leaves (rises_above c.args.src.now.leaves cells _ c.requires.cells.rise there) there c.gate.ensures

pub push-requires-clause-reads : goal.push-requires-clause-reads
push-requires-clause-reads c =
    let src = c.args.src.now in
    let cells = c.args.cells.now in
    let i = c.loop-n.n-index in
    let first = c.len-first.result in
    let leaf = map net_number c.args.leaf.now in
    let far = so_far c.args.dst.now c.loop-n.dst c.loop-n.invariant.0 i cells src leaf c.loop-n.invariant.1 c.loop-n.auto.n-index-end c.loop-n.invariant.2 in
    let low = rises_above src.leaves cells _ c.requires.cells.rise (Contains-get_or cells i 0 c.loop-n-test.true) in
    copy_reads_below leaf cells first src src.leaves i (get_or cells i 0) (net_count c.loop-n.dst) (gate_form c.gate.result) (gate_form c.copied-gate.result)
    c.requires.gates c.requires.cells.rise low (slice_get-get_or cells i 0 c.loop-n-test.true) c.gate.ensures
    (subst (λ (n : ℕ). AllByRecursion (λ k. k < n) leaf) (sym c.len-first.ensures.count) c.requires.leaf)
    c.copied-gate.ensures (let e = c.len-first.ensures.count in omega arith)

pub push-requires-clause-room : goal.push-requires-clause-room
push-requires-clause-room c =
    let far = so_far c.args.dst.now c.loop-n.dst c.loop-n.invariant.0 c.loop-n.n-index c.args.cells.now c.args.src.now (map net_number c.args.leaf.now) c.loop-n.invariant.1 c.loop-n.auto.n-index-end c.loop-n.invariant.2 in
    let r = c.requires.room in
    let h = c.loop-n-test.true in
    omega arith

pub loop-n-preserved : goal.loop-n-preserved
loop-n-preserved c =
    let cells = c.args.cells.now in
    let more = take_more cells c.loop-n.n-index 0 c.loop-n-test.true in
    let hs = c.loop-n.invariant.0 in
    let h = gate_form c.copied-gate.result in (
      hs ++ h ∷ [],
      c.in_ok-push.ensures.ok ∙ (ap (λ (n : GateList). record n { gates = n.gates ++ h ∷ [] }) c.loop-n.invariant.1 ∙ ap (λ (gs : List GateForm). record c.args.dst.now { gates = gs }) (append_assoc c.args.dst.now.gates hs (h ∷ []))),
      subst (λ (ns : List ℕ). AreCopied c.args.src.now (map net_number c.args.leaf.now) cells (net_count c.args.dst.now) ns (hs ++ h ∷ [])) (sym more)
          (zip_push _ (take c.loop-n.n-index cells) hs (get_or cells c.loop-n.n-index 0) h c.loop-n.invariant.2 (gate_form c.gate.result, c.gate.ensures, subst (λ (f : ℕ). IsSameOver (IsImage (map net_number c.args.leaf.now) cells f) (gate_form c.gate.result) h) c.len-first.ensures.count c.copied-gate.ensures)),
    )
