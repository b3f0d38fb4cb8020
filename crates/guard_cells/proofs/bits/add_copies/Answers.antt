use Rattle.std.proofs.Common.{◌∙◌, sym, subst, ℕ, ◌+◌, ◌<◌, List, get_or, map, take, arith}
use Rattle.std.proofs.lemmas.List.{length-map, take_all}
use Rattle.gate_net.specs.declared.gate.NetId.{NetId}
use Rattle.gate_net.specs.Gate.{net_number}
use Rattle.gate_net.specs.GateNet.{net_count}
use Rattle.guard_cells.proofs.Copies.{AddCopies, copies_more, no_copies}
use Rattle.guard_cells.proofs.More.{all_at, all_below, keeps_count, keeps_itself, keeps_on, number_at, part_sum, take_next}
use Rattle.guard_cells.proofs.bits.add_copies.Goals as goal

pub loop-root-init : goal.loop-root-init
loop-root-init c = record {
  kept = keeps_itself c.args.s.now.net;
  cells = no_copies c.args.m.now (map net_number c.args.leaf.now) c.args.s.now.net (map net_number c.args.s.now.cells.items);
  few = λ cost gives. omega arith;
}

pub add_copy-requires-clause-root : goal.add_copy-requires-clause-root
add_copy-requires-clause-root c =
    let d : NetId = record { 0 = 0 } in
    let i = c.loop-root.root-index in
    all_at (λ n. n < net_count c.args.m.now.net) (map net_number c.args.roots.now) i (get_or c.args.roots.now i d).0 c.requires.roots (number_at c.args.roots.now i d c.loop-root-test.true)

pub add_copy-requires-clause-leaf : goal.add_copy-requires-clause-leaf
add_copy-requires-clause-leaf c =
    all_below (net_count c.args.s.now.net) (net_count c.loop-root.s.net) (map net_number c.args.leaf.now) (keeps_count c.args.s.now.net c.loop-root.s.net c.loop-root.invariant.kept) c.requires.leaf

pub add_copy-requires-clause-room : goal.add_copy-requires-clause-room
add_copy-requires-clause-room c =
    let d : NetId = record { 0 = 0 } in
    let i = c.loop-root.root-index in
    let root = (get_or c.args.roots.now i d).0 in
    let at = number_at c.args.roots.now i d c.loop-root-test.true in
    let below = all_at (λ n. n < net_count c.args.m.now.net) (map net_number c.args.roots.now) i root c.requires.roots at in
    let (cost, gives, room) = c.requires.room in
    let few = c.loop-root.invariant.few cost gives in
    let part = part_sum (λ n. 2 + cost n) (map net_number c.args.roots.now) i root at in
    (cost root, gives root below, omega (arith, part.1))

pub loop-root-preserved : goal.loop-root-preserved
loop-root-preserved c =
    let d : NetId = record { 0 = 0 } in
    let i = c.loop-root.root-index in
    let roots = map net_number c.args.roots.now in
    let root = (get_or c.args.roots.now i d).0 in
    let at = number_at c.args.roots.now i d c.loop-root-test.true in
    let below = all_at (λ n. n < net_count c.args.m.now.net) roots i root c.requires.roots at in
    let leaf = map net_number c.args.leaf.now in
    let old = c.args.s.now in
    let mid = c.loop-root.s in
    let new = c.add_copy.new.s in
    let Added : List ℕ → Type 0 = λ rs. AddCopies c.args.m.now leaf old.net new.net (map net_number old.cells.items) (map net_number new.cells.items) rs in
    record {
      kept = keeps_on old.net mid.net new.net c.loop-root.invariant.kept c.in_ok-add_copy.ensures.kept;
      cells = subst Added (sym (take_next roots i root at))
          (copies_more c.rows_of_cells_join.ensures.join c.args.m.now leaf old.net mid.net new.net (map net_number old.cells.items) (map net_number mid.cells.items) (map net_number new.cells.items) (take i roots) root
          c.loop-root.invariant.cells c.in_ok-add_copy.ensures.kept c.in_ok-add_copy.ensures.cell);
      few = λ cost gives.
          let so_far = c.loop-root.invariant.few cost gives in
          let here = c.in_ok-add_copy.ensures.few (cost root) (gives root below) in
          let part = part_sum (λ n. 2 + cost n) roots i root at in
          omega (arith, part.0);
    }

pub returns-clause-cells : goal.returns-clause-cells
returns-clause-cells c =
    let roots = map net_number c.args.roots.now in
    let many = length-map c.args.roots.now net_number in
    let Added : List ℕ → Type 0 = λ rs. AddCopies c.args.m.now (map net_number c.args.leaf.now) c.args.s.now.net c.loop-root.s.net (map net_number c.args.s.now.cells.items) (map net_number c.loop-root.s.cells.items) rs in
    let (nets, long, there, rows) = subst Added (take_all c.loop-root.root-index roots (omega (arith, c.loop-root-test.false))) c.loop-root.invariant.cells in
    (nets, long ∙ many, there, rows)
