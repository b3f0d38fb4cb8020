use Rattle.std.proofs.Common.{◌≡◌, subst, ℕ, map, arith}
use Rattle.guard_spec.specs.Plain.{column_cost}
use Rattle.gate_net.specs.Gate.{net_number}
use Rattle.gate_net.specs.GateNet.{net_count}
use Rattle.guard_cells.specs.Cells.{bit_costs}
use Rattle.guard_cells.proofs.Checks.{AddChecks, checks_more, no_checks}
use Rattle.guard_cells.proofs.More.{all_below, keeps_count, keeps_itself, keeps_on, range_sum, range_sum_within}
use Rattle.guard_cells.proofs.bits.add_checks.Goals as goal

pub loop-j-init : goal.loop-j-init
loop-j-init c = record {
  kept = keeps_itself c.args.s.now.net;
  cells = no_checks c.args.m.now (map net_number c.args.leaf.now) c.args.code.now (map net_number c.args.roots.now) c.args.s.now.net (map net_number c.args.s.now.cells.items);
  few = λ cost gives. omega arith;
}

pub add_check-requires-clause-leaf : goal.add_check-requires-clause-leaf
add_check-requires-clause-leaf c =
    all_below (net_count c.args.s.now.net) (net_count c.loop-j.s.net) (map net_number c.args.leaf.now) (keeps_count c.args.s.now.net c.loop-j.s.net c.loop-j.invariant.kept) c.requires.leaf

pub add_check-requires-clause-room : goal.add_check-requires-clause-room
add_check-requires-clause-room c =
    let j = c.loop-j.j in
    let (cost, gives, room) = c.requires.room in
    let so_far = c.loop-j.invariant.few cost gives in
    let columns = c.r-j-end.ensures.columns in
    let part = range_sum_within (column_cost c.args.code.now (bit_costs cost (map net_number c.args.roots.now))) j c.args.code.now.columns (omega (arith, c.loop-j-test.true)) in
    (cost, gives, omega arith)

pub loop-j-preserved : goal.loop-j-preserved
loop-j-preserved c =
    let j = c.loop-j.j in
    let roots = map net_number c.args.roots.now in
    let old = c.args.s.now in
    let mid = c.loop-j.s in
    let new = c.add_check.new.s in
    record {
      kept = keeps_on old.net mid.net new.net c.loop-j.invariant.kept c.in_ok-add_check.ensures.kept;
      cells = checks_more c.rows_of_cells_join.ensures.join c.args.m.now (map net_number c.args.leaf.now) c.args.code.now roots old.net mid.net new.net (map net_number old.cells.items) (map net_number mid.cells.items) (map net_number new.cells.items) j
          c.loop-j.invariant.cells c.in_ok-add_check.ensures.kept c.in_ok-add_check.ensures.cell;
      few = λ cost gives.
          let so_far = c.loop-j.invariant.few cost gives in
          let here = c.in_ok-add_check.ensures.few cost gives in
          let part = range_sum (column_cost c.args.code.now (bit_costs cost roots)) j in
          omega arith;
    }

pub returns-clause-cells : goal.returns-clause-cells
returns-clause-cells c =
    let all : c.loop-j.j ≡ c.args.code.now.columns = let columns = c.r-j-end.ensures.columns in omega (arith, c.loop-j-test.false, c.loop-j.auto.j-end) in
    let Added : ℕ → Type 0 = λ many. AddChecks c.args.m.now (map net_number c.args.leaf.now) c.args.code.now (map net_number c.args.roots.now) c.args.s.now.net c.loop-j.s.net (map net_number c.args.s.now.cells.items) (map net_number c.loop-j.s.cells.items) many in
    subst Added all c.loop-j.invariant.cells
