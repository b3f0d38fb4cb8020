use Rattle.std.proofs.Common.{◌*◌, ◌+◌, ◌≤◌, map, arith}
use Rattle.std.specs.List.{flat_map}
use Rattle.std.proofs.Math.Nat.{mul-le-mul_right}
use Rattle.gate_net.specs.Gate.{net_number}
use Rattle.gate_net.specs.GateNet.{net_count}
use Rattle.gate_net.specs.Words.{nets_of, word_nets}
use Rattle.alarm_rails.specs.Rail.{rail_cells}
use Rattle.guard_cells.proofs.Alarms.{no_rails, rails_more}
use Rattle.guard_cells.proofs.More.{all_below, keeps_count, keeps_itself, keeps_on}
use Rattle.guard_cells.proofs.rails.add_rails.Goals as goal

pub loop-init : goal.loop-init
loop-init c = record {
  kept = keeps_itself c.args.s.now.net;
  cells = no_rails c.args.code.now (map word_nets c.args.words.now) c.args.s.now.net (map net_number c.args.s.now.cells.items);
  few = omega arith;
}

pub add_rail-requires-clause-nets : goal.add_rail-requires-clause-nets
add_rail-requires-clause-nets c =
    all_below (net_count c.args.s.now.net) (net_count c.loop.s.net) (flat_map nets_of (map word_nets c.args.words.now)) (keeps_count c.args.s.now.net c.loop.s.net c.loop.invariant.kept) c.requires.nets

pub add_rail-requires-clause-room : goal.add_rail-requires-clause-room
add_rail-requires-clause-room c =
    let cost = rail_cells c.args.code.now (map word_nets c.args.words.now) in
    let so_far = c.loop.invariant.few in
    let room = c.requires.room in
    let one_more : (c.loop.counter + 1) * cost ≤ c.args.count * cost = mul-le-mul_right cost (omega (arith, c.loop-test.true)) in
    omega arith

pub loop-preserved : goal.loop-preserved
loop-preserved c =
    let words = map word_nets c.args.words.now in
    let old = c.args.s.now in
    let mid = c.loop.s in
    let new = c.add_rail.new.s in
    let so_far = c.loop.invariant.few in
    let here = c.in_ok-add_rail.ensures.few in
    record {
      kept = keeps_on old.net mid.net new.net c.loop.invariant.kept c.in_ok-add_rail.ensures.kept;
      cells = rails_more c.args.code.now words (c.rows_of_cells_join.ensures.rails_join c.args.code.now words) old.net mid.net new.net (map net_number old.cells.items) (map net_number mid.cells.items) (map net_number new.cells.items) c.loop.counter
          c.loop.invariant.cells c.in_ok-add_rail.ensures.kept c.in_ok-add_rail.ensures.cell;
      few = omega arith;
    }
