use Rattle.std.proofs.Common.{◌+◌, ◌<◌, ◌∙◌, refl, sym, ap, map, length, arith, rules, append-nil, ◌≡◌}
use Rattle.gate_net.specs.declared.machine.LatchRow.{LatchRow}
use Rattle.gate_net.specs.declared.gate.NetId.{NetId}
use Rattle.std.proofs.Common.{List, ◌++◌}
use Rattle.guard_net.proofs.Lists.{none_of}
use Rattle.guard_net.proofs.LatchRows.{row_pushed}
use Rattle.guard_net.proofs.rows.push_rows.Goals as goal

pub loop-i-init : goal.loop-i-init
loop-i-init c =
    let first = c.args.rows.now.items in
    record {
      are_stores = sym (ap (λ (xs : List NetId). map (λ (r : LatchRow). r.d) first ++ xs) (none_of c.args.cells.now (length first)) ∙ append-nil (map (λ (r : LatchRow). r.d) first));
      are_starts = sym (append-nil (map (λ (r : LatchRow). r.init) first));
      size = omega arith;
    }

pub loop-i-preserved : goal.loop-i-preserved
loop-i-preserved c =
    let first = c.args.rows.now.items in
    let room : length first + c.loop-i.i < length c.args.cells.now = let t = c.loop-i-test.true in omega (arith, c.requires.cells) in
    row_pushed c.args.cells.now c.args.bits first c.loop-i.rows.items c.push.new.self.items c.loop-i.i c.len.result _ (record { 0 = 0 }) c.has_bit-init.result room c.loop-i.invariant (let e : c.len.result ≡ length c.loop-i.rows.items = search rules in e) refl c.has_bit-init.ensures c.in_ok-push.ensures.items
