use Rattle.std.proofs.Common.{◌≡◌, ap, ◌-◌, ℕ, length, arith}
use Rattle.std.specs.Prelude.{slice_index_or}
use Rattle.gate_net.specs.Gate.{net_number}
use Rattle.guard_names.proofs.Pushed.{labels_moved, still_rising, still_few}
use Rattle.guard_names.proofs.own.push_between.Goals as goal

pub loop-i-preserved : goal.loop-i-preserved
loop-i-preserved c =
    let i = c.loop-i.i in
    let nets = c.args.nets.now in
    let own = c.args.own.now in
    let labels = c.loop-i.labels.items in
    let each = c.requires.each in
    let inside = c.loop-i-test.true in
    let size = c.loop-i.labels.ok.0 in
    let long : c.len.result ≡ length c.loop-i.labels.items = omega (arith, size, c.len.ensures) in
    record {
      labels = labels_moved i c.loop-i.inner _ nets own _ _ labels c.push_inner.new.labels.items c.push.new.self.items inside (omega arith) c.loop-i.invariant.labels c.loop-i.invariant.rising c.loop-i.invariant.few (ap (λ (k : ℕ). net_number (slice_index_or nets i (record { 0 = 0 })) - k) long) c.in_ok-push_inner.ensures c.in_ok-push.ensures.items;
      rising = still_rising i c.loop-i.inner _ nets own _ _ labels c.push_inner.new.labels.items c.push.new.self.items inside (omega arith) c.loop-i.invariant.labels c.loop-i.invariant.rising c.loop-i.invariant.few (ap (λ (k : ℕ). net_number (slice_index_or nets i (record { 0 = 0 })) - k) long) c.in_ok-push_inner.ensures c.in_ok-push.ensures.items;
      few = still_few i c.loop-i.inner _ nets own _ _ labels c.push_inner.new.labels.items c.push.new.self.items inside (omega arith) c.loop-i.invariant.labels c.loop-i.invariant.rising c.loop-i.invariant.few (ap (λ (k : ℕ). net_number (slice_index_or nets i (record { 0 = 0 })) - k) long) c.in_ok-push_inner.ensures c.in_ok-push.ensures.items;
    }
