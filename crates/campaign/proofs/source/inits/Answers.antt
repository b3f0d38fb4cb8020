use Rattle.std.proofs.Common.{◌≡◌, sym, ◌∙◌, ap, List, map, take, length, arith}
use Rattle.std.proofs.lemmas.Simd.{map-map}
use Rattle.std.proofs.Math.Seq.{take-length}
use Rattle.gate_net.specs.declared.machine.LatchRow.{LatchRow}
use Rattle.gate_net.specs.Machine.{latch_row}
use Rattle.netlist_spec.specs.Gates.{Machine}
use Rattle.campaign.proofs.source.inits.Goals as goal

pub returns : goal.returns
returns c =
    let items = c.deref-latch-items.result.now in
    let last = c.loop-latch.auto.latch-index-end in
    let done = c.loop-latch-test.false in
    let end : c.loop-latch.latch-index ≡ length items = omega arith in
    c.loop-latch.invariant
    ∙ (ap (λ n. map (λ (r : LatchRow). r.init) (take n items)) end
    ∙ (ap (λ (ls : List LatchRow). map (λ (r : LatchRow). r.init) ls) (take-length items ∙ c.deref-latch-items.ensures.value)
    ∙ (sym (map-map (λ l. l.init) latch_row c.source.inside.latches.items) ∙ ap (λ (n : Machine). map (λ l. l.init) n.latches) c.source.view_is)))
