use Rattle.std.proofs.Common.{◌≡◌, sym, ◌∙◌, ap, List, map}
use Rattle.encode_state.specs.Types.{words_in}
use Rattle.gate_net.specs.declared.machine.LatchRow.{LatchRow}
use Rattle.gate_net.specs.Gate.{net_number}
use Rattle.gate_net.specs.Machine.{latch_row}
use Rattle.guard_spec.specs.Words.{Layout}
use Rattle.guard_net.specs.Built.{stores_of}
use Rattle.guard_net.proofs.GuardParts.{latches_made}
use Rattle.guard_net.proofs.LatchRows.{rows_store}
use Rattle.guard_net.proofs.parts.add_latches.Goals as goal

pub add_state-requires-clause-stores : goal.add_state-requires-clause-stores
add_state-requires-clause-stores c =
    ap (map net_number) (c.deref-2.ensures.value ∙ (c.in_ok-stores.ensures ∙ ap (λ (rows : List LatchRow). map (λ (r : LatchRow). r.d) rows) c.deref.ensures.value))
    ∙ (sym (rows_store c.m.inside.latches.items) ∙ ap stores_of c.m.view_is)

pub returns : goal.returns
returns c =
    let l = c.args.l.now in
    let words = words_in c.deref-3.result.now in
    let same : words ≡ l.state = ap words_in c.deref-3.ensures.value ∙ ap (λ (k : Layout). k.state) c.l.view_is in
    latches_made c.args.m.now c.args.code.now l words (map net_number c.args.leaf.now) c.args.s.now.net c.add_state.new.s.net (map net_number c.args.s.now.cells.items) (map net_number c.add_state.new.s.cells.items)
    (map latch_row c.in_ok-rows.rows.items) same (ap (map net_number) c.requires.first) (c.in_ok-rows.ensures.stores ∙ ap (map net_number) c.deref-4.ensures.value) c.in_ok-rows.ensures.inits c.in_ok-add_state.ensures
