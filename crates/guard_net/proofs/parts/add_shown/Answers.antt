use Rattle.std.proofs.Common.{◌≡◌, ◌^◌, ◌≤◌, ◌∙◌, ap, map, length, arith}
use Rattle.std.proofs.lemmas.List.{length-map}
use Rattle.encode_state.specs.Types.{words_in}
use Rattle.gate_net.specs.Gate.{net_number}
use Rattle.gate_net.specs.GateNet.{net_count}
use Rattle.guard_spec.specs.Codes.{data_places}
use Rattle.guard_spec.specs.Words.{Layout}
use Rattle.guard_net.proofs.Lists.{below_kept}
use Rattle.guard_net.proofs.GuardParts.{behind, checks_have_room, outputs_have_room, outputs_made}
use Rattle.guard_net.proofs.parts.add_shown.Goals as goal

pub add_outputs-requires-clause-room : goal.add_outputs-requires-clause-room
add_outputs-requires-clause-room c =
    let cost = c.requires.room.0 in
    (cost, c.requires.room.1, outputs_have_room cost c.args.m.now.outputs c.args.code.now (data_places c.args.code.now) c.args.l.now.output (net_count c.args.s.now.net) (2 ^ 23) c.requires.words c.requires.room.2)

pub add_output_checks-requires-clause-leaf : goal.add_output_checks-requires-clause-leaf
add_output_checks-requires-clause-leaf c = below_kept c.args.s.now.net c.add_outputs.new.s.net (map net_number c.args.leaf.now) c.in_ok-outputs.ensures.kept c.requires.leaf

pub add_output_checks-requires-clause-room : goal.add_output_checks-requires-clause-room
add_output_checks-requires-clause-room c =
    let m = c.args.m.now in
    let code = c.args.code.now in
    let l = c.args.l.now in
    let same : words_in c.deref.result.now ≡ l.output = ap words_in c.deref.ensures.value ∙ ap (λ (k : Layout). k.output) c.l.view_is in
    let cost = c.requires.room.0 in
    let gives = c.requires.room.1 in
    (cost, gives, checks_have_room cost m.outputs code (data_places code) l.output (words_in c.deref.result.now) (net_count c.args.s.now.net) (net_count c.add_outputs.new.s.net) (2 ^ 23) same c.requires.words (c.in_ok-outputs.ensures.few cost gives) c.requires.room.2)

pub returns : goal.returns
returns c =
    let l = c.args.l.now in
    let old = c.args.s.now.net in
    let gains = c.in_ok-add_output_checks.ensures in
    let same : words_in c.deref.result.now ≡ l.output = ap words_in c.deref.ensures.value ∙ ap (λ (k : Layout). k.output) c.l.view_is in
    let cells = c.add_outputs.new.s.cells in
    let before = map net_number cells.items in
    let filled = cells.ok.0 in
    let at : c.len-first.result ≡ length before = let long = length-map cells.items net_number in omega (arith, c.len-first.ensures, filled, long) in
    let leaves : old.leaves ≤ net_count old = omega arith in
    let outputs = c.append_behind.new.outputs.items in
    outputs_made c.rows_of_cells_join.ensures.join c.args.source.now c.args.m.now c.args.code.now l (words_in c.deref.result.now) (map net_number c.args.leaf.now) old c.add_outputs.new.s.net c.add_output_checks.new.s.net
    (map net_number c.in_ok-outputs.outputs.items) (map net_number outputs) before (map net_number c.add_output_checks.new.s.cells.items) c.r-columns.ensures.valid same c.requires.words leaves gains c.in_ok-outputs.ensures
    (behind c.in_ok-outputs.outputs.items outputs c.deref-2.result.now c.len-first.result before gains.nets c.in_ok-append_behind.ensures at (ap (map net_number) c.deref-2.ensures.value ∙ gains.cells))
