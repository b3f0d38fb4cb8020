use Rattle.std.proofs.Common.{◌≡◌, ◌+◌, ◌*◌, ◌^◌, ◌<◌, ◌≤◌, sym, ◌∙◌, ap, subst, ℕ, List, Vec, Global, All, length, map, arith}
use Rattle.std.specs.List.{AllByRecursion, flat_map}
use Rattle.std.proofs.lemmas.List.{length-map}
use Rattle.netlist_spec.specs.Gates.{Machine}
use Rattle.alarm_rails.specs.Rail.{FitsCode, rail_cells}
use Rattle.encode_state.specs.Types.{words_in}
use Rattle.gate_net.specs.Gate.{net_number}
use Rattle.gate_net.specs.GateNet.{net_count}
use Rattle.gate_net.specs.Words.{WordNets, nets_of, word_nets}
use Rattle.guard_spec.specs.Codes.{data_places}
use Rattle.guard_spec.specs.Words.{IsPartition, Layout, Words}
use Rattle.guard_laws.specs.Places.{latches_of_words}
use Rattle.guard_net.specs.Built.{words_to_watch}
use Rattle.guard_net.proofs.Lists.{all_short, all_within}
use Rattle.guard_net.proofs.GuardParts.{behind, longer, rails_made}
use Rattle.guard_net.proofs.WatchedWords.{watched_are, watched_below, watched_cost, watched_fit}
use Rattle.guard_net.proofs.parts.add_alarms.Goals as goal

pub push_state_words-requires-clause-short : goal.push_state_words-requires-clause-short
push_state_words-requires-clause-short c =
    let n = length c.args.m.now.latches in
    let k = data_places c.args.code.now in
    let same : words_in c.deref.result.now ≡ c.args.l.now.state = ap words_in c.deref.ensures.value ∙ ap (λ (l : Layout). l.state) c.l.view_is in
    all_short n k 12 c.deref.result.now c.r-columns.ensures.valid.rows.1 (subst (λ (ws : Words). IsPartition n k ws) (sym same) c.requires.state)

pub push_output_words-requires-clause-short : goal.push_output_words-requires-clause-short
push_output_words-requires-clause-short c =
    let n = length c.args.m.now.outputs in
    let k = data_places c.args.code.now in
    let same : words_in c.deref-3.result.now ≡ c.args.l.now.output = ap words_in c.deref-3.ensures.value ∙ ap (λ (l : Layout). l.output) c.l.view_is in
    all_short n k 12 c.deref-3.result.now c.r-columns.ensures.valid.rows.1 (subst (λ (ws : Words). IsPartition n k ws) (sym same) c.requires.output)

pub push_output_words-requires-clause-within : goal.push_output_words-requires-clause-within
push_output_words-requires-clause-within c =
    let m = c.args.m.now in
    let k = data_places c.args.code.now in
    let vecs = c.deref-3.result.now in
    let same : words_in vecs ≡ c.args.l.now.output = ap words_in c.deref-3.ensures.value ∙ ap (λ (l : Layout). l.output) c.l.view_is in
    let long_outputs : length m.outputs ≡ length c.m.inside.outputs.items = ap (λ (n : Machine). length n.outputs) (sym c.m.view_is) ∙ length-map c.m.inside.outputs.items net_number in
    let filled = c.m.inside.outputs.ok.0 in
    let shown : c.len-shown.result ≡ length m.outputs = omega (arith, c.len-shown.ensures, filled, long_outputs) in
    subst (λ (n : ℕ). All (λ (v : Vec ℕ Global). All (λ i. i < n) v.items) vecs) (sym shown) (all_within (length m.outputs) k vecs (subst (λ (ws : Words). IsPartition (length m.outputs) k ws) (sym same) c.requires.output))

pub add_rails-requires-clause-words : goal.add_rails-requires-clause-words
add_rails-requires-clause-words c =
    let m = c.args.m.now in
    let code = c.args.code.now in
    let l = c.args.l.now in
    let outs = map net_number c.args.outputs.now.items in
    let long_outputs : length m.outputs ≡ length c.m.inside.outputs.items = ap (λ (n : Machine). length n.outputs) (sym c.m.view_is) ∙ length-map c.m.inside.outputs.items net_number in
    let filled = c.m.inside.outputs.ok.0 in
    let shown : c.len-shown.result ≡ length m.outputs = omega (arith, c.len-shown.ensures, filled, long_outputs) in
    let own : map word_nets c.deref-4.result.now ≡ words_to_watch code l m.inputs (length m.outputs) outs
    = watched_are code l m.inputs c.m.inside.inputs (length m.outputs) c.len-shown.result outs (map net_number c.deref-2.result.now) (words_in c.deref.result.now) (words_in c.deref-3.result.now)
    (map word_nets c.new-words.result.items) (map word_nets c.push_state_words.new.watched.items) (map word_nets c.deref-4.result.now)
    (ap (λ (n : Machine). n.inputs) c.m.view_is) shown (ap (map net_number) c.deref-2.ensures.value) (ap words_in c.deref.ensures.value ∙ ap (λ (k : Layout). k.state) c.l.view_is) (ap words_in c.deref-3.ensures.value ∙ ap (λ (k : Layout). k.output) c.l.view_is)
    (ap (map word_nets) c.new-words.ensures.items) c.in_ok-push_state_words.ensures (ap (map word_nets) c.deref-4.ensures.value ∙ c.in_ok-push_output_words.ensures) in
    let long : length outs ≡ length m.outputs + length l.output * code.columns = length-map c.args.outputs.now.items net_number ∙ c.requires.outputs in
    subst (λ (ws : List WordNets). AllByRecursion (FitsCode code) ws) (sym own) (watched_fit code l m.inputs (length m.outputs) outs (length m.latches) c.requires.state c.requires.output long)

pub add_rails-requires-clause-nets : goal.add_rails-requires-clause-nets
add_rails-requires-clause-nets c =
    let m = c.args.m.now in
    let code = c.args.code.now in
    let l = c.args.l.now in
    let outs = map net_number c.args.outputs.now.items in
    let long_outputs : length m.outputs ≡ length c.m.inside.outputs.items = ap (λ (n : Machine). length n.outputs) (sym c.m.view_is) ∙ length-map c.m.inside.outputs.items net_number in
    let filled = c.m.inside.outputs.ok.0 in
    let shown : c.len-shown.result ≡ length m.outputs = omega (arith, c.len-shown.ensures, filled, long_outputs) in
    let own : map word_nets c.deref-4.result.now ≡ words_to_watch code l m.inputs (length m.outputs) outs
    = watched_are code l m.inputs c.m.inside.inputs (length m.outputs) c.len-shown.result outs (map net_number c.deref-2.result.now) (words_in c.deref.result.now) (words_in c.deref-3.result.now)
    (map word_nets c.new-words.result.items) (map word_nets c.push_state_words.new.watched.items) (map word_nets c.deref-4.result.now)
    (ap (λ (n : Machine). n.inputs) c.m.view_is) shown (ap (map net_number) c.deref-2.ensures.value) (ap words_in c.deref.ensures.value ∙ ap (λ (k : Layout). k.state) c.l.view_is) (ap words_in c.deref-3.ensures.value ∙ ap (λ (k : Layout). k.output) c.l.view_is)
    (ap (map word_nets) c.new-words.ensures.items) c.in_ok-push_state_words.ensures (ap (map word_nets) c.deref-4.ensures.value ∙ c.in_ok-push_output_words.ensures) in
    let net = c.args.s.now.net in
    let long : length outs ≡ length m.outputs + length l.output * code.columns = length-map c.args.outputs.now.items net_number ∙ c.requires.outputs in
    let leaves : m.inputs + latches_of_words code l.state ≤ net_count net = let e = c.requires.leaves in omega (arith, e) in
    subst (λ (ws : List WordNets). AllByRecursion (λ k. k < net_count net) (flat_map nets_of ws)) (sym own) (watched_below code l m.inputs (length m.outputs) outs (net_count net) leaves c.requires.output long c.requires.below)

pub add_rails-requires-clause-room : goal.add_rails-requires-clause-room
add_rails-requires-clause-room c =
    let m = c.args.m.now in
    let code = c.args.code.now in
    let l = c.args.l.now in
    let outs = map net_number c.args.outputs.now.items in
    let long_outputs : length m.outputs ≡ length c.m.inside.outputs.items = ap (λ (n : Machine). length n.outputs) (sym c.m.view_is) ∙ length-map c.m.inside.outputs.items net_number in
    let filled = c.m.inside.outputs.ok.0 in
    let shown : c.len-shown.result ≡ length m.outputs = omega (arith, c.len-shown.ensures, filled, long_outputs) in
    let own : map word_nets c.deref-4.result.now ≡ words_to_watch code l m.inputs (length m.outputs) outs
    = watched_are code l m.inputs c.m.inside.inputs (length m.outputs) c.len-shown.result outs (map net_number c.deref-2.result.now) (words_in c.deref.result.now) (words_in c.deref-3.result.now)
    (map word_nets c.new-words.result.items) (map word_nets c.push_state_words.new.watched.items) (map word_nets c.deref-4.result.now)
    (ap (λ (n : Machine). n.inputs) c.m.view_is) shown (ap (map net_number) c.deref-2.ensures.value) (ap words_in c.deref.ensures.value ∙ ap (λ (k : Layout). k.state) c.l.view_is) (ap words_in c.deref-3.ensures.value ∙ ap (λ (k : Layout). k.output) c.l.view_is)
    (ap (map word_nets) c.new-words.ensures.items) c.in_ok-push_state_words.ensures (ap (map word_nets) c.deref-4.ensures.value ∙ c.in_ok-push_output_words.ensures) in
    subst (λ (k : ℕ). net_count c.args.s.now.net + c.args.count * k ≤ 2 ^ 23) (sym (ap (rail_cells code) own ∙ watched_cost code l m.inputs (length m.outputs) outs)) c.requires.room

pub append_behind-requires : goal.append_behind-requires
append_behind-requires c =
    let cells = c.args.s.now.cells in
    let filled = cells.ok.0 in
    let rails = c.in_ok-add_rails.ensures.cells in
    longer cells.items c.deref-5.result.now rails.0 c.len-first.result (omega (arith, c.len-first.ensures, filled)) (ap (map net_number) c.deref-5.ensures.value ∙ rails.2)

pub returns : goal.returns
returns c =
    let m = c.args.m.now in
    let code = c.args.code.now in
    let l = c.args.l.now in
    let outs = map net_number c.args.outputs.now.items in
    let long_outputs : length m.outputs ≡ length c.m.inside.outputs.items = ap (λ (n : Machine). length n.outputs) (sym c.m.view_is) ∙ length-map c.m.inside.outputs.items net_number in
    let filled = c.m.inside.outputs.ok.0 in
    let shown : c.len-shown.result ≡ length m.outputs = omega (arith, c.len-shown.ensures, filled, long_outputs) in
    let own : map word_nets c.deref-4.result.now ≡ words_to_watch code l m.inputs (length m.outputs) outs
    = watched_are code l m.inputs c.m.inside.inputs (length m.outputs) c.len-shown.result outs (map net_number c.deref-2.result.now) (words_in c.deref.result.now) (words_in c.deref-3.result.now)
    (map word_nets c.new-words.result.items) (map word_nets c.push_state_words.new.watched.items) (map word_nets c.deref-4.result.now)
    (ap (λ (n : Machine). n.inputs) c.m.view_is) shown (ap (map net_number) c.deref-2.ensures.value) (ap words_in c.deref.ensures.value ∙ ap (λ (k : Layout). k.state) c.l.view_is) (ap words_in c.deref-3.ensures.value ∙ ap (λ (k : Layout). k.output) c.l.view_is)
    (ap (map word_nets) c.new-words.ensures.items) c.in_ok-push_state_words.ensures (ap (map word_nets) c.deref-4.ensures.value ∙ c.in_ok-push_output_words.ensures) in
    let rails = c.in_ok-add_rails.ensures in
    let cells = c.args.s.now.cells in
    let before = map net_number cells.items in
    let filled_cells = cells.ok.0 in
    let at : c.len-first.result ≡ length before = let long = length-map cells.items net_number in omega (arith, c.len-first.ensures, filled_cells, long) in
    rails_made code (words_to_watch code l m.inputs (length m.outputs) outs) (map word_nets c.deref-4.result.now) c.args.count c.args.s.now.net c.add_rails.new.s.net outs (map net_number c.append_behind.new.outputs.items) rails.cells.0 own
    rails.kept rails.cells.1 (behind c.args.outputs.now.items c.append_behind.new.outputs.items c.deref-5.result.now c.len-first.result before rails.cells.0 c.in_ok-append_behind.ensures at (ap (map net_number) c.deref-5.ensures.value ∙ rails.cells.2))
    rails.cells.3 rails.few
