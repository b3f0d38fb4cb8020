use Rattle.std.proofs.Common.{◌≡◌, ◌^◌, sym, ◌∙◌, ap, ℕ, List, map}
use Rattle.std.proofs.lemmas.List.{length-map}
use Rattle.gate_net.specs.Gate.{net_number}
use Rattle.gate_net.specs.GateNet.{net_count}
use Rattle.guard_cells.specs.Cells.{nets_at}
use Rattle.guard_net.specs.Built.{stores_of}
use Rattle.guard_net.proofs.Lists.{below_kept}
use Rattle.guard_net.proofs.RightCells.{checks_have_room, roots_below, within_stores}
use Rattle.guard_net.proofs.StateWords.{word_gained}
use Rattle.guard_net.proofs.words.add_state_word.Goals as goal

pub add_copies-requires-clause-roots : goal.add_copies-requires-clause-roots
add_copies-requires-clause-roots c =
    let m = c.args.m.now in
    let word = c.args.word.now in
    let are : map net_number c.as_slice-roots.result.now ≡ nets_at (stores_of m) word = ap (map net_number) c.as_slice-roots.ensures.value ∙ (c.word_roots-found.ensures ∙ ap (λ (ns : List ℕ). nets_at ns word) c.requires.stores) in
    roots_below m word (map net_number c.as_slice-roots.result.now) c.requires.machine c.requires.within are

pub add_checks-requires-clause-roots : goal.add_checks-requires-clause-roots
add_checks-requires-clause-roots c =
    let m = c.args.m.now in
    let word = c.args.word.now in
    let are : map net_number c.as_slice-roots.result.now ≡ nets_at (stores_of m) word = ap (map net_number) c.as_slice-roots.ensures.value ∙ (c.word_roots-found.ensures ∙ ap (λ (ns : List ℕ). nets_at ns word) c.requires.stores) in
    roots_below m word (map net_number c.as_slice-roots.result.now) c.requires.machine c.requires.within are

pub add_checks-requires-clause-leaf : goal.add_checks-requires-clause-leaf
add_checks-requires-clause-leaf c = below_kept c.args.s.now.net c.add_copies.new.s.net (map net_number c.args.leaf.now) c.in_ok-add_copies.ensures.kept c.requires.leaf

pub add_checks-requires-clause-room : goal.add_checks-requires-clause-room
add_checks-requires-clause-room c =
    let m = c.args.m.now in
    let word = c.args.word.now in
    let are : map net_number c.as_slice-roots.result.now ≡ nets_at (stores_of m) word = ap (map net_number) c.as_slice-roots.ensures.value ∙ (c.word_roots-found.ensures ∙ ap (λ (ns : List ℕ). nets_at ns word) c.requires.stores) in
    let cost = c.requires.room.0 in
    let gives = c.requires.room.1 in
    (cost, gives, checks_have_room c.args.code.now cost (map net_number c.as_slice-roots.result.now) (nets_at (stores_of m) word) (net_count c.args.s.now.net) (net_count c.add_copies.new.s.net) (2 ^ 23) are (c.in_ok-add_copies.ensures.few cost gives) c.requires.room.2)

pub returns : goal.returns
returns c =
    let m = c.args.m.now in
    let code = c.args.code.now in
    let word = c.args.word.now in
    let roots = c.as_slice-roots.result.now in
    let are : map net_number roots ≡ nets_at (stores_of m) word = ap (map net_number) c.as_slice-roots.ensures.value ∙ (c.word_roots-found.ensures ∙ ap (λ (ns : List ℕ). nets_at ns word) c.requires.stores) in
    let copies = c.in_ok-add_copies.ensures in
    let checks = c.in_ok-add_checks.ensures in
    word_gained c.rows_of_cells_join.ensures.join m code (λ l. c.words_have_places.ensures m code l c.r-columns.ensures.valid) word (map net_number c.args.leaf.now) (map net_number roots) are (within_stores m word c.requires.within)
    c.args.s.now.net c.add_copies.new.s.net c.add_checks.new.s.net (map net_number c.args.s.now.cells.items) (map net_number c.add_copies.new.s.cells.items) (map net_number c.add_checks.new.s.cells.items) copies.cells.0 checks.cells.0
    copies.kept (copies.cells.1 ∙ sym (length-map roots net_number)) copies.cells.2 copies.cells.3 copies.few checks.kept checks.cells.1 checks.cells.2 checks.cells.3 checks.few
