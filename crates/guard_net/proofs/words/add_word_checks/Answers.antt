use Rattle.std.proofs.Common.{◌≡◌, ◌+◌, ◌^◌, ◌<◌, ◌≤◌, sym, ◌∙◌, ap, subst, ℕ, List, map, length}
use Rattle.std.proofs.lemmas.List.Elements.{recursion_from_All}
use Rattle.netlist_spec.specs.Gates.{Machine}
use Rattle.gate_net.specs.Gate.{net_number}
use Rattle.gate_net.specs.GateNet.{net_count}
use Rattle.guard_cells.specs.Cells.{checks_cost, nets_at}
use Rattle.guard_net.proofs.RightCells.{shown_roots_below}
use Rattle.guard_net.proofs.CheckWords.{check_gained}
use Rattle.guard_net.proofs.words.add_word_checks.Goals as goal

pub add_checks-requires-clause-roots : goal.add_checks-requires-clause-roots
add_checks-requires-clause-roots c =
    let m = c.args.m.now in
    let word = c.args.word.now in
    let outputs : map net_number c.deref.result.now ≡ m.outputs = ap (map net_number) c.deref.ensures.value ∙ ap (λ (n : Machine). n.outputs) c.m.view_is in
    let are : map net_number c.as_slice-roots.result.now ≡ nets_at m.outputs word = ap (map net_number) c.as_slice-roots.ensures.value ∙ (c.word_roots-found.ensures ∙ ap (λ (ns : List ℕ). nets_at ns word) outputs) in
    shown_roots_below m word (map net_number c.as_slice-roots.result.now) c.requires.machine c.requires.within are

pub add_checks-requires-clause-room : goal.add_checks-requires-clause-room
add_checks-requires-clause-room c =
    let m = c.args.m.now in
    let word = c.args.word.now in
    let outputs : map net_number c.deref.result.now ≡ m.outputs = ap (map net_number) c.deref.ensures.value ∙ ap (λ (n : Machine). n.outputs) c.m.view_is in
    let are : map net_number c.as_slice-roots.result.now ≡ nets_at m.outputs word = ap (map net_number) c.as_slice-roots.ensures.value ∙ (c.word_roots-found.ensures ∙ ap (λ (ns : List ℕ). nets_at ns word) outputs) in
    let cost = c.requires.room.0 in
    (cost, c.requires.room.1, subst (λ (ns : List ℕ). net_count c.args.s.now.net + checks_cost cost c.args.code.now ns ≤ 2 ^ 23) (sym are) c.requires.room.2)

pub returns : goal.returns
returns c =
    let m = c.args.m.now in
    let code = c.args.code.now in
    let word = c.args.word.now in
    let roots = c.as_slice-roots.result.now in
    let outputs : map net_number c.deref.result.now ≡ m.outputs = ap (map net_number) c.deref.ensures.value ∙ ap (λ (n : Machine). n.outputs) c.m.view_is in
    let are : map net_number roots ≡ nets_at m.outputs word = ap (map net_number) c.as_slice-roots.ensures.value ∙ (c.word_roots-found.ensures ∙ ap (λ (ns : List ℕ). nets_at ns word) outputs) in
    let checks = c.in_ok-add_checks.ensures in
    check_gained m code (λ l. c.words_have_places.ensures m code l c.r-columns.ensures.valid) word (map net_number c.args.leaf.now) (map net_number roots) are (recursion_from_All (λ i. i < length m.outputs) word c.requires.within)
    c.args.s.now.net c.add_checks.new.s.net (map net_number c.args.s.now.cells.items) (map net_number c.add_checks.new.s.cells.items) checks.cells.0 checks.kept checks.cells.1 checks.cells.2 checks.cells.3 checks.few
