use Rattle.std.proofs.Common.{◌≡◌, ◌+◌, ◌<◌, ◌≤◌, ◌++◌, sym, ◌∙◌, ap, subst, arith, ℕ, List, Bool, length, map, length-append}
use Rattle.std.specs.List.{AllByRecursion, range_with_len}
use Rattle.std.proofs.lemmas.List.{length-map}
use Rattle.std.proofs.lemmas.List.FromFn.{length-range_with_len}
use Rattle.netlist_spec.proofs.OneValue.{All_append}
use Rattle.netlist_spec.specs.Cones.{marked_sum}
use Rattle.netlist_spec.specs.Gates.{GateList, Machine}
use Rattle.encode_state.specs.Types.{words_in}
use Rattle.gate_net.specs.declared.gate.NetId.{NetId}
use Rattle.gate_net.specs.Gate.{net_number}
use Rattle.gate_net.specs.GateNet.{net_count}
use Rattle.gate_net.specs.Machine.{latch_row}
use Rattle.guard_spec.specs.Codes.{data_places}
use Rattle.guard_spec.specs.Plain.{corrector_cost}
use Rattle.guard_spec.specs.Words.{IsPartition, Layout, Words}
use Rattle.guard_laws.specs.Places.{latches_of_words}
use Rattle.cone_split.specs.Whole.{IsCopyOfAll}
use Rattle.correction_laws.specs.Room.{AreNeeded}
use Rattle.joined_net.specs.Marks.{AreNeededNets}
use Rattle.joined_net.proofs.CorrectedWords.{run_below}
use Rattle.joined_net.proofs.JoinedRoom.{costs_covered, is_marked, leaves_are, leaves_few, needed_correctors, needed_cost, needed_sum, needed_words, ready}
use Rattle.guard_net.proofs.Lists.{keeps_leaves}
use Rattle.joined_net.proofs.join.Goals as goal

pub new-requires : goal.new-requires
new-requires c =
    let m = c.args.m.now in
    let leaves : c.leaf_count-leaves.result ≡ m.inputs + latches_of_words c.args.c.now c.args.l.now.state
    = leaves_are m c.args.c.now c.args.l.now c.m.inside.inputs c.from.result c.leaf_count-leaves.result (words_in c.deref.result.now) (ap (λ (n : Machine). n.inputs) c.m.view_is) (c.from.ensures ∙ c.r.ensures.columns) (ap words_in c.deref.ensures.value ∙ ap (λ (l : Layout). l.state) c.l.view_is) c.leaf_count-leaves.ensures in
    let few = leaves_few m c.args.c.now c.args.t c.requires.size.0 c.args.l.now c.requires.size.1 in
    omega (arith, leaves, few, c.requires.size.2, c.requires.inputs)

pub correct_state-requires-clause-room : goal.correct_state-requires-clause-room
correct_state-requires-clause-room c =
    let m = c.args.m.now in
    let code = c.args.c.now in
    let l = c.args.l.now in
    let t = c.args.t in
    let n = c.requires.size.0 in
    let marks = c.deref-2.result.now in
    let leaves : c.leaf_count-leaves.result ≡ m.inputs + latches_of_words code l.state
    = leaves_are m code l c.m.inside.inputs c.from.result c.leaf_count-leaves.result (words_in c.deref.result.now) (ap (λ (n : Machine). n.inputs) c.m.view_is) (c.from.ensures ∙ c.r.ensures.columns) (ap words_in c.deref.ensures.value ∙ ap (λ (l : Layout). l.state) c.l.view_is) c.leaf_count-leaves.ensures in
    let few = leaves_few m code t n l c.requires.size.1 in
    let are : AreNeededNets m marks = subst (λ (bs : List Bool). AreNeededNets m bs) (sym c.deref-2.ensures.value) c.in_ok-marks.ensures in
    let state : IsPartition (length (map (λ r. r.d) m.latches)) (data_places code) l.state = subst (λ (k : ℕ). IsPartition k (data_places code) l.state) (sym (length-map m.latches (λ r. r.d))) c.requires.state in
    let most = c.needed_correctors_have_room.ensures.needed m code t l 0 (data_places code) (data_places code) n state c.requires.output c.requires.size.1 (map (is_marked marks m.inputs) l.state) (needed_words m marks l.state are) in
    let sum = needed_sum m code t n marks l.state most in
    let count : net_count c.in_ok-net.net ≡ c.leaf_count-leaves.result + 0 = ap net_count c.in_ok-net.ensures in
    (needed_cost code t m.inputs marks, costs_covered code t m.inputs marks, omega (arith, leaves, few, sum, count, c.requires.size.2, c.requires.inputs))

pub copy_all-requires-clause-leaves : goal.copy_all-requires-clause-leaves
copy_all-requires-clause-leaves c =
    let nets : map net_number c.deref-4.result.now ≡ range_with_len 0 c.m.inside.inputs ++ map net_number c.in_ok-nets.nets.items
    = ap (map net_number) c.deref-4.ensures.value ∙ c.in_ok-leaf.ensures ∙ ap (λ (ns : List NetId). range_with_len 0 c.m.inside.inputs ++ map net_number ns) c.deref-3.ensures.value in
    let long : length (map net_number c.deref-4.result.now) ≡ length (range_with_len 0 c.m.inside.inputs) + length (map net_number c.in_ok-nets.nets.items) = ap length nets ∙ length-append (range_with_len 0 c.m.inside.inputs) (map net_number c.in_ok-nets.nets.items) in
    let a = length-range_with_len 0 c.m.inside.inputs in
    let b = c.in_ok-nets.ensures.gained.corrected.count in
    let d = c.m.invariant.leaves in
    let e : length c.args.m.now.latches ≡ length (map latch_row c.m.inside.latches.items) = ap (λ (n : Machine). length n.latches) (sym c.m.view_is) in
    let f = length-map c.deref-4.result.now net_number in
    omega (arith, long, a, b, d, e, f)

pub copy_all-requires-clause-leaf : goal.copy_all-requires-clause-leaf
copy_all-requires-clause-leaf c =
    let net = c.correct_state.new.net in
    let nets : map net_number c.deref-4.result.now ≡ range_with_len 0 c.m.inside.inputs ++ map net_number c.in_ok-nets.nets.items
    = ap (map net_number) c.deref-4.ensures.value ∙ c.in_ok-leaf.ensures ∙ ap (λ (ns : List NetId). range_with_len 0 c.m.inside.inputs ++ map net_number ns) c.deref-3.ensures.value in
    let leaves = keeps_leaves c.in_ok-net.net net c.in_ok-nets.ensures.kept in
    let first : c.in_ok-net.net.leaves ≡ c.leaf_count-leaves.result = ap (λ (g : GateList). g.leaves) c.in_ok-net.ensures in
    let all = c.leaf_count-leaves.ensures in
    subst (λ (ns : List ℕ). AllByRecursion (λ k. k < net_count net) ns) (sym nets)
    (All_append (λ k. k < net_count net) (range_with_len 0 c.m.inside.inputs) (map net_number c.in_ok-nets.nets.items) (run_below 0 c.m.inside.inputs (net_count net) (omega (arith, leaves, first, all))) c.in_ok-nets.ensures.gained.below)

pub copy_all-requires-clause-room : goal.copy_all-requires-clause-room
copy_all-requires-clause-room c =
    let m = c.args.m.now in
    let code = c.args.c.now in
    let l = c.args.l.now in
    let t = c.args.t in
    let n = c.requires.size.0 in
    let net = c.correct_state.new.net in
    let marks = c.deref-2.result.now in
    let g = c.in_ok-nets.ensures.gained in
    let leaves : c.leaf_count-leaves.result ≡ m.inputs + latches_of_words code l.state
    = leaves_are m code l c.m.inside.inputs c.from.result c.leaf_count-leaves.result (words_in c.deref.result.now) (ap (λ (n : Machine). n.inputs) c.m.view_is) (c.from.ensures ∙ c.r.ensures.columns) (ap words_in c.deref.ensures.value ∙ ap (λ (l : Layout). l.state) c.l.view_is) c.leaf_count-leaves.ensures in
    let few = leaves_few m code t n l c.requires.size.1 in
    let are : AreNeededNets m marks = subst (λ (bs : List Bool). AreNeededNets m bs) (sym c.deref-2.ensures.value) c.in_ok-marks.ensures in
    let state : IsPartition (length (map (λ r. r.d) m.latches)) (data_places code) l.state = subst (λ (k : ℕ). IsPartition k (data_places code) l.state) (sym (length-map m.latches (λ r. r.d))) c.requires.state in
    let needed : AreNeeded m l.state (map (λ d. d.serves) g.correctors) = subst (λ (ws : Words). AreNeeded m ws (map (λ d. d.serves) g.correctors)) g.are_words (needed_correctors m marks g.correctors are g.serves) in
    let most = c.needed_correctors_have_room.ensures.needed m code t l 0 (data_places code) (data_places code) n state c.requires.output c.requires.size.1 (map (λ d. d.serves) g.correctors) needed in
    let row : net_count net ≤ net.leaves + marked_sum (λ w. corrector_cost code t (length w)) l.state (map (λ d. d.serves) g.correctors)
    = subst (λ (ws : Words). net_count net ≤ net.leaves + marked_sum (λ w. corrector_cost code t (length w)) ws (map (λ d. d.serves) g.correctors)) g.are_words (c.needed_correctors_have_room.ensures.row net code t m.inputs net.leaves g.correctors (net_count net) g.row) in
    let kept = keeps_leaves c.in_ok-net.net net c.in_ok-nets.ensures.kept in
    let first : c.in_ok-net.net.leaves ≡ c.leaf_count-leaves.result = ap (λ (h : GateList). h.leaves) c.in_ok-net.ensures in
    let gates : length c.m.inside.net.gates ≡ length m.net.gates = ap (λ (n : Machine). length n.net.gates) c.m.view_is in
    omega (arith, leaves, few, most, row, kept, first, gates, c.requires.size.2, c.requires.inputs, c.requires.gates)

pub returns : goal.returns
returns c =
    let m = c.args.m.now in
    let code = c.args.c.now in
    let l = c.args.l.now in
    let net = c.correct_state.new.net in
    let new = c.copy_all.new.dst in
    let marks = c.deref-2.result.now in
    let nets : map net_number c.deref-4.result.now ≡ range_with_len 0 m.inputs ++ map net_number c.in_ok-nets.nets.items
    = ap (map net_number) c.deref-4.ensures.value ∙ c.in_ok-leaf.ensures ∙ ap (λ (ns : List NetId). range_with_len 0 c.m.inside.inputs ++ map net_number ns) c.deref-3.ensures.value
    ∙ ap (λ (n : Machine). range_with_len 0 n.inputs ++ map net_number c.in_ok-nets.nets.items) c.m.view_is in
    let leaves : c.leaf_count-leaves.result ≡ m.inputs + latches_of_words code l.state
    = leaves_are m code l c.m.inside.inputs c.from.result c.leaf_count-leaves.result (words_in c.deref.result.now) (ap (λ (n : Machine). n.inputs) c.m.view_is) (c.from.ensures ∙ c.r.ensures.columns) (ap words_in c.deref.ensures.value ∙ ap (λ (l : Layout). l.state) c.l.view_is) c.leaf_count-leaves.ensures in
    let are : AreNeededNets m marks = subst (λ (bs : List Bool). AreNeededNets m bs) (sym c.deref-2.ensures.value) c.in_ok-marks.ensures in
    let kept = keeps_leaves c.in_ok-net.net net c.in_ok-nets.ensures.kept in
    let first : c.in_ok-net.net.leaves ≡ c.leaf_count-leaves.result = ap (λ (h : GateList). h.leaves) c.in_ok-net.ensures in
    ready m code l c.args.t marks net new (map net_number c.in_ok-nets.nets.items) (map net_number c.deref-4.result.now) c.len-first.result c.in_ok-nets.ensures.gained c.in_ok-copy_all.ensures.kept
    (kept ∙ first ∙ leaves) c.len-nets.ensures.well_formed.gates are nets
    (subst (λ (n : Machine). IsCopyOfAll n.net (map net_number c.deref-4.result.now) (net_count net) new) c.m.view_is c.in_ok-copy_all.ensures.copy) c.len-first.ensures.count
