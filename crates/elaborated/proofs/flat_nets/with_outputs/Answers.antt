use Rattle.std.proofs.Common.{◌≡◌, ◌+◌, ◌++◌, ◌∷◌, [], sym, ◌∙◌, ap, length, map, take, arith, List, ℕ, zero, suc, ◌<◌, ◌≤◌, subst, get_or}
use Rattle.std.proofs.lemmas.List.{map_more, map-append, length-map, length-take-le}
use Rattle.std.specs.List.{AllByRecursion}
use Rattle.netlist_spec.specs.Gates.{GateList}
use Rattle.gate_net.specs.declared.gate.NetId.{NetId}
use Rattle.gate_net.specs.Gate.{net_number}
use Rattle.gate_net.specs.GateNet.{net_count}
use Rattle.elaborated.specs.Flat.{AreFlatNets}
use Rattle.elaborated.proofs.Cells.{counted_nets, flat_nets-push}
use Rattle.elaborated.proofs.flat_nets.with_outputs.Goals as goal

net_at : (bound : ℕ) (ends : List NetId) (i : ℕ) (d : NetId) → AllByRecursion (λ n. n < bound) (map net_number ends) → i < length ends → net_number (get_or ends i d) < bound
net_at bound [] i d h inside = absurd (omega arith)
net_at bound (n ∷ ends) zero d h inside = h.0
net_at bound (n ∷ ends) (suc i) d h inside = net_at bound ends i d h.1 (omega arith)

so_far : (base net : GateList) (ends : List NetId) (i : ℕ) (outputs : List ℕ) → i < length ends → AreFlatNets base (map net_number (take i ends)) net outputs → (net_count base ≤ net_count net) × (net_count net ≤ net_count base + i)
so_far base net ends i outputs inside are =
    let counted = counted_nets base (map net_number (take i ends)) net outputs are in
    let long = length-take-le i ends (omega arith) in
    let same = length-map (take i ends) net_number in
    (counted.0, omega arith)

pushed : (base : GateList) (ends : List NetId) (i : ℕ) (n : NetId) (new : GateList) (outputs more : List NetId) (cell : NetId) → map net_number (take (i + 1) ends) ≡ map net_number (take i ends) ++ net_number n ∷ [] → more ≡ outputs ++ cell ∷ []
    → AreFlatNets base (map net_number (take i ends) ++ net_number n ∷ []) new (map net_number outputs ++ net_number cell ∷ []) → AreFlatNets base (map net_number (take (i + 1) ends)) new (map net_number more)
pushed base ends i n new outputs more cell here last are =
    subst (λ (l : List ℕ). AreFlatNets base l new (map net_number more)) (sym here)
    (subst (λ (l : List ℕ). AreFlatNets base (map net_number (take i ends) ++ net_number n ∷ []) new l) (sym (ap (map net_number) last ∙ map-append net_number outputs (cell ∷ []))) are)

pub output_cell-requires-clause-net : goal.output_cell-requires-clause-net
output_cell-requires-clause-net c =
    let i = c.loop-n.n-index in
    let ends = c.args.ends.now in
    let room = so_far c.args.net c.loop-n.net ends i (map net_number c.loop-n.outputs.items) (omega arith) c.loop-n.invariant in
    let here = net_at (net_count c.args.net) ends i (record { 0 = 0 }) c.requires.nets (omega arith) in
    omega (arith, room.0, here)

pub output_cell-requires-clause-room : goal.output_cell-requires-clause-room
output_cell-requires-clause-room c =
    let i = c.loop-n.n-index in
    let ends = c.args.ends.now in
    let room = so_far c.args.net c.loop-n.net ends i (map net_number c.loop-n.outputs.items) (omega arith) c.loop-n.invariant in
    omega (arith, room.1, c.requires.room)

pub loop-n-preserved : goal.loop-n-preserved
loop-n-preserved c =
    let i = c.loop-n.n-index in
    let ends = c.args.ends.now in
    let n : NetId = get_or ends i (record { 0 = 0 }) in
    let more = flat_nets-push c.args.net (map net_number (take i ends)) c.loop-n.net c.output_cell.new.net (map net_number c.loop-n.outputs.items) (net_number n) (net_number c.in_ok-cell.cell) c.loop-n.invariant c.in_ok-cell.ensures.net c.in_ok-cell.ensures.cell in
    pushed c.args.net ends i n c.output_cell.new.net c.loop-n.outputs.items c.push.new.self.items c.in_ok-cell.cell (map_more net_number ends i (record { 0 = 0 }) (omega arith)) c.in_ok-push.ensures.items more
