use Rattle.std.proofs.Common.{◌≡◌, ◌+◌, ◌<◌, ◌≤◌, ◌++◌, ◌∷◌, [], sym, ◌∙◌, ap, map, take, length, get_or, arith, List, ℕ, Vec, Global}
use Rattle.std.specs.Prelude.{if◌then◌else◌}
use Rattle.std.proofs.lemmas.Bool.{lt-ltb, le-ltb}
use Rattle.std.proofs.lemmas.List.{append_assoc, append-nil, map-append, map_more, take_more, length-map, length-take-le}
use Rattle.imp_text.specs.declared.names.NameId.{NameId}
use Rattle.gate_net.specs.declared.gate.NetId.{NetId}
use Rattle.gate_net.specs.Gate.{net_number}
use Rattle.named_netlist.specs.declared.label.Label.{Label}
use Rattle.named_netlist.specs.declared.label.Label.TheVariants.{Given}
use Rattle.elaborated.specs.Flat.{at_gates}
use Rattle.elaborated.proofs.Cells.{at_gates-push}
use Rattle.elaborated.proofs.named.push_outputs.Goals as goal
use Rattle.elaborated.proofs.named.push_outputs.Goals.{then-leaves-nets+in_ok-push, else-leaves-nets}

-- the names so far, and one more
further : (leaves : ℕ) (names : List NameId) (nets : List NetId) (i : ℕ) (d : NameId) (e : NetId) → length nets ≡ length names → i < length names
    → at_gates leaves (take (i + 1) names) (map net_number (take (i + 1) nets)) ≡ at_gates leaves (take i names) (map net_number (take i nets)) ++ at_gates leaves (get_or names i d ∷ []) (net_number (get_or nets i e) ∷ [])
further leaves names nets i d e long inside =
    let a = length-take-le i names (omega arith) in
    let b = length-take-le i nets (omega arith) in
    let c = length-map (take i nets) net_number in
    ap (λ l. at_gates leaves l (map net_number (take (i + 1) nets))) (take_more names i d inside) ∙ ap (λ l. at_gates leaves (take i names ++ get_or names i d ∷ []) l) (map_more net_number nets i e (omega arith))
    ∙ at_gates-push leaves (take i names) (map net_number (take i nets)) (get_or names i d) (net_number (get_or nets i e)) (omega arith)

cell : (leaves n : ℕ) (name : NameId) → leaves ≤ n → at_gates leaves (name ∷ []) (n ∷ []) ≡ name ∷ []
cell leaves n name h = ap (λ b. if b then [] else name ∷ []) (le-ltb n leaves h)

no_cell : (leaves n : ℕ) (name : NameId) → n < leaves → at_gates leaves (name ∷ []) (n ∷ []) ≡ []
no_cell leaves n name h = ap (λ b. if b then [] else name ∷ []) (lt-ltb n leaves h)

with_cell : (before labels more : List Label) (ids all : List NameId) (name : NameId) → labels ≡ before ++ map (λ k. Given k) ids → more ≡ labels ++ Given name ∷ [] → all ≡ ids ++ name ∷ [] → more ≡ before ++ map (λ k. Given k) all
with_cell before labels more ids all name are pushed is =
    pushed ∙ ap (λ l. l ++ Given name ∷ []) are ∙ append_assoc before (map (λ k. Given k) ids) (Given name ∷ [])
    ∙ ap (λ l. before ++ l) (sym (map-append (λ k. Given k) ids (name ∷ [])) ∙ ap (map (λ k. Given k)) (sym is))

without_cell : (before labels : List Label) (ids all : List NameId) → labels ≡ before ++ map (λ k. Given k) ids → all ≡ ids ++ [] → labels ≡ before ++ map (λ k. Given k) all
without_cell before labels ids all are is = are ∙ ap (λ (l : List NameId). before ++ map (λ k. Given k) l) (sym (is ∙ append-nil ids))

pub loop-i-preserved : goal.loop-i-preserved
loop-i-preserved c =
    let i = c.loop-i.i in
    let names = c.args.names.now in
    let nets = c.args.nets.now in
    let ids = at_gates c.args.leaves (take i names) (map net_number (take i nets)) in
    let all = at_gates c.args.leaves (take (i + 1) names) (map net_number (take (i + 1) nets)) in
    let name : NameId = get_or names i (record { 0 = 0 }) in
    let net : NetId = get_or nets i (record { 0 = 0 }) in
    let more = further c.args.leaves names nets i (record { 0 = 0 }) (record { 0 = 0 }) c.requires c.loop-i-test.true in
    elim c.if-leaves-nets.branch [
      | then-leaves-nets+in_ok-push w ↦
          with_cell c.args.labels.now.items c.loop-i.labels.items c.if-leaves-nets.labels.items ids all name c.loop-i.invariant (ap (λ (v : Vec Label Global). v.items) w.labels-is ∙ w.in_ok-push.ensures.items)
          (more ∙ ap (λ (l : List NameId). ids ++ l) (cell c.args.leaves (net_number net) name w.if-leaves-nets.true))
      | else-leaves-nets w ↦
          ap (λ (v : Vec Label Global). v.items) w.labels-is
          ∙ without_cell c.args.labels.now.items c.loop-i.labels.items ids all c.loop-i.invariant (more ∙ ap (λ (l : List NameId). ids ++ l) (no_cell c.args.leaves (net_number net) name w.if-leaves-nets.false))
    ]
