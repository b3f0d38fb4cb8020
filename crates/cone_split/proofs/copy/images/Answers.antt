use Rattle.std.proofs.Common.{sym, ◌∙◌, ap, subst, ℕ, List, [], ◌∷◌, ◌++◌, map, take, get_or}
use Rattle.std.specs.List.{AllZip}
use Rattle.std.proofs.lemmas.List.{map_more, map_push}
use Rattle.gate_net.specs.Gate.{net_number}
use Rattle.cone_split.specs.Copies.{IsImage}
use Rattle.cone_split.proofs.Copied.{all_map_at, zip_push}
use Rattle.cone_split.proofs.copy.images.Goals as goal

pub image-requires-clause-net : goal.image-requires-clause-net
image-requires-clause-net c = all_map_at _ net_number c.args.nets.now c.loop-n.n-index (record { 0 = 0 }) c.requires.nets c.loop-n-test.true

pub loop-n-preserved : goal.loop-n-preserved
loop-n-preserved c =
    let nets = c.args.nets.now in
    let i = c.loop-n.n-index in
    let R = IsImage (map net_number c.args.leaf.now) c.args.cells.now c.args.first in
    let left = map_more net_number nets i (record { 0 = 0 }) c.loop-n-test.true in
    let right = ap (map net_number) c.in_ok-push.ensures.items ∙ map_push net_number c.loop-n.found.items c.image.result in
    subst (λ (xs : List ℕ). AllZip R xs (map net_number c.push.new.self.items)) (sym left)
    (subst (λ (ys : List ℕ). AllZip R (map net_number (take i nets) ++ net_number (get_or nets i (record { 0 = 0 })) ∷ []) ys) (sym right)
    (zip_push R _ _ _ _ c.loop-n.invariant c.image.ensures))
