use Rattle.std.proofs.Common.{◌∙◌, ap, ◌<◌, ◌++◌, ◌∷◌, [], length, arith}
use Rattle.std.proofs.lemmas.List.{length-map}
use Rattle.net_cycles.proofs.ReverseLemmas.{list_set, list_at}
use Rattle.net_cycles.proofs.reverse.Starts.push.Goals as goal

pub returns : goal.returns
returns c =
    let inside : c.args.end < length c.self.inside.lists.items = omega (arith, c.requires, ap length c.self.view_is, length-map c.self.inside.lists.items (λ v. v.items)) in
    list_set (λ v. v.items) c.self.inside.lists.items c.args.self.now c.args.end c.push.new.self _ c.self.view_is
    (c.in_ok-push.ensures.items ∙ ap (λ l. l ++ c.args.node ∷ []) (list_at (λ v. v.items) c.self.inside.lists.items c.args.self.now c.args.end c.index_mut.result.now c.self.view_is inside c.index_mut.ensures.value))
