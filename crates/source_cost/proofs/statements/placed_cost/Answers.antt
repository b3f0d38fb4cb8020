use Rattle.std.proofs.Common.{◌≡◌, ◌∙◌, sym, ap, subst, ◌<◌, ℕ, List, length, map, get_or}
use Rattle.std.proofs.lemmas.List.{length-map}
use Rattle.netlist_spec.specs.Size.{cost_to_depth, placed_cost}
use Rattle.linear_layer.specs.Named.{named_linear_of}
use Rattle.source_nets.specs.declared.types.Meaning.{Meaning}
use Rattle.source_nets.specs.Ports.{source_file, source_library}
use Rattle.source_nets.specs.Survey.{IsMeaningIn, placed_at}
use Rattle.source_cost.specs.Costs.{cut}
use Rattle.source_cost.proofs.CostLemmas.{linear_at}
use Rattle.source_cost.proofs.statements.placed_cost.Goals as goal

pub returns-in-Linear : goal.returns-in-Linear
returns-in-Linear c = λ binds e.
    let F = source_file c.args.source.now in
    let L = source_library c.args.source.now in
    let ls = c.args.source.now.linears.now in
    let k = c.in-Linear.k in
    let inside = cost_to_depth F L (length F.models) in
    let within : k < length (map named_linear_of ls) = subst (IsMeaningIn F L) c.in-Linear.is c.requires.meaning in
    let cost : placed_cost inside (placed_at F L c.args.meaning) binds ≡ get_or c.args.linears.now k 0
    = ap (λ (x : Meaning). placed_cost inside (placed_at F L x) binds) c.in-Linear.is
    ∙ linear_at ls k inside binds (subst (λ n. k < n) (length-map ls named_linear_of) within)
    ∙ ap (λ (xs : List ℕ). get_or xs k 0) (sym c.requires.linears) in
    c.cut-in-Linear.ensures ∙ ap cut (c.from-in-Linear.ensures ∙ sym cost)
