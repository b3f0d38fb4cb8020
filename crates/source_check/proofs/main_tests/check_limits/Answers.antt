use Rattle.std.proofs.Common.{◌≡◌, sym, ◌∙◌, ap, [], None, lit<}
use Rattle.std.specs.Prelude.{min, sum}
use Rattle.std.specs.Option.{option_map}
use Rattle.imp_text.specs.Quantities.{quantity_of}
use Rattle.netlist_spec.specs.Size.{whole_cost}
use Rattle.netlist_spec.specs.SoundFaults.{recursion, too_large_in}
use Rattle.blif_read.specs.View.{model_of}
use Rattle.source_nets.specs.Ports.{source_file, source_library}
use Rattle.source_check.proofs.CostLemmas.{exact_costs}
use Rattle.source_check.proofs.main_tests.check_limits.Goals as goal

pub main_costs-requires-clause-no_recursion : goal.main_costs-requires-clause-no_recursion
main_costs-requires-clause-no_recursion c = c.requires.before (recursion []) (lit< tt)

pub returns-in-None-clause-costs : goal.returns-in-None-clause-costs
returns-in-None-clause-costs c =
    let F = source_file c.args.source.now in
    let L = source_library c.args.source.now in
    let m = model_of c.main_model.result.0.now in
    let total : c.total_cost.result ≡ min (whole_cost F L) 1000001 = c.total_cost.ensures ∙ ap (λ ns. min (sum ns) 1000001) c.deref.ensures.value ∙ c.in_ok-costs.ensures.total in
    let none : too_large_in F L m ≡ None = sym (c.in_ok-what.ensures F L total) ∙ ap (option_map quantity_of) c.in-None.is in
    exact_costs F L m c.in_ok-costs.costs.items none c.in_ok-costs.ensures.each
