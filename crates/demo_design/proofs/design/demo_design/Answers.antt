use Rattle.std.proofs.Common.{ap, ◌∙◌, List, ℕ, Some}
use Rattle.demo_design.proofs.design.demo_design.Goals as goal

pub returns-clause-accepted : goal.returns-clause-accepted
returns-clause-accepted c =
    λ contents settings_name netlist_name held netlist_held.
    c.demo_is_accepted.ensures.texts c.args.n contents settings_name netlist_name c.requires
    (held ∙ ap (λ (xs : List ℕ). Some xs) c.in_ok-settings.ensures)
    (netlist_held ∙ ap (λ (xs : List ℕ). Some xs) c.in_ok-netlist.ensures)
