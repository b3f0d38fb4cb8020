use Rattle.guard_laws.proofs.Texts.{guarding_text}
use Rattle.guard_names.proofs.Steps.{few_cells, from_steps}
use Rattle.guard_names.proofs.laws.steps_make_a_guard.Goals as goal

pub returns-clause-cells : goal.returns-clause-cells
returns-clause-cells c = λ source s radius size m e l g elaborated over partition is_size guard. few_cells source s radius size m e l elaborated over is_size g partition guard

pub returns-clause-guard : goal.returns-clause-guard
returns-clause-guard c =
    λ source s radius d size m e l g n main elaborated is_code is_distance wide over is_size guard named is_named.
    from_steps source s radius size m e l elaborated over is_size d g n main is_code is_distance wide guard named is_named

pub returns-clause-text : goal.returns-clause-text
returns-clause-text c =
    λ settings netlist source s d size m e l g n is_settings reads main elaborated is_code is_distance wide over is_size guard named is_named.
    guarding_text settings netlist source s n is_settings reads (from_steps source s s.bound size m e l elaborated over is_size d g n main is_code is_distance wide guard named is_named)
