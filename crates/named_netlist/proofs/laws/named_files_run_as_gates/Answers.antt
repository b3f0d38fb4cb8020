use Rattle.named_netlist.proofs.NamedFaults.{others-have_no_effect, some-nets}
use Rattle.named_netlist.proofs.NamedModels.{own-names}
use Rattle.named_netlist.proofs.NamedRuns.{runs-of-gates}
use Rattle.named_netlist.proofs.laws.named_files_run_as_gates.Goals as goal

pub returns-clause-names : goal.returns-clause-names
returns-clause-names c = own-names

pub returns-clause-runs : goal.returns-clause-runs
returns-clause-runs c = runs-of-gates

pub returns-clause-nets : goal.returns-clause-nets
returns-clause-nets c = some-nets

pub returns-clause-others : goal.returns-clause-others
returns-clause-others c = others-have_no_effect
