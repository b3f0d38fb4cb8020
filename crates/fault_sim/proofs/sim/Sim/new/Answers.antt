use Rattle.std.proofs.Common.{sym, subst}
use Rattle.netlist_spec.specs.Netlist.{Model}
use Rattle.fault_sim.specs.Simulated.{HasModel}
use Rattle.fault_sim.proofs.BuildLemmas.{model_same, model_apart}
use Rattle.fault_sim.proofs.sim.Sim.new.Goals as goal

pub build-requires-clause-apart : goal.build-requires-clause-apart
build-requires-clause-apart c = model_apart c.args.file.now c.index.result.now c.index.ensures c.requires.is_file c.in_ok-check_order.ensures.ordered

pub returns-clause-simulates : goal.returns-clause-simulates
returns-clause-simulates c =
    let o = c.in_ok-check_order.ensures.ordered in
    record {
      is_file = c.requires.is_file;
      ordered = o;
      model = subst (λ (k : Model). HasModel k c.in_ok-build.field-0) (sym (model_same c.args.file.now c.index.result.now c.index.ensures c.requires.is_file o)) c.in_ok-build.ensures.model;
    }
