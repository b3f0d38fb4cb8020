use Rattle.std.proofs.Common.{◌∙◌, ◌++◌, sym, ap, List}
use Rattle.std.specs.Prelude.{option_to_list}
use Rattle.blif_read.specs.declared.file.Located.{Located}
use Rattle.fault_sim.specs.Build.{gate_of}
use Rattle.fault_sim.specs.Gates.{NumberedGate}
use Rattle.fault_sim.proofs.BuildLemmas.{one_given}
use Rattle.fault_sim.proofs.build.gate_cells.Goals as goal

pub loop-s-preserved : goal.loop-s-preserved
loop-s-preserved c =
    record {
      gates = c.in_ok-push_gate.ensures.gates
          ∙ (ap (λ (gs : List NumberedGate). gs ++ option_to_list (gate_of c.s-item.result.what)) c.loop-s.invariant.gates
          ∙ sym (one_given (λ (s : Located). gate_of s.what) c.args.statements.now c.loop-s.s-index c.s-item.result c.loop-s-test.true c.s-item.is));
      are_gates = c.in_ok-push_gate.ensures.are_gates;
    }
