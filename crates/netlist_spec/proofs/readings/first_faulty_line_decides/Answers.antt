use Rattle.netlist_spec.proofs.FirstFault.{still_no_fault, fault_here, text_fault_here, text_without_lines, text_has_no_fault}
use Rattle.netlist_spec.proofs.readings.first_faulty_line_decides.Goals as goal

pub returns : goal.returns
returns c =
    record {
      passed = still_no_fault;
      failed = fault_here;
      refused = text_fault_here;
      without_lines = text_without_lines;
      without_fault = text_has_no_fault;
    }
