use Rattle.std.proofs.Common.{◌≡◌, rules}
use Rattle.netlist_spec.specs.ReadFaults.{read_fault}
use Rattle.netlist_spec.proofs.NoFault.{reads_no_fault}
use Rattle.blif_read.specs.declared.fault.BlifFault.TheVariants.{NoMemory}
use Rattle.demo_tally.proofs.FaultLemmas.{only_memory}
use Rattle.demo_tally.proofs.files.read_netlist.Goals as goal

pub unreachable-requires : goal.unreachable-requires
unreachable-requires c =
    let (file, reads) = c.requires.reads in
    let memory : c.in-Err.field-0 ≡ NoMemory = only_memory (read_fault c.args.text.now) c.in-Err.field-0 (reads_no_fault c.args.text.now file reads) c.in-Err.ensures.fault in
    search rules
