use Rattle.netlist_spec.proofs.ReadOrRefused.{no_fault_reads, never_both, read_or_refused}
use Rattle.netlist_spec.proofs.readings.texts_are_read_or_refused.Goals as goal

pub returns : goal.returns
returns c = record { reads = no_fault_reads; never_both = never_both; either = read_or_refused }
