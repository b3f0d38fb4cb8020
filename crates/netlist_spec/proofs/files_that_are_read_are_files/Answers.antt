use Rattle.netlist_spec.proofs.ReadFiles.{reads_file}
use Rattle.netlist_spec.proofs.files_that_are_read_are_files.Goals as goal

pub returns : goal.returns
returns c = reads_file
