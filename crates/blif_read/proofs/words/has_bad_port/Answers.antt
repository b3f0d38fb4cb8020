use Rattle.std.proofs.Common.{◌∙◌}
use Rattle.std.proofs.lemmas.List.{take_rest}
use Rattle.netlist_spec.specs.ReadFaults.{is_bad_port_word}
use Rattle.blif_read.proofs.WordTests.{any_behind}
use Rattle.blif_read.proofs.words.has_bad_port.Goals as goal

pub returns-in-len1-up : goal.returns-in-len1-up
returns-in-len1-up c = rw (take_rest c.args.words.now 1) at c.any_is_bad_port.ensures ∙ any_behind is_bad_port_word c.args.words.now
