use Rattle.netlist_spec.specs.Covers.{empty_library}
use Rattle.blif_read.specs.View.{file_of}
use Rattle.impeccable.proofs.flat.flatten.Goals as goal

pub returns-clause-flat : goal.returns-clause-flat
returns-clause-flat c netlist reads =
    let file = file_of c.args.file in
    let made = c.in_ok-elaborated.ensures in
    let named = c.in_ok-named.ensures in
    c.elaborated_sources_are_written_flat.ensures.flat_text netlist file empty_library c.in_ok-elaborated.elaborated c.in_ok-named.named reads c.requires.is_file made.sound made.elaborated named.is_named named.flat
