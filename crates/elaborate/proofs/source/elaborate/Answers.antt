use Rattle.std.proofs.Common.{refl}
use Rattle.blif_read.specs.View.{file_of}
use Rattle.source_nets.specs.Survey.{library_of}
use Rattle.elaborate.proofs.source.elaborate.Goals as goal

pub returns-clause-fits : goal.returns-clause-fits
returns-clause-fits c m given is_library main =
    c.sound_sources_step.ensures.fits (file_of c.args.file) (library_of c.args.tables.now c.args.linears.now) m given is_library c.in_ok-checked.ensures.sound (m, main, 0, refl)

pub returns-clause-fits_once : goal.returns-clause-fits_once
returns-clause-fits_once c m v w main fitting other agree =
    c.fitting_valuations_agree.ensures (file_of c.args.file) (library_of c.args.tables.now c.args.linears.now) m v w c.in_ok-checked.ensures.sound (m, main, 0, refl) fitting other agree
