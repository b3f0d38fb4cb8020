use Rattle.guard_spec.specs.Codes.{rail_count}
use Rattle.size_laws.proofs.SourceCones.{one_source_size, layout_fits}
use Rattle.size_laws.proofs.sizes.sources_have_one_size.Goals as goal

pub returns-clause-fits : goal.returns-clause-fits
returns-clause-fits c = layout_fits

pub returns-clause-with : goal.returns-clause-with
returns-clause-with c = one_source_size

pub returns-clause-plain : goal.returns-clause-plain
returns-clause-plain c = λ file m s l is. one_source_size file s.library m s.code s.mode s.bound (rail_count s.mode s.bound) l (layout_fits m s l is)
