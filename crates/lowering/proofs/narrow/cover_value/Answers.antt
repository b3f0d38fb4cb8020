use Rattle.std.proofs.Common.{rules}
use Rattle.lowering.proofs.CoverLemmas.{by_rows}
use Rattle.lowering.proofs.narrow.cover_value.Goals as goal

pub returns : goal.returns
returns c = by_rows c.args.cover.now.on c.some_row_fits.result c.args.cover.now.rows.items c.args.bits.now (search rules) c.some_row_fits.ensures
