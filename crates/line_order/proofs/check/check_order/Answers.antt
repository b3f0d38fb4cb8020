use Rattle.line_order.proofs.TableLemmas.{first_by_line}
use Rattle.line_order.proofs.check.check_order.Goals as goal

pub check_lines-requires-clause-by_line : goal.check_lines-requires-clause-by_line
check_lines-requires-clause-by_line c = first_by_line c.args.file.now.models.items c.index.result.now c.index.ensures c.requires.is_file.some_model c.requires.is_file.lines
