-- The covers that gates are made of, as the definitions speak of them.
use Rattle.std.specs.Prelude.{map}
use Rattle.netlist_spec.specs.Netlist.{Row, Cover}
use Rattle.imp_text.specs.declared.cover.Row.{Row as TextRow}
use Rattle.imp_text.specs.declared.cover.Cover.{Cover as TextCover}

abbrev pub row_of : TextRow → Row
row_of row = record { care = row.care; value = row.value }

abbrev pub cover_of : TextCover → Cover
cover_of cover = record { on = cover.on; rows = map row_of cover.rows.items }
