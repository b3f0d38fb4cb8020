use Rattle.imp_text.specs.declared.names.NameId.{NameId}
use Rattle.blif_read.specs.View.{cover_of}
use Rattle.fault_sim.proofs.CoverLemmas.{value_of_one, value_of_two}
use Rattle.fault_sim.proofs.cover.value_at.Goals as goal

pub returns-in-len1 : goal.returns-in-len1
returns-in-len1 c =
    let none : NameId = record { 0 = 0 } in
    value_of_one c.args.table (cover_of c.args.cover.now) c.args.row.now c.args.ins.now c.from.result none c.in-len1.len_at_least c.in-len1.len_below c.requires.table c.from.ensures

pub returns-in-len2 : goal.returns-in-len2
returns-in-len2 c =
    let none : NameId = record { 0 = 0 } in
    value_of_two c.args.table (cover_of c.args.cover.now) c.args.row.now c.args.ins.now c.from-in-len2.result c.from-in-len2-2.result none c.in-len2.len_at_least c.in-len2.len_below c.requires.table c.from-in-len2.ensures c.from-in-len2-2.ensures
