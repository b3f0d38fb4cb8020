use Rattle.std.proofs.Common.{◌≡◌, sym, subst, List, ◌<◌, length, map, true, Some, arith}
use Rattle.std.proofs.lemmas.List.{length-map}
use Rattle.netlist_spec.specs.Netlist.{are_distinct}
use Rattle.netlist_spec.specs.Models.{main_model}
use Rattle.sbox_table.specs.declared.table.NamedTable.{NamedTable}
use Rattle.linear_layer.specs.declared.layer.NamedLinear.{NamedLinear}
use Rattle.blif_read.specs.declared.file.Model.{Model}
use Rattle.blif_read.specs.Ids.{HasIds}
use Rattle.blif_read.specs.View.{file_of, model_of}
use Rattle.source_nets.specs.Survey.{library_of}
use Rattle.plain_size.proofs.MainLemmas.{first_main}
use Rattle.plain_size.proofs.SourceLemmas.{linears_distinct, tables_distinct}
use Rattle.plain_size_tests.proofs.SoundWords.{latches_distinct, latches_few, outputs_distinct, outputs_few}
use Rattle.plain_size_tests.proofs.sizes.size.Goals as goal

pub check-requires-clause-tables : goal.check-requires-clause-tables
check-requires-clause-tables c =
    subst (λ (ts : List NamedTable). are_distinct (map (λ (t : NamedTable). t.name) ts) ≡ true) (sym c.deref.ensures.value)
    (tables_distinct c.s.inside.tables.items c.s.inside.linears.items c.s.invariant.library.distinct)

pub check-requires-clause-linears : goal.check-requires-clause-linears
check-requires-clause-linears c =
    subst (λ (ls : List NamedLinear). are_distinct (map (λ (l : NamedLinear). l.name) ls) ≡ true) (sym c.deref-2.ensures.value)
    (linears_distinct c.s.inside.tables.items c.s.inside.linears.items c.s.invariant.library.distinct)

pub layout_of-requires-clause-ids : goal.layout_of-requires-clause-ids
layout_of-requires-clause-ids c =
    let models = c.in-Ok-read.file.models.items in
    let some : 0 < length models = (let h = c.in-Ok-read.ensures.is_file.some_model in let l = length-map models model_of in omega arith) in
    subst (λ (m : Model). HasIds m) (sym c.index.ensures) (c.in-Ok-read.ensures.ids 0 c.index.result.now some)

pub layout_of-requires-clause-distinct_latches : goal.layout_of-requires-clause-distinct_latches
layout_of-requires-clause-distinct_latches c =
    let models = c.in-Ok-read.file.models.items in
    let some : 0 < length models = (let h = c.in-Ok-read.ensures.is_file.some_model in let l = length-map models model_of in omega arith) in
    latches_distinct (file_of c.in-Ok-read.file) (library_of c.deref.result.now c.deref-2.result.now) (model_of c.index.result.now) c.in-Ok-check.ensures.sound (first_main models c.index.result.now some c.index.ensures)

pub layout_of-requires-clause-distinct_outputs : goal.layout_of-requires-clause-distinct_outputs
layout_of-requires-clause-distinct_outputs c =
    let models = c.in-Ok-read.file.models.items in
    let some : 0 < length models = (let h = c.in-Ok-read.ensures.is_file.some_model in let l = length-map models model_of in omega arith) in
    outputs_distinct (file_of c.in-Ok-read.file) (library_of c.deref.result.now c.deref-2.result.now) (model_of c.index.result.now) c.in-Ok-check.ensures.sound (first_main models c.index.result.now some c.index.ensures)

pub layout_of-requires-clause-few_latches : goal.layout_of-requires-clause-few_latches
layout_of-requires-clause-few_latches c =
    let models = c.in-Ok-read.file.models.items in
    let some : 0 < length models = (let h = c.in-Ok-read.ensures.is_file.some_model in let l = length-map models model_of in omega arith) in
    latches_few (file_of c.in-Ok-read.file) (library_of c.deref.result.now c.deref-2.result.now) (model_of c.index.result.now) c.in-Ok-check.ensures.sound (first_main models c.index.result.now some c.index.ensures)

pub layout_of-requires-clause-few_outputs : goal.layout_of-requires-clause-few_outputs
layout_of-requires-clause-few_outputs c =
    let models = c.in-Ok-read.file.models.items in
    let some : 0 < length models = (let h = c.in-Ok-read.ensures.is_file.some_model in let l = length-map models model_of in omega arith) in
    outputs_few (file_of c.in-Ok-read.file) (library_of c.deref.result.now c.deref-2.result.now) (model_of c.index.result.now) c.in-Ok-check.ensures.sound (first_main models c.index.result.now some c.index.ensures)
