use Rattle.std.proofs.Common.{◌<◌, ◌∙◌, sym, ap, subst, refl, length, map, find, not, arith, Option}
use Rattle.std.proofs.lemmas.List.{length-map}
use Rattle.std.proofs.lemmas.Option.{slice_get_read}
use Rattle.std.proofs.lemmas.Result.{IfOk-weaker}
use Rattle.netlist_spec.specs.Netlist.{Name, Model, stands_in}
use Rattle.netlist_spec.specs.Covers.{Table, Linear, NamedTable}
use Rattle.netlist_spec.specs.Placed.{Placed, nothing, model_or, table_or, linear_or_nothing, input_ports, numbered_ports}
use Rattle.blif_read.specs.Ids.{HasIds}
use Rattle.blif_read.specs.View.{model_of}
use Rattle.sbox_table.specs.declared.table.NamedTable.{NamedTable as ReadTable}
use Rattle.linear_layer.specs.declared.layer.NamedLinear.{NamedLinear as ReadLinear}
use Rattle.sbox_table.specs.Named.{named_table_of}
use Rattle.linear_layer.specs.Named.{named_linear_of}
use Rattle.source_nets.specs.Ports.{source_file, source_library}
use Rattle.source_nets.specs.Survey.{IsMeaningIn, placed_at}
use Rattle.source_nets.proofs.SurveyLemmas.{row_at}
use Rattle.source_placements.proofs.missing.missing_port.Goals as goal

pub missing_of_model-requires : goal.missing_of_model-requires
missing_of_model-requires c =
    let s = c.args.source.now in
    let within : c.in-Model.k < length (map model_of s.file.now.models.items) = subst (IsMeaningIn (source_file s) (source_library s)) c.in-Model.is c.requires.meaning in
    let same = length-map s.file.now.models.items model_of in
    subst HasIds (sym c.index.ensures) (c.requires.source.ids c.in-Model.k c.index.result.now (omega arith))

pub returns-in-Model : goal.returns-in-Model
returns-in-Model c =
    let s = c.args.source.now in
    let k = c.in-Model.k in
    let m = c.index.result.now in
    let p = λ (n : Name). not (stands_in n c.args.given.now) in
    let within : k < length (map model_of s.file.now.models.items) = subst (IsMeaningIn (source_file s) (source_library s)) c.in-Model.is c.requires.meaning in
    let same = length-map s.file.now.models.items model_of in
    let inside : k < length s.file.now.models.items = omega arith in
    let there = row_at model_of s.file.now.models.items k m (slice_get_read s.file.now.models.items _ k m refl inside c.index.ensures) in
    let place = ap (placed_at (source_file s) (source_library s)) c.in-Model.is ∙ ap (λ (o : Option Model). model_or o nothing) there in
    IfOk-weaker c.missing_of_model.result _ _ (λ found e. e ∙ ap (λ (q : Placed). find p (input_ports q)) (sym place)) c.missing_of_model.ensures

pub returns-in-Table : goal.returns-in-Table
returns-in-Table c =
    let s = c.args.source.now in
    let k = c.in-Table.k in
    let t = c.index-source-k.result in
    let p = λ (n : Name). not (stands_in n c.args.given.now) in
    let within : k < length (map named_table_of s.tables.now) = subst (IsMeaningIn (source_file s) (source_library s)) c.in-Table.is c.requires.meaning in
    let same = length-map s.tables.now named_table_of in
    let inside : k < length s.tables.now = omega arith in
    let there = row_at named_table_of s.tables.now k t (slice_get_read s.tables.now _ k t refl inside c.index-source-k.is) in
    let place = ap (placed_at (source_file s) (source_library s)) c.in-Table.is ∙ ap (λ (o : Option NamedTable). table_or o nothing) there in
    IfOk-weaker c.missing_number.result _ _
    (λ found e. e
    ∙ ap (λ (x : Table). find p (numbered_ports 105 x.ins)) (c.table.view_is ∙ ap (λ (x : ReadTable). x.table) (sym c.index-source-k.is))
    ∙ ap (λ (q : Placed). find p (input_ports q)) (sym place))
    c.missing_number.ensures

pub returns-in-Linear : goal.returns-in-Linear
returns-in-Linear c =
    let s = c.args.source.now in
    let k = c.in-Linear.k in
    let l = c.index-source-k-in-Linear.result in
    let p = λ (n : Name). not (stands_in n c.args.given.now) in
    let within : k < length (map named_linear_of s.linears.now) = subst (IsMeaningIn (source_file s) (source_library s)) c.in-Linear.is c.requires.meaning in
    let same = length-map s.linears.now named_linear_of in
    let inside : k < length s.linears.now = omega arith in
    let there = row_at named_linear_of s.linears.now k l (slice_get_read s.linears.now _ k l refl inside c.index-source-k-in-Linear.is) in
    let place = ap (placed_at (source_file s) (source_library s)) c.in-Linear.is ∙ ap linear_or_nothing there in
    IfOk-weaker c.missing_number-in-Linear.result _ _
    (λ found e. e
    ∙ ap (λ (x : Linear). find p (numbered_ports 105 x.width)) (c.layer.view_is ∙ ap (λ (x : ReadLinear). x.layer) (sym c.index-source-k-in-Linear.is))
    ∙ ap (λ (q : Placed). find p (input_ports q)) (sym place))
    c.missing_number-in-Linear.ensures
