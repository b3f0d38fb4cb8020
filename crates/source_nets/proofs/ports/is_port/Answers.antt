use Rattle.std.proofs.Common.{◌≡◌, ◌<◌, ◌∙◌, sym, ap, subst, length, map, get_or, Some, slice_get, arith, rules, Option}
use Rattle.std.proofs.lemmas.List.{length-map}
use Rattle.std.proofs.lemmas.Option.{slice_get-get_or}
use Rattle.netlist_spec.specs.Netlist.{Model, stands_in}
use Rattle.netlist_spec.specs.Covers.{NamedTable, NamedLinear}
use Rattle.netlist_spec.specs.Placed.{Placed, nothing, model_or, table_or, linear_or_nothing}
use Rattle.blif_read.specs.declared.file.Model.{Model as ReadModel}
use Rattle.blif_read.specs.Ids.{HasIds}
use Rattle.blif_read.specs.View.{model_of}
use Rattle.sbox_table.specs.Named.{named_table_of}
use Rattle.linear_layer.specs.Named.{named_linear_of}
use Rattle.source_nets.specs.Ports.{IsPortMarks, ports_of, source_file, source_library}
use Rattle.source_nets.specs.Survey.{IsMeaningIn, placed_at}
use Rattle.source_nets.proofs.SurveyLemmas.{zip_length, zip_get, row_at}
use Rattle.source_nets.proofs.ports.is_port.Goals as goal

pub bounds-source-k : goal.bounds-source-k
bounds-source-k c =
    let s = c.args.source.now in
    let within : c.in-Model.k < length (map model_of s.file.now.models.items) = subst (IsMeaningIn (source_file s) (source_library s)) c.in-Model.is c.requires.meaning in
    let long = zip_length IsPortMarks s.file.now.models.items s.ports.now c.requires.source.ports in
    let same = length-map s.file.now.models.items model_of in
    omega arith

pub offset_bounds-source-k : goal.offset_bounds-source-k
offset_bounds-source-k c = let inside : c.in-Model.k < length c.args.source.now.ports.now = bounds-source-k c in search rules

pub is_model_port-requires-clause-ids : goal.is_model_port-requires-clause-ids
is_model_port-requires-clause-ids c =
    let s = c.args.source.now in
    let within : c.in-Model.k < length (map model_of s.file.now.models.items) = subst (IsMeaningIn (source_file s) (source_library s)) c.in-Model.is c.requires.meaning in
    let same = length-map s.file.now.models.items model_of in
    subst HasIds (sym c.index.ensures) (c.requires.source.ids c.in-Model.k c.index.result.now (omega arith))

pub is_model_port-requires-clause-marks : goal.is_model_port-requires-clause-marks
is_model_port-requires-clause-marks c =
    let s = c.args.source.now in
    let within : c.in-Model.k < length (map model_of s.file.now.models.items) = subst (IsMeaningIn (source_file s) (source_library s)) c.in-Model.is c.requires.meaning in
    let same = length-map s.file.now.models.items model_of in
    subst (λ (m : ReadModel). IsPortMarks m (get_or s.ports.now c.in-Model.k c.index-source-k.result)) (sym c.index.ensures)
    (zip_get IsPortMarks s.file.now.models.items s.ports.now c.in-Model.k c.index.result.now c.index-source-k.result c.requires.source.ports (omega arith))

pub returns-in-Model : goal.returns-in-Model
returns-in-Model c =
    let s = c.args.source.now in
    let k = c.in-Model.k in
    let m = c.index.result.now in
    let within : k < length (map model_of s.file.now.models.items) = subst (IsMeaningIn (source_file s) (source_library s)) c.in-Model.is c.requires.meaning in
    let same = length-map s.file.now.models.items model_of in
    let inside : k < length s.file.now.models.items = omega arith in
    let there : slice_get s.file.now.models.items k ≡ Some m = slice_get-get_or s.file.now.models.items k m inside ∙ ap (λ (x : ReadModel). Some x) (sym c.index.ensures) in
    c.is_model_port.ensures
    ∙ ap (λ (p : Placed). stands_in c.args.formal.now (ports_of c.args.kind p))
    (sym (ap (placed_at (source_file s) (source_library s)) c.in-Model.is ∙ ap (λ (o : Option Model). model_or o nothing) (row_at model_of s.file.now.models.items k m there)))

pub returns-in-Table : goal.returns-in-Table
returns-in-Table c =
    let s = c.args.source.now in
    let k = c.in-Table.k in
    let t = get_or s.tables.now k c.index-source-k-in-Table.result in
    let within : k < length (map named_table_of s.tables.now) = subst (IsMeaningIn (source_file s) (source_library s)) c.in-Table.is c.requires.meaning in
    let same = length-map s.tables.now named_table_of in
    let inside : k < length s.tables.now = omega arith in
    let there : slice_get s.tables.now k ≡ Some t = slice_get-get_or s.tables.now k c.index-source-k-in-Table.result inside in
    c.is_table_port.ensures
    ∙ ap (λ (p : Placed). stands_in c.args.formal.now (ports_of c.args.kind p))
    (sym (ap (placed_at (source_file s) (source_library s)) c.in-Table.is ∙ ap (λ (o : Option NamedTable). table_or o nothing) (row_at named_table_of s.tables.now k t there)))

pub returns-in-Linear : goal.returns-in-Linear
returns-in-Linear c =
    let s = c.args.source.now in
    let k = c.in-Linear.k in
    let l = get_or s.linears.now k c.index-source-k-in-Linear.result in
    let within : k < length (map named_linear_of s.linears.now) = subst (IsMeaningIn (source_file s) (source_library s)) c.in-Linear.is c.requires.meaning in
    let same = length-map s.linears.now named_linear_of in
    let inside : k < length s.linears.now = omega arith in
    let there : slice_get s.linears.now k ≡ Some l = slice_get-get_or s.linears.now k c.index-source-k-in-Linear.result inside in
    c.is_linear_port.ensures
    ∙ ap (λ (p : Placed). stands_in c.args.formal.now (ports_of c.args.kind p))
    (sym (ap (placed_at (source_file s) (source_library s)) c.in-Linear.is ∙ ap linear_or_nothing (row_at named_linear_of s.linears.now k l there)))
