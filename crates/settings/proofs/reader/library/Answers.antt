use Rattle.std.proofs.Common.{◌≡◌, List, ℕ, Ok, map, nat_cmp, sym, subst, ap, ◌∙◌}
use Rattle.std.specs.Cmp.Lexicographic.{slice_cmp}
use Rattle.std.specs.List.Sorted.{IsStrictlySortedBy}
use Rattle.std.proofs.lemmas.Result.{err_from_is_err_and}
use Rattle.netlist_spec.specs.Covers.{NamedTable, NamedLinear}
use Rattle.sbox_table.specs.Named.{named_table_of}
use Rattle.sbox_table.specs.declared.table.NamedTable.{NamedTable as ReadTable}
use Rattle.linear_layer.specs.Named.{named_linear_of}
use Rattle.toml.specs.View.{table_view}
use Rattle.settings.specs.Faults.{fault_of, IsFault}
use Rattle.settings.specs.Library.{linears_of}
use Rattle.settings.proofs.Documents.{linears_fail, library_given}
use Rattle.settings.proofs.EachEntry.{map_twice}
use Rattle.settings.proofs.LibraryShape.{library_made}
use Rattle.settings.proofs.reader.library.Goals as goal

-- the names of tables, as the code and as the definitions have them
names : (given ts : List ReadTable) → given ≡ ts → map (λ (t : ReadTable). t.name) given ≡ map (λ (t : NamedTable). t.name) (map named_table_of ts)
names given ts same = ap (map (λ (t : ReadTable). t.name)) same ∙ sym (map_twice named_table_of (λ (t : NamedTable). t.name) ts)

pub linears_key-requires : goal.linears_key-requires
linears_key-requires c = rw c.deref.ensures.value c.in_ok-tables.ensures.order

pub returns-in_err-linears-clause-err : goal.returns-in_err-linears-clause-err
returns-in_err-linears-clause-err c =
    let doc = table_view c.args.doc.now in
    let ts = c.in_ok-tables.tables.items in
    let same = names c.deref.result.now ts c.deref.ensures.value in
    let p = err_from_is_err_and c.from_residual-in_err-linears.result c.from_residual-in_err-linears.ensures.1 in
    rw (p.1, p.2) (
    linears_fail doc (map named_table_of ts) (fault_of c.in_err-linears.field-0.0) c.in_ok-tables.ensures.ok
    (subst (λ (taken : List (List ℕ)). IsFault (linears_of taken doc) (fault_of c.in_err-linears.field-0.0)) same c.in_err-linears.ensures.err)
    )

pub returns-clause-ok : goal.returns-clause-ok
returns-clause-ok c =
    let doc = table_view c.args.doc.now in
    let ts = c.in_ok-tables.tables.items in
    let ls = map named_linear_of c.in_ok-linears.linears.items in
    let same = names c.deref.result.now ts c.deref.ensures.value in
    library_given doc (map named_table_of ts) ls c.in_ok-tables.ensures.ok (subst (λ (taken : List (List ℕ)). linears_of taken doc ≡ Ok ls) same c.in_ok-linears.ensures.ok)

pub returns-clause-valid : goal.returns-clause-valid
returns-clause-valid c =
    let doc = table_view c.args.doc.now in
    let ts = c.in_ok-tables.tables.items in
    let ls = map named_linear_of c.in_ok-linears.linears.items in
    let same = names c.deref.result.now ts c.deref.ensures.value in
    library_made doc (map named_table_of ts) ls c.in_ok-tables.ensures.valid c.in_ok-linears.ensures.valid
    (subst (IsStrictlySortedBy (slice_cmp nat_cmp)) (sym (map_twice named_table_of (λ (t : NamedTable). t.name) ts)) c.in_ok-tables.ensures.order)
    (subst (IsStrictlySortedBy (slice_cmp nat_cmp)) (sym (map_twice named_linear_of (λ (l : NamedLinear). l.name) c.in_ok-linears.linears.items)) c.in_ok-linears.ensures.order)
    (subst (λ (taken : List (List ℕ)). linears_of taken doc ≡ Ok ls) same c.in_ok-linears.ensures.ok)
