use Rattle.std.proofs.Common.{◌≡◌, List, [], ◌∷◌, map, nat_cmp, refl, sym, subst, ap}
use Rattle.std.specs.Cmp.Lexicographic.{slice_cmp}
use Rattle.std.specs.List.Sorted.{IsStrictlySortedBy}
use Rattle.linear_layer.specs.declared.layer.NamedLinear.{NamedLinear}
use Rattle.linear_layer.specs.Named.{named_linear_of}
use Rattle.sbox_table.specs.declared.table.NamedTable.{NamedTable}
use Rattle.sbox_table.specs.Named.{named_table_of}
use Rattle.settings_tests.proofs.tests.entries_are_found.Goals as goal

-- the names of the library are those of the tables and of the layers that are read
tables_kept : (ts : List NamedTable) → map (λ t. t.name) (map named_table_of ts) ≡ map (λ (t : NamedTable). t.name) ts
tables_kept [] = refl
tables_kept (t ∷ ts) = ap (λ rest. t.name ∷ rest) (tables_kept ts)

layers_kept : (ls : List NamedLinear) → map (λ l. l.name) (map named_linear_of ls) ≡ map (λ (l : NamedLinear). l.name) ls
layers_kept [] = refl
layers_kept (l ∷ ls) = ap (λ rest. l.name ∷ rest) (layers_kept ls)

pub count_tables-found-requires : goal.count_tables-found-requires
count_tables-found-requires g c =
    subst (λ (ts : List NamedTable). IsStrictlySortedBy (slice_cmp nat_cmp) (map (λ t. t.name) ts)) (sym c.deref-in-Ok.ensures.value)
    (subst (IsStrictlySortedBy (slice_cmp nat_cmp)) (tables_kept c.settings.inside.tables.items) c.settings.invariant.table_order)

pub count_tables-others-requires : goal.count_tables-others-requires
count_tables-others-requires g c =
    subst (λ (ts : List NamedTable). IsStrictlySortedBy (slice_cmp nat_cmp) (map (λ t. t.name) ts)) (sym c.deref-in-Ok-3.ensures.value)
    (subst (IsStrictlySortedBy (slice_cmp nat_cmp)) (tables_kept c.settings.inside.tables.items) c.settings.invariant.table_order)

pub count_layers-found-requires : goal.count_layers-found-requires
count_layers-found-requires g c =
    subst (λ (ls : List NamedLinear). IsStrictlySortedBy (slice_cmp nat_cmp) (map (λ l. l.name) ls)) (sym c.deref-in-Ok-5.ensures.value)
    (subst (IsStrictlySortedBy (slice_cmp nat_cmp)) (layers_kept c.settings.inside.linears.items) c.settings.invariant.linear_order)

pub count_layers-others-requires : goal.count_layers-others-requires
count_layers-others-requires g c =
    subst (λ (ls : List NamedLinear). IsStrictlySortedBy (slice_cmp nat_cmp) (map (λ l. l.name) ls)) (sym c.deref-in-Ok-7.ensures.value)
    (subst (IsStrictlySortedBy (slice_cmp nat_cmp)) (layers_kept c.settings.inside.linears.items) c.settings.invariant.linear_order)
