use Rattle.std.proofs.Common.{◌≡◌, List, [], ◌∷◌, map, nat_cmp, refl, sym, subst, ap}
use Rattle.std.specs.Cmp.Lexicographic.{slice_cmp}
use Rattle.std.specs.List.Sorted.{IsStrictlySortedBy}
use Rattle.linear_layer.specs.declared.layer.NamedLinear.{NamedLinear}
use Rattle.linear_layer.specs.Named.{named_linear_of}
use Rattle.settings_tests.proofs.tests.many_entries.Goals as goal

-- the names of the library are those of the layers that are read
names_kept : (ls : List NamedLinear) → map (λ l. l.name) (map named_linear_of ls) ≡ map (λ (l : NamedLinear). l.name) ls
names_kept [] = refl
names_kept (l ∷ ls) = ap (λ rest. l.name ∷ rest) (names_kept ls)

pub find_in_byte_order-requires : goal.find_in_byte_order-requires
find_in_byte_order-requires g c =
    subst (λ (ls : List NamedLinear). IsStrictlySortedBy (slice_cmp nat_cmp) (map (λ l. l.name) ls)) (sym c.deref-in-Ok.ensures.value)
    (subst (IsStrictlySortedBy (slice_cmp nat_cmp)) (names_kept c.settings.inside.linears.items) c.settings.invariant.linear_order)

pub find_in_byte_order-requires-in-Ok : goal.find_in_byte_order-requires-in-Ok
find_in_byte_order-requires-in-Ok g c =
    subst (λ (ls : List NamedLinear). IsStrictlySortedBy (slice_cmp nat_cmp) (map (λ l. l.name) ls)) (sym c.deref-in-Ok-2.ensures.value)
    (subst (IsStrictlySortedBy (slice_cmp nat_cmp)) (names_kept c.settings.inside.linears.items) c.settings.invariant.linear_order)
