-- Rows of numbers of names as rows of numbers.
use Rattle.std.proofs.Common.{◌≡◌, refl, ap, ap₂, ◌<◌, ℕ, List, [], ◌∷◌, map, length, Some, slice_get, All}
use Rattle.std.specs.List.{AllByRecursion}
use Rattle.std.proofs.lemmas.Option.{get_or_from_slice_get}
use Rattle.netlist_spec.specs.Netlist.{Name}
use Rattle.imp_text.specs.declared.names.NameId.{NameId}
use Rattle.blif_read.specs.Ids.{IsIdOf}
use Rattle.blif_read.specs.View.{name_at}
use Rattle.line_order.proofs.MarkLemmas.{all_of}
use Rattle.net_graph.specs.Chains.{ends_of}
use Rattle.net_order.specs.Order.{AreNets}
use Rattle.source_nets.proofs.SurveyLemmas.{row_at}
use Rattle.source_loops.specs.Nets.{name_of, numbers_of}

row_named : (all : List Name) (ids : List NameId) → map (name_of all) (numbers_of ids) ≡ map (name_at all) ids
row_named all [] = refl
row_named all (id ∷ ids) = ap (λ ns. name_at all id ∷ ns) (row_named all ids)

pub rows_named : (all : List Name) (rows : List (List NameId)) → map (map (name_of all)) (map numbers_of rows) ≡ map (map (name_at all)) rows
rows_named all [] = refl
rows_named all (row ∷ rows) = ap₂ (λ (n : List Name) (ns : List (List Name)). n ∷ ns) (row_named all row) (rows_named all rows)

row_below : (all : List Name) (ids : List NameId) → AllByRecursion (IsIdOf all) ids → AllByRecursion (λ n. n < length all) (numbers_of ids)
row_below all [] a = tt
row_below all (id ∷ ids) a = (a.0, row_below all ids a.1)

rows_below : (all : List Name) (rows : List (List NameId)) → AllByRecursion (AllByRecursion (IsIdOf all)) rows → AllByRecursion (λ ns. All (λ n. n < length all) ns) (map numbers_of rows)
rows_below all [] a = tt
rows_below all (row ∷ rows) a = (all_of (λ n. n < length all) (numbers_of row) (row_below all row a.0), rows_below all rows a.1)

pub rows_are_nets : (all : List Name) (rows : List (List NameId)) → AllByRecursion (AllByRecursion (IsIdOf all)) rows → AreNets (length all) (map numbers_of rows)
rows_are_nets all rows a = all_of (λ (ns : List ℕ). All (λ n. n < length all) ns) (map numbers_of rows) (rows_below all rows a)

pub row_of_number : (rows : List (List NameId)) (i : ℕ) (row : List NameId) → slice_get rows i ≡ Some row → ends_of (map numbers_of rows) i ≡ numbers_of row
row_of_number rows i row e = get_or_from_slice_get (map numbers_of rows) i (numbers_of row) [] (row_at numbers_of rows i row e)
