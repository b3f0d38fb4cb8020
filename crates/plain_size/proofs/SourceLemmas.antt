-- What a sound file and its settings give: distinct names, no model in itself, and exact costs.
use Rattle.std.proofs.Common.{◌≡◌, refl, sym, ◌∙◌, ap, subst, ℕ, ◌≤◌, true, not, List, [], ◌∷◌, ◌++◌, map, min, Some, arith}
use Rattle.std.specs.Prelude.{sum_by}
use Rattle.std.proofs.lemmas.Bool.{and_parts, and_from, not-true, or_parts}
use Rattle.std.proofs.lemmas.List.Sums.{sum_by-cons}
use Rattle.netlist_spec.specs.Netlist.{File, Located, Model, Name, are_distinct, stands_in}
use Rattle.netlist_spec.specs.Covers.{Library}
use Rattle.netlist_spec.specs.Models.{main_model}
use Rattle.netlist_spec.specs.Size.{cost_of, main_cost}
use Rattle.netlist_spec.specs.Sound.{IsSound, IsUsed}
use Rattle.netlist_spec.specs.SoundFaults.{ContainsItself}
use Rattle.sbox_table.specs.declared.table.NamedTable.{NamedTable as ReadTable}
use Rattle.sbox_table.specs.Named.{named_table_of}
use Rattle.linear_layer.specs.declared.layer.NamedLinear.{NamedLinear as ReadLinear}
use Rattle.linear_layer.specs.Named.{named_linear_of}
use Rattle.imp_text.proofs.NamesLemmas.{stands_in-append}
use Rattle.source_check.specs.Checked.{AreCosts}
use Rattle.source_cost.specs.Costs.{statements_in}
use Rattle.plain_size.specs.Sizes.{AreMainCosts}

-- ---- distinct names

table_names : (ts : List ReadTable) → map (λ t. t.name) (map named_table_of ts) ≡ map (λ (t : ReadTable). t.name) ts
table_names [] = refl
table_names (t ∷ ts) = ap (λ rest. t.name ∷ rest) (table_names ts)

linear_names : (ls : List ReadLinear) → map (λ l. l.name) (map named_linear_of ls) ≡ map (λ (l : ReadLinear). l.name) ls
linear_names [] = refl
linear_names (l ∷ ls) = ap (λ rest. l.name ∷ rest) (linear_names ls)

distinct_back : (xs ys : List Name) → are_distinct (xs ++ ys) ≡ true → are_distinct ys ≡ true
distinct_back [] ys d = d
distinct_back (x ∷ xs) ys d = distinct_back xs ys (and_parts (not (stands_in x (xs ++ ys))) (are_distinct (xs ++ ys)) d).1

distinct_front : (xs ys : List Name) → are_distinct (xs ++ ys) ≡ true → are_distinct xs ≡ true
distinct_front [] ys d = refl
distinct_front (x ∷ xs) ys d =
    let parts = and_parts (not (stands_in x (xs ++ ys))) (are_distinct (xs ++ ys)) d in
    let off = (or_parts (stands_in x xs) (stands_in x ys) (sym (stands_in-append x xs ys) ∙ not-true _ parts.0)).0 in
    and_from _ _ (ap not off) (distinct_front xs ys parts.1)

module _ (ts : List ReadTable) (ls : List ReadLinear) (d : are_distinct (map (λ t. t.name) (map named_table_of ts) ++ map (λ l. l.name) (map named_linear_of ls)) ≡ true) where
  pub tables_distinct : are_distinct (map (λ (t : ReadTable). t.name) ts) ≡ true
  tables_distinct = subst (λ ns. are_distinct ns ≡ true) (table_names ts) (distinct_front (map (λ t. t.name) (map named_table_of ts)) (map (λ l. l.name) (map named_linear_of ls)) d)

  pub linears_distinct : are_distinct (map (λ (l : ReadLinear). l.name) ls) ≡ true
  linears_distinct = subst (λ ns. are_distinct ns ≡ true) (linear_names ls) (distinct_back (map (λ t. t.name) (map named_table_of ts)) (map (λ l. l.name) (map named_linear_of ls)) d)

-- ---- what a sound file owes

module _ (file : File) (library : Library) (sound : IsSound file library) where
  pub no_recursion : (m : Model) → IsUsed file m → ContainsItself file library m → ⊥
  no_recursion m used (n, chain) = (sound.used m used).no_recursion n chain

-- ---- costs

cut_or_not : {X : Type 0} (f : X → ℕ) (xs : List X) → sum_by f xs ≤ 1000000 → map f xs ≡ map (λ x. min (f x) 1000001) xs
cut_or_not f [] low = refl
cut_or_not f (x ∷ xs) low =
    let whole = sum_by-cons f x xs in
    let first : f x ≡ min (f x) 1000001 = omega arith in
    ap (λ n. n ∷ map f xs) first ∙ ap (λ ns. min (f x) 1000001 ∷ ns) (cut_or_not f xs (omega arith))

pub exact_main_costs : (file : File) (library : Library) (costs : List ℕ) → IsSound file library → AreCosts file library costs → AreMainCosts file library costs
exact_main_costs file library costs sound are = λ m main.
    let low : main_cost file library (Some m) ≤ 1000000 = subst (λ top. main_cost file library top ≤ 1000000) main (sound.main m main).cost in
    are m main ∙ cut_or_not (λ (s : Located). cost_of file library s.what) m.statements low

pub costs_of_main : (file : File) (library : Library) (costs : List ℕ) → costs ≡ map (λ (s : Located). min (cost_of file library s.what) 1000001) (statements_in (main_model file)) → AreMainCosts file library costs
costs_of_main file library costs e = λ m main. e ∙ ap (λ top. map (λ (s : Located). min (cost_of file library s.what) 1000001) (statements_in top)) main
