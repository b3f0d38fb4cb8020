-- The ports of library entries are distinct, and each has its place.
use Rattle.std.proofs.Common.{◌≡◌, refl, ◌∙◌, ap, subst, ℕ, zero, suc, ◌+◌, ◌<◌, ◌≤◌, List, [], ◌∷◌, map, find, drop, Bool, true, false, ◌||◌, ◌&&◌, not, cond, ◌⊎◌, inl, inr, Option, Some, None, arith}
use Rattle.std.proofs.lemmas.Fmt.{decimal_injective}
use Rattle.std.specs.Prelude.{decimal}
use Rattle.std.specs.List.{AllByRecursion, enumerate_from, range_with_len}
use Rattle.std.specs.Cmp.Lexicographic.{bytes_decides}
use Rattle.netlist_spec.specs.Netlist.{Name, same_name, stands_in, are_distinct, File, Model}
use Rattle.netlist_spec.specs.Covers.{Table, IsTable, Linear, IsLinear, NamedTable, NamedLinear, Library, IsLibrary}
use Rattle.netlist_spec.specs.Placed.{a_table, a_linear, model_or, table_or, linear_or_nothing, placed, find_model, numbered_ports}
use Rattle.source_laws.proofs.Lists.{Among, all_among, both}

-- ---- numbered ports

-- a number below those of some ports isn't among them
not_before : (letter j a n : ℕ) → j < a → a + n ≤ 1000 → stands_in (letter ∷ decimal j) (map (λ i. letter ∷ decimal i) (range_with_len a n)) ≡ false
not_before letter j a zero h k = refl
not_before letter j a (suc n) h k = by_case (same_name (letter ∷ decimal j) (letter ∷ decimal a)) refl (not_before letter j (a + 1) n (omega arith) (omega arith))
  where
    by_case : (b : Bool) → same_name (letter ∷ decimal j) (letter ∷ decimal a) ≡ b → stands_in (letter ∷ decimal j) (map (λ i. letter ∷ decimal i) (range_with_len (a + 1) n)) ≡ false
        → (same_name (letter ∷ decimal j) (letter ∷ decimal a) || stands_in (letter ∷ decimal j) (map (λ i. letter ∷ decimal i) (range_with_len (a + 1) n))) ≡ false
    by_case true e later =
        let same : decimal j ≡ decimal a = ap (drop 1) ((bytes_decides (letter ∷ decimal j) (letter ∷ decimal a)).0 e) in
        let number : j ≡ a = decimal_injective j a (omega arith) (omega arith) same in
        absurd (omega arith)
    by_case false e later = ap (λ (b : Bool). b || stands_in (letter ∷ decimal j) (map (λ i. letter ∷ decimal i) (range_with_len (a + 1) n))) e ∙ later

numbered_from : (letter a n : ℕ) → a + n ≤ 1000 → are_distinct (map (λ i. letter ∷ decimal i) (range_with_len a n)) ≡ true
numbered_from letter a zero h = refl
numbered_from letter a (suc n) h =
    ap (λ (b : Bool). not b && are_distinct (map (λ i. letter ∷ decimal i) (range_with_len (a + 1) n))) (not_before letter a (a + 1) n (omega arith) (omega arith))
    ∙ numbered_from letter (a + 1) n (omega arith)

pub numbered_are_distinct : (letter n : ℕ) → n ≤ 1000 → are_distinct (numbered_ports letter n) ≡ true
numbered_are_distinct letter n h = numbered_from letter 0 n (omega arith)

-- ---- places of ports

-- the place of the first port of this name
abbrev pub place_from : ℕ → List Name → Name → ℕ
place_from start [] p = start
place_from start (q ∷ ports) p = cond (same_name q p) start (place_from (start + 1) ports p)

later_places : (q : Name) (start : ℕ) (all : List Name) (from : ℕ) (ports : List Name) → stands_in q ports ≡ false
    → AllByRecursion (λ (p : ℕ × Name). place_from (start + 1) all p.1 ≡ p.0) (enumerate_from from ports) → AllByRecursion (λ (p : ℕ × Name). place_from start (q ∷ all) p.1 ≡ p.0) (enumerate_from from ports)
later_places q start all from [] h a = tt
later_places q start all from (p ∷ ports) h a = by_case (same_name q p) refl h (later_places q start all (from + 1) ports)
  where
    by_case : (b : Bool) → same_name q p ≡ b → (b || stands_in q ports) ≡ false
        → (stands_in q ports ≡ false → AllByRecursion (λ (p : ℕ × Name). place_from (start + 1) all p.1 ≡ p.0) (enumerate_from (from + 1) ports) → AllByRecursion (λ (p : ℕ × Name). place_from start (q ∷ all) p.1 ≡ p.0) (enumerate_from (from + 1) ports))
        → (cond (same_name q p) start (place_from (start + 1) all p) ≡ from) × AllByRecursion (λ (p : ℕ × Name). place_from start (q ∷ all) p.1 ≡ p.0) (enumerate_from (from + 1) ports)
    by_case true e h later = cc h
    by_case false e h later = (ap (λ (b : Bool). cond b start (place_from (start + 1) all p)) e ∙ a.0, later h a.1)

pub ports_have_places : (start : ℕ) (ports : List Name) → are_distinct ports ≡ true → AllByRecursion (λ (p : ℕ × Name). place_from start ports p.1 ≡ p.0) (enumerate_from start ports)
ports_have_places start [] d = tt
ports_have_places start (p ∷ ports) d =
    let parts = both (stands_in p ports) (are_distinct ports) d in (
      ap (λ (b : Bool). cond b start (place_from (start + 1) ports p)) ((bytes_decides p p).1 refl),
      later_places p start ports (start + 1) ports parts.0 (ports_have_places (start + 1) ports parts.1),
    )

-- ---- what stands in a library

found_in : {A : Type 0} (test : A → Bool) (xs : List A) (x : A) → find test xs ≡ Some x → Among x xs
found_in test [] x e = cc e
found_in test (y ∷ xs) x e = by_case (test y) e (found_in test xs x)
  where
    by_case : (b : Bool) → cond b (Some y) (find test xs) ≡ Some x → (find test xs ≡ Some x → Among x xs) → (y ≡ x) ⊎ Among x xs
    by_case true e later = inl (let same : y ≡ x = cc e in same)
    by_case false e later = inr (later e)

module _ (o : Option Model) (tables : Option NamedTable) (linears : Option NamedLinear) where
  found_table : (t : Table) → model_or o (table_or tables (linear_or_nothing linears)) ≡ a_table t → (e : NamedTable) × (tables ≡ Some e) × (e.table ≡ t)
  found_table t e = by_case o tables linears e
    where
      by_case : (o : Option Model) (s : Option NamedTable) (l : Option NamedLinear) → model_or o (table_or s (linear_or_nothing l)) ≡ a_table t → (e : NamedTable) × (s ≡ Some e) × (e.table ≡ t)
      by_case (Some m) s l e = cc e
      by_case None (Some x) l e = (x, refl, (let same : x.table ≡ t = cc e in same))
      by_case None None (Some l) e = cc e
      by_case None None None e = cc e

  found_linear : (t : Linear) → model_or o (table_or tables (linear_or_nothing linears)) ≡ a_linear t → (e : NamedLinear) × (linears ≡ Some e) × (e.layer ≡ t)
  found_linear t e = by_case o tables linears e
    where
      by_case : (o : Option Model) (s : Option NamedTable) (l : Option NamedLinear) → model_or o (table_or s (linear_or_nothing l)) ≡ a_linear t → (e : NamedLinear) × (l ≡ Some e) × (e.layer ≡ t)
      by_case (Some m) s l e = cc e
      by_case None (Some x) l e = cc e
      by_case None None (Some l) e = (l, refl, (let same : l.layer ≡ t = cc e in same))
      by_case None None None e = cc e

pub placed_table_is : (file : File) (library : Library) → IsLibrary library → (name : Name) (t : Table) → placed file library name ≡ a_table t → IsTable t
placed_table_is file library is name t e =
    let (x, found, same) = found_table (find_model file.models name) (find (λ t. same_name t.name name) library.tables) (find (λ l. same_name l.name name) library.linears) t e in
    subst IsTable same (all_among (λ (t : NamedTable). IsTable t.table) library.tables is.tables x (found_in (λ (t : NamedTable). same_name t.name name) library.tables x found))

pub placed_linear_is : (file : File) (library : Library) → IsLibrary library → (name : Name) (t : Linear) → placed file library name ≡ a_linear t → IsLinear t
placed_linear_is file library is name t e =
    let (x, found, same) = found_linear (find_model file.models name) (find (λ t. same_name t.name name) library.tables) (find (λ l. same_name l.name name) library.linears) t e in
    subst IsLinear same (all_among (λ (l : NamedLinear). IsLinear l.layer) library.linears is.linears x (found_in (λ (l : NamedLinear). same_name l.name name) library.linears x found))
