-- What holds of the library that a document has.
use Rattle.std.proofs.Common.{◌≡◌, Bool, true, false, List, [], ◌∷◌, ◌++◌, map, Result, Ok, Err, Less, nat_cmp, is_eq, refl, sym, subst, ap, ◌∙◌}
use Rattle.std.specs.Prelude.{codes}
use Rattle.std.specs.Cmp.Lexicographic.{slice_cmp}
use Rattle.std.specs.List.{AllByRecursion}
use Rattle.std.specs.List.Sorted.{IsStrictlySortedBy}
use Rattle.std.proofs.lemmas.Map.Keys.{sorted_head, sorted_tail}
use Rattle.std.proofs.lemmas.Map.Text.{is_eq-slice_cmp}
use Rattle.netlist_spec.specs.Netlist.{Name, IsName, same_name, stands_in, are_distinct}
use Rattle.netlist_spec.specs.Covers.{NamedTable, NamedLinear, IsTable, IsLinear, IsLibrary}
use Rattle.guard_spec.specs.SettingsFile.{SettingsFault, as_members, all_of, entries_of, linear_entry, optional}
use Rattle.imp_text.proofs.NamesLemmas.{same_name-comm}
use Rattle.toml.specs.Data.{Members}
use Rattle.settings.specs.Library.{linears_of, IsNamedTable, IsNamedLinear}
use Rattle.settings.proofs.EntryShapes.{linear_name}
use Rattle.settings.proofs.Steps.{then_parts}

-- ---- distinct names

none_later : (n : Name) (ns : List Name) → AllByRecursion (λ m. slice_cmp nat_cmp n m ≡ Less) ns → stands_in n ns ≡ false
none_later n [] h = refl
none_later n (m ∷ ns) h = let apart : same_name n m ≡ false = sym (is_eq-slice_cmp n m) ∙ ap is_eq h.0 in rw apart (none_later n ns h.1)

ascending_distinct : (ns : List Name) → IsStrictlySortedBy (slice_cmp nat_cmp) ns → are_distinct ns ≡ true
ascending_distinct [] h = refl
ascending_distinct (n ∷ ns) h =
    let later : stands_in n ns ≡ false = none_later n ns (sorted_head (slice_cmp nat_cmp) n ns h) in
    rw later (ascending_distinct ns (sorted_tail (slice_cmp nat_cmp) n ns h))

stands_append : (n : Name) (ns ms : List Name) → stands_in n ns ≡ false → stands_in n ms ≡ false → stands_in n (ns ++ ms) ≡ false
stands_append n [] ms p q = q
stands_append n (a ∷ ns) ms p q = at (same_name n a) refl (λ rest. stands_append n ns ms rest q)
  where
    at : (b : Bool) → same_name n a ≡ b → (stands_in n ns ≡ false → stands_in n (ns ++ ms) ≡ false) → stands_in n ((a ∷ ns) ++ ms) ≡ false
    at true e later = let wrong : true ≡ false = sym (rw e refl) ∙ p in cc
    at false e later = let rest : stands_in n ns ≡ false = rw e at p in rw e (later rest)

first_apart : (a : Name) (ns ms : List Name) → AllByRecursion (λ b. stands_in b (a ∷ ns) ≡ false) ms → (stands_in a ms ≡ false) × AllByRecursion (λ b. stands_in b ns ≡ false) ms
first_apart a ns [] h = (refl, tt)
first_apart a ns (b ∷ ms) h = at (same_name b a) refl (first_apart a ns ms h.1)
  where
    at : (c : Bool) → same_name b a ≡ c → (stands_in a ms ≡ false) × AllByRecursion (λ b. stands_in b ns ≡ false) ms → (stands_in a (b ∷ ms) ≡ false) × AllByRecursion (λ b. stands_in b ns ≡ false) (b ∷ ms)
    at true e later = let wrong : true ≡ false = sym (rw e refl) ∙ h.0 in cc
    at false e later =
        let turned : same_name a b ≡ false = same_name-comm a b ∙ e in
        let rest : stands_in b ns ≡ false = rw e at h.0 in
        (rw turned later.0, (rest, later.1))

both_distinct : (ns ms : List Name) → are_distinct ns ≡ true → are_distinct ms ≡ true → AllByRecursion (λ b. stands_in b ns ≡ false) ms → are_distinct (ns ++ ms) ≡ true
both_distinct [] ms p q apart = q
both_distinct (a ∷ ns) ms p q apart = at (stands_in a ns) refl (λ rest. both_distinct ns ms rest q (first_apart a ns ms apart).1)
  where
    at : (c : Bool) → stands_in a ns ≡ c → (are_distinct ns ≡ true → are_distinct (ns ++ ms) ≡ true) → are_distinct ((a ∷ ns) ++ ms) ≡ true
    at true e later = let wrong : false ≡ true = sym (rw e refl) ∙ p in cc
    at false e later =
        let rest : are_distinct ns ≡ true = rw e at p in
        let here : stands_in a (ns ++ ms) ≡ false = stands_append a ns ms e (first_apart a ns ms apart).0 in
        rw here (later rest)

-- ---- what holds of each entry

all_hold : {A B : Type 0} (f : A → Result B SettingsFault) (P : B → Type 0) → ((e : A) (y : B) → f e ≡ Ok y → P y) → (es : List A) (ys : List B) → all_of f es ≡ Ok ys → AllByRecursion P ys
all_hold f P holds [] ys all = let e : [] ≡ ys = cc in rw (← e) tt
all_hold {A = A} {B = B} f P holds (e ∷ es) ys all = at (f e) (all_of f es) refl refl (all_hold f P holds es)
  where
    at : (o : Result B SettingsFault) (r : Result (List B) SettingsFault) → f e ≡ o → all_of f es ≡ r → ((zs : List B) → all_of f es ≡ Ok zs → AllByRecursion P zs) → AllByRecursion P ys
    at (Err fault) r p q later = let wrong : Err fault ≡ Ok ys = rw p at all in cc
    at (Ok y) (Err fault) p q later = let wrong : Err fault ≡ Ok ys = rw (p, q) at all in cc
    at (Ok y) (Ok zs) p q later =
        let made : Ok (y ∷ zs) ≡ Ok ys = rw (p, q) at all in
        let same : y ∷ zs ≡ ys = cc in
        rw (← same) (holds e y p, later zs q)

mapped : {A : Type 0} (name : A → Name) (P : Name → Type 0) (xs : List A) → AllByRecursion (λ x. P (name x)) xs → AllByRecursion P (map name xs)
mapped name P [] h = tt
mapped name P (x ∷ xs) h = (h.0, mapped name P xs h.1)

weaker : {A : Type 0} (P Q : A → Type 0) → ((x : A) → P x → Q x) → (xs : List A) → AllByRecursion P xs → AllByRecursion Q xs
weaker P Q step [] h = tt
weaker P Q step (x ∷ xs) h = (step x h.0, weaker P Q step xs h.1)

joined_all : (P : Name → Type 0) (ns ms : List Name) → AllByRecursion P ns → AllByRecursion P ms → AllByRecursion P (ns ++ ms)
joined_all P [] ms h k = k
joined_all P (a ∷ ns) ms h k = (h.0, joined_all P ns ms h.1 k)

-- No layer has the name of a table.
untaken : (taken : List Name) (doc : Members) (ls : List NamedLinear) → linears_of taken doc ≡ Ok ls → AllByRecursion (λ l. stands_in l.name taken ≡ false) ls
untaken taken doc ls has =
    let (layers, _, all) = then_parts (optional (codes "linear") (codes "linear") as_members doc) (λ layers. all_of (linear_entry taken) (entries_of layers)) ls has in
    all_hold (linear_entry taken) (λ l. stands_in l.name taken ≡ false) (λ e l h.
    let (name, apart) = linear_name taken e l h in subst (λ (n : Name). stands_in n taken ≡ false) (sym name) apart) (entries_of layers) ls all

pub library_made : (doc : Members) (ts : List NamedTable) (ls : List NamedLinear) → AllByRecursion IsNamedTable ts → AllByRecursion IsNamedLinear ls
    → IsStrictlySortedBy (slice_cmp nat_cmp) (map (λ t. t.name) ts) → IsStrictlySortedBy (slice_cmp nat_cmp) (map (λ l. l.name) ls) → linears_of (map (λ t. t.name) ts) doc ≡ Ok ls
    → IsLibrary (record { tables = ts; linears = ls })
library_made doc ts ls all_tables all_linears tables_up linears_up has =
    record {
      distinct = both_distinct (map (λ (t : NamedTable). t.name) ts) (map (λ (l : NamedLinear). l.name) ls) (ascending_distinct (map (λ (t : NamedTable). t.name) ts) tables_up) (ascending_distinct (map (λ (l : NamedLinear). l.name) ls) linears_up)
          (mapped (λ (l : NamedLinear). l.name) (λ n. stands_in n (map (λ t. t.name) ts) ≡ false) ls (untaken (map (λ t. t.name) ts) doc ls has));
      names = joined_all IsName (map (λ (t : NamedTable). t.name) ts) (map (λ (l : NamedLinear). l.name) ls)
          (mapped (λ (t : NamedTable). t.name) IsName ts (weaker IsNamedTable (λ t. IsName t.name) (λ t h. h.0) ts all_tables))
          (mapped (λ (l : NamedLinear). l.name) IsName ls (weaker IsNamedLinear (λ l. IsName l.name) (λ l h. h.0) ls all_linears));
      tables = weaker IsNamedTable (λ t. IsTable t.table) (λ t h. h.1) ts all_tables;
      linears = weaker IsNamedLinear (λ l. IsLinear l.layer) (λ l h. h.1) ls all_linears;
    }
