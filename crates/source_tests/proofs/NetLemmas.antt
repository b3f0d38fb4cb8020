-- Marks of nets, by what statements read and drive.
use Rattle.std.proofs.Common.{◌≡◌, refl, sym, ◌∙◌, ap, ℕ, ◌+◌, ◌<◌, List, [], ◌∷◌, ◌++◌, map, length, get_or, take, All, Bool, ◌||◌}
use Rattle.std.specs.List.{AllByRecursion, flat_map}
use Rattle.std.proofs.lemmas.List.{map-append, take_more}
use Rattle.netlist_spec.specs.Netlist.{Name, stands_in}
use Rattle.netlist_spec.specs.Reads.{first_appearances}
use Rattle.imp_text.specs.declared.names.NameId.{NameId}
use Rattle.imp_text.proofs.NamesLemmas.{stands_in-append}
use Rattle.blif_read.specs.View.{name_at}
use Rattle.line_order.specs.Marks.{Marks}
use Rattle.line_order.proofs.MarkLemmas.{all_of, part_marked}
use Rattle.source_nets.proofs.PortLemmas.{in_first_appearances}

-- one more item
pub map_more : {A B : Type 0} (f : A → B) (xs : List A) (i : ℕ) (d : A) → i < length xs → map f (take (i + 1) xs) ≡ map f (take i xs) ++ f (get_or xs i d) ∷ []
map_more f xs i d h = ap (map f) (take_more xs i d h) ∙ map-append f (take i xs) (get_or xs i d ∷ [])

-- one more net
pub net_marked : (all listed : List Name) (after : List Bool) (nets : List NameId) (i : ℕ) (none : NameId) → i < length nets
    → Marks all after ((listed ++ map (name_at all) (take i nets)) ++ name_at all (get_or nets i none) ∷ []) → Marks all after (listed ++ map (name_at all) (take (i + 1) nets))
net_marked all listed after nets i none inside m =
    part_marked all listed (map (name_at all) (take i nets)) (name_at all (get_or nets i none) ∷ []) after (map (name_at all) (take (i + 1) nets)) (map_more (name_at all) nets i none inside) m

-- Lists with the same names have the same marks.
pub same_marks : (all : List Name) (marks : List Bool) (listed other : List Name) → ((n : Name) → stands_in n listed ≡ stands_in n other) → Marks all marks listed → Marks all marks other
same_marks all marks listed other same m =
    record { distinct = m.distinct; each_name = m.each_name; marked = λ k within. m.marked k within ∙ same (get_or all k []) }

-- each name once, and some more
pub once_marked : (all : List Name) (marks : List Bool) (ns more : List Name) → Marks all marks (ns ++ more) → Marks all marks (first_appearances ns ++ more)
once_marked all marks ns more m =
    same_marks all marks (ns ++ more) (first_appearances ns ++ more)
    (λ n. stands_in-append n ns more ∙ ap (λ b. b || stands_in n more) (sym (in_first_appearances n ns)) ∙ sym (stands_in-append n (first_appearances ns) more)) m

-- rows that are the same one by one are the same in a row
pub rows_are : {X A Y : Type 0} (g : X → List A) (xs : List X) (f : Y → List A) (ys : List Y) → map g xs ≡ map f ys → flat_map g xs ≡ flat_map f ys
rows_are {X} {A} {Y} g xs f ys e = joined g xs ∙ ap join e ∙ sym (joined f ys)
  where
    join : List (List A) → List A
    join ls = flat_map (λ (l : List A). l) ls

    joined : {Z : Type 0} (h : Z → List A) (zs : List Z) → flat_map h zs ≡ join (map h zs)
    joined h [] = refl
    joined h (z ∷ zs) = ap (λ l. h z ++ l) (joined h zs)

-- rows of numbers by their places
pub rows_within : (P : NameId → Type 0) (rows : List (List NameId)) → AllByRecursion (AllByRecursion P) rows → All (λ (ids : List NameId). All P ids) rows
rows_within P rows a = all_of (λ (ids : List NameId). All P ids) rows (each rows a)
  where
    each : (rows : List (List NameId)) → AllByRecursion (AllByRecursion P) rows → AllByRecursion (λ (ids : List NameId). All P ids) rows
    each [] a = tt
    each (r ∷ rs) a = (all_of P r a.0, each rs a.1)
