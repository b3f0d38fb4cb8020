-- The entries of a table, one after another, and their names.
use Rattle.std.proofs.Common.{◌≡◌, ℕ, List, [], ◌∷◌, ◌++◌, map, Option, None, Some, Result, Ok, Err, Less, String, Global, string_bytes, nat_cmp, refl, sym, subst, ap, ◌∙◌, append_assoc}
use Rattle.std.proofs.lemmas.List.{append-nil}
use Rattle.std.specs.Cmp.Lexicographic.{slice_cmp}
use Rattle.std.specs.List.{AllByRecursion}
use Rattle.std.specs.List.Sorted.{IsStrictlySortedBy}
use Rattle.std.specs.Map.{keys_of}
use Rattle.std.specs.String.{string_cmp}
use Rattle.guard_spec.specs.SettingsFile.{SettingsFault, all_of, member_list, ◌>>=◌}
use Rattle.toml.specs.Data.{Data}
use Rattle.toml.specs.View.{view, members_view}
use Rattle.toml.specs.declared.value.Value.{Value}
use Rattle.settings.specs.Faults.{IsFault}

-- what comes of the rest, behind what the entries so far give
abbrev pub after : {B : Type 0} → List B → Result (List B) SettingsFault → Result (List B) SettingsFault
after ys (Ok zs) = Ok (ys ++ zs)
after ys (Err e) = Err e

pub after_none : {B : Type 0} (r : Result (List B) SettingsFault) → r ≡ after [] r
after_none (Ok zs) = refl
after_none (Err e) = refl

module _ {A B : Type 0} (f : A → Result B SettingsFault) where
  behind : (ys : List B) (y : B) (r : Result (List B) SettingsFault) → after ys (r >>= (λ zs. Ok (y ∷ zs))) ≡ after (ys ++ y ∷ []) r
  behind ys y (Ok zs) = ap (λ (all : List B). Ok all) (sym (append_assoc ys (y ∷ []) zs))
  behind ys y (Err e) = refl

  -- one more entry
  pub after_more : (e : A) (es : List A) (ys : List B) (y : B) → f e ≡ Ok y → after ys (all_of f (e ∷ es)) ≡ after (ys ++ y ∷ []) (all_of f es)
  after_more e es ys y here = rw here (behind ys y (all_of f es))

  -- an entry at fault
  pub after_fault : (e : A) (es : List A) (ys : List B) (o : Option SettingsFault) → IsFault (f e) o → IsFault (after ys (all_of f (e ∷ es))) o
  after_fault e es ys None h = tt
  after_fault e es ys (Some fault) h = rw h refl

  pub after_all : (ys : List B) → after ys (all_of f []) ≡ Ok ys
  after_all ys = ap (λ (all : List B). Ok all) (append-nil ys)

  -- where each entry gives something of its name, the names are those of the entries
  pub names_alike : (first : A → List ℕ) (name : B → List ℕ) → ((e : A) (y : B) → f e ≡ Ok y → name y ≡ first e) → (es : List A) (ys : List B) → all_of f es ≡ Ok ys → map name ys ≡ map first es
  names_alike first name named [] ys all = let e : [] ≡ ys = cc in rw (← e) refl
  names_alike first name named (e ∷ es) ys all = at (f e) (all_of f es) refl refl (names_alike first name named es)
    where
      at : (o : Result B SettingsFault) (r : Result (List B) SettingsFault) → f e ≡ o → all_of f es ≡ r → ((zs : List B) → all_of f es ≡ Ok zs → map name zs ≡ map first es) → map name ys ≡ map first (e ∷ es)
      at (Err fault) r p q later = let no : Err fault ≡ Ok ys = rw p at all in cc
      at (Ok y) (Err fault) p q later = let no : Err fault ≡ Ok ys = rw (p, q) at all in cc
      at (Ok y) (Ok zs) p q later =
          let made : Ok (y ∷ zs) ≡ Ok ys = rw (p, q) at all in
          let same : y ∷ zs ≡ ys = cc in
          rw (← same) (rw (named e y p, later zs q) refl)

-- the entries of a map
abbrev pub listed : List (String Global × Value) → List (List ℕ × Data)
listed es = member_list (members_view es)

pub listed_names : (es : List (String Global × Value)) → map (λ (e : List ℕ × Data). e.0) (listed es) ≡ map string_bytes (keys_of es)
listed_names [] = refl
listed_names (e ∷ es) = ap (λ (ns : List (List ℕ)). string_bytes e.0 ∷ ns) (listed_names es)

all_less : (k : String Global) (ks : List (String Global)) → AllByRecursion (λ j. string_cmp k j ≡ Less) ks → AllByRecursion (λ n. slice_cmp nat_cmp (string_bytes k) n ≡ Less) (map string_bytes ks)
all_less k [] h = tt
all_less k (j ∷ ks) h = (h.0, all_less k ks h.1)

pub ascending_bytes : (ks : List (String Global)) → IsStrictlySortedBy string_cmp ks → IsStrictlySortedBy (slice_cmp nat_cmp) (map string_bytes ks)
unfolding IsStrictlySortedBy
ascending_bytes [] h = tt
ascending_bytes (k ∷ ks) h = (all_less k ks h.0, ascending_bytes ks h.1)

-- In a loop over the entries of a map: one that gives something, one at fault, and the end.
module _ {B : Type 0} (f : List ℕ × Data → Result B SettingsFault) (whole left : List (String Global × Value)) (ys : List B) (so_far : all_of f (listed whole) ≡ after ys (all_of f (listed left))) where
  module _ (k : String Global) (v : Value) (rest : List (String Global × Value)) (next : left ≡ (k, v) ∷ rest) (text : List ℕ) (same : text ≡ string_bytes k) where
    pub entry_gives : (y : B) → f (text, view v) ≡ Ok y → all_of f (listed whole) ≡ after (ys ++ y ∷ []) (all_of f (listed rest))
    entry_gives y here =
        so_far
        ∙ (ap (λ (es : List (String Global × Value)). after ys (all_of f (listed es))) next
        ∙ after_more f (string_bytes k, view v) (listed rest) ys y (subst (λ (n : List ℕ). f (n, view v) ≡ Ok y) same here))

    pub entry_fails : (o : Option SettingsFault) → IsFault (f (text, view v)) o → IsFault (all_of f (listed whole)) o
    entry_fails o h =
        subst (λ (r : Result (List B) SettingsFault). IsFault r o) (sym (so_far ∙ ap (λ (es : List (String Global × Value)). after ys (all_of f (listed es))) next))
        (after_fault f (string_bytes k, view v) (listed rest) ys o (subst (λ (n : List ℕ). IsFault (f (n, view v)) o) same h))

  pub entries_end : left ≡ [] → all_of f (listed whole) ≡ Ok ys
  entries_end none = so_far ∙ (ap (λ (es : List (String Global × Value)). after ys (all_of f (listed es))) none ∙ after_all f ys)

pub map_twice : {A B C : Type 0} (f : A → B) (g : B → C) (xs : List A) → map g (map f xs) ≡ map (λ x. g (f x)) xs
map_twice f g [] = refl
map_twice f g (x ∷ xs) = ap (λ ys. g (f x) ∷ ys) (map_twice f g xs)

-- The names of what the entries give ascend as the keys do.
pub ascending_names : {B T : Type 0} (f : List ℕ × Data → Result B SettingsFault) (seen : T → B) (name : B → List ℕ) → ((e : List ℕ × Data) (y : B) → f e ≡ Ok y → name y ≡ e.0)
    → (es : List (String Global × Value)) (ts : List T) → all_of f (listed es) ≡ Ok (map seen ts) → IsStrictlySortedBy string_cmp (keys_of es) → IsStrictlySortedBy (slice_cmp nat_cmp) (map (λ t. name (seen t)) ts)
ascending_names f seen name named es ts all ordered =
    let names : map (λ t. name (seen t)) ts ≡ map string_bytes (keys_of es) =
    sym (map_twice seen name ts) ∙ (names_alike f (λ (e : List ℕ × Data). e.0) name named (listed es) (map seen ts) all ∙ listed_names es) in
    subst (IsStrictlySortedBy (slice_cmp nat_cmp)) (sym names) (ascending_bytes (keys_of es) ordered)

-- what holds of all, and of one more
pub all_push : {B : Type 0} (P : B → Type 0) (xs : List B) (y : B) → AllByRecursion P xs → P y → AllByRecursion P (xs ++ y ∷ [])
all_push P [] y all here = (here, tt)
all_push P (x ∷ xs) y all here = (all.0, all_push P xs y all.1 here)
