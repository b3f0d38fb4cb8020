-- The nets of names in tables by the names' numbers.
use Rattle.std.proofs.Common.{◌≡◌, ◌≢◌, ◌⊎◌, inl, inr, refl, sym, ◌∙◌, ap, ℕ, zero, suc, ◌<◌, Bool, true, false, ◌||◌, List, [], ◌∷◌, length, Some, slice_get, arith, length-set}
use Rattle.std.specs.Prelude.{if◌then◌else◌}
use Rattle.std.proofs.lemmas.List.{get_or-set_same, get_or-set_other}
use Rattle.std.proofs.lemmas.Option.{slice_get_within, slice_get-get_or}
use Rattle.netlist_spec.specs.Netlist.{Name, same_name, stands_in, are_distinct}
use Rattle.imp_text.specs.declared.names.NameId.{NameId}
use Rattle.blif_read.specs.View.{name_at}
use Rattle.imp_text.proofs.NamesLemmas.{same_name-true, same_name_self, one_place}
use Rattle.source_laws.proofs.Lists.{Among}
use Rattle.lowering.specs.Nets.{place_of, net_in}
use Rattle.model_lowering.specs.Binds.{note}

-- ---- places of names

-- a name that is there is at its place
pub name_at_place : (names : List Name) (n : Name) → Among n names → slice_get names (place_of names n) ≡ Some n
name_at_place [] n h = absurd h
name_at_place (k ∷ ks) n h = by_case (same_name k n) refl h (name_at_place ks n)
  where
    by_case : (b : Bool) → same_name k n ≡ b → (k ≡ n) ⊎ Among n ks → (Among n ks → slice_get ks (place_of ks n) ≡ Some n) → slice_get (k ∷ ks) (if b then zero else suc (place_of ks n)) ≡ Some n
    by_case true e h later = ap (λ (z : Name). Some z) (same_name-true k n e)
    by_case false e (inl q) later = let d : same_name k n ≡ true = ap (λ z. same_name z n) q ∙ same_name_self n in cc (d, e)
    by_case false e (inr r) later = later r

pub place_within : (names : List Name) (n : Name) → Among n names → place_of names n < length names
place_within names n h = slice_get_within names (place_of names n) n (name_at_place names n h)

-- what stands at a name's place is the name
pub place_is_of : (names : List Name) (n : Name) → place_of names n < length names → slice_get names (place_of names n) ≡ Some n
place_is_of [] n h = absurd (omega (arith, h))
place_is_of (k ∷ ks) n h = by_case (same_name k n) refl h (place_is_of ks n)
  where
    by_case : (b : Bool) → same_name k n ≡ b → (if b then zero else suc (place_of ks n)) < length (k ∷ ks) → (place_of ks n < length ks → slice_get ks (place_of ks n) ≡ Some n)
        → slice_get (k ∷ ks) (if b then zero else suc (place_of ks n)) ≡ Some n
    by_case true e h later = ap (λ (z : Name). Some z) (same_name-true k n e)
    by_case false e h later = later (omega (arith, h))

-- a name that isn't there has the place behind the last one
pub place_past : (names : List Name) (n : Name) → stands_in n names ≡ false → place_of names n ≡ length names
place_past [] n h = refl
place_past (k ∷ ks) n h = by_case (same_name k n) refl (place_past ks n)
  where
    by_case : (b : Bool) → same_name k n ≡ b → (stands_in n ks ≡ false → place_of ks n ≡ length ks) → (if b then zero else suc (place_of ks n)) ≡ length (k ∷ ks)
    by_case true e later = let same = same_name-true k n e in let d : stands_in n (k ∷ ks) ≡ true = ap (λ z. same_name n z || stands_in n ks) same ∙ ap (λ b. b || stands_in n ks) (same_name_self n) in cc (d, h)
    by_case false e later = ap suc (later (no_later (same_name n k) (stands_in n ks) h))
      where
        no_later : (a b : Bool) → (a || b) ≡ false → b ≡ false
        no_later true b h = cc h
        no_later false b h = h

pub place_is : (names : List Name) (i : ℕ) (n : Name) → are_distinct names ≡ true → slice_get names i ≡ Some n → place_of names n ≡ i
place_is names i n d at = one_place names (place_of names n) i n d (name_at_place names n (there names i at)) at
  where
    there : (ks : List Name) (j : ℕ) → slice_get ks j ≡ Some n → Among n ks
    there [] j e = cc e
    there (k ∷ ks) zero e = let same : k ≡ n = cc e in inl same
    there (k ∷ ks) (suc j) e = inr (there ks j e)

pub places_apart : (names : List Name) (n k : Name) → Among k names → n ≢ k → place_of names n ≢ place_of names k
places_apart names n k h apart same =
    let within = place_within names k h in
    let left = place_is_of names n (omega (arith, within, same)) in
    let right = name_at_place names k h in
    let both : Some n ≡ Some k = sym left ∙ (ap (slice_get names) same ∙ right) in
    apart (cc both)

-- ---- notes

pub note_size : (names : List Name) (k : Name) (net : ℕ) (table : List ℕ) → length (note names k net table) ≡ length table
note_size names k net table = length-set table (place_of names k) net

pub note_here : (names : List Name) (k : Name) (net : ℕ) (table : List ℕ) → length table ≡ length names → Among k names → net_in names (note names k net table) k ≡ net
note_here names k net table size h = get_or-set_same table (place_of names k) net 0 (omega (arith, size, place_within names k h))

pub note_other : (names : List Name) (n k : Name) (net : ℕ) (table : List ℕ) → Among k names → n ≢ k → net_in names (note names k net table) n ≡ net_in names table n
note_other names n k net table h apart = get_or-set_other table (place_of names k) (place_of names n) net 0 (places_apart names n k h apart)

-- ---- numbers

pub name_has_place : (names : List Name) (id : NameId) → are_distinct names ≡ true → id.0 < length names → place_of names (name_at names id) ≡ id.0
name_has_place names id d within = place_is names id.0 (name_at names id) d (slice_get-get_or names id.0 [] within)
