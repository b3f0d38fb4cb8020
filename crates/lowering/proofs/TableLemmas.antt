-- Names and their nets in a table.
use Rattle.std.proofs.Common.{◌≡◌, ◌≢◌, refl, sym, ◌∙◌, ap, ℕ, zero, suc, ◌<◌, List, [], ◌∷◌, length, set, get_or, Bool, true, false, not, cond, arith}
use Rattle.std.proofs.lemmas.List.{get_or-set_same, get_or-set_other}
use Rattle.netlist_spec.specs.Netlist.{Name, same_name, stands_in, are_distinct}
use Rattle.netlist_spec.proofs.OneValue.{passes_both, fails_first}
use Rattle.netlist_spec.proofs.Occurrences.{turn}
use Rattle.imp_text.proofs.NamesLemmas.{same_name_self, same_name-true}
use Rattle.lowering.specs.Nets.{place_of, net_in}

-- no name of a list is one that doesn't stand in it
none_at : (n : Name) (ns : List Name) (i : ℕ) → stands_in n ns ≡ false → i < length ns → same_name n (get_or ns i []) ≡ false
none_at n [] i h inside = absurd (omega arith)
none_at n (k ∷ ks) zero h inside = (fails_first _ _ h).0
none_at n (k ∷ ks) (suc i) h inside = none_at n ks i (fails_first _ _ h).1 (omega arith)

-- the place of a name of distinct ones is its number
pub place_at : (ns : List Name) (i : ℕ) → are_distinct ns ≡ true → i < length ns → place_of ns (get_or ns i []) ≡ i
place_at [] i d h = absurd (omega arith)
place_at (k ∷ ks) zero d h = ap (λ (b : Bool). cond b zero (suc (place_of ks k))) (same_name_self k)
place_at (k ∷ ks) (suc i) d h =
    let parts = passes_both (not (stands_in k ks)) (are_distinct ks) d in
    let other : same_name k (get_or ks i []) ≡ false = none_at k ks i (turn _ parts.0) (omega arith) in
    ap (λ (b : Bool). cond b zero (suc (place_of ks (get_or ks i [])))) other ∙ ap suc (place_at ks i parts.1 (omega arith))

-- at the place of a name stands that name
pub at_place_of : (ns : List Name) (n : Name) → place_of ns n < length ns → get_or ns (place_of ns n) [] ≡ n
at_place_of [] n h = absurd (omega arith)
at_place_of (k ∷ ks) n h = go (same_name k n) refl h (at_place_of ks n)
  where
    go : (b : Bool) → same_name k n ≡ b → cond b zero (suc (place_of ks n)) < suc (length ks) → (place_of ks n < length ks → get_or ks (place_of ks n) [] ≡ n) → get_or (k ∷ ks) (cond b zero (suc (place_of ks n))) [] ≡ n
    go true e inside later = same_name-true k n e
    go false e inside later = later (omega arith)

-- the net of a number's name
pub net_at : (names : List Name) (table : List ℕ) (i : ℕ) → are_distinct names ≡ true → i < length names → net_in names table (get_or names i []) ≡ get_or table i 0
net_at names table i d h = ap (λ (k : ℕ). get_or table k 0) (place_at names i d h)

-- Where the net of a name is noted, that name has it.
pub noted_here : (names : List Name) (table : List ℕ) (i x : ℕ) → are_distinct names ≡ true → length table ≡ length names → i < length names → net_in names (set table i x) (get_or names i []) ≡ x
noted_here names table i x d size h = net_at names (set table i x) i d h ∙ get_or-set_same table i x 0 (omega arith)

-- Each other name keeps its net.
pub noted_elsewhere : (names : List Name) (table : List ℕ) (i x : ℕ) (n : Name) → i < length names → same_name n (get_or names i []) ≡ false → net_in names (set table i x) n ≡ net_in names table n
noted_elsewhere names table i x n h other = get_or-set_other table i (place_of names n) x 0 apart
  where
    apart : place_of names n ≢ i
    apart e =
        let here : get_or names (place_of names n) [] ≡ n = at_place_of names n (omega arith) in
        let same : n ≡ get_or names i [] = sym here ∙ ap (λ (k : ℕ). get_or names k []) e in
        let one : same_name n (get_or names i []) ≡ true = ap (same_name n) (sym same) ∙ same_name_self n in
        cc (one, other)
