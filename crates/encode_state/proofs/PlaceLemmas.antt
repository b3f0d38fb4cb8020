-- Places of nets.
use Rattle.std.proofs.Common.{◌≡◌, ◌≢◌, refl, sym, ◌∙◌, ap, subst, ℕ, zero, suc, ◌+◌, ◌<◌, List, [], ◌∷◌, ◌++◌, map, length, take, true, false, ◌||◌, get_or, set, arith, Option, Some, None, ◌⊎◌, inl, inr, replicate}
use Rattle.std.specs.Prelude.{slice_get}
use Rattle.std.specs.List.{AllByRecursion}
use Rattle.std.proofs.lemmas.List.{length-set, get_or-set_same, get_or-set_other}
use Rattle.netlist_spec.specs.Netlist.{Name, same_name, stands_in, are_distinct}
use Rattle.imp_text.specs.declared.names.NameId.{NameId}
use Rattle.netlist_spec.proofs.OneValue.{All_append}
use Rattle.imp_text.proofs.NamesLemmas.{slice_get_last, slice_get-append_left, stands_in-append, stands_in-at, same_name-true}
use Rattle.blif_read.specs.View.{name_at}
use Rattle.encode_state.specs.Places.{IsPlaceOf, ArePlaces}
use Rattle.encode_state.proofs.ListedLemmas.{either, at_is, at_within}
use Rattle.encode_state.proofs.MarkLemmas.{apart, same_or_other}

-- a place stays where a net is put behind
place_stays : (nets : List Name) (n last : Name) (o : Option ℕ) → same_name n last ≡ false → IsPlaceOf nets n o → IsPlaceOf (nets ++ last ∷ []) n o
place_stays nets n last None other p = stands_in-append n nets (last ∷ []) ∙ rw (p, other) refl
place_stays nets n last (Some i) other p = slice_get-append_left nets (last ∷ []) i n p

there : (all : List Name) (k : ℕ) → k < length all → slice_get all k ≡ Some (get_or all k [])
there [] k h = absurd (omega arith)
there (n ∷ ns) zero h = refl
there (n ∷ ns) (suc k) h = there ns k (omega arith)

pub place_set : (all nets : List Name) (places : List (Option ℕ)) (id : NameId) → are_distinct all ≡ true → id.0 < length all → ArePlaces all nets places
    → ArePlaces all (nets ++ name_at all id ∷ []) (set places id.0 (Some (length nets)))
place_set all nets places id d inside p =
    record { known = All_append (λ n. stands_in n all ≡ true) nets (name_at all id ∷ []) p.known (stands_in-at all id.0 (name_at all id) (there all id.0 inside), tt); each_name = length-set places id.0 (Some (length nets)) ∙ p.each_name; each_place = λ k within. at k within (same_or_other k id.0) }
  where
    here : (k : ℕ) → k ≡ id.0 → IsPlaceOf (nets ++ name_at all id ∷ []) (get_or all k []) (get_or (set places id.0 (Some (length nets))) k None)
    here k e =
        subst (λ j. IsPlaceOf (nets ++ name_at all id ∷ []) (get_or all j []) (get_or (set places id.0 (Some (length nets))) j None)) (sym e)
        (rw (get_or-set_same places id.0 (Some (length nets)) None (subst (λ l. id.0 < l) (sym p.each_name) inside)) (slice_get_last nets (name_at all id)))

    at : (k : ℕ) → k < length all → (k ≡ id.0) ⊎ (k ≢ id.0) → IsPlaceOf (nets ++ name_at all id ∷ []) (get_or all k []) (get_or (set places id.0 (Some (length nets))) k None)
    at k within (inl e) = here k e
    at k within (inr other) =
        rw (get_or-set_other places id.0 k (Some (length nets)) None other)
        (place_stays nets (get_or all k []) (name_at all id) (get_or places k None) (apart all k id.0 d within inside other) (p.each_place k within))

-- a name that is none of all is none of the nets
pub absent_net : (all nets : List Name) (n : Name) → AllByRecursion (λ m. stands_in m all ≡ true) nets → stands_in n all ≡ false → stands_in n nets ≡ false
absent_net all [] n known absent = refl
absent_net all (m ∷ ms) n known absent = elim (either (same_name n m)) [
  | inl e ↦ (let h : stands_in n all ≡ true = ap (λ k. stands_in k all) (same_name-true n m e) ∙ known.0 in absurd (cc (h, absent)))
  | inr e ↦ rw e (absent_net all ms n known.1 absent)
]

-- the place of the name with this number
pub place_at : (all nets : List Name) (places : List (Option ℕ)) (n : Name) (k : ℕ) → ArePlaces all nets places → slice_get all k ≡ Some n → IsPlaceOf nets n (get_or places k None)
place_at all nets places n k p e = subst (λ m. IsPlaceOf nets m (get_or places k None)) (at_is all k n [] e) (p.each_place k (at_within all k n e))

pub no_places : (all : List Name) (places : List (Option ℕ)) → length places ≡ length all → ((k : ℕ) → get_or places k None ≡ None) → ArePlaces all [] places
no_places all places size none = record { known = tt; each_name = size; each_place = λ k within. rw (none k) refl }
