-- Lists that stand one after another.
use Rattle.std.proofs.Common.{◌≡◌, refl, sym, ◌∙◌, ap, ap₂, subst, ℕ, zero, suc, ◌+◌, ◌-◌, ◌<◌, ◌≤◌, List, [], ◌∷◌, ◌++◌, length, get_or, take, drop, arith, length-append}
use Rattle.std.specs.Prelude.{slice_range}
use Rattle.std.proofs.lemmas.List.{length-drop, take-append-le, drop-append-le, drop_at, take_all}
use Rattle.net_graph.specs.Rows.{rows, Rise, start_at}

pub length-rows : (from : ℕ) (stops ends : List ℕ) → length (rows from stops ends) ≡ length stops
length-rows from [] ends = refl
length-rows from (stop ∷ stops) ends = ap suc (length-rows stop stops ends)

pub rows-at : (from : ℕ) (stops ends : List ℕ) (k : ℕ) → k < length stops → get_or (rows from stops ends) k [] ≡ slice_range ends (start_at from stops k) (get_or stops k 0)
rows-at from [] ends k h = absurd (omega arith)
rows-at from (stop ∷ stops) ends zero h = refl
rows-at from (stop ∷ stops) ends (suc k) h = rows-at stop stops ends k (omega arith)

pub start_after : (from : ℕ) (stops : List ℕ) (k : ℕ) → k < length stops → start_at from stops (suc k) ≡ get_or stops k 0
start_after from [] k h = absurd (omega arith)
start_after from (stop ∷ stops) zero h = refl
start_after from (stop ∷ stops) (suc k) h = start_after stop stops k (omega arith)

pub start_is : (stops : List ℕ) (k : ℕ) → (k ≡ 0 → ⊥) → k < length stops → get_or stops (k - 1) 0 ≡ start_at 0 stops k
start_is stops zero other h = absurd (other refl)
start_is stops (suc k) other h = let e : suc k - 1 ≡ k = omega arith in ap (λ i. get_or stops i 0) e ∙ sym (start_after 0 stops k (omega arith))

pub rise_within : (from : ℕ) (stops : List ℕ) (end : ℕ) → Rise from stops end → from ≤ end
rise_within from [] end r = omega arith
rise_within from (stop ∷ stops) end r = omega (arith, r.0, rise_within stop stops end r.1)

pub rise_at : (from : ℕ) (stops : List ℕ) (end : ℕ) → Rise from stops end → (k : ℕ) → k < length stops → (start_at from stops k ≤ get_or stops k 0) × (get_or stops k 0 ≤ end)
rise_at from [] end r k h = absurd (omega arith)
rise_at from (stop ∷ stops) end r zero h = (r.0, rise_within stop stops end r.1)
rise_at from (stop ∷ stops) end r (suc k) h = rise_at stop stops end r.1 k (omega arith)

pub rise-push : (from : ℕ) (stops : List ℕ) (end more : ℕ) → Rise from stops end → end ≤ more → Rise from (stops ++ more ∷ []) more
rise-push from [] end more r h = (omega arith, refl)
rise-push from (stop ∷ stops) end more r h = (r.0, rise-push stop stops end more r.1 h)

range-append : (ends row : List ℕ) (from stop : ℕ) → from ≤ stop → stop ≤ length ends → slice_range (ends ++ row) from stop ≡ slice_range ends from stop
range-append ends row from stop a b =
    ap (take (stop - from)) (drop-append-le from ends row (omega arith)) ∙ take-append-le (stop - from) (drop from ends) row (omega (arith, length-drop from ends))

range-last : (ends row : List ℕ) (from : ℕ) → from ≡ length ends → slice_range (ends ++ row) from (length ends + length row) ≡ row
range-last ends row from e =
    ap (take ((length ends + length row) - from)) (drop_at ends row from (sym e)) ∙ take_all ((length ends + length row) - from) row (omega arith)

pub rows-push : (from : ℕ) (stops ends row : List ℕ) → Rise from stops (length ends) → rows from (stops ++ (length ends + length row) ∷ []) (ends ++ row) ≡ rows from stops ends ++ row ∷ []
rows-push from [] ends row r = ap (λ l. l ∷ []) (range-last ends row from r)
rows-push from (stop ∷ stops) ends row r =
    ap₂ (λ x xs. x ∷ xs) (range-append ends row from stop r.0 (rise_within stop stops (length ends) r.1)) (rows-push stop stops ends row r.1)

-- one more list, as it is pushed
pub pushed_rise : (stops kept after ends all row : List ℕ) (end : ℕ) → kept ≡ stops → after ≡ kept ++ end ∷ [] → all ≡ ends ++ row → end ≡ length all → Rise 0 stops (length ends) → Rise 0 after (length all)
pushed_rise stops kept after ends all row end same is whole at r =
    subst (λ l. Rise 0 l (length all)) (sym (is ∙ ap₂ (λ xs n. xs ++ n ∷ []) same at))
    (rise-push 0 stops (length ends) (length all) r (omega (arith, ap length whole, length-append ends row)))

pub pushed_rows : (stops kept after ends all row : List ℕ) (end : ℕ) → kept ≡ stops → after ≡ kept ++ end ∷ [] → all ≡ ends ++ row → end ≡ length all → Rise 0 stops (length ends) → rows 0 after all ≡ rows 0 stops ends ++ row ∷ []
pushed_rows stops kept after ends all row end same is whole at r =
    ap₂ (rows 0) (is ∙ ap₂ (λ xs n. xs ++ n ∷ []) same (at ∙ (ap length whole ∙ length-append ends row))) whole ∙ rows-push 0 stops ends row r
