-- Parts of a list that grows at its end.
use Rattle.std.proofs.Common.{◌≡◌, refl, sym, ◌∙◌, ap, ap₂, subst, ℕ, zero, suc, ◌-◌, ◌<◌, ◌≤◌, List, [], ◌∷◌, ◌++◌, length, map, take, drop, arith, length-append}
use Rattle.std.specs.Prelude.{slice_range}
use Rattle.std.specs.List.{AllByRecursion}
use Rattle.std.proofs.lemmas.List.{length-drop, map-append}
use Rattle.imp_text.specs.declared.names.NameId.{NameId}
use Rattle.source_nets.specs.declared.rows.Span.{Span}
use Rattle.source_nets.specs.Rows.{rows_in, AreSpans}
use Rattle.netlist_spec.proofs.OneValue.{All_append}

drop_front : {X : Type 0} (xs ys : List X) (n : ℕ) → n ≤ length xs → drop n (xs ++ ys) ≡ drop n xs ++ ys
drop_front [] ys zero h = refl
drop_front [] ys (suc n) h = absurd (omega arith)
drop_front (x ∷ xs) ys zero h = refl
drop_front (x ∷ xs) ys (suc n) h = drop_front xs ys n (omega arith)

take_front : {X : Type 0} (xs ys : List X) (n : ℕ) → n ≤ length xs → take n (xs ++ ys) ≡ take n xs
take_front xs ys zero h = refl
take_front [] ys (suc n) h = absurd (omega arith)
take_front (x ∷ xs) ys (suc n) h = ap (λ zs. x ∷ zs) (take_front xs ys n (omega arith))

drop_whole : {X : Type 0} (xs ys : List X) → drop (length xs) (xs ++ ys) ≡ ys
drop_whole [] ys = refl
drop_whole (x ∷ xs) ys = drop_whole xs ys

take_whole : {X : Type 0} (xs : List X) → take (length xs) xs ≡ xs
take_whole [] = refl
take_whole (x ∷ xs) = ap (λ ys. x ∷ ys) (take_whole xs)

part_kept : {X : Type 0} (ids more : List X) (s e : ℕ) → s ≤ e → e ≤ length ids → slice_range (ids ++ more) s e ≡ slice_range ids s e
part_kept {X = X} ids more s e low high =
    ap (take (e - s)) (drop_front ids more s (omega arith))
    ∙ take_front (drop s ids) more (e - s) (omega (arith, length-drop {A = X}))

last_part : {X : Type 0} (ids row : List X) → slice_range (ids ++ row) (length ids) (length (ids ++ row)) ≡ row
last_part ids row =
    ap (take (length (ids ++ row) - length ids)) (drop_whole ids row)
    ∙ ap (λ n. take n row) (let l = length-append ids row in let e : length (ids ++ row) - length ids ≡ length row = omega arith in e)
    ∙ take_whole row

rows_kept : (ids more : List NameId) (spans : List Span) → AreSpans ids spans → rows_in (ids ++ more) spans ≡ rows_in ids spans
rows_kept ids more [] are = refl
rows_kept ids more (s ∷ spans) are = ap₂ (λ (r : List NameId) (rs : List (List NameId)). r ∷ rs) (part_kept ids more s.start s.end are.0.0 are.0.1) (rows_kept ids more spans are.1)

pub rows_pushed : (ids row : List NameId) (spans : List Span) (span : Span) → AreSpans ids spans → span.start ≡ length ids → span.end ≡ length (ids ++ row) → rows_in (ids ++ row) (spans ++ span ∷ []) ≡ rows_in ids spans ++ row ∷ []
rows_pushed ids row spans span are first last =
    map-append (λ (s : Span). slice_range (ids ++ row) s.start s.end) spans (span ∷ [])
    ∙ ap₂ (λ (rs : List (List NameId)) (r : List NameId). rs ++ r ∷ []) (rows_kept ids row spans are)
    (ap₂ (λ (a b : ℕ). slice_range (ids ++ row) a b) first last ∙ last_part ids row)
