-- The text of a line, byte by byte from its end.
use Rattle.std.proofs.Common.{◌≡◌, ℕ, ◌<◌, ◌≤◌, ◌+◌, ◌-◌, Bool, true, false, cond, eqb, ◌&&◌, List, [], ◌∷◌, ◌++◌, length, get_or, take, arith, sym, ap, refl, ◌∙◌}
use Rattle.std.proofs.lemmas.List.{take_more, take_all, take-take, get_or_read}
use Rattle.std.specs.List.{position_or_len}
use Rattle.std.specs.Prelude.{if◌then◌else◌}
use Rattle.imp_text.specs.LineText.{text_of_line}
use Rattle.netlist_spec.specs.Lines.{is_blank, is_empty, trimmed, ends_with_backslash, without_last}

pub is_empty-push : {A : Type 0} (xs : List A) (x : A) → is_empty (xs ++ x ∷ []) ≡ false
is_empty-push [] x = refl
is_empty-push (y ∷ xs) x = refl

never_both : {A : Type 0} (t : Bool) (x y : A) → cond (t && false) x y ≡ y
never_both true x y = refl
never_both false x y = refl

pub trimmed-push_blank : (bs : List ℕ) (b : ℕ) → is_blank b ≡ true → trimmed (bs ++ b ∷ []) ≡ trimmed bs
trimmed-push_blank [] b e = rw e
trimmed-push_blank (x ∷ bs) b e = rw (trimmed-push_blank bs b e)

pub trimmed-push_other : (bs : List ℕ) (b : ℕ) → is_blank b ≡ false → trimmed (bs ++ b ∷ []) ≡ bs ++ b ∷ []
trimmed-push_other [] b e = rw e
trimmed-push_other (x ∷ bs) b e = rw (trimmed-push_other bs b e, is_empty-push bs b) (never_both (is_blank x) [] _)

pub ends_with_backslash-push : (bs : List ℕ) (b : ℕ) → ends_with_backslash (bs ++ b ∷ []) ≡ eqb b 92
ends_with_backslash-push [] b = refl
ends_with_backslash-push (x ∷ []) b = refl
ends_with_backslash-push (x ∷ y ∷ bs) b = ends_with_backslash-push (y ∷ bs) b

pub without_last-push : (bs : List ℕ) (b : ℕ) → without_last (bs ++ b ∷ []) ≡ bs
without_last-push [] b = refl
without_last-push (x ∷ []) b = refl
without_last-push (x ∷ y ∷ bs) b = ap (λ r. x ∷ r) (without_last-push (y ∷ bs) b)

-- the first n bytes with the last of them by itself
pub last_apart : (bs : List ℕ) (n : ℕ) → 0 < n → n ≤ length bs → take n bs ≡ take (n - 1) bs ++ get_or bs (n - 1) 0 ∷ []
last_apart bs n some within =
    let e : n ≡ (n - 1) + 1 = omega arith in
    ap (λ m. take m bs) e ∙ take_more bs (n - 1) 0 (omega arith)

pub trimmed-take_blank : (bs : List ℕ) (n : ℕ) → 0 < n → n ≤ length bs → is_blank (get_or bs (n - 1) 0) ≡ true → trimmed (take n bs) ≡ trimmed (take (n - 1) bs)
trimmed-take_blank bs n some within blank = ap trimmed (last_apart bs n some within) ∙ trimmed-push_blank (take (n - 1) bs) (get_or bs (n - 1) 0) blank

pub trimmed-take_other : (bs : List ℕ) (n : ℕ) → 0 < n → n ≤ length bs → is_blank (get_or bs (n - 1) 0) ≡ false → trimmed (take n bs) ≡ take n bs
trimmed-take_other bs n some within other =
    let e = last_apart bs n some within in
    ap trimmed e ∙ trimmed-push_other (take (n - 1) bs) (get_or bs (n - 1) 0) other ∙ sym e

pub ends_with_backslash-last : (bs : List ℕ) (b : ℕ) → 0 < length bs → b ≡ get_or bs (length bs - 1) b → ends_with_backslash bs ≡ eqb b 92
ends_with_backslash-last bs b some e =
    let all : take (length bs) bs ≡ bs = take_all (length bs) bs (omega arith) in
    let last : get_or bs (length bs - 1) 0 ≡ b = sym (get_or_read bs (length bs - 1) b (omega arith) e 0) in
    ap ends_with_backslash (sym all ∙ last_apart bs (length bs) some (omega arith)) ∙ ends_with_backslash-push (take (length bs - 1) bs) (get_or bs (length bs - 1) 0) ∙ ap (λ x. eqb x 92) last

pub without_last-take : (bs : List ℕ) (n : ℕ) → 0 < n → n ≤ length bs → without_last (take n bs) ≡ take (n - 1) bs
without_last-take bs n some within =
    ap without_last (last_apart bs n some within) ∙ without_last-push (take (n - 1) bs) (get_or bs (n - 1) 0)

joined_text : (line : List ℕ) (p n : ℕ) → p ≤ length line → n ≤ p → 0 < n → take n (take p line) ≡ trimmed (take p line) → ends_with_backslash (take n line) ≡ true → take (n - 1) line ≡ (if ends_with_backslash (trimmed (take p line)) then without_last (trimmed (take p line)) else trimmed (take p line))
joined_text line p n within shorter some cut joins =
    let whole : trimmed (take p line) ≡ take n line =
    sym cut ∙ take-take n p line shorter
    in
    rw (whole, joins) (sym (without_last-take line n some (omega arith)))

pub text_of_line-joined : (line : List ℕ) (p n : ℕ) → p ≡ position_or_len (λ b. eqb b 35) line → p ≤ length line → n ≤ p → 0 < n → take n (take p line) ≡ trimmed (take p line) → ends_with_backslash (take n line) ≡ true → take (n - 1) line ≡ text_of_line true line
text_of_line-joined line p n e within shorter some cut joins =
    rw (← e) (joined_text line p n within shorter some cut joins)
