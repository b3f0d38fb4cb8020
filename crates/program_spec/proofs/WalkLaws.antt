-- A walk whose tests have one answer has one verdict, and ends without an answer only at a load that it comes to.
use Rattle.std.proofs.Common.{◌≡◌, refl, sym, ◌∙◌, ap, subst, ℕ, ◌<◌, ◌≤◌, List, length, inl, inr, Option, Some, None, arith}
use Rattle.std.specs.Prelude.{MatchOption, IsSomeAnd, ◌⊎◌}
use Rattle.program_spec.specs.Refusals.{file_too_long}
use Rattle.program_spec.specs.Walk.{Contents, Verdict, refused, not_held, Walk, end, load, test, ComesTo, ComesToLoad, HasLoad, HasTests}

-- ---- one verdict

-- what comes of a load, where so many bytes or none are found
abbrev Loaded : Option (List ℕ) → List ℕ → ℕ → (List ℕ → Type 0) → Verdict → Type 0
Loaded found name limit P verdict =
    MatchOption found (verdict ≡ not_held name) (λ bytes. ((limit < length bytes) × (verdict ≡ refused (file_too_long name))) ⊎ ((length bytes ≤ limit) × P bytes))

one_loaded : (found : Option (List ℕ)) (name : List ℕ) (limit : ℕ) (v w : Verdict) (P Q : List ℕ → Type 0) → ((bytes : List ℕ) → length bytes ≤ limit → P bytes → Q bytes → v ≡ w) → Loaded found name limit P v → Loaded found name limit Q w → v ≡ w
one_loaded None name limit v w P Q one a b = a ∙ sym b
one_loaded (Some bytes) name limit v w P Q one (inl a) (inl b) = a.1 ∙ sym b.1
one_loaded (Some bytes) name limit v w P Q one (inl a) (inr b) = absurd (omega (arith, a.0, b.0))
one_loaded (Some bytes) name limit v w P Q one (inr a) (inl b) = absurd (omega (arith, a.0, b.0))
one_loaded (Some bytes) name limit v w P Q one (inr a) (inr b) = one bytes a.0 a.1 b.1

pub one_verdict : (w : Walk) → HasTests w → (contents : Contents) (u v : Verdict) → ComesTo w contents u → ComesTo w contents v → u ≡ v
one_verdict end h contents u v a b = a ∙ sym b
one_verdict (load name limit next) h contents u v a b =
    one_loaded (contents name) name limit u v (λ bytes. ComesTo (next bytes) contents u) (λ bytes. ComesTo (next bytes) contents v) (λ bytes short. one_verdict (next bytes) (h bytes short) contents u v) a b
one_verdict (test A asks next) h contents u v (inl a) (inl b) =
    let same : b.0 ≡ a.0 = h.0.one_found b.0 a.0 b.1 a.1 in
    one_verdict (next a.0) (h.1 a.0 a.1) contents u v a.2 (subst (λ x. ComesTo (next x) contents v) same b.2)
one_verdict (test A asks next) h contents u v (inl a) (inr b) = absurd (h.0.never_both a.0 b.0 a.1 b.1)
one_verdict (test A asks next) h contents u v (inr a) (inl b) = absurd (h.0.never_both b.0 a.0 b.1 a.1)
one_verdict (test A asks next) h contents u v (inr a) (inr b) = a.2 ∙ (ap refused (h.0.one_refused a.0 b.0 a.1 b.1) ∙ sym b.2)

-- ---- loads

ends_loaded : (found : Option (List ℕ)) (n name : List ℕ) (limit : ℕ) (P Q : List ℕ → Type 0) (M : List ℕ → Type 0) → (found ≡ None → M name) → ((bytes : List ℕ) → P bytes → Q bytes × M n)
    → Loaded found name limit P (not_held n) → ((n ≡ name) ⊎ IsSomeAnd found (λ bytes. (length bytes ≤ limit) × Q bytes)) × M n
ends_loaded None n name limit P Q M none rest a =
    let same : n ≡ name = cc in
    (inl same, subst M (sym same) (none refl))
ends_loaded (Some bytes) n name limit P Q M none rest (inl a) = let e = a.1 in absurd (cc)
ends_loaded (Some bytes) n name limit P Q M none rest (inr a) = (inr (a.0, (rest bytes a.1).0), (rest bytes a.1).1)

-- The verdict that a file isn't held is of a file that isn't held, and the walk comes to its load.
pub ends_at_loads : (w : Walk) (contents : Contents) (n : List ℕ) → ComesTo w contents (not_held n) → ComesToLoad w contents n × (contents n ≡ None)
ends_at_loads end contents n a = absurd (cc)
ends_at_loads (load name limit next) contents n a =
    ends_loaded (contents name) n name limit (λ bytes. ComesTo (next bytes) contents (not_held n)) (λ bytes. ComesToLoad (next bytes) contents n) (λ m. contents m ≡ None) (λ e. e) (λ bytes. ends_at_loads (next bytes) contents n) a
ends_at_loads (test A asks next) contents n (inl a) =
    let rest = ends_at_loads (next a.0) contents n a.2 in
    ((a.0, a.1, rest.0), rest.1)
ends_at_loads (test A asks next) contents n (inr a) = let e = a.2 in absurd (cc)

-- A load to which a walk comes is one of its steps.
has_loaded : (found : Option (List ℕ)) (n name : List ℕ) (most : ℕ) (P : List ℕ → Type 0) (Q : List ℕ → ℕ → Type 0) → ((bytes : List ℕ) → P bytes → (limit : ℕ) × Q bytes limit)
    → (n ≡ name) ⊎ IsSomeAnd found (λ bytes. (length bytes ≤ most) × P bytes) → (limit : ℕ) × (((n ≡ name) × (limit ≡ most)) ⊎ ((bytes : List ℕ) × Q bytes limit))
has_loaded found n name most P Q rest (inl same) = (most, inl (same, refl))
has_loaded None n name most P Q rest (inr a) = absurd a
has_loaded (Some bytes) n name most P Q rest (inr a) = let (limit, more) = rest bytes a.1 in (limit, inr (bytes, more))

pub loads_are_steps : (w : Walk) (contents : Contents) (n : List ℕ) → ComesToLoad w contents n → (limit : ℕ) × HasLoad w n limit
loads_are_steps end contents n a = absurd a
loads_are_steps (load name limit next) contents n a =
    has_loaded (contents name) n name limit (λ bytes. ComesToLoad (next bytes) contents n) (λ bytes. HasLoad (next bytes) n) (λ bytes. loads_are_steps (next bytes) contents n) a
loads_are_steps (test A asks next) contents n a = let (limit, more) = loads_are_steps (next a.0) contents n a.2 in (limit, (a.0, more))
