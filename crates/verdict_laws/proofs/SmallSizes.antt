-- The step that asks whether a size is small has one answer.
use Rattle.std.proofs.Common.{◌≡◌, refl, ◌∙◌, ap, ℕ, ◌<◌, ◌≤◌, inl, inr, arith}
use Rattle.std.specs.Prelude.{◌↔◌}
use Rattle.netlist_spec.specs.Netlist.{Model, File}
use Rattle.guard_spec.specs.Words.{Settings, Layout}
use Rattle.guard_spec.specs.Plain.{IsPlain}
use Rattle.program_spec.specs.Refusals.{guard_too_large}
use Rattle.program_spec.specs.Steps.{Nothing, smallness}
use Rattle.program_spec.specs.Walk.{Contents, Verdict, refused, Walk, test, ComesTo}

-- a layout has at most one size
abbrev pub AreAlone : Type 0
AreAlone =
    (file : File) (s : Settings) (m : Model) (l : Layout) (n k : ℕ) → IsPlain file s.library m s.code s.mode s.bound l n
    → IsPlain file s.library m s.code s.mode s.bound l k → n ≡ k

-- and so isn't both small and large
never_both : AreAlone → (file : File) (s : Settings) (m : Model) (l : Layout) (n k : ℕ) → IsPlain file s.library m s.code s.mode s.bound l n → n ≤ 1000000 → IsPlain file s.library m s.code s.mode s.bound l k → 1000000 < k → ⊥
never_both alone file s m l n k is small other large = let e : n ≡ k = alone file s m l n k is other in omega (arith, e, small, large)

-- These two hold of whatever follows the test.
pub small_then : AreAlone → (file : File) (s : Settings) (m : Model) (l : Layout) (n : ℕ) (next : Nothing → Walk) (contents : Contents) (v : Verdict) → IsPlain file s.library m s.code s.mode s.bound l n → n ≤ 1000000 → ComesTo (test Nothing (smallness file s m l) next) contents v ↔ ComesTo (next tt) contents v
small_then alone file s m l n next contents v is small = (to, λ h. inl (tt, (n, is, small), h))
  where
    to : ComesTo (test Nothing (smallness file s m l) next) contents v → ComesTo (next tt) contents v
    to (inl h) = h.2
    to (inr h) = let (k, other, large, told) = h.1 in absurd (never_both alone file s m l n k is small other large)

pub large_then : AreAlone → (file : File) (s : Settings) (m : Model) (l : Layout) (n : ℕ) (next : Nothing → Walk) (contents : Contents) (v : Verdict) → IsPlain file s.library m s.code s.mode s.bound l n → 1000000 < n → ComesTo (test Nothing (smallness file s m l) next) contents v ↔ (v ≡ refused guard_too_large)
large_then alone file s m l n next contents v is large = (to, λ h. inr (guard_too_large, (n, is, large, refl), h))
  where
    to : ComesTo (test Nothing (smallness file s m l) next) contents v → v ≡ refused guard_too_large
    to (inl h) = let (k, other, small) = h.1 in absurd (never_both alone file s m l k n other small is large)
    to (inr h) = let (k, other, large, told) = h.1 in h.2 ∙ ap refused told
