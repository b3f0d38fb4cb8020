-- The main model is the first one, and all tests are those below rank 12.
use Rattle.std.proofs.Common.{◌≡◌, sym, ◌∙◌, subst, ◌<◌, lit<, List, [], ◌∷◌, length, map, get_or, Option, Some, arith}
use Rattle.std.specs.List.{AllZip}
use Rattle.netlist_spec.specs.Netlist.{Model, File}
use Rattle.netlist_spec.specs.Covers.{Library}
use Rattle.netlist_spec.specs.Sound.{IsMain}
use Rattle.netlist_spec.specs.SoundFaults.{SoundFault, twice, no_such_model, bad_port, recursion, latch_inside, too_deep, undriven, bad_clocking, loop, reserved, too_large}
use Rattle.source_laws.specs.Tests.{Passes}
use Rattle.source_check.specs.Steps.{PassesBelow}

-- what goes with the first of some models
pub first_zip : {A B C : Type 0} (R : B → C → Type 0) (f : A → B) (xs : List A) (ys : List C) (x : A) (y : C) → 0 < length (map f xs) → x ≡ get_or xs 0 x → y ≡ get_or ys 0 y → AllZip R (map f xs) ys → R (f x) y
first_zip R f [] ys x y low e d all = absurd (omega arith)
first_zip R f (a ∷ xs) [] x y low e d all = elim all [ ]
first_zip {A = A} {C = C} R f (a ∷ xs) (b ∷ ys) x y low e d all =
    let P : A → Type 0 = λ z. R (f z) y in
    let Q : C → Type 0 = λ z. R (f a) z in
    subst P (sym e) (subst Q (sym d) all.0)

-- What a test of the main model finds in it is what it finds in each main model.
pub in_main : {A : Type 0} (file : File) (test : Model → Option A) (m k : Model) (found : Option A) → IsMain file m → IsMain file k → test m ≡ found → test k ≡ found
in_main {A = A} file test m k found main other e =
    let same : Some m ≡ Some k = sym main ∙ other in
    let eq : m ≡ k = cc same in
    subst (λ (z : Model). test z ≡ found) eq e

pub all_passed : (file : File) (library : Library) → PassesBelow file library 12 → (fault : SoundFault) → Passes file library fault
all_passed file library passes (twice n) = passes (twice n) (lit< tt)
all_passed file library passes (no_such_model n) = passes (no_such_model n) (lit< tt)
all_passed file library passes (bad_port m f) = passes (bad_port m f) (lit< tt)
all_passed file library passes (recursion m) = passes (recursion m) (lit< tt)
all_passed file library passes (latch_inside m) = passes (latch_inside m) (lit< tt)
all_passed file library passes (too_deep m) = passes (too_deep m) (lit< tt)
all_passed file library passes (undriven n) = passes (undriven n) (lit< tt)
all_passed file library passes (bad_clocking n) = passes (bad_clocking n) (lit< tt)
all_passed file library passes (loop ns) = passes (loop ns) (lit< tt)
all_passed file library passes (reserved n) = passes (reserved n) (lit< tt)
all_passed file library passes (too_large what) = passes (too_large what) (lit< tt)

module _ (file : File) (library : Library) where
  pub after_clocking : PassesBelow file library 8 → Passes file library (bad_clocking []) → PassesBelow file library 9
  after_clocking before here (bad_clocking n) low = here
  after_clocking before here other low = before other (omega arith)

  pub after_reserved : PassesBelow file library 10 → Passes file library (reserved []) → PassesBelow file library 11
  after_reserved before here (reserved n) low = here
  after_reserved before here other low = before other (omega arith)
