-- The latches of the demo design.
use Rattle.std.proofs.Common.{◌≡◌, refl, ◌∙◌, ap, ap₂, ℕ, ◌*◌, List, [], ◌∷◌, ◌++◌, map, length, Option, Some, None}
use Rattle.std.specs.List.{filter_map}
use Rattle.std.proofs.lemmas.List.{append-nil}
use Rattle.std.proofs.lemmas.List.Elements.{filter_map-append}
use Rattle.netlist_spec.specs.Netlist.{plain, Located}
use Rattle.netlist_spec.specs.Models.{Latch, as_latch, latches_of, latch_outputs, latch_inputs, first_clocking}
use Rattle.program_spec.specs.Demo.{state_bits}
use Rattle.demo_laws.specs.DemoFile.{stored, next, state_latch, box, choice, copy, boxes, demo_located, demo_model}
use Rattle.demo_laws.proofs.Ranges.{length_mapped}
use Rattle.demo_laws.proofs.Parts.{statements_are}
use Rattle.netlist_spec.proofs.WrittenFiles.{maps}

module _ {A B : Type 0} (g : A → Option B) where
  filter_mapped : {X : Type 0} (f : X → A) (h : X → B) → ((x : X) → g (f x) ≡ Some (h x)) → (xs : List X) → filter_map g (map f xs) ≡ map h xs
  filter_mapped f h e [] = refl
  filter_mapped f h e (x ∷ xs) = rw (e x) (ap (λ l. h x ∷ l) (filter_mapped f h e xs))

  filter_none : {X : Type 0} (f : X → A) → ((x : X) → g (f x) ≡ None) → (xs : List X) → filter_map g (map f xs) ≡ []
  filter_none f e [] = refl
  filter_none f e (x ∷ xs) = rw (e x) (filter_none f e xs)

filter_what : (ls : List Located) → filter_map (λ l. as_latch l.what) ls ≡ filter_map as_latch (map (λ l. l.what) ls)
filter_what [] = refl
filter_what (l ∷ ls) = rw (filter_what ls) refl

abbrev pub latch_at : ℕ → Latch
latch_at i = record { d = next i; q = stored i; clocking = plain; init = Some 0 }

pub latches_are : (n : ℕ) → latches_of (demo_model n) ≡ map latch_at (state_bits n)
latches_are n =
    filter_what (demo_located n) ∙ ap (filter_map as_latch) (statements_are n)
    ∙ filter_map-append as_latch (map state_latch (state_bits n)) (map box (boxes n) ++ (map (choice n) (state_bits n) ++ map copy (state_bits n)))
    ∙ ap₂ (λ a b. a ++ b) (filter_mapped as_latch state_latch latch_at (λ i. refl) (state_bits n))
    (filter_map-append as_latch (map box (boxes n)) (map (choice n) (state_bits n) ++ map copy (state_bits n))
    ∙ ap₂ (λ a b. a ++ b) (filter_none as_latch box (λ j. refl) (boxes n))
    (filter_map-append as_latch (map (choice n) (state_bits n)) (map copy (state_bits n))
    ∙ ap₂ (λ a b. a ++ b) (filter_none as_latch (choice n) (λ i. refl) (state_bits n)) (filter_none as_latch copy (λ i. refl) (state_bits n))))
    ∙ append-nil (map latch_at (state_bits n))

pub latch_outputs_are : (n : ℕ) → latch_outputs (demo_model n) ≡ map stored (state_bits n)
latch_outputs_are n = ap (map (λ l. l.q)) (latches_are n) ∙ maps (λ l. l.q) latch_at (state_bits n)

pub latch_inputs_are : (n : ℕ) → latch_inputs (demo_model n) ≡ map next (state_bits n)
latch_inputs_are n = ap (map (λ l. l.d)) (latches_are n) ∙ maps (λ l. l.d) latch_at (state_bits n)

pub latch_count : (n : ℕ) → length (latches_of (demo_model n)) ≡ 4 * n
latch_count n = ap length (latches_are n) ∙ length_mapped latch_at 0 (4 * n)

pub first_is_plain : (n : ℕ) → first_clocking (latches_of (demo_model n)) ≡ plain
first_is_plain n = ap first_clocking (latches_are n) ∙ first (state_bits n)
  where
    first : (is : List ℕ) → first_clocking (map latch_at is) ≡ plain
    first [] = refl
    first (i ∷ is) = refl
