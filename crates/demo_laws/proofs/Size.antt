-- The plain size of the guard of the demo design.
use Rattle.std.proofs.Common.{◌≡◌, refl, sym, ◌∙◌, ap, ap₂, ℕ, zero, suc, ◌+◌, ◌*◌, ◌<◌, ◌≤◌, List, [], ◌∷◌, map, length, Some, arith}
use Rattle.std.specs.Prelude.{slice_get, sum_by}
use Rattle.std.specs.List.{AllZip, range_with_len}
use Rattle.netlist_spec.specs.Netlist.{Name}
use Rattle.guard_spec.specs.Codes.{detect, hamming_code}
use Rattle.netlist_spec.specs.Models.{latch_inputs, output_nets}
use Rattle.netlist_spec.specs.Cones.{ConeCostOf, RestsOnLatch}
use Rattle.guard_spec.specs.Plain.{BitCost, WordCost, WordsCost, AreNets, rail_cost, word_cost, ones, IsPlain}
use Rattle.program_spec.specs.Demo.{state_bits}
use Rattle.demo_laws.specs.DemoFile.{next, shown, boxes, word_of, demo_words, demo_layout, demo_model, demo_file}
use Rattle.demo_laws.specs.DemoLaws.{IsDemoSize}
use Rattle.demo_laws.proofs.Ranges.{at_mapped, sum_mapped}
use Rattle.demo_laws.proofs.Parts.{library}
use Rattle.demo_laws.proofs.Drivers.{ports_named}
use Rattle.demo_laws.proofs.Latches.{latch_inputs_are}
use Rattle.demo_laws.proofs.Cones.{next_cone, shown_cone}

zipped : {A B : Type 0} (R : A → B → Type 0) (f : ℕ → A) (g : ℕ → B) (a n : ℕ) → ((i : ℕ) → a ≤ i → i < a + n → R (f i) (g i)) → AllZip R (map f (range_with_len a n)) (map g (range_with_len a n))
zipped R f g a zero h = tt
zipped R f g a (suc n) h = (h a (omega arith) (omega arith), zipped R f g (a + 1) n (λ i low high. h i (omega arith) (omega arith)))

module _ (n : ℕ) (size : IsDemoSize n) where
  abbrev Cone : Name → ℕ → Type 0
  Cone = ConeCostOf (demo_file n) library (demo_model n)

  abbrev Rests : Name → ℕ → Type 0
  Rests = RestsOnLatch (demo_file n) library (demo_model n)

  abbrev Bit : Name → ℕ → Type 0
  Bit x c = BitCost Cone Rests hamming_code detect 3 (demo_words n) x c

  next_cost : (e : ℕ) → e < 4 * n → Bit (next e) 276
  next_cost e h = record { cone = 274; is_cone = next_cone n size e h; correctors = 0; are_correctors = refl; total = refl }

  shown_cost : (i : ℕ) → i < 4 * n → Bit (shown i) 8
  shown_cost i h = record { cone = 6; is_cone = shown_cone n size i h; correctors = 0; are_correctors = refl; total = refl }

  -- the nets of a word
  four_nets : (all : List Name) (f : ℕ → Name) → all ≡ map f (state_bits n) → (j : ℕ) → j < n → AreNets all (word_of j) (f (4 * j + 0) ∷ f (4 * j + 1) ∷ f (4 * j + 2) ∷ f (4 * j + 3) ∷ [])
  four_nets all f is j h = (at (4 * j + 0) (omega arith), (at (4 * j + 1) (omega arith), (at (4 * j + 2) (omega arith), (at (4 * j + 3) (omega arith), tt))))
    where
      at : (i : ℕ) → i < 4 * n → slice_get all i ≡ Some (f i)
      at i within = ap (λ l. slice_get l i) is ∙ at_mapped f 0 (4 * n) i within ∙ ap (λ k. Some (f k)) (omega arith)

  words_cost : (all : List Name) (f : ℕ → Name) (bit word : ℕ) → all ≡ map f (state_bits n) → ((i : ℕ) → i < 4 * n → Bit (f i) bit) → word ≡ word_cost hamming_code (bit ∷ bit ∷ bit ∷ bit ∷ [])
      → WordsCost Cone Rests hamming_code detect 3 (demo_layout n) all (demo_words n) (word * n)
  words_cost all f bit word is each e = (
    map (λ j. word) (boxes n),
    zipped (λ places cost. (nets : List Name) × AreNets all places nets × WordCost Cone Rests hamming_code detect 3 (demo_words n) nets cost) word_of (λ j. word) 0 n (λ j low high. (
      (f (4 * j + 0) ∷ f (4 * j + 1) ∷ f (4 * j + 2) ∷ f (4 * j + 3) ∷ []),
      four_nets all f is j (omega arith),
      ((bit ∷ bit ∷ bit ∷ bit ∷ []), (each (4 * j + 0) (omega arith), (each (4 * j + 1) (omega arith), (each (4 * j + 2) (omega arith), (each (4 * j + 3) (omega arith), tt)))), e),
    )),
    sym (sum_mapped (λ j. word) (λ c. c) word 0 n (λ j. refl)),
  )

  rail_is : rail_cost hamming_code (demo_layout n) ≡ 1 + 20 * n + 20 * n
  rail_is =
      let words : sum_by (λ w. ones hamming_code (length w) + 2 * 4) (demo_words n) ≡ 20 * n = sum_mapped word_of (λ w. ones hamming_code (length w) + 2 * 4) 20 0 n (λ j. refl) in
      ap₂ (λ x y. 1 + x + y) words words

  outputs_are : output_nets (demo_model n) ≡ map shown (state_bits n)
  outputs_are = ports_named 3 (map shown (state_bits n))

  pub demo_plain : IsPlain (demo_file n) library (demo_model n) hamming_code detect 3 (demo_layout n) (4720 * n + 4)
  demo_plain =
      let places : sum_by (λ w. length w + 4) (demo_words n) ≡ 8 * n = sum_mapped word_of (λ w. length w + 4) 8 0 n (λ j. refl) in
      let rail = rail_is in
      record {
        state_cost = 4420 * n;
        is_state_cost = words_cost (latch_inputs (demo_model n)) next 276 4420 (latch_inputs_are n) next_cost refl;
        output_cost = 132 * n;
        is_output_cost = words_cost (output_nets (demo_model n)) shown 8 132 outputs_are shown_cost refl;
        total = sum (sum_by (λ w. length w + 4) (demo_words n)) (rail_cost hamming_code (demo_layout n)) places rail;
      }
    where
      sum : (places rail : ℕ) → places ≡ 8 * n → rail ≡ 1 + 20 * n + 20 * n → 4720 * n + 4 ≡ places + 4420 * n + 132 * n + 4 * rail
      sum places rail p r = omega arith
