-- The plain size of the guard of the smallest demo design.
use Rattle.std.proofs.Common.{◌≡◌, refl, true, ℕ, List, [], ◌∷◌, map, codes}
use Rattle.std.specs.Fmt.{digits}
use Rattle.netlist_spec.specs.Netlist.{Name, stands_in}
use Rattle.guard_spec.specs.Codes.{detect, hamming_code}
use Rattle.guard_spec.specs.Plain.{BitCost, IsPlain}
use Rattle.netlist_spec.specs.Cones.{ConeCostOf, RestsOnLatch, marked_sum}
use Rattle.netlist_spec.specs.Size.{cost_of}
use Rattle.program_spec.specs.Demo.{demo_settings, numbered}
use Rattle.program_examples.specs.ProgramExamples.{demo_model, demo_file, four_layout}
use Rattle.program_examples.proofs.ConeByTest.{drives_some, is_cone_closed, are_reached, cone_marks}

-- the nets behind the D net of latch i, which loads bit e, and behind output i
abbrev behind_store : ℕ → List Name
behind_store i = numbered 110 i ∷ codes "load" ∷ numbered 112 i ∷ numbered 98 i ∷ codes "s0" ∷ codes "s1" ∷ codes "s2" ∷ codes "s3" ∷ []

abbrev behind_output : ℕ → List Name
behind_output i = numbered 99 i ∷ numbered 115 i ∷ []

abbrev Cost : Name → ℕ → Type 0
Cost x n = BitCost (ConeCostOf demo_file demo_settings.library demo_model) (RestsOnLatch demo_file demo_settings.library demo_model) hamming_code detect 3 four_layout.state x n

-- the tests that the nets found behind a net within so many steps are all of them, and that its cone costs so much
abbrev PassesTests : ℕ → Name → List Name → ℕ → Type 0
PassesTests steps x found n =
    (stands_in x found ≡ true) × (is_cone_closed demo_file demo_settings.library demo_model found ≡ true)
    × (are_reached demo_file demo_settings.library demo_model steps x found ≡ true)
    × (n ≡ marked_sum (cost_of demo_file demo_settings.library) (map (λ s. s.what) demo_model.statements) (map (drives_some demo_file demo_settings.library demo_model found) (map (λ s. s.what) demo_model.statements)))

cone_cost : (steps : ℕ) (x : Name) (found : List Name) (n : ℕ) → PassesTests steps x found n → ConeCostOf demo_file demo_settings.library demo_model x n
cone_cost steps x found n (start, closed, back, cost) = (
  map (drives_some demo_file demo_settings.library demo_model found) (map (λ s. s.what) demo_model.statements),
  cone_marks demo_file demo_settings.library demo_model steps x found start closed back (map (λ s. s.what) demo_model.statements),
  cost,
)

store_cost : (i : ℕ) → PassesTests 3 (numbered 110 i) (behind_store i) 274 → Cost (numbered 110 i) 276
store_cost i h = record { cone = 274; is_cone = cone_cost 3 (numbered 110 i) (behind_store i) 274 h; correctors = 0; are_correctors = refl; total = refl }

output_cost : (i : ℕ) → PassesTests 1 (numbered 99 i) (behind_output i) 6 → Cost (numbered 99 i) 8
output_cost i h = record { cone = 6; is_cone = cone_cost 1 (numbered 99 i) (behind_output i) 6 h; correctors = 0; are_correctors = refl; total = refl }

-- Row by row: a D net costs 2 + 18 + 256 and an output 2 + 6. Each column has three of the four bits, and a rail costs
-- 1 and 20 for each of two words.
pub demo_plain : IsPlain demo_file demo_settings.library demo_model hamming_code detect 3 four_layout 4724
unfolding digits
demo_plain = record {
  state_cost = 4420;
  is_state_cost = (4420 ∷ [], (((numbered 110 0 ∷ numbered 110 1 ∷ numbered 110 2 ∷ numbered 110 3 ∷ []), (refl, (refl, (refl, (refl, tt)))), ((276 ∷ 276 ∷ 276 ∷ 276 ∷ []), (store_cost 0 (refl, refl, refl, refl), (store_cost 1 (refl, refl, refl, refl), (store_cost 2 (refl, refl, refl, refl), (store_cost 3 (refl, refl, refl, refl), tt)))), refl)), tt), refl);
  output_cost = 132;
  is_output_cost = (132 ∷ [], (((numbered 99 0 ∷ numbered 99 1 ∷ numbered 99 2 ∷ numbered 99 3 ∷ []), (refl, (refl, (refl, (refl, tt)))), ((8 ∷ 8 ∷ 8 ∷ 8 ∷ []), (output_cost 0 (refl, refl, refl, refl), (output_cost 1 (refl, refl, refl, refl), (output_cost 2 (refl, refl, refl, refl), (output_cost 3 (refl, refl, refl, refl), tt)))), refl)), tt), refl);
  total = refl;
}
