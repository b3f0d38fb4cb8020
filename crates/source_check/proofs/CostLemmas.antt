-- Costs that are cut off are exact where the whole cost is within its limit.
use Rattle.std.proofs.Common.{◌≡◌, refl, ◌∙◌, ap, subst, ℕ, ◌≤◌, List, [], ◌∷◌, map, Bool, true, false, Some, None, nat_lt, arith}
use Rattle.std.specs.Prelude.{length, min, sum_by, if◌then◌else◌}
use Rattle.std.proofs.lemmas.Bool.{ltb-false}
use Rattle.std.proofs.lemmas.List.Sums.{sum_by-cons}
use Rattle.netlist_spec.specs.Netlist.{model_inputs, model_outputs, model_latches, source_cost, Located, Model, File}
use Rattle.netlist_spec.specs.Covers.{Library}
use Rattle.netlist_spec.specs.Models.{data_inputs, latches_of, main_model}
use Rattle.netlist_spec.specs.Size.{cost_of, main_cost, whole_cost}
use Rattle.netlist_spec.specs.SoundFaults.{too_large_in}
use Rattle.source_cost.specs.Costs.{statements_in}
use Rattle.source_check.specs.Checked.{AreCosts}

uncut : {X : Type 0} (f : X → ℕ) (xs : List X) → sum_by f xs ≤ 1000000 → map (λ x. min (f x) 1000001) xs ≡ map f xs
uncut f [] low = refl
uncut f (x ∷ xs) low =
    let whole = sum_by-cons f x xs in
    let first : min (f x) 1000001 ≡ f x = omega arith in
    let rest = uncut f xs (omega arith) in
    ap (λ n. n ∷ map (λ y. min (f y) 1000001) xs) first ∙ ap (λ ns. f x ∷ ns) rest

module _ (file : File) (library : Library) where
  within : (m : Model) → too_large_in file library m ≡ None → whole_cost file library ≤ 1000000
  within m e = go (nat_lt 4096 (length (data_inputs m))) (nat_lt 4096 (length m.outputs)) (nat_lt 4096 (length (latches_of m))) (nat_lt 1000000 (whole_cost file library)) refl e
    where
      go : (i o l c : Bool) → nat_lt 1000000 (whole_cost file library) ≡ c
          → (if i then Some model_inputs else if o then Some model_outputs else if l then Some model_latches else if c then Some source_cost else None) ≡ None → whole_cost file library ≤ 1000000
      go true o l c is e = cc e
      go false true l c is e = cc e
      go false false true c is e = cc e
      go false false false true is e = cc e
      go false false false false is e = ltb-false 1000000 (whole_cost file library) is

  pub exact_costs : (m : Model) (costs : List ℕ) → too_large_in file library m ≡ None
      → costs ≡ map (λ (s : Located). min (cost_of file library s.what) 1000001) (statements_in (main_model file)) → AreCosts file library costs
  exact_costs m costs e cut = λ k main.
      let whole : main_cost file library (Some k) ≤ 1000000 = subst (λ top. main_cost file library top ≤ 1000000) main (within m e) in
      cut ∙ ap (λ top. map (λ (s : Located). min (cost_of file library s.what) 1000001) (statements_in top)) main ∙ uncut (λ (s : Located). cost_of file library s.what) k.statements whole
