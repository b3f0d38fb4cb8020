-- The data inputs and data places of a made guard stand for the leaves of its source.
use Rattle.std.proofs.Common.{◌≡◌, sym, subst, ℕ, ◌+◌, ◌<◌, ◌⊎◌, inl, inr, List, [], ◌∷◌, ◌++◌, length, arith, Contains}
use Rattle.std.specs.List.{range_with_len}
use Rattle.std.proofs.lemmas.List.Sums.{sum_by-cons}
use Rattle.netlist_spec.specs.Gates.{Machine}
use Rattle.guard_spec.specs.Codes.{Code, IsCode}
use Rattle.guard_spec.specs.Regions.{Guarded, IsDataNet}
use Rattle.guard_spec.specs.Words.{IsPartition, Layout, Words}
use Rattle.guard_laws.specs.Places.{AreDataPlaces, latches_of_words}
use Rattle.guard_laws.specs.Rows.{StandForLeaves}
use Rattle.guard_laws.proofs.Leaves.{leaf_is_data, stand_for_leaves}

data_below : (code : Code) (first : ℕ) (ws : Words) (k : ℕ) → IsDataNet code first ws k → k < first + latches_of_words code ws
data_below code first [] k is = absurd is
data_below code first (w ∷ ws) k (inl h) = let s = sum_by-cons (λ w. length w + code.columns) w ws in let high = h.1 in omega arith
data_below code first (w ∷ ws) k (inr later) = let s = sum_by-cons (λ w. length w + code.columns) w ws in let high = data_below code (first + length w + code.columns) ws k later in omega arith

module _ (g : Guarded) (source : Machine) (code : Code) (l : Layout) (k : ℕ) (is_code : IsCode code) (partition : IsPartition (length source.latches) k l.state) where
  pub leaves_of : (inputs : ℕ) (places : List ℕ) → g.machine.inputs ≡ inputs → g.machine.net.leaves ≡ inputs + latches_of_words code l.state → length g.machine.latches ≡ latches_of_words code l.state
      → AreDataPlaces code l.state inputs (length source.latches) places → StandForLeaves g source code l (range_with_len 0 inputs ++ places)
  leaves_of inputs places same leaves latches are =
      subst (λ (n : ℕ). StandForLeaves g source code l (range_with_len 0 n ++ places)) same
      (stand_for_leaves g source code l k places is_code (let e : g.machine.net.leaves ≡ g.machine.inputs + length g.machine.latches = omega arith in e) partition latches own below)
    where
      own : AreDataPlaces code l.state g.machine.inputs (length source.latches) places
      own = subst (λ (n : ℕ). AreDataPlaces code l.state n (length source.latches) places) (sym same) are

      below : (n : ℕ) → Contains (range_with_len 0 g.machine.inputs ++ places) n → n < g.machine.net.leaves
      below n c = by_kind (leaf_is_data code l.state g.machine.inputs (length source.latches) k places own partition n c)
        where
          by_kind : (n < g.machine.inputs) ⊎ IsDataNet code g.machine.inputs l.state n → n < g.machine.net.leaves
          by_kind (inl h) = omega arith
          by_kind (inr h) = let high = data_below code g.machine.inputs l.state n h in omega arith
