-- Copies out of a machine that stands for a source take at most what the bits of a guard in correction cost.
use Rattle.std.proofs.Common.{◌≡◌, ap, subst, ℕ, zero, suc, ◌+◌, ◌<◌, ◌≤◌, ◌⊎◌, inl, inr, Bool, List, [], ◌∷◌, get_or, map, slice_get, Some, sum_by, arith}
use Rattle.std.specs.List.{AllByRecursion, AllZip, range_with_len}
use Rattle.std.proofs.lemmas.List.Sums.{sum_by-cons}
use Rattle.netlist_spec.specs.Cones.{AreMarked, GateConeCost, IsGateReached, same_net, read_by}
use Rattle.netlist_spec.specs.Gates.{Machine}
use Rattle.guard_spec.specs.Codes.{Code, correct}
use Rattle.guard_spec.specs.Plain.{AreNets, IsMachineSizeWith, WordCost, WordsCost, word_cost}
use Rattle.guard_spec.specs.Words.{Layout, Words}
use Rattle.gate_net.specs.GateNet.{net_count}
use Rattle.cone_split.specs.Cones.{IsConeSize, IsInCone, is_root, is_read}
use Rattle.cone_split.proofs.Cells.{contains_cases, contains_head}
use Rattle.cone_split.proofs.Sizes.{no_cone}
use Rattle.guard_laws.specs.Places.{latches_of_words}
use Rattle.guard_laws.proofs.Sizes.{AtMost, word_costs}
use Rattle.guard_cells.specs.Cells.{GivesCosts, bit_costs, nets_at, words_cost}
use Rattle.correction_laws.specs.Few.{NetCost}
use Rattle.correction_laws.specs.FromJoined.{IsOver}

-- ---- the cone of one net

in_cone : (m : Machine) (x n : ℕ) → IsGateReached m x n → IsInCone m.net (x ∷ []) n
in_cone m x n same_net = is_root (contains_head x [])
in_cone m x n (read_by {n = k} reached r) = is_read (in_cone m x k reached) r

reached : (m : Machine) (x n : ℕ) → IsInCone m.net (x ∷ []) n → IsGateReached m x n
reached m x n (is_root c) = elim (contains_cases x n [] c) [ inl e ↦ subst (λ (q : ℕ). IsGateReached m x q) e same_net | inr d ↦ absurd (no_cone m.net n (is_root d)) ]
reached m x n (is_read {n = k} inside r) = read_by (reached m x k inside) r

cone_size : (m : Machine) (x n : ℕ) → GateConeCost m x n → IsConeSize m.net (x ∷ []) n
cone_size m x n (marks, marked, e) = (marks, each (range_with_len 0 _) marks marked, e)
  where
    each : (is : List ℕ) (bs : List Bool) → AreMarked (λ i. IsGateReached m x (m.net.leaves + i)) is bs → AreMarked (λ i. IsInCone m.net (x ∷ []) (m.net.leaves + i)) is bs
    each [] [] all = tt
    each [] (b ∷ bs) all = absurd all
    each (i ∷ is) [] all = absurd all
    each (i ∷ is) (b ∷ bs) all = ((λ yes. in_cone m x (m.net.leaves + i) (all.0.0 yes), λ inside. all.0.1 (reached m x (m.net.leaves + i) inside)), each is bs all.1)

-- ---- words

module _ (source stand : Machine) (code : Code) (l : Layout) (t : ℕ) (nets : List ℕ) (first : ℕ) (cone : (x m n size : ℕ) → IsOver source nets first x m → NetCost source code correct t l x n → IsConeSize stand.net (m ∷ []) size → size + 2 ≤ n)
    (cost : ℕ → ℕ) (gives : GivesCosts stand cost) where
  abbrev Rests : ℕ → ℕ → Type 0
  Rests x i = IsGateReached source x (source.inputs + i)

  module _ (all ours : List ℕ) (over : AllZip (IsOver source nets first) all ours) (below : AllByRecursion (λ n. n < net_count stand.net) ours) where
    found : (xs ms : List ℕ) → AllZip (IsOver source nets first) xs ms → AllByRecursion (λ n. n < net_count stand.net) ms → (i x : ℕ) → slice_get xs i ≡ Some x → IsOver source nets first x (get_or ms i 0) × (get_or ms i 0 < net_count stand.net)
    found [] ms each low i x e = cc e
    found (y ∷ xs) [] each low i x e = absurd each
    found (y ∷ xs) (m ∷ ms) each low zero x e = let same : y ≡ x = cc e in (subst (λ (z : ℕ). IsOver source nets first z m) same each.0, low.0)
    found (y ∷ xs) (m ∷ ms) each low (suc i) x e = found xs ms each.1 low.1 i x e

    bit_less : (i x n : ℕ) → slice_get all i ≡ Some x → NetCost source code correct t l x n → 2 + cost (get_or ours i 0) ≤ n
    bit_less i x n e is =
        let (stands, low) = found all ours over below i x e in
        let m = get_or ours i 0 in
        let h = cone x m n (cost m) stands is (cone_size stand m (cost m) (gives m low)) in
        omega arith

    word_less : (w xs costs : List ℕ) → AreNets all w xs → AllZip (NetCost source code correct t l) xs costs → AtMost (bit_costs cost (nets_at ours w)) costs
    word_less [] [] [] are each = tt
    word_less [] [] (c ∷ costs) are each = absurd each
    word_less [] (x ∷ xs) costs are each = absurd are
    word_less (i ∷ w) [] costs are each = absurd are
    word_less (i ∷ w) (x ∷ xs) [] are each = absurd each
    word_less (i ∷ w) (x ∷ xs) (c ∷ costs) are each = (bit_less i x c are.0 each.0, word_less w xs costs are.1 each.1)

    abbrev OfWord : List ℕ → ℕ → Type 0
    OfWord w total = (xs : List ℕ) × AreNets all w xs × WordCost (GateConeCost source) Rests code correct t l.state xs total

    of_words : (ws : Words) (totals : List ℕ) → AllZip OfWord ws totals → words_cost cost code ours ws ≤ sum_by (λ c. c) totals
    of_words [] [] each = omega arith
    of_words [] (c ∷ totals) each = absurd each
    of_words (w ∷ ws) [] each = absurd each
    of_words (w ∷ ws) (c ∷ totals) each =
        let (xs, are, (costs, bits, e)) = each.0 in
        let here = word_costs code (bit_costs cost (nets_at ours w)) costs (word_less w xs costs are bits) in
        let a = sum_by-cons (λ (v : List ℕ). word_cost code (bit_costs cost (nets_at ours v))) w ws in
        let b = sum_by-cons (λ (k : ℕ). k) c totals in
        let rest = of_words ws totals each.1 in
        omega (arith, here, a, b, rest, e)

    words_less : (ws : Words) (n : ℕ) → WordsCost (GateConeCost source) Rests code correct t l all ws n → words_cost cost code ours ws ≤ n
    words_less ws n (totals, each, e) = let h = of_words ws totals each in omega (arith, h, e)

  -- The latches, and the cells of state words and of outputs, take no more than the size.
  pub size_kept : (n : ℕ) → IsMachineSizeWith source code correct t 0 l n
      → AllZip (IsOver source nets first) (map (λ r. r.d) source.latches) (map (λ r. r.d) stand.latches) → AllByRecursion (λ n. n < net_count stand.net) (map (λ r. r.d) stand.latches)
      → AllZip (IsOver source nets first) source.outputs stand.outputs → AllByRecursion (λ n. n < net_count stand.net) stand.outputs
      → latches_of_words code l.state + words_cost cost code (map (λ r. r.d) stand.latches) l.state + words_cost cost code stand.outputs l.output ≤ n
  size_kept n size stores stores_low outputs outputs_low =
      let a = words_less (map (λ r. r.d) source.latches) (map (λ r. r.d) stand.latches) stores stores_low l.state size.state_cost size.is_state_cost in
      let b = words_less source.outputs stand.outputs outputs outputs_low l.output size.output_cost size.is_output_cost in
      let c = size.total in
      omega (arith, a, b, c)
