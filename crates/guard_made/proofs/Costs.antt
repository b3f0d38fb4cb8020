-- One cost for each net of a machine, and the size of a guard that these make up in detection.
use Rattle.std.proofs.Common.{◌≡◌, refl, sym, ◌∙◌, ap, ap₂, ℕ, ◌+◌, ◌*◌, ◌<◌, List, [], ◌∷◌, map, slice_get, Some, sum_by, arith}
use Rattle.std.specs.List.{AllByRecursion, AllZip}
use Rattle.std.proofs.lemmas.Option.{get_or_from_slice_get}
use Rattle.std.proofs.lemmas.List.Sums.{sum_by-cons}
use Rattle.netlist_spec.specs.Cones.{GateConeCost, IsGateReached}
use Rattle.netlist_spec.specs.Gates.{IsMachine, LatchRow, Machine}
use Rattle.guard_spec.specs.Codes.{Code, detect}
use Rattle.guard_spec.specs.Plain.{AreNets, BitCost, IsMachineSizeWith, WordCost, WordsCost, rail_cost, word_cost}
use Rattle.guard_spec.specs.Words.{Layout, Words}
use Rattle.gate_net.specs.GateNet.{net_count}
use Rattle.cone_split.proofs.Cells.{all_contains, contains_at}
use Rattle.size_laws.proofs.GateCones.{one_gate_cone_cost}
use Rattle.size_laws.proofs.Partial.{one_value}
use Rattle.guard_laws.specs.Places.{latches_of_words}
use Rattle.guard_cells.specs.Cells.{GivesCosts, bit_costs, nets_at, words_cost}

pub costs_given : (m : Machine) → IsMachine m → (cost : ℕ → ℕ) × GivesCosts m cost
costs_given m is = ((λ n. (one_gate_cone_cost m n).0), λ n below. (one_gate_cone_cost m n).1.holds)

-- what holds of all elements holds of each
at_place : (P : ℕ → Type 0) (xs : List ℕ) (i x : ℕ) → AllByRecursion P xs → slice_get xs i ≡ Some x → P x
at_place P xs i x all e = all_contains P xs x all (contains_at xs i x e)

pub stores_below : (n : ℕ) (rows : List LatchRow) → AllByRecursion (λ r. r.d < n) rows → AllByRecursion (λ k. k < n) (map (λ r. r.d) rows)
stores_below n [] all = tt
stores_below n (r ∷ rows) all = (all.0, stores_below n rows all.1)

module _ (m : Machine) (code : Code) (radius : ℕ) (cost : ℕ → ℕ) (gives : GivesCosts m cost) (all : List ℕ) (below : AllByRecursion (λ n. n < net_count m.net) all) where
  abbrev Rests : ℕ → ℕ → Type 0
  Rests x i = IsGateReached m x (m.inputs + i)

  nets_are : (w nets : List ℕ) → AreNets all w nets → nets ≡ nets_at all w
  nets_are [] [] are = refl
  nets_are [] (n ∷ nets) are = absurd are
  nets_are (i ∷ w) [] are = absurd are
  nets_are (i ∷ w) (n ∷ nets) are = ap₂ (λ (x : ℕ) (xs : List ℕ). x ∷ xs) (sym (get_or_from_slice_get all i n 0 are.0)) (nets_are w nets are.1)

  costs_are : (state : Words) (w nets costs : List ℕ) → AreNets all w nets → AllZip (BitCost (GateConeCost m) Rests code detect radius state) nets costs → costs ≡ bit_costs cost nets
  costs_are state [] [] [] are each = refl
  costs_are state [] [] (c ∷ costs) are each = absurd each
  costs_are state [] (n ∷ nets) costs are each = absurd are
  costs_are state (i ∷ w) [] costs are each = absurd are
  costs_are state (i ∷ w) (n ∷ nets) [] are each = absurd each
  costs_are state (i ∷ w) (n ∷ nets) (c ∷ costs) are each =
      let bit = each.0 in
      let same : bit.cone ≡ cost n = one_value (GateConeCost m n) (one_gate_cone_cost m n) bit.cone (cost n) bit.is_cone (gives n (at_place (λ k. k < net_count m.net) all i n below are.0)) in
      let none : bit.correctors ≡ 0 = bit.are_correctors in
      let total = bit.total in
      ap₂ (λ (x : ℕ) (xs : List ℕ). x ∷ xs) (let e : c ≡ 2 + cost n = omega arith in e) (costs_are state w nets costs are.1 each.1)

  abbrev OfWord : Words → List ℕ → ℕ → Type 0
  OfWord state w c = (nets : List ℕ) × AreNets all w nets × WordCost (GateConeCost m) Rests code detect radius state nets c

  word_is : (state : Words) (w : List ℕ) (c : ℕ) → OfWord state w c → c ≡ word_cost code (bit_costs cost (nets_at all w))
  word_is state w c (nets, are, (costs, each, e)) =
      e ∙ ap (word_cost code) (costs_are state w nets costs are each ∙ ap (bit_costs cost) (nets_are w nets are))

  words_sum : (state ws : Words) (costs : List ℕ) → AllZip (OfWord state) ws costs → sum_by (λ c. c) costs ≡ words_cost cost code all ws
  words_sum state [] [] each = refl
  words_sum state [] (c ∷ costs) each = absurd each
  words_sum state (w ∷ ws) [] each = absurd each
  words_sum state (w ∷ ws) (c ∷ costs) each =
      sum_by-cons (λ c. c) c costs
      ∙ ap₂ (λ (a b : ℕ). a + b) (word_is state w c each.0) (words_sum state ws costs each.1)
      ∙ sym (sum_by-cons (λ w. word_cost code (bit_costs cost (nets_at all w))) w ws)

  pub words_are : (l : Layout) (ws : Words) (n : ℕ) → WordsCost (GateConeCost m) Rests code detect radius l all ws n → n ≡ words_cost cost code all ws
  words_are l ws n (costs, each, e) = e ∙ words_sum l.state ws costs each

pub size_is : (m : Machine) (code : Code) (l : Layout) (radius rails n : ℕ) (cost : ℕ → ℕ) → IsMachine m → GivesCosts m cost → IsMachineSizeWith m code detect radius rails l n
    → n ≡ latches_of_words code l.state + words_cost cost code (map (λ r. r.d) m.latches) l.state + words_cost cost code m.outputs l.output + rails * rail_cost code l
size_is m code l radius rails n cost is gives size =
    size.total
    ∙ ap₂ (λ (a b : ℕ). latches_of_words code l.state + a + b + rails * rail_cost code l)
    (words_are m code radius cost gives (map (λ r. r.d) m.latches) (stores_below (net_count m.net) m.latches is.stores) l l.state size.state_cost size.is_state_cost)
    (words_are m code radius cost gives m.outputs is.outputs l l.output size.output_cost size.is_output_cost)
