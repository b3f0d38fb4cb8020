-- In detection copies, check bits and rails take no more than they cost.
use Rattle.std.proofs.Common.{◌≡◌, refl, sym, ◌∙◌, ap, ap₂, subst, ℕ, ◌+◌, ◌*◌, ◌≤◌, List, [], ◌∷◌, length, map, sum_by, arith}
use Rattle.std.specs.List.{AllZip, range_with_len, enumerate_from}
use Rattle.std.proofs.lemmas.List.{length-map}
use Rattle.std.proofs.lemmas.List.Sums.{sum_by-cons, sum_by-append}
use Rattle.netlist_spec.specs.Gates.{GateList, Machine}
use Rattle.guard_spec.specs.Codes.{Code, detect}
use Rattle.guard_spec.specs.Words.{Words, Layout}
use Rattle.netlist_spec.specs.Cones.{GateConeCost}
use Rattle.guard_spec.specs.Plain.{column_cost, ones, rail_cost}
use Rattle.gate_net.specs.GateNet.{net_count}
use Rattle.cone_split.specs.Ranges.{IsCopy}
use Rattle.cone_split.proofs.Sizes.{size_costs}
use Rattle.predictor.specs.Columns.{column_roots}
use Rattle.predictor.proofs.Checks.{chosen_roots}
use Rattle.predictor.proofs.Costs.{zip_chosen, chosen_cost, zip_same_length}
use Rattle.gate_net.specs.Words.{WordNets}
use Rattle.alarm_rails.specs.Rail.{IsRail}
use Rattle.guard_laws.specs.Watched.{state_nets, output_nets_of, watched_words}
use Rattle.correction_laws.specs.Few.{NetCost}
use Rattle.std.proofs.lemmas.List.FromFn.{length-range_with_len}

module _ (source : Machine) (code : Code) (radius : ℕ) (l : Layout) where
  abbrev Net : ℕ → ℕ → Type 0
  Net x n = NetCost source code detect radius l x n

  pub copy_few : (root n : ℕ) (leaf : List ℕ) (old new : GateList) (last : ℕ) → Net root n → IsCopy source.net (root ∷ []) leaf old new last → net_count new ≤ net_count old + n
  copy_few root n leaf old new last cost copy =
      let size = size_costs source (root ∷ []) (cost.cone ∷ []) copy.size (cost.is_cone, tt) copy.is_size in
      let few = copy.few in
      let e = cost.total in
      omega arith

  cones : (roots costs : List ℕ) → AllZip Net roots costs → (cs : List ℕ) × AllZip (GateConeCost source) roots cs × (costs ≡ map (λ c. 2 + c) cs)
  cones [] [] zip = ([], tt, refl)
  cones [] (n ∷ costs) zip = absurd zip
  cones (x ∷ roots) [] zip = absurd zip
  cones (x ∷ roots) (n ∷ costs) zip =
      let (cs, each, e) = cones roots costs zip.1 in
      let cost = zip.0 in
      let none : cost.correctors ≡ 0 = cost.are_correctors in
      let total = cost.total in
      (cost.cone ∷ cs, (cost.is_cone, each), ap₂ (λ (a : ℕ) (bs : List ℕ). a ∷ bs) (let f : n ≡ 2 + cost.cone = omega arith in f) e)

  pub check_few : (roots costs : List ℕ) (j : ℕ) (leaf : List ℕ) (old new : GateList) (last : ℕ) → AllZip Net roots costs → IsCopy source.net (column_roots code j roots) leaf old new last → net_count new ≤ net_count old + column_cost code costs j
  check_few roots costs j leaf old new last zip copy =
      let (cs, each, e) = cones roots costs zip in
      let chosen = zip_chosen (GateConeCost source) code.rows j roots cs each in
      let size = size_costs source (chosen_roots code.rows j roots) (chosen_roots code.rows j cs) copy.size chosen copy.is_size in
      let same = zip_same_length (GateConeCost source) (chosen_roots code.rows j roots) (chosen_roots code.rows j cs) chosen in
      let total = chosen_cost code.rows j cs in
      let few = copy.few in
      subst (λ (all : List ℕ). net_count new ≤ net_count old + column_cost code all j) (sym e) (omega arith)

module _ (code : Code) where
  abbrev of_nets : WordNets → ℕ
  of_nets w = ones code (length w.places) + 2 * code.columns

  abbrev of_word : List ℕ → ℕ
  of_word w = ones code (length w) + 2 * code.columns

  state_sum : (at : ℕ) (ws : Words) → sum_by of_nets (state_nets code at ws) ≡ sum_by of_word ws
  state_sum at [] = refl
  state_sum at (w ∷ ws) =
      let word : WordNets = record { places = range_with_len at (length w); checks = range_with_len (at + length w) code.columns } in
      let rest = state_nets code (at + length w + code.columns) ws in
      sum_by-cons of_nets word rest
      ∙ (ap₂ (λ (a b : ℕ). a + b) (ap (λ (k : ℕ). ones code k + 2 * code.columns) (length-range_with_len at (length w))) (state_sum (at + length w + code.columns) ws)
      ∙ sym (sum_by-cons of_word w ws))

  output_sum : (p a : ℕ) (outs : List ℕ) (ws : Words) → sum_by of_nets (map (output_nets_of code p outs) (enumerate_from a ws)) ≡ sum_by of_word ws
  output_sum p a outs [] = refl
  output_sum p a outs (w ∷ ws) =
      sum_by-cons of_nets (output_nets_of code p outs (a, w)) (map (output_nets_of code p outs) (enumerate_from (a + 1) ws))
      ∙ (ap₂ (λ (b c : ℕ). b + c) (ap (λ (k : ℕ). ones code k + 2 * code.columns) (length-map w _)) (output_sum p (a + 1) outs ws)
      ∙ sym (sum_by-cons of_word w ws))

  pub rail_few : (machine : Machine) (l : Layout) (p : ℕ) (old new : GateList) (last : ℕ) → IsRail code (watched_words machine code l p) old new last → net_count new ≤ net_count old + rail_cost code l
  rail_few machine l p old new last is =
      let a = sum_by-append of_nets (state_nets code machine.inputs l.state) (map (output_nets_of code p machine.outputs) (enumerate_from 0 l.output)) in
      let b = state_sum machine.inputs l.state in
      let c = output_sum p 0 machine.outputs l.output in
      let few = is.few in
      omega arith
