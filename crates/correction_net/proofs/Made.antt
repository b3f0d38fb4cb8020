-- A guard in correction, from its latches and its outputs.
use Rattle.std.proofs.Common.{◌≡◌, refl, sym, ◌∙◌, ap, subst, ℕ, zero, suc, ◌+◌, ◌*◌, ◌<◌, ◌≤◌, Bool, List, [], ◌∷◌, ◌++◌, length, map, arith, append_assoc, append-nil}
use Rattle.std.specs.List.{AllByRecursion, AllZip, range_with_len}
use Rattle.std.proofs.lemmas.List.{length-map}
use Rattle.netlist_spec.specs.GateRanges.{Region}
use Rattle.netlist_spec.specs.Gates.{GateList, IsGateList, IsMachine, LatchRow, Machine}
use Rattle.guard_spec.specs.Codes.{Code, IsCode, correct}
use Rattle.guard_spec.specs.Plain.{IsMachineSizeWith}
use Rattle.guard_spec.specs.Rails.{SomeNoCodeword}
use Rattle.guard_spec.specs.Regions.{Guarded}
use Rattle.guard_spec.specs.Words.{IsPartition, Layout, codewords}
use Rattle.netlist_spec.specs.SourceRun.{Bits}
use Rattle.gate_net.specs.GateNet.{net_count}
use Rattle.cone_split.specs.Cones.{IsConeSize}
use Rattle.guard_laws.specs.Places.{latches_of_words}
use Rattle.guard_laws.specs.Promised.{IsGuardOf, cell_count}
use Rattle.guard_laws.specs.Rows.{IsRailRange}
use Rattle.guard_laws.specs.Within.{IsMadeWithin, IsRangeWithin}
use Rattle.guard_laws.proofs.Lists.{as_long}
use Rattle.guard_cells.specs.Cells.{AreCells, Cell, GivesCosts, words_cost}
use Rattle.guard_made.specs.Made.{IsShown, OutputNets, gate_output_cells, guarded, latch_cells, output_cells, rail_cells_of, word_cells}
use Rattle.guard_made.proofs.Costs.{costs_given, stores_below}
use Rattle.guard_made.proofs.Nets.{is_machine, own_nets}
use Rattle.guard_made.proofs.Order.{ranges_in_order}
use Rattle.guard_made.proofs.Own.{all_cells, all_in_order, outputs_long}
use Rattle.guard_made.proofs.Regions.{gates, own, rails, ranges, row}
use Rattle.guard_net.specs.Built.{AreRight, HasLatches, HasOutputs}
use Rattle.guard_net.proofs.Lists.{keeps_itself, keeps_leaves, keeps_trans}
use Rattle.guard_net.proofs.RightCells.{RowsJoin}
use Rattle.correction_laws.specs.Few.{NetCost}
use Rattle.correction_laws.specs.FromJoined.{IsOver}
use Rattle.correction_laws.proofs.Guard.{guard_of}
use Rattle.correction_net.specs.StandIn.{StandsIn}
use Rattle.correction_net.proofs.Ranges.{range_within}
use Rattle.correction_net.proofs.Sizes.{size_kept}

module _ (join : RowsJoin) (source stand : Machine) (code : Code) (l : Layout) (t k : ℕ) (g : Machine) (start mid : GateList) (is_source : IsMachine source) (is_code : IsCode code) (partition : IsPartition (length source.latches) k l.state) (stands : StandsIn source code l t stand)
    (inputs : g.inputs ≡ source.inputs) (well : IsGateList g.net) (begun : start ≡ record { leaves = stand.net.leaves; gates = [] })
    (latches : HasLatches stand code l (range_with_len 0 stand.net.leaves) start mid g.latches) (shown : HasOutputs source stand code l (range_with_len 0 stand.net.leaves) mid g.net g.outputs) where
  abbrev leaf : List ℕ
  leaf = range_with_len 0 stand.net.leaves

  abbrev nets : OutputNets
  nets = record { shown = shown.shown; checks = shown.checks; rails = [] }

  outputs : g.outputs ≡ shown.shown ++ shown.checks ++ []
  outputs = shown.are ∙ sym (append-nil (shown.shown ++ shown.checks))

  start_leaves : start.leaves ≡ stand.net.leaves
  start_leaves = ap (λ (net : GateList). net.leaves) begun

  start_count : net_count start ≡ stand.net.leaves
  start_count = ap net_count begun ∙ (let e : stand.net.leaves + 0 ≡ stand.net.leaves = omega arith in e)

  all_leaves : g.net.leaves ≡ stand.net.leaves
  all_leaves = keeps_leaves start g.net (keeps_trans start mid g.net latches.kept shown.kept) ∙ start_leaves

  mid_leaves : mid.leaves ≡ g.net.leaves
  mid_leaves = keeps_leaves start mid latches.kept ∙ (start_leaves ∙ sym all_leaves)

  leaves_are : g.net.leaves ≡ source.inputs + latches_of_words code l.state
  leaves_are = all_leaves ∙ stands.ready.joined_list.leaves

  abbrev latch_part : List Cell
  latch_part = latch_cells (map (λ r. r.d) g.latches)

  abbrev checks : List Cell
  checks = output_cells (length shown.shown) shown.checks

  words : AreRight stand code l leaf g.net.leaves (word_cells g nets) g.net
  words =
      subst (λ (n : ℕ). AreRight stand code l leaf g.net.leaves (latch_part ++ gate_output_cells n 0 shown.shown ++ checks) g.net) mid_leaves
      (subst (λ (cs : List Cell). AreRight stand code l leaf g.net.leaves cs g.net) (sym (append_assoc latch_part (gate_output_cells mid.leaves 0 shown.shown) checks))
      (subst (λ (n : ℕ). AreRight stand code l leaf n (latch_part ++ (gate_output_cells mid.leaves 0 shown.shown ++ checks)) g.net) (start_count ∙ sym all_leaves)
      (join leaf stand code l (net_count start) latch_part (gate_output_cells mid.leaves 0 shown.shown ++ checks) mid g.net latches.right shown.kept shown.right)))

  abbrev guard : Guarded
  guard = guarded g nets

  abbrev Bad : (ℕ → Bool) → Type 0
  Bad = SomeNoCodeword guard code l (length source.outputs)

  no_alarms : AreCells (λ net r. IsRailRange net [] Bad r) (net_count g.net) (rail_cells_of nets) g.net
  no_alarms = record { ranges = tt; end = refl }

  made : IsMadeWithin guard source code correct t l [] Bad
  made =
      let many = latches.count in
      let leaves = leaves_are in
      let all_gates = gates g nets outputs g.net stand code l leaf [] Bad (keeps_itself g.net) words no_alarms in
      record {
        is_code = is_code;
        is_source = is_source;
        is_machine = is_machine g nets outputs all_gates well (let e : g.net.leaves ≡ g.inputs + length g.latches = omega (arith, inputs, many, leaves) in e);
        own_nets = own_nets g nets outputs all_gates source inputs (subst (λ (n : ℕ). AllZip (IsShown source.inputs n) source.outputs shown.shown) mid_leaves shown.shows) (omega (arith, leaves));
        outputs =
            let a = outputs_long g nets outputs in
            let b = as_long (IsShown source.inputs mid.leaves) source.outputs shown.shown shown.shows in
            let c = shown.count in
            let e : length g.outputs ≡ (length source.outputs + length l.output * code.columns) + 0 = omega (arith, a, b, c) in e;
        watches = λ n c. absurd (let h = c.1 in omega arith);
        row = row g nets outputs g.net stand code l leaf [] Bad (keeps_itself g.net) words no_alarms;
        in_order = ranges_in_order g.net.leaves (all_cells g nets outputs) (all_in_order g nets outputs);
        own = own g nets outputs g.net stand code l leaf [] Bad (keeps_itself g.net) words no_alarms;
        ranges = λ r has plain.
            let is = range_within source stand code l t k is_source partition stands g.net r all_leaves (ranges g nets outputs g.net stand code l leaf [] Bad (keeps_itself g.net) words no_alarms r has plain) in
            subst (λ (n : ℕ). IsRangeWithin g.net n (length g.latches) source code correct t l r) (sym inputs) (subst (λ (n : ℕ). IsRangeWithin g.net source.inputs n source code correct t l r) (sym many) is);
        rails = rails g nets outputs g.net stand code l leaf [] Bad (keeps_itself g.net) words no_alarms;
      }

  few : ((x m n size : ℕ) → IsOver source stands.nets stands.first x m → NetCost source code correct t l x n → IsConeSize stand.net (m ∷ []) size → size + 2 ≤ n)
      → (n : ℕ) → IsMachineSizeWith source code correct t 0 l n → cell_count guard ≤ n
  few cone n size =
      let (cost, gives) = costs_given stand stands.is_machine in
      let total = size_kept source stand code l t stands.nets stands.first cone cost gives n size stands.stores (stores_below (net_count stand.net) stand.latches stands.is_machine.stores) stands.outputs stands.is_machine.outputs in
      let a = latches.few cost gives in
      let b = shown.few cost gives in
      let many = latches.count in
      let leaves = all_leaves in
      let from = start_count in
      omega (arith, total, a, b, many, leaves, from)

  pub guard_made : ((x m n size : ℕ) → IsOver source stands.nets stands.first x m → NetCost source code correct t l x n → IsConeSize stand.net (m ∷ []) size → size + 2 ≤ n)
      → (regions : List Region) × IsGuardOf (record { machine = g; rails = 0; regions = regions }) source code correct t 0 l
  guard_made cone = (
    guard.regions,
    guard_of guard source code correct t 0 l [] made refl (latches.inits ∙ ap (λ (starts : Bits). codewords code l.state starts) stands.inits) (few cone),
  )

-- ---- room

module _ (source stand : Machine) (code : Code) (l : Layout) (t : ℕ) (stands : StandsIn source code l t stand) where
  pub stands_cost : ((x m n size : ℕ) → IsOver source stands.nets stands.first x m → NetCost source code correct t l x n → IsConeSize stand.net (m ∷ []) size → size + 2 ≤ n) → (cost : ℕ → ℕ) → GivesCosts stand cost → (n : ℕ) → IsMachineSizeWith source code correct t 0 l n
      → latches_of_words code l.state + words_cost cost code (map (λ r. r.d) stand.latches) l.state + words_cost cost code stand.outputs l.output ≤ n
  stands_cost cone cost gives n size =
      size_kept source stand code l t stands.nets stands.first cone cost gives n size stands.stores (stores_below (net_count stand.net) stand.latches stands.is_machine.stores) stands.outputs stands.is_machine.outputs

  pub latches_long : length stand.latches ≡ length source.latches
  latches_long =
      let a = as_long (IsOver source stands.nets stands.first) (map (λ r. r.d) source.latches) (map (λ r. r.d) stand.latches) stands.stores in
      let b = length-map source.latches (λ (r : LatchRow). r.d) in
      let c = length-map stand.latches (λ (r : LatchRow). r.d) in
      omega (arith, a, b, c)

  pub outputs_as_long : length stand.outputs ≡ length source.outputs
  outputs_as_long = sym (as_long (IsOver source stands.nets stands.first) source.outputs stand.outputs stands.outputs)

-- the nets below a count
pub all_low : (a n m : ℕ) → a + n ≤ m → AllByRecursion (λ k. k < m) (range_with_len a n)
all_low a zero m h = tt
all_low a (suc n) m h = (omega arith, all_low (a + 1) n m (omega arith))
