-- The machine of a guard, from its leaves and its three parts.
use Rattle.std.proofs.Common.{◌≡◌, sym, ◌∙◌, ap, ap₂, subst, ℕ, ◌+◌, ◌*◌, List, ◌++◌, length, map, arith, append_assoc, length-append}
use Rattle.std.specs.List.{AllZip, flat_map, range_with_len}
use Rattle.netlist_spec.specs.Gates.{GateList, Machine, IsGateList}
use Rattle.guard_spec.specs.Codes.{Code, data_places}
use Rattle.guard_spec.specs.Words.{IsPartition, Layout}
use Rattle.gate_net.specs.GateNet.{net_count}
use Rattle.gate_net.specs.Words.{WordNets, nets_of}
use Rattle.alarm_rails.specs.Rail.{SomeIsNone}
use Rattle.guard_laws.proofs.Lists.{as_long}
use Rattle.guard_laws.specs.Rows.{IsRailRange}
use Rattle.guard_laws.specs.Watched.{watched_words}
use Rattle.guard_cells.specs.Cells.{AreCells, Cell}
use Rattle.guard_made.specs.Made.{IsMade, IsShown, gate_output_cells, latch_cells, output_cells}
use Rattle.guard_net.specs.Built.{AreRight, HasLatches, HasLeaves, HasOutputs, HasRails, words_to_watch}
use Rattle.guard_net.proofs.Lists.{keeps_leaves, keeps_trans}
use Rattle.guard_net.proofs.RightCells.{RowsJoin}
use Rattle.guard_net.proofs.WatchedWords.{still_watched, watched_cost}

pub outputs_long : (m : Machine) (code : Code) (l : Layout) (leaf : List ℕ) (old new : GateList) (outputs : List ℕ) → HasOutputs m m code l leaf old new outputs → length outputs ≡ length m.outputs + length l.output * code.columns
outputs_long m code l leaf old new outputs has =
    ap length has.are ∙ (length-append has.shown has.checks ∙ ap₂ (λ (a b : ℕ). a + b) (sym (as_long (IsShown m.inputs old.leaves) m.outputs has.shown has.shows)) has.count)

module _ (join : RowsJoin) (m : Machine) (code : Code) (l : Layout) (g : Machine) (count : ℕ) (leaf : List ℕ) (leaves : ℕ) (start first front : GateList) (outputs : List ℕ)
    (inputs : g.inputs ≡ m.inputs) (gates : IsGateList g.net) (partition : IsPartition (length m.outputs) (data_places code) l.output) (at_start : net_count start ≡ leaves) (begun : start.leaves ≡ leaves)
    (on : HasLeaves m code l leaf leaves) (latches : HasLatches m code l leaf start first g.latches) (shown : HasOutputs m m code l leaf first front outputs)
    (rails : HasRails code (words_to_watch code l m.inputs (length m.outputs) outputs) count front g.net outputs g.outputs) where
  all_leaves : g.net.leaves ≡ leaves
  all_leaves = keeps_leaves start g.net (keeps_trans start front g.net (keeps_trans start first front latches.kept shown.kept) rails.kept) ∙ begun

  first_leaves : first.leaves ≡ g.net.leaves
  first_leaves = keeps_leaves start first latches.kept ∙ (begun ∙ sym all_leaves)

  word_row : AreRight m code l leaf (net_count start) (latch_cells (map (λ r. r.d) g.latches) ++ (gate_output_cells first.leaves 0 shown.shown ++ output_cells (length shown.shown) shown.checks)) front
  word_row = join leaf m code l (net_count start) (latch_cells (map (λ r. r.d) g.latches)) (gate_output_cells first.leaves 0 shown.shown ++ output_cells (length shown.shown) shown.checks) first front latches.right shown.kept shown.right

  words_row : AreRight m code l (range_with_len 0 m.inputs ++ on.places) g.net.leaves (latch_cells (map (λ r. r.d) g.latches) ++ gate_output_cells g.net.leaves 0 shown.shown ++ output_cells (length shown.shown) shown.checks) front
  words_row =
      subst (λ (k : ℕ). AreRight m code l (range_with_len 0 m.inputs ++ on.places) g.net.leaves (latch_cells (map (λ r. r.d) g.latches) ++ gate_output_cells k 0 shown.shown ++ output_cells (length shown.shown) shown.checks) front) first_leaves
      (subst (λ (cs : List Cell). AreRight m code l (range_with_len 0 m.inputs ++ on.places) g.net.leaves cs front) (sym (append_assoc (latch_cells (map (λ r. r.d) g.latches)) (gate_output_cells first.leaves 0 shown.shown) (output_cells (length shown.shown) shown.checks)))
      (subst (λ (k : ℕ). AreRight m code l (range_with_len 0 m.inputs ++ on.places) k (latch_cells (map (λ r. r.d) g.latches) ++ (gate_output_cells first.leaves 0 shown.shown ++ output_cells (length shown.shown) shown.checks)) front) (at_start ∙ sym all_leaves)
      (subst (λ (ns : List ℕ). AreRight m code l ns (net_count start) (latch_cells (map (λ r. r.d) g.latches) ++ (gate_output_cells first.leaves 0 shown.shown ++ output_cells (length shown.shown) shown.checks)) front) on.are word_row)))

  watched : words_to_watch code l m.inputs (length m.outputs) outputs ≡ watched_words g code l (length m.outputs)
  watched = still_watched g code l m.inputs (length m.outputs) outputs rails.rails inputs rails.are partition (outputs_long m code l leaf first front outputs shown)

  abbrev Alarms : List WordNets → ℕ → Type 0
  Alarms words k = AreCells (λ net r. IsRailRange net (flat_map nets_of words) (SomeIsNone code words) r) (net_count front) (output_cells k rails.rails) g.net

  alarm_row : Alarms (watched_words g code l (length m.outputs)) (length shown.shown + length shown.checks)
  alarm_row =
      subst (λ (k : ℕ). Alarms (watched_words g code l (length m.outputs)) k) (ap length shown.are ∙ length-append shown.shown shown.checks)
      (subst (λ (ws : List WordNets). Alarms ws (length outputs)) watched rails.right)

  pub is_made : IsMade m code l count g
  is_made = record {
    gates = gates;
    inputs = inputs;
    leaves = all_leaves ∙ on.all;
    places = on.places;
    are_places = on.are_places;
    latches = latches.count;
    inits = latches.inits;
    nets = record { shown = shown.shown; checks = shown.checks; rails = rails.rails };
    outputs = rails.are ∙ ap (λ (ns : List ℕ). ns ++ rails.rails) shown.are;
    shown = subst (λ (k : ℕ). AllZip (IsShown m.inputs k) m.outputs shown.shown) first_leaves shown.shows;
    checks = shown.count;
    rail_number = rails.many;
    front = front;
    kept = rails.kept;
    words = words_row;
    alarms = alarm_row;
    few = λ cost gives.
        let a = latches.few cost gives in
        let b = shown.few cost gives in
        let c = rails.few in
        let d = ap (λ (k : ℕ). count * k) (watched_cost code l m.inputs (length m.outputs) outputs) in
        let e = all_leaves in
        omega (arith, a, b, c, d, e, at_start);
  }
