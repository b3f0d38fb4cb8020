-- The nets of a guard that have names of their own, and the labels of all its nets.
use Rattle.std.specs.Prelude.{◌≡◌, ℕ, ◌+◌, ◌<◌, ◌≤◌, ◌^◌, List, ◌++◌, length, map}
use Rattle.std.specs.List.{AllByRecursion}
use Rattle.guard_spec.specs.Words.{Layout}
use Rattle.gate_net.specs.Gate.{net_number}
use Rattle.gate_net.specs.Machine.{latch_row}
use Rattle.imp_text.specs.declared.names.NameId.{NameId}
use Rattle.named_netlist.specs.declared.label.Label.{Label}
use Rattle.named_netlist.specs.declared.label.Label.TheVariants.{Given, Inner}
use Rattle.guard_names.specs.declared.labels.Kind.TheVariants.{Store as ForStore, Next as ForNext}
use Rattle.guard_names.specs.declared.named.GuardNets.{GuardNets}
use Rattle.guard_names.specs.Labels.{IsRising, beside_gates, between, state_labels, check_labels, shown_labels}

abbrev pub output_numbers : GuardNets → List ℕ
output_numbers g = map net_number g.outputs.items

-- what latches store, and the outputs that are gates
abbrev pub own_nets : GuardNets → List ℕ
own_nets g = map (λ r. r.d) (map latch_row g.latches.items) ++ beside_gates g.net.leaves (output_numbers g) (output_numbers g)

-- their labels
abbrev pub own_labels : GuardNets → List NameId → Layout → ℕ → List Label
own_labels g output_names l columns =
    state_labels ForNext columns l.state ++ beside_gates g.net.leaves (shown_labels output_names columns (length l.output) g.rails) (output_numbers g)

-- the labels of data inputs, latches and gates
abbrev pub guard_labels_of : GuardNets → List NameId → List NameId → Layout → ℕ → List Label
guard_labels_of g data_names output_names l columns =
    map (λ n. Given n) data_names ++ state_labels ForStore columns l.state
    ++ between (λ i. Inner i) g.net.leaves 0 (own_nets g) (own_labels g output_names l columns)

-- What the labelling needs of a guard: cells of its own for its bits, in their order.
pub record CanLabel (g : GuardNets) (inputs shown : ℕ) (l : Layout) (columns : ℕ) : Type 0 where
  pub narrow : columns ≤ 16
  pub few_state : length l.state < 2 ^ 32
  pub few_output : length l.output < 2 ^ 32
  pub short : AllByRecursion (λ w. length w ≤ 12) l.state
  pub leaves : inputs + length (state_labels ForStore columns l.state) ≡ g.net.leaves
  pub latches : length g.latches.items ≡ length (state_labels ForNext columns l.state)
  pub outputs : length g.outputs.items ≡ shown + length (check_labels columns (length l.output)) + g.rails
  pub rising : IsRising g.net.leaves (own_nets g)
