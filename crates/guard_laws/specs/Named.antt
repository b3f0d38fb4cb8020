-- What the naming of a guard promises.
use Rattle.std.specs.Prelude.{◌≡◌, ℕ, ◌+◌, List, ◌++◌, length, map, filter, not}
use Rattle.std.specs.List.{flat_map, enumerate_from, range_with_len}
use Rattle.netlist_spec.specs.Netlist.{Name, stands_in}
use Rattle.guard_spec.specs.Codes.{Code}
use Rattle.guard_spec.specs.Words.{Words, Layout}
use Rattle.netlist_spec.specs.GuardNames.{store_name, next_name, inner_name}
use Rattle.guard_spec.specs.Shaped.{check_outputs, rail_outputs}
use Rattle.netlist_spec.specs.Elaborated.{Elaborated}
use Rattle.guard_spec.specs.Regions.{Guarded}
use Rattle.netlist_spec.specs.Written.{Named, net_name, output_names, latch_labels, gate_labels}
use Rattle.gate_net.specs.Written.{named_machine}

-- a name for each place of some words, by word and then by place
abbrev pub place_names : (ℕ → ℕ → Name) → ℕ → Words → List Name
place_names name columns words =
    flat_map (λ (word : ℕ × List ℕ). map (name word.0) (range_with_len 0 (length word.1 + columns))) (enumerate_from 0 words)

-- the names of the nets that latches store
abbrev pub stored_names : Named → List Name
stored_names n = map (net_name n) (map (λ r. r.d) n.latches)

-- the names of gates that are neither outputs nor stored
abbrev pub inner_gates : Named → List Name
inner_gates n = filter (λ k. not (stands_in k (output_names n ++ stored_names n))) (gate_labels n)

-- A guard's gate list with the names of an elaborated source, of words and of rails.
pub record IsGuardNamed (n : Named) (g : Guarded) (e : Elaborated) (code : Code) (l : Layout) : Type 0 where
  pub machine : named_machine n ≡ g.machine
  pub model : n.model ≡ e.model
  pub unknown_inits : n.unknown_inits ≡ e.unknown_inits
  pub inputs : n.inputs ≡ e.input_ports
  pub clocks : n.clocks ≡ e.clock_ports
  pub clocking : n.clocking ≡ e.clocking
  pub outputs : output_names n ≡ e.output_names ++ check_outputs code l.output ++ rail_outputs g.rails
  pub shows : latch_labels n ≡ place_names store_name code.columns l.state
  pub stores : stored_names n ≡ place_names next_name code.columns l.state
  pub inner : inner_gates n ≡ map inner_name (range_with_len 0 (length (inner_gates n)))
