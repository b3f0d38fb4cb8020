-- The text of a gate list with separate regions is independent, and its cells stand in order.
use Rattle.std.proofs.Common.{◌≡◌, refl, ◌∙◌, ap, subst, ℕ, ◌+◌, List, [], ◌∷◌, ◌++◌, length, map, get_or, arith}
use Rattle.std.specs.Prelude.{IsSomeAnd}
use Rattle.std.specs.List.{range_with_len, zip}
use Rattle.netlist_spec.specs.Netlist.{Name, Statement, Model}
use Rattle.netlist_spec.specs.Models.{main_model, Latch}
use Rattle.netlist_spec.specs.Gates.{Machine, IsMachine}
use Rattle.netlist_spec.specs.CellBits.{IsIndependent}
use Rattle.guard_spec.specs.Shaped.{NeverBack, gate_cells}
use Rattle.guard_spec.specs.Regions.{CoversGates, HaveOwnNets, AreSeparate}
use Rattle.netlist_spec.specs.GateRanges.{Region}
use Rattle.netlist_spec.specs.Written.{Named, label_name, latch_statement, latch_statements, gate_statement, gate_statements, line_count, statements_from, file_of}
use Rattle.containment.specs.Written.{machine_of, IsWellNamed, NamesRails}
use Rattle.containment.proofs.WrittenRuns.{names_long, apart, gates_are, latches_are, latch_labels_are, gate_labels_are, shows_back, stores_back}
use Rattle.netlist_spec.proofs.WrittenFiles.{facts}
use Rattle.containment.proofs.TextBits.{IsTextModel, all_independent, never_back}

without_lines : (k : ℕ) (ss : List Statement) → map (λ s. s.what) (statements_from k ss) ≡ ss
without_lines k [] = refl
without_lines k (s ∷ ss) = ap (λ (rest : List Statement). s ∷ rest) (without_lines (k + line_count s) ss)

-- the main model of the text
abbrev first_of : List Model → Model
first_of [] = record { name = []; line = 0; names = []; inputs = []; outputs = []; clocks = []; statements = [] }
first_of (m ∷ ms) = m

abbrev pub text_main : Named → Model
text_main n = first_of (file_of n).models

-- It stands beside the gate list.
pub text_model : (n : Named) → IsWellNamed n → IsSomeAnd (main_model (file_of n)) (IsTextModel n)
text_model n well = record {
  apart = λ i j hi hj e. let long = names_long n well in apart n well i j (omega arith) (omega arith) e;
  gates = gates_are n well (text_main n) (facts n) well.inputs;
  outputs = (facts n).2;
  stores = ap (λ (ls : List Latch). map (λ l. l.d) ls) (latches_are n well (text_main n) (facts n) well.inputs) ∙ stores_back n n.data_inputs n.latches;
  shows = ap (λ (ls : List Latch). map (λ l. l.q) ls) (latches_are n well (text_main n) (facts n) well.inputs) ∙ shows_back n n.data_inputs n.latches;
  cells =
      without_lines _ (latch_statements n ++ gate_statements n)
      ∙ (ap (λ (ls : List Name). map (latch_statement n) (zip ls n.latches) ++ gate_statements n) (latch_labels_are n well)
      ∙ ap (λ (gs : List Name). map (latch_statement n) (zip (map (λ k. get_or (map label_name n.labels) k []) (range_with_len n.data_inputs (length n.latches))) n.latches) ++ map (gate_statement n) (zip gs n.net.gates)) (gate_labels_are n well));
}

module _ (n : Named) (well : IsWellNamed n) (rails : ℕ) (regions : List Region) (source : Machine) (named_rails : NamesRails n rails) where
  -- What is known of a machine holds of the guard that has it.
  abbrev Separate : Machine → Type 0
  Separate k =
      IsMachine k → CoversGates record { machine = k; rails = rails; regions = regions } → HaveOwnNets record { machine = k; rails = rails; regions = regions } source → AreSeparate record { machine = k; rails = rails; regions = regions }
      → IsIndependent (file_of n) × IsSomeAnd (main_model (file_of n)) (λ m. NeverBack m (gate_cells m))

  separate_text : Separate (machine_of n)
  separate_text is_machine covers have separate = (
    (all_independent n (text_main n) (text_model n well) rails regions source is_machine covers have separate named_rails, tt),
    never_back n (text_main n) (text_model n well) rails regions source is_machine covers have separate,
  )

  pub independent_text : (k : Machine) → machine_of n ≡ k → Separate k
  independent_text k same = subst Separate same separate_text
