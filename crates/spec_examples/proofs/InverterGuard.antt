-- The register that turns its bit means the machine of one gate, and the text of the guard of that machine is a guard of it.
use Rattle.std.proofs.Common.{◌≡◌, ◌++◌, length, refl, sym, ◌∙◌, ap, subst, ℕ, zero, suc, ◌+◌, ◌<◌, ◌≤◌, List, [], ◌∷◌, codes, Bool, true, false, not, cond, arith, IsTrue, lit≤, lit<}
use Rattle.std.proofs.lemmas.Option.{same_Some}
use Rattle.std.specs.Fmt.{digits}
use Rattle.std.specs.List.{AllByRecursion, AllZip}
use Rattle.netlist_spec.specs.Netlist.{same_name}
use Rattle.netlist_spec.specs.Covers.{empty_library, cover_value}
use Rattle.netlist_spec.specs.Fits.{Valuation, Fits, fits, none, fits_names, fits_latch}
use Rattle.netlist_spec.specs.SourceRun.{Bits, SourceCycle}
use Rattle.netlist_spec.specs.Cones.{itself, behind, IsInCone, ConeCostOf, RestsOnLatch, IsGateReached, same_net, read_by, GateConeCost}
use Rattle.netlist_spec.specs.Gates.{GateStep, GateForm, gate_reads, gate_cover}
use Rattle.netlist_spec.specs.Models.{Gate, gates_of, latch_inputs}
use Rattle.netlist_spec.specs.Placed.{port_names}
use Rattle.netlist_spec.specs.WrittenForm.{HasGateForm, HasWrittenForm}
use Rattle.netlist_spec.specs.Elaborated.{IsMachineOf}
use Rattle.netlist_spec.specs.Netlist.{Model, File}
use Rattle.netlist_spec.specs.CellBits.{Bit, latch_bit, output_bit, is_rail_name, IsIndependent}
use Rattle.netlist_spec.specs.Written.{net_name}
use Rattle.netlist_spec.specs.Ordered.{IsOrdered}
use Rattle.guard_spec.specs.Shaped.{IsShaped, gate_cells}
use Rattle.spec_examples.specs.Examples.{inverter_model, inverter_file, inverter_cover, inverter_layout, parity_settings}
use Rattle.spec_examples.proofs.Inverter.{its_gate, inverter_plain}
use Rattle.spec_examples.proofs.IndependentByTest.{independent_by_test, never_back_by_test}
use Rattle.netlist_spec.specs.Runs.{IsSteady}
use Rattle.guard_spec.specs.Containment.{IsGuard}
use Rattle.spec_examples.specs.Toggle.{toggle, toggle_guard, toggle_named, toggle_text}
use Rattle.containment.specs.Written.{net_of, IsWellNamed, NamesRails, IsNamedGuard, IsBuiltText}
use Rattle.containment.proofs.WrittenRuns.{written_runs}
use Rattle.containment.proofs.Guards.{steady_guard}
use Rattle.spec_examples.proofs.Toggle.{toggle_coded, toggle_is_machine, toggle_covers, toggle_have, toggle_separate, toggle_built, toggle_tells}

-- ---- what the source means

value_of_cover : (b : Bool) → cover_value inverter_cover (b ∷ []) ≡ not b
value_of_cover true = refl
value_of_cover false = refl

turns : (v : Valuation) → Fits inverter_file empty_library inverter_model v → v (codes "n") ≡ not (v (codes "q"))
turns v (fits (fits_latch (fits_names e rest))) = e ∙ value_of_cover (v (codes "q"))

-- the values of the nets by name
abbrev named_values : (ℕ → Bool) → Valuation
named_values u n = cond (same_name n (codes "q")) (u 0) (u 1)

as_gates : (x s y next : Bits) → SourceCycle inverter_file empty_library inverter_model x s y next → GateStep toggle [] x s y next
as_gates x s y next step = record {
  values = λ n. net_value n;
  agrees = record { inputs = step.inputs; latches = latch_shows s step.state; gates = (turns step.values step.fits, tt) };
  outputs = step.outputs;
  stores = step.stores;
}
  where
    net_value : ℕ → Bool
    net_value zero = step.values (codes "q")
    net_value (suc n) = step.values (codes "n")

    latch_shows : (s : Bits) → step.values (codes "q") ∷ [] ≡ s → AllZip (λ (q : ℕ) (bit : Bool). net_value q ≡ bit) (0 ∷ []) s
    latch_shows [] e = cc e
    latch_shows (b ∷ []) e = ((let k : step.values (codes "q") ≡ b = cc e in k), tt)
    latch_shows (b ∷ c ∷ s) e = cc e

as_source : (x s y next : Bits) → GateStep toggle [] x s y next → SourceCycle inverter_file empty_library inverter_model x s y next
as_source x s y next step = record {
  values = named_values step.values;
  fits = fits (fits_latch (fits_names (step.agrees.gates.0 ∙ sym (value_of_cover (step.values 0))) none));
  inputs = step.agrees.inputs;
  state = latch_was s step.agrees.latches;
  clocks = tt;
  outputs = step.outputs;
  stores = step.stores;
}
  where
    latch_was : (s : Bits) → AllZip (λ (q : ℕ) (bit : Bool). step.values q ≡ bit) (0 ∷ []) s → step.values 0 ∷ [] ≡ s
    latch_was [] z = absurd z
    latch_was (b ∷ []) z = ap (λ (c : Bool). c ∷ []) z.0
    latch_was (b ∷ c ∷ s) z = absurd z.1

-- the gate stands in the cone of its net
gate_in_cone : IsInCone inverter_file empty_library inverter_model (codes "n") its_gate
gate_in_cone = (refl, codes "n", refl, itself)

q_is_read : RestsOnLatch inverter_file empty_library inverter_model (codes "n") 0
q_is_read = (codes "q", refl, behind itself (its_gate, (1, omega arith, refl), refl, refl, refl))

one_gate : (gates : ℕ) → GateConeCost toggle 1 gates → gates ≤ 1
one_gate gates ([], marked, e) = absurd marked
one_gate gates (true ∷ [], marked, e) = omega arith
one_gate gates (false ∷ [], marked, e) = omega arith
one_gate gates (a ∷ b ∷ marks, marked, e) = absurd marked.1

cone_cost : (cone : ℕ) → ConeCostOf inverter_file empty_library inverter_model (codes "n") cone → 1 ≤ cone
cone_cost cone ([], marked, e) = absurd marked
cone_cost cone (a ∷ [], marked, e) = absurd marked.1
cone_cost cone (a ∷ b ∷ c ∷ marks, marked, e) = absurd marked.1.1
cone_cost cone (true ∷ true ∷ [], marked, e) = omega arith
cone_cost cone (false ∷ true ∷ [], marked, e) = omega arith
cone_cost cone (a ∷ false ∷ [], marked, e) = let clash : false ≡ true = marked.1.0.1 gate_in_cone in cc clash

-- a leaf reads nothing
pub only_itself : {k : ℕ} → IsGateReached toggle 0 k → k ≡ 0
only_itself same_net = refl
only_itself (read_by r reads) = let e = only_itself r in absurd (let f = reads.number in omega arith)

no_gate : (gates : ℕ) → GateConeCost toggle 0 gates → gates ≡ 0
no_gate gates ([], marked, e) = absurd marked
no_gate gates (false ∷ [], marked, e) = e
no_gate gates (true ∷ [], marked, e) = absurd (let f = only_itself (marked.0.0 refl) in omega arith)
no_gate gates (a ∷ b ∷ marks, marked, e) = absurd marked.1

-- The source means the machine.
pub inverter_means : IsMachineOf inverter_file empty_library inverter_model toggle
inverter_means = record {
  well_formed = record { gates = (lit< tt, tt); leaves = refl; stores = (lit< tt, tt); outputs = (lit< tt, tt) };
  inputs = refl;
  inits = refl;
  outputs = refl;
  steps = λ x s y next. (as_gates x s y next, as_source x s y next);
  size = lit≤ tt;
  stores = (
    record {
      cost = λ gates cone a b. let x = one_gate gates a in let y = cone_cost cone b in omega arith;
      latches = latch_of_n;
    },
    tt,
  );
  cones = (
    record {
      cost = λ gates cone a b. let x = no_gate gates a in omega arith;
      latches = latch_of_q;
    },
    tt,
  );
}
  where
    latch_of_n : (i : ℕ) → i < 1 → IsGateReached toggle 1 (0 + i) → RestsOnLatch inverter_file empty_library inverter_model (codes "n") i
    latch_of_n zero h r = q_is_read
    latch_of_n (suc i) h r = absurd (omega arith)

    latch_of_q : (i : ℕ) → i < 1 → IsGateReached toggle 0 (0 + i) → RestsOnLatch inverter_file empty_library inverter_model (codes "q") i
    latch_of_q zero h r = (codes "q", refl, itself)
    latch_of_q (suc i) h r = absurd (omega arith)

-- ---- the text of its guard

abbrev main_of : File → Model
main_of file = main_in file.models
  where
    main_in : List Model → Model
    main_in [] = inverter_model
    main_in (m ∷ ms) = m

-- the bits of the latches, and those of the gates
abbrev gate_bits : List Bit
gate_bits = latch_bit 0 ∷ latch_bit 1 ∷ output_bit 0 ∷ output_bit 1 ∷ output_bit 2 ∷ output_bit 2 ∷ output_bit 2 ∷ output_bit 3 ∷ output_bit 3 ∷ output_bit 3 ∷ []

pub text_is_ordered : IsOrdered toggle_text
unfolding digits
text_is_ordered = record { model = main_of toggle_text; one_model = refl; no_fault = refl }

pub text_is_independent : IsIndependent toggle_text
unfolding digits
text_is_independent = independent_by_test (main_of toggle_text) (latch_bit 0 ∷ latch_bit 1 ∷ gate_bits) refl

-- cells whose covers are those of some gates
forms_match : (gates : List Gate) (forms : List GateForm) → AllZip (λ g f. (length g.ins ≡ length (gate_reads f)) × (g.cover ≡ gate_cover f)) gates forms → AllByRecursion HasGateForm gates
forms_match [] [] h = tt
forms_match [] (f ∷ fs) h = absurd h
forms_match (g ∷ gs) [] h = absurd h
forms_match (g ∷ gs) (f ∷ fs) h = (record { form = f; reads = h.0.0; cover = h.0.1 }, forms_match gs fs h.1)

text_has_form : HasWrittenForm (main_of toggle_text) (port_names (main_of toggle_text).outputs ++ latch_inputs (main_of toggle_text))
unfolding digits
text_has_form =
    record {
      gates = forms_match (gates_of (main_of toggle_text)) toggle_guard.machine.net.gates ((refl, refl), ((refl, refl), ((refl, refl), ((refl, refl), ((refl, refl), ((refl, refl), ((refl, refl), ((refl, refl), ((refl, refl), ((refl, refl), tt))))))))));
      inner = refl;
    }

pub text_is_shaped : IsShaped toggle_text inverter_file parity_settings
unfolding digits
text_is_shaped = record {
  guard_model = main_of toggle_text;
  is_guard_model = refl;
  source_model = inverter_model;
  is_source_model = refl;
  layout = inverter_layout;
  is_layout = record { state = (refl, (lit≤ tt, lit≤ tt)); output = (refl, (lit≤ tt, lit≤ tt)) };
  shape = record { name = refl; inputs = refl; clocks = refl; outputs = refl; latches = refl; order = never_back_by_test (main_of toggle_text) (gate_cells (main_of toggle_text)) gate_bits refl refl; form = text_has_form };
  size = 38;
  is_size = inverter_plain;
  small = lit≤ tt;
}

pub toggle_is_named : IsWellNamed toggle_named
unfolding digits
toggle_is_named = record { leaves = refl; labels = refl; apart = refl; inputs = refl }

-- The text stands for the gate list that was built for the machine of the source.
pub text_is_built : IsBuiltText toggle_text inverter_file parity_settings 1
unfolding text_is_shaped
text_is_built = record {
  ordered = text_is_ordered;
  independent = text_is_independent;
  shaped = text_is_shaped;
  is_code = toggle_coded.is_code;
  d = 2;
  is_distance = toggle_coded.is_distance;
  wide = lit≤ tt;
  machine = toggle;
  g = toggle_guard;
  stands = record { net = net_of toggle_named; is_main = refl; means = inverter_means; written = written_runs toggle_named toggle_is_named };
  built = toggle_built;
  rails = refl;
  tells = toggle_tells;
}

pub text_is_guard : IsGuard toggle_text inverter_file parity_settings (IsSteady 1)
text_is_guard = steady_guard toggle_text inverter_file parity_settings text_is_built (IsSteady 1) (λ faults h. h)

rails_are_named : NamesRails toggle_named 2
unfolding digits
rails_are_named zero o at late = absurd (omega arith)
rails_are_named (suc zero) o at late = absurd (omega arith)
rails_are_named (suc (suc zero)) o at late = let same : 8 ≡ o = same_Some _ _ at in subst (λ (k : ℕ). IsTrue (is_rail_name (net_name toggle_named k))) same refl
rails_are_named (suc (suc (suc zero))) o at late = let same : 11 ≡ o = same_Some _ _ at in subst (λ (k : ℕ). IsTrue (is_rail_name (net_name toggle_named k))) same refl
rails_are_named (suc (suc (suc (suc i)))) o at late = cc at

-- The gate list and its names keep what their text needs to be independent.
pub toggle_is_named_guard : IsNamedGuard toggle_named toggle_guard toggle
toggle_is_named_guard = record {
  names = toggle_is_named;
  same = refl;
  rail_names = rails_are_named;
  is_machine = toggle_is_machine;
  covers = toggle_covers;
  own_nets = toggle_have;
  separate = toggle_separate;
}
