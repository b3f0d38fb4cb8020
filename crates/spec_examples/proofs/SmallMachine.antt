-- The machine of gates for the register that turns its bit.
use Rattle.std.proofs.Common.{◌≡◌, refl, sym, ◌∙◌, subst, ℕ, zero, suc, ◌<◌, ◌≤◌, [], ◌∷◌, codes, Bool, true, false, not, if◌then◌else◌, Some, slice_get, ◌==◌, arith, lit≤, lit<}
use Rattle.std.specs.Prelude.{◌↔◌}
use Rattle.std.specs.List.{AllZip}
use Rattle.netlist_spec.specs.Netlist.{Name, Statement, names, same_name}
use Rattle.netlist_spec.specs.Covers.{empty_library, cover_value}
use Rattle.netlist_spec.specs.Fits.{Valuation, Fits, fits, none, fits_names, fits_latch}
use Rattle.netlist_spec.specs.SourceRun.{Bits, SourceCycle}
use Rattle.netlist_spec.specs.Gates.{IsMachine, shown_net, GateStep}
use Rattle.netlist_spec.specs.Sound.{ReadsFor}
use Rattle.netlist_spec.specs.Cones.{IsReached, itself, behind, ConeCostOf, IsGateReached, same_net, read_by, GateConeCost}
use Rattle.netlist_spec.specs.Elaborated.{CostsNoMore, IsMachineOf, IsElaborated}
use Rattle.spec_examples.specs.Examples.{inverter_cover, inverter_model, inverter_file, inverter_machine, inverter_elaborated}

-- ---- one cycle

inverted : (b : Bool) → cover_value inverter_cover (b ∷ []) ≡ not b
inverted true = refl
inverted false = refl

its_value : {v : Valuation} → Fits inverter_file empty_library inverter_model v → v (codes "n") ≡ cover_value inverter_cover (v (codes "q") ∷ [])
its_value (fits (fits_latch (fits_names e none))) = e

abbrev on_nets : Valuation → ℕ → Bool
on_nets v k = if k == 0 then v (codes "q") else v (codes "n")

abbrev on_names : (ℕ → Bool) → Valuation
on_names w n = if same_name n (codes "q") then w 0 else w 1

to_gates : (x s y next : Bits) → SourceCycle inverter_file empty_library inverter_model x s y next → GateStep inverter_machine [] x s y next
to_gates x s y next h =
    record {
      values = on_nets h.values;
      agrees = record {
        inputs = h.inputs;
        latches = subst (AllZip (λ q bit. on_nets h.values q ≡ shown_net [] q bit) (0 ∷ [])) h.state (refl, tt);
        gates = (its_value h.fits ∙ inverted (h.values (codes "q")), tt);
      };
      outputs = h.outputs;
      stores = h.stores;
    }

one_bit : (w : ℕ → Bool) (s : Bits) → AllZip (λ q bit. w q ≡ shown_net [] q bit) (0 ∷ []) s → w 0 ∷ [] ≡ s
one_bit w [] h = absurd h
one_bit w (b ∷ []) h = λ i. h.0 i ∷ []
one_bit w (b ∷ c ∷ bs) h = absurd h.1

to_names : (x s y next : Bits) → GateStep inverter_machine [] x s y next → SourceCycle inverter_file empty_library inverter_model x s y next
to_names x s y next h =
    record {
      values = on_names h.values;
      fits = fits (fits_latch (fits_names (h.agrees.gates.0 ∙ sym (inverted (h.values 0))) none));
      inputs = h.agrees.inputs;
      state = one_bit h.values s h.agrees.latches;
      clocks = tt;
      outputs = h.outputs;
      stores = h.stores;
    }

-- ---- the costs of its cones

few_gates : (n gates : ℕ) → GateConeCost inverter_machine n gates → gates ≤ 1
few_gates n gates ([], h, e) = absurd h
few_gates n gates (true ∷ [], h, e) = omega (arith, e)
few_gates n gates (false ∷ [], h, e) = omega (arith, e)
few_gates n gates (b ∷ c ∷ bs, h, e) = absurd h.1

from_latch : {k : ℕ} → IsGateReached inverter_machine 0 k → k ≡ 0
from_latch same_net = refl
from_latch (read_by r reads) = let h = from_latch r in absurd (omega (arith, reads.number))

no_gates : (gates : ℕ) → GateConeCost inverter_machine 0 gates → gates ≡ 0
no_gates gates ([], h, e) = absurd h
no_gates gates (true ∷ [], h, e) = let reached = from_latch (h.0.0 refl) in absurd (omega arith)
no_gates gates (false ∷ [], h, e) = e
no_gates gates (b ∷ c ∷ bs, h, e) = absurd h.1

abbrev its_gate : Statement
its_gate = names (codes "q" ∷ []) (codes "n") inverter_cover

no_true : false ≡ true → ⊥
no_true e = cc

some_cost : (cone : ℕ) → ConeCostOf inverter_file empty_library inverter_model (codes "n") cone → 1 ≤ cone
some_cost cone ([], h, e) = absurd h
some_cost cone (b ∷ [], h, e) = absurd h.1
some_cost cone (b ∷ false ∷ [], h, e) = absurd (no_true (h.1.0.1 (refl, codes "n", refl, itself)))
some_cost cone (true ∷ true ∷ [], h, e) = omega (arith, e)
some_cost cone (false ∷ true ∷ [], h, e) = omega (arith, e)
some_cost cone (b ∷ c ∷ d ∷ bs, h, e) = absurd h.1.1

n_reads_q : ReadsFor inverter_file empty_library inverter_model (codes "n") (codes "q")
n_reads_q = (its_gate, (1, lit< tt, refl), refl, refl, refl)

store_costs : CostsNoMore inverter_file empty_library inverter_model inverter_machine (codes "n") 1
store_costs =
    record {
      cost = λ gates cone g c. let few = few_gates 1 gates g in let some = some_cost cone c in omega arith;
      latches = λ i h r. rest i h;
    }
  where
    rest : (i : ℕ) → i < 1 → (q : Name) × (slice_get (codes "q" ∷ []) i ≡ Some q) × IsReached inverter_file empty_library inverter_model (codes "n") q
    rest zero h = (codes "q", refl, behind itself n_reads_q)
    rest (suc i) h = absurd (omega arith)

output_costs : CostsNoMore inverter_file empty_library inverter_model inverter_machine (codes "q") 0
output_costs =
    record {
      cost = λ gates cone g c. let none = no_gates gates g in omega arith;
      latches = λ i h r. rest i h;
    }
  where
    rest : (i : ℕ) → i < 1 → (q : Name) × (slice_get (codes "q" ∷ []) i ≡ Some q) × IsReached inverter_file empty_library inverter_model (codes "q") q
    rest zero h = (codes "q", refl, itself)
    rest (suc i) h = absurd (omega arith)

its_machine : IsMachine inverter_machine
its_machine = record { gates = (lit< tt, tt); leaves = refl; stores = (lit< tt, tt); outputs = (lit< tt, tt) }

pub inverter_is_machine : IsMachineOf inverter_file empty_library inverter_model inverter_machine
inverter_is_machine =
    record {
      well_formed = its_machine;
      inputs = refl;
      inits = refl;
      outputs = refl;
      steps = λ x s y next. (to_gates x s y next, to_names x s y next);
      size = lit≤ tt;
      stores = (store_costs, tt);
      cones = (output_costs, tt);
    }

the_leaf : (i : ℕ) → i < 1 → (0 ≡ i) ↔ (slice_get (codes "q" ∷ []) i ≡ Some (codes "q"))
the_leaf zero h = ((λ e. refl), (λ e. refl))
the_leaf (suc i) h = absurd (omega arith)

pub inverter_is_elaborated : IsElaborated inverter_file empty_library inverter_model inverter_elaborated
inverter_is_elaborated =
    record {
      machine = inverter_is_machine;
      model = refl;
      input_ports = refl;
      clock_ports = refl;
      data_names = refl;
      output_names = refl;
      latch_names = refl;
      clocking = refl;
      unknown_inits = refl;
      form = record {
        well_formed = its_machine;
        inputs = refl;
        outputs = refl;
        latches = refl;
        data_inputs = refl;
        leaves = (the_leaf, tt);
        control = tt;
        clocking = λ e. refl;
        words = (record { is_name = (lit< tt, lit≤ tt); bytes = refl }, (record { is_name = (lit< tt, lit≤ tt); bytes = refl }, tt));
        free = (refl, (refl, tt));
        model = (record { is_name = (lit< tt, lit≤ tt); bytes = refl }, refl);
        drivers = refl;
        input_ports = refl;
        clock_ports = refl;
        output_ports = refl;
        clocks_unread = (refl, tt);
        few_inputs = (lit≤ tt, lit≤ tt, lit≤ tt);
        few_outputs = lit≤ tt;
        few_latches = lit≤ tt;
        few_gates = lit≤ tt;
      };
    }
