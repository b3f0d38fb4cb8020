-- A machine that was made of a sound source statement by statement means what the source means.
use Rattle.std.proofs.Common.{◌≡◌, refl, ◌∙◌, ap, subst, ℕ, List, [], ◌∷◌, length, map, arith}
use Rattle.std.proofs.lemmas.List.{length-map}
use Rattle.std.specs.List.{AllZip}
use Rattle.netlist_spec.specs.Netlist.{Name, Model, File}
use Rattle.netlist_spec.specs.Covers.{Library}
use Rattle.netlist_spec.specs.Models.{Latch, init_bit, latches_of, data_inputs, latch_inputs, latch_outputs, output_nets}
use Rattle.netlist_spec.specs.SourceRun.{Bits, SourceCycle}
use Rattle.netlist_spec.specs.Sound.{IsMain, IsSound}
use Rattle.netlist_spec.specs.Gates.{LatchRow, Machine, GateStep}
use Rattle.netlist_spec.specs.Elaborated.{CostsNoMore, IsMachineOf}
use Rattle.netlist_spec.proofs.MachineRun.{machine_values, machine_has_values}
use Rattle.source_laws.specs.Costs.{StandsFor}
use Rattle.source_laws.specs.Lowered.{IsLowered}
use Rattle.source_laws.proofs.OneOutcome.{one_outcome}
use Rattle.source_laws.proofs.GateCosts.{costs_no_more, gates_within_cost}
use Rattle.source_laws.proofs.Tallies.{zip_length}

each_zip : {A B : Type 0} (R S : A → B → Type 0) (xs : List A) (ys : List B) → ((x : A) (y : B) → R x y → S x y) → AllZip R xs ys → AllZip S xs ys
each_zip R S [] [] f a = tt
each_zip R S [] (y ∷ ys) f a = absurd a
each_zip R S (x ∷ xs) [] f a = absurd a
each_zip R S (x ∷ xs) (y ∷ ys) f a = (f x y a.0, each_zip R S xs ys f a.1)

module _ (file : File) (library : Library) (m : Model) (machine : Machine) (owners : List ℕ) (sound : IsSound file library) (main : IsMain file m) (is : IsLowered file library m machine owners) where
  latch_count : length machine.latches ≡ length (latch_outputs m)
  latch_count =
      let a = length-map machine.latches (λ (r : LatchRow). r.init) in
      let b = length-map (latches_of m) (λ (l : Latch). init_bit l.init) in
      let c = length-map (latches_of m) (λ (l : Latch). l.q) in
      let d = ap length is.inits in
      omega arith

  source_of : (x s y next : Bits) → GateStep machine [] x s y next → SourceCycle file library m x s y next
  source_of x s y next g =
      let b = is.meaning x s g.values g.agrees in
      record { values = b.values; fits = b.fits; inputs = b.inputs; state = b.state; clocks = b.clocks; outputs = b.outputs ∙ g.outputs; stores = b.stores ∙ g.stores }

  step_of : (x s y next : Bits) → SourceCycle file library m x s y next → GateStep machine [] x s y next
  step_of x s y next c =
      let wide : length x ≡ machine.inputs = let a = ap length c.inputs in let b = length-map (data_inputs m) c.values in let d = is.inputs in omega arith in
      let long : length s ≡ length machine.latches = let a = ap length c.state in let b = length-map (latch_outputs m) c.values in let d = latch_count in omega arith in
      let v = machine_values machine is.well_formed [] x s wide long in
      let own : GateStep machine [] x s (map v machine.outputs) (map v (map (λ l. l.d) machine.latches)) = record { values = v; agrees = machine_has_values machine is.well_formed [] x s wide long; outputs = refl; stores = refl } in
      let same = one_outcome file library m x s (map v machine.outputs) (map v (map (λ l. l.d) machine.latches)) y next sound main (source_of x s _ _ own) c in
      subst (λ z. GateStep machine [] x s z next) same.0 (subst (λ z. GateStep machine [] x s (map v machine.outputs) z) same.1 own)

  stands_costs : (x : Name) (n : ℕ) → StandsFor file library m machine.net.leaves owners x n → CostsNoMore file library m machine x n
  stands_costs x n st = costs_no_more file library m machine is.well_formed is.inputs latch_count owners is.gates x n st

  pub machine_of : IsMachineOf file library m machine
  machine_of =
      record {
        well_formed = is.well_formed;
        inputs = is.inputs;
        inits = is.inits;
        outputs = zip_length _ (output_nets m) machine.outputs is.outputs;
        steps = λ x s y next. (step_of x s y next, source_of x s y next);
        size = gates_within_cost file library m machine.net owners main is.gates;
        stores = each_zip (λ x (r : LatchRow). StandsFor file library m machine.net.leaves owners x r.d) (λ x r. CostsNoMore file library m machine x r.d) (latch_inputs m) machine.latches (λ x r st. stands_costs x r.d st) is.stores;
        cones = each_zip (λ x n. StandsFor file library m machine.net.leaves owners x n) (λ x n. CostsNoMore file library m machine x n) (output_nets m) machine.outputs stands_costs is.outputs;
      }
