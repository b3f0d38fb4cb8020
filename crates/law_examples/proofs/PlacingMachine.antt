-- The machine of a small source that places a model is made of it statement by statement.
use Rattle.std.proofs.Common.{◌≡◌, refl, sym, ◌∙◌, ap, subst, ℕ, zero, suc, ◌≤◌, [], ◌∷◌, codes, Bool, true, false, ◌⊎◌, inl, inr, Some, lit<, lit≤, Contains}
use Rattle.std.specs.Prelude.{slice_get}
use Rattle.netlist_spec.specs.Netlist.{Name, Statement, stands_in}
use Rattle.netlist_spec.specs.Covers.{empty_library, cover_value}
use Rattle.netlist_spec.specs.Gates.{GateForm, one, gate_reads, AnswersWithin}
use Rattle.netlist_spec.specs.Elaborated.{IsMachineOf}
use Rattle.spec_examples.specs.Examples.{buffer_cover}
use Rattle.spec_examples.specs.SourceExamples.{copying_model, placing_statement, placing_model, placing_file}
use Rattle.spec_examples.proofs.SmallPlacement.{placing_is_sound}
use Rattle.source_laws.specs.Costs.{statements_of, IsDriver, a_leaf, ReadsAlone, AreGatesOf, no_gates, more_gates}
use Rattle.source_laws.specs.Numbered.{IsGateOf, IsNumbered}
use Rattle.netlist_spec.specs.Sound.{drives}
use Rattle.source_laws.specs.Nets.{NetsFit, nets_fit, no_statement, net_of_names, nets_of_model}
use Rattle.law_examples.specs.PlacingMachine.{copying_machine, outer_nets, inner_nets}
use Rattle.source_laws.proofs.Lists.{among, standing}
use Rattle.source_laws.proofs.Numbered.{numbered_machine}

copied : (b : Bool) → b ≡ cover_value buffer_cover (b ∷ [])
copied true = refl
copied false = refl

nets_are : NetsFit placing_file empty_library (AnswersWithin copying_machine.net 1 2) placing_model outer_nets
nets_are =
    nets_fit
    (nets_of_model copying_model inner_nets refl (nets_fit (net_of_names (λ v a. a.0 (lit≤ tt) (lit< tt) ∙ copied (v 0)) no_statement)) (refl, (refl, tt)) no_statement)

reads_the_input : ReadsAlone copying_machine.net 1 (0 ∷ [])
reads_the_input n k h r = by_place r.place r.gate r.is_gate r.reads
  where
    by_place : (place : ℕ) (gate : GateForm) → slice_get (one false 0 ∷ []) place ≡ Some gate → Contains (gate_reads gate) k → Contains (0 ∷ []) k ⊎ (1 ≤ k)
    by_place zero gate e c = let same : one false 0 ≡ gate = cc e in inl (subst (λ g. Contains (gate_reads g) k) (sym same) c)
    by_place (suc place) gate e c = cc e

-- the one statement drives `y`, and that is the gate
y_is_gate : (x : Name) (s : Statement) → IsDriver placing_file empty_library placing_model s x → IsGateOf placing_model 1 (0 ∷ []) s (outer_nets x)
y_is_gate x s d =
    elim (among (statements_of placing_model) s d.stands) [
      | inl e ↦
          let drives_x : stands_in x (codes "y" ∷ []) ≡ true = subst (λ t. stands_in x (drives placing_file empty_library t) ≡ true) (sym e) d.drives in
          elim (standing x (codes "y" ∷ []) drives_x) [
            | inl same ↦ record { place = 0; number = ap outer_nets (sym same); owner = 0; owns = refl; statement = ap (λ (t : Statement). Some t) e }
            | inr none ↦ absurd none
          ]
      | inr none ↦ absurd none
    ]

gates_are : AreGatesOf placing_file empty_library placing_model 1 (0 ∷ []) copying_machine.net
gates_are =
    more_gates {old = record { leaves = 1; gates = [] }} 0 1 placing_statement (0 ∷ []) no_gates refl refl (λ c. absurd (among [] 0 c)) refl refl refl (lit≤ tt) reads_the_input ((codes "a", refl, a_leaf refl), tt)

pub is_numbered : IsNumbered placing_file empty_library placing_model copying_machine (0 ∷ []) outer_nets
is_numbered =
    record {
      well_formed = record { gates = (lit< tt, tt); leaves = refl; stores = tt; outputs = (lit< tt, tt) };
      inits = refl;
      inputs = refl;
      state = refl;
      driven = y_is_gate;
      gates = gates_are;
      fit = nets_are;
      outputs = refl;
      stores = refl;
    }

pub is_machine : IsMachineOf placing_file empty_library placing_model copying_machine
is_machine = numbered_machine placing_file empty_library placing_model copying_machine (0 ∷ []) outer_nets placing_is_sound refl is_numbered
