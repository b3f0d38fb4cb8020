use Rattle.std.proofs.Common.{◌≡◌, [], ◌∷◌, codes, sym, subst, slice_get, Some}
use Rattle.netlist_spec.specs.Elaborated.{HasElaboratedForm}
use Rattle.blif_read.proofs.SpelledLemmas.{number-later}
use Rattle.elaborate_tests.proofs.SmallSources.{same_source, names_of, ids_of, no_ids, inverter_form}
use Rattle.elaborate_tests.proofs.flat_texts.inverter.Goals as goal

pub invariant_of-result : goal.invariant_of-result
invariant_of-result c =
    let all = c.intern-2.new.self in
    let a : slice_get all c.in_ok-a.a.0 ≡ Some (codes "a") = number-later c.intern.new.self (codes "y" ∷ []) all c.in_ok-a.a (codes "a") c.in_ok-y.ensures.names c.in_ok-a.ensures.place in
    let y : slice_get all c.in_ok-y.y.0 ≡ Some (codes "y") = c.in_ok-y.ensures.place in
    record {
      input_ports = ids_of all c.in_ok-input_ports.input_ports.items (c.in_ok-a.a ∷ []) (codes "a" ∷ []) c.in_ok-input_ports.ensures.items (a, tt);
      clock_ports = ids_of all c.new-2.result.items [] [] c.new-2.ensures.items tt;
      data_names = ids_of all c.in_ok-data_names.data_names.items (c.in_ok-a.a ∷ []) (codes "a" ∷ []) c.in_ok-data_names.ensures.items (a, tt);
      output_names = ids_of all c.in_ok-output_names.output_names.items (c.in_ok-y.y ∷ []) (codes "y" ∷ []) c.in_ok-output_names.ensures.items (y, tt);
      latch_names = ids_of all c.new-3.result.items [] [] c.new-3.ensures.items tt;
      control = no_ids all;
      form = subst HasElaboratedForm
          (sym (same_source _ _ _ _ _ _ _ _ _ _ _ _ _ _ c.in_ok-machine.ensures c.in_ok-model.ensures
          (names_of all c.in_ok-input_ports.input_ports.items (c.in_ok-a.a ∷ []) (codes "a" ∷ []) c.in_ok-input_ports.ensures.items (a, tt)) (names_of all c.new-2.result.items [] [] c.new-2.ensures.items tt)
          (names_of all c.in_ok-data_names.data_names.items (c.in_ok-a.a ∷ []) (codes "a" ∷ []) c.in_ok-data_names.ensures.items (a, tt)) (names_of all c.in_ok-output_names.output_names.items (c.in_ok-y.y ∷ []) (codes "y" ∷ []) c.in_ok-output_names.ensures.items (y, tt))
          (names_of all c.new-3.result.items [] [] c.new-3.ensures.items tt)))
          inverter_form;
    }
