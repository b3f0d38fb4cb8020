use Rattle.std.proofs.Common.{◌≡◌, [], ◌∷◌, codes, sym, ◌∙◌, ap, subst, slice_get, Some, List}
use Rattle.imp_text.specs.Names.{with_name}
use Rattle.imp_text.specs.declared.names.NameId.{NameId}
use Rattle.netlist_spec.specs.Netlist.{Name}
use Rattle.netlist_spec.specs.Elaborated.{HasElaboratedForm}
use Rattle.blif_read.proofs.SpelledLemmas.{number-later}
use Rattle.elaborate_tests.proofs.SmallSources.{same_source, names_of, ids_of, no_ids, bit_names, counter_form}
use Rattle.elaborate_tests.proofs.flat_texts.counter.Goals as goal

pub invariant_of-result : goal.invariant_of-result
invariant_of-result c =
    let one = c.intern.new.self in
    let two = c.intern-2.new.self in
    let three = c.intern-3.new.self in
    let all = c.intern-4.new.self in
    let ids : List NameId = c.in_ok-a0.a0 ∷ c.in_ok-a1.a1 ∷ c.in_ok-a2.a2 ∷ c.in_ok-a3.a3 ∷ [] in
    let from_three = c.in_ok-a3.ensures.names in
    let from_two = from_three ∙ ap (λ (l : List Name). with_name l (codes "a3")) c.in_ok-a2.ensures.names in
    let from_one = from_two ∙ ap (λ (l : List Name). with_name (with_name l (codes "a2")) (codes "a3")) c.in_ok-a1.ensures.names in
    let a0 : slice_get all c.in_ok-a0.a0.0 ≡ Some (codes "a0") = number-later one (codes "a1" ∷ codes "a2" ∷ codes "a3" ∷ []) all c.in_ok-a0.a0 (codes "a0") from_one c.in_ok-a0.ensures.place in
    let a1 : slice_get all c.in_ok-a1.a1.0 ≡ Some (codes "a1") = number-later two (codes "a2" ∷ codes "a3" ∷ []) all c.in_ok-a1.a1 (codes "a1") from_two c.in_ok-a1.ensures.place in
    let a2 : slice_get all c.in_ok-a2.a2.0 ≡ Some (codes "a2") = number-later three (codes "a3" ∷ []) all c.in_ok-a2.a2 (codes "a2") from_three c.in_ok-a2.ensures.place in
    let a3 : slice_get all c.in_ok-a3.a3.0 ≡ Some (codes "a3") = c.in_ok-a3.ensures.place in
    record {
      input_ports = ids_of all c.new-2.result.items [] [] c.new-2.ensures.items tt;
      clock_ports = ids_of all c.new-3.result.items [] [] c.new-3.ensures.items tt;
      data_names = ids_of all c.new-4.result.items [] [] c.new-4.ensures.items tt;
      output_names = ids_of all c.in_ok-output_names.output_names.items ids bit_names c.in_ok-output_names.ensures.items (a0, (a1, (a2, (a3, tt))));
      latch_names = ids_of all c.in_ok-latch_names.latch_names.items ids bit_names c.in_ok-latch_names.ensures.items (a0, (a1, (a2, (a3, tt))));
      control = no_ids all;
      form = subst HasElaboratedForm
          (sym (same_source _ _ _ _ _ _ _ _ _ _ _ _ _ _ c.in_ok-machine.ensures c.in_ok-model.ensures
          (names_of all c.new-2.result.items [] [] c.new-2.ensures.items tt) (names_of all c.new-3.result.items [] [] c.new-3.ensures.items tt) (names_of all c.new-4.result.items [] [] c.new-4.ensures.items tt)
          (names_of all c.in_ok-output_names.output_names.items ids bit_names c.in_ok-output_names.ensures.items (a0, (a1, (a2, (a3, tt)))))
          (names_of all c.in_ok-latch_names.latch_names.items ids bit_names c.in_ok-latch_names.ensures.items (a0, (a1, (a2, (a3, tt)))))))
          counter_form;
    }
