-- The machine of the main model, as the calls that make it answer.
use Rattle.std.proofs.Common.{◌≡◌, refl, sym, ◌∙◌, subst, ℕ, ◌<◌, List, map, filter_map, length, get_or, Some, slice_get, All, true, arith}
use Rattle.std.proofs.lemmas.List.{length-map}
use Rattle.netlist_spec.specs.Netlist.{are_distinct, Model, File}
use Rattle.netlist_spec.specs.Covers.{Library}
use Rattle.netlist_spec.specs.Sound.{IsMain}
use Rattle.netlist_spec.specs.Gates.{GateList, IsGateList, IsMachine}
use Rattle.gate_net.specs.declared.gate.NetId.{NetId}
use Rattle.gate_net.specs.declared.machine.LatchRow.{LatchRow as ReadRow}
use Rattle.gate_net.specs.Gate.{net_number}
use Rattle.gate_net.specs.Machine.{latch_row, machine_of}
use Rattle.blif_read.specs.declared.file.Model.{Model as ReadModel}
use Rattle.blif_read.specs.declared.file.Port.{Port as ReadPort}
use Rattle.blif_read.specs.Ids.{HasIds}
use Rattle.blif_read.specs.View.{model_of}
use Rattle.source_laws.specs.Nets.{Nets}
use Rattle.source_laws.specs.Numbered.{IsNumbered}
use Rattle.source_nets.specs.declared.types.Source.{Source}
use Rattle.source_nets.specs.Ports.{source_file, source_library}
use Rattle.source_check.specs.declared.types.Checked.{Checked}
use Rattle.lowering.specs.Nets.{net_in}
use Rattle.lowering.specs.Numbers.{IsWithin}
use Rattle.model_lowering.specs.Inside.{IsReady}
use Rattle.model_lowering.proofs.Known.{names_distinct}
use Rattle.model_lowering.proofs.PlacedCall.{at_m, model_ids}
use Rattle.source_machine.specs.Leaves.{CanNumber, HasLeaves}
use Rattle.source_machine.specs.Rows.{row_for}
use Rattle.source_machine.specs.Gates.{HasGates}
use Rattle.source_machine.proofs.MainLoop.{main_is_first}
use Rattle.source_machine.proofs.RowLemmas.{rows_store, rows_begin, outputs_are}
use Rattle.source_machine.proofs.LeafLemmas.{main_can_number}
use Rattle.source_machine.proofs.EndLemmas.{machine_is, is_numbered}

module _ (source : Source) (checked : Checked) (ready : IsReady source checked) where
  abbrev F : File
  F = source_file source

  abbrev L : Library
  L = source_library source

  pub some_model : 0 < length source.file.now.models.items
  some_model = omega (arith, ready.is_file.some_model, length-map source.file.now.models.items model_of)

  module _ (rm : ReadModel) (is : rm ≡ get_or source.file.now.models.items 0 rm) where
    abbrev m : Model
    m = model_of rm

    at : slice_get F.models 0 ≡ Some m
    at = at_m source checked ready 0 rm some_model is

    pub main : IsMain F m
    main = main_is_first F m at

    pub ids : HasIds rm
    ids = model_ids source checked ready 0 rm some_model is

    distinct : are_distinct m.names ≡ true
    distinct = names_distinct source checked ready 0 m at

    pub can_number : CanNumber m
    can_number = main_can_number F L m (ready.sound.used m (m, main, 0, refl)) ready.sound main distinct

    pub same_main : (x : Model) → IsMain F x → m ≡ x
    same_main x e = let both : Some m ≡ Some x = sym main ∙ e in cc both

    pub outputs_within : (table : List ℕ) → length table ≡ length rm.names → All (λ (p : ReadPort). IsWithin table p.name) rm.outputs.items
    outputs_within table size = λ i d h. let w = ids.outputs i d h in omega arith

    module _ (inputs leaves : ℕ) (begun : List ℕ) (has : HasLeaves m inputs leaves begun) (net : GateList) (table : List ℕ) (gates : (x : Model) → IsMain F x → HasGates F L x net table) (is_list : IsGateList net)
        (rows : List ReadRow) (rows_are : map latch_row rows ≡ filter_map (row_for table) rm.statements.items) (outs : List NetId) (outs_are : map net_number outs ≡ map (λ (p : ReadPort). get_or table p.name.0 0) rm.outputs.items) where
      pub machine_made : IsMachine (machine_of net inputs rows outs)
      machine_made =
          machine_is F L m ready.sound main net table (gates m main) inputs (map latch_row rows) (map net_number outs) is_list has.inputs_are
          (rows_store rm ids table distinct (map latch_row rows) rows_are) (rows_begin rm ids table distinct (map latch_row rows) rows_are) (sym (outs_are ∙ outputs_are rm ids table distinct))

      pub numbered_made : (x : Model) → IsMain F x → (owners : List ℕ) × ((nets : Nets) × IsNumbered F L x (machine_of net inputs rows outs) owners nets)
      numbered_made x e =
          let made = is_numbered F L m ready.sound main net table (gates m main) inputs (map latch_row rows) (map net_number outs) is_list has.inputs_are
          (rows_store rm ids table distinct (map latch_row rows) rows_are) (rows_begin rm ids table distinct (map latch_row rows) rows_are) (sym (outs_are ∙ outputs_are rm ids table distinct)) in
          subst (λ (y : Model). (owners : List ℕ) × ((nets : Nets) × IsNumbered F L y (machine_of net inputs rows outs) owners nets)) (same_main x e) ((gates m main).owners, (net_in rm.names table, made))
