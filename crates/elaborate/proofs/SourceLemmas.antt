-- A machine with the names of a model that was read.
use Rattle.std.proofs.Common.{◌≡◌, refl, sym, ◌∙◌, ap, ap₂, subst, ◌≤◌, List, map, filter_map, All, arith}
use Rattle.std.specs.Prelude.{count_by}
use Rattle.netlist_spec.specs.Netlist.{Name, Model}
use Rattle.netlist_spec.specs.Placed.{port_names}
use Rattle.netlist_spec.specs.Models.{latches_of, first_clocking, unknown_inits, data_inputs, latch_outputs, output_nets}
use Rattle.netlist_spec.specs.Gates.{Machine}
use Rattle.netlist_spec.specs.Elaborated.{Elaborated, HasElaboratedForm}
use Rattle.source_laws.specs.Numbered.{HasNamesOf}
use Rattle.imp_text.specs.declared.names.NameId.{NameId}
use Rattle.blif_read.specs.declared.file.Model.{Model as ReadModel}
use Rattle.blif_read.specs.declared.file.Port.{Port as ReadPort}
use Rattle.blif_read.specs.declared.file.Located.{Located as ReadLocated}
use Rattle.blif_read.specs.declared.file.Clocking.{Clocking as ReadClocking}
use Rattle.blif_read.specs.Ids.{IsIdOf, HasIds, control_ids}
use Rattle.blif_read.specs.View.{name_at, clocking_of, model_of}
use Rattle.elaborated.specs.declared.elaborated.Elaborated.TheInside.{Inside}
use Rattle.elaborated.specs.Elaborated.{elaborated_of, IsWellElaborated}
use Rattle.elaborate.specs.Numbers.{shown_id, has_unknown_init}
use Rattle.elaborate.specs.Named.{CanBeNamed}
use Rattle.elaborate.proofs.NameLemmas.{port_names_are, shown_are, shown_ids, port_ids_within, unknown_are, few_unknown}

-- the machine with the names of the model
abbrev named_as : Model → Machine → Elaborated
named_as m machine =
    record {
      machine = machine;
      model = m.name;
      input_ports = port_names m.inputs;
      clock_ports = port_names m.clocks;
      data_names = data_inputs m;
      output_names = output_nets m;
      latch_names = latch_outputs m;
      clocking = first_clocking (latches_of m);
      unknown_inits = unknown_inits m;
    }

its_names : (m : Model) (machine : Machine) → HasNamesOf m (named_as m machine)
its_names m machine =
    record {
      model = refl;
      input_ports = refl;
      clock_ports = refl;
      data_names = refl;
      output_names = refl;
      latch_names = refl;
      clocking = refl;
      unknown_inits = refl;
    }

-- A machine that can be named has few latches.
pub few_inits : (m : ReadModel) (machine : Machine) → CanBeNamed (model_of m) machine → count_by (λ (s : ReadLocated). has_unknown_init s.what) m.statements.items ≤ 4096
few_inits m machine can =
    let form = can (named_as (model_of m) machine) (its_names (model_of m) machine) refl in
    let few = form.few_latches in
    let a = few_unknown (model_of m) in
    let b = unknown_are m.names m.statements.items in
    omega arith

-- the names and numbers of a model
pub record HasNumbersOf (m : ReadModel) (e : Inside) : Type 0 where
  pub model : e.model ≡ m.name
  pub names : e.names ≡ m.names
  pub input_ports : e.input_ports.items ≡ map (λ (p : ReadPort). p.name) m.inputs.items
  pub clock_ports : e.clock_ports.items ≡ map (λ (p : ReadPort). p.name) m.clocks.items
  pub data_names : map (name_at m.names) e.data_names.items ≡ data_inputs (model_of m)
  pub data_ids : All (IsIdOf m.names) e.data_names.items
  pub output_names : e.output_names.items ≡ map (λ (p : ReadPort). p.name) m.outputs.items
  pub latch_names : e.latch_names.items ≡ filter_map shown_id m.statements.items
  pub clocking : clocking_of m.names e.clocking ≡ first_clocking (latches_of (model_of m))
  pub control : All (IsIdOf m.names) (control_ids e.clocking)
  pub unknown_inits : e.unknown_inits ≡ count_by (λ (s : ReadLocated). has_unknown_init s.what) m.statements.items

module _ (m : ReadModel) (ids : HasIds m) (e : Inside) (has : HasNumbersOf m e) where
  named : (xs ys : List NameId) → xs ≡ ys → map (name_at e.names) xs ≡ map (name_at m.names) ys
  named xs ys is = ap₂ (λ (ns : List Name) (l : List NameId). map (name_at ns) l) has.names is

  own : (xs : List NameId) → All (IsIdOf m.names) xs → All (IsIdOf e.names) xs
  own xs a = subst (λ (ns : List Name). All (IsIdOf ns) xs) (sym has.names) a

  within : (xs ys : List NameId) → xs ≡ ys → All (IsIdOf m.names) ys → All (IsIdOf e.names) xs
  within xs ys is a = own xs (subst (λ (l : List NameId). All (IsIdOf m.names) l) (sym is) a)

  pub has_names : HasNamesOf (model_of m) (elaborated_of e)
  has_names =
      record {
        model = has.model;
        input_ports = named e.input_ports.items (map (λ (p : ReadPort). p.name) m.inputs.items) has.input_ports ∙ port_names_are m.names m.inputs.items;
        clock_ports = named e.clock_ports.items (map (λ (p : ReadPort). p.name) m.clocks.items) has.clock_ports ∙ port_names_are m.names m.clocks.items;
        data_names = named e.data_names.items e.data_names.items refl ∙ has.data_names;
        output_names = named e.output_names.items (map (λ (p : ReadPort). p.name) m.outputs.items) has.output_names ∙ port_names_are m.names m.outputs.items;
        latch_names = named e.latch_names.items (filter_map shown_id m.statements.items) has.latch_names ∙ shown_are m.names m.statements.items;
        clocking = ap (λ (ns : List Name). clocking_of ns e.clocking) has.names ∙ has.clocking;
        unknown_inits = has.unknown_inits ∙ unknown_are m.names m.statements.items;
      }

  pub well : CanBeNamed (model_of m) e.machine → IsWellElaborated e
  well can =
      record {
        input_ports = within e.input_ports.items (map (λ (p : ReadPort). p.name) m.inputs.items) has.input_ports (port_ids_within m.names m.inputs.items ids.inputs);
        clock_ports = within e.clock_ports.items (map (λ (p : ReadPort). p.name) m.clocks.items) has.clock_ports (port_ids_within m.names m.clocks.items ids.clocks);
        data_names = own e.data_names.items has.data_ids;
        output_names = within e.output_names.items (map (λ (p : ReadPort). p.name) m.outputs.items) has.output_names (port_ids_within m.names m.outputs.items ids.outputs);
        latch_names = within e.latch_names.items (filter_map shown_id m.statements.items) has.latch_names (shown_ids m.names m.statements.items ids.statements);
        control = own (control_ids e.clocking) has.control;
        form = can (elaborated_of e) has_names refl;
      }
