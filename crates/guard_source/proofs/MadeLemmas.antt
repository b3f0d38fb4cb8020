-- What the builder and the naming of a guard ask of an elaborated source whose words are settled, and what they make of it.
use Rattle.std.proofs.Common.{◌≡◌, refl, sym, subst, ℕ, ◌≤◌, List, length, arith}
use Rattle.netlist_spec.specs.GateRanges.{Region}
use Rattle.netlist_spec.specs.Netlist.{File, Model, Name}
use Rattle.netlist_spec.specs.Models.{latch_outputs}
use Rattle.netlist_spec.specs.Elaborated.{Elaborated, IsElaborated}
use Rattle.netlist_spec.specs.Gates.{Machine}
use Rattle.netlist_spec.specs.Written.{IsNamed, Named}
use Rattle.guard_spec.specs.Codes.{Code, IsCode, IsDistance, Mode, data_places, needed_distance, rail_count}
use Rattle.guard_spec.specs.Plain.{IsMachineSizeWith}
use Rattle.guard_spec.specs.Regions.{Guarded}
use Rattle.guard_spec.specs.Words.{IsLayoutOver, IsPartition, Layout, Settings}
use Rattle.guard_laws.specs.Named.{IsGuardNamed}
use Rattle.guard_laws.specs.Promised.{IsGuardOf}
use Rattle.guard_names.specs.ToName.{IsToName, guarded_of}
use Rattle.guard_names.specs.declared.named.GuardNets.{GuardNets}
use Rattle.linear_layer.specs.declared.layer.NamedLinear.{NamedLinear}
use Rattle.sbox_table.specs.declared.table.NamedTable.{NamedTable}
use Rattle.source_nets.specs.Survey.{library_of}
use Rattle.guard_source.specs.Made.{IsGuardMade}
use Rattle.guard_source.specs.Settled.{IsSettled}

-- the library of the tables and layers that were read
pub elaborated_by : (file : File) (tables same : List NamedTable) (linears alike : List NamedLinear) (m : Model) (e : Elaborated) → tables ≡ same → linears ≡ alike → IsElaborated file (library_of tables linears) m e → IsElaborated file (library_of same alike) m e
elaborated_by file tables same linears alike m e a b is =
    subst (λ (ls : List NamedLinear). IsElaborated file (library_of same ls) m e) b (subst (λ (ts : List NamedTable). IsElaborated file (library_of ts linears) m e) a is)

-- the nets that the builder gives, as the naming takes them
pub guard_seen : (g : GuardNets) (regions : List Region) (opened e : Elaborated) (code : Code) (mode : Mode) (radius rails : ℕ) (l : Layout) → opened ≡ e
    → IsGuardOf (guarded_of g opened.machine.inputs regions) opened.machine code mode radius rails l → IsGuardOf (guarded_of g e.machine.inputs regions) e.machine code mode radius rails l
guard_seen g regions opened e code mode radius rails l same is = subst (λ (x : Elaborated). IsGuardOf (guarded_of g x.machine.inputs regions) x.machine code mode radius rails l) same is

pub to_name : (g : GuardNets) (regions : List Region) (e : Elaborated) (code : Code) (mode : Mode) (radius rails : ℕ) (l : Layout) → IsGuardOf (guarded_of g e.machine.inputs regions) e.machine code mode radius rails l → IsToName g e code l
to_name g regions e code mode radius rails l is = record {
  regions = regions;
  mode = mode;
  radius = radius;
  guard = subst (λ (n : ℕ). IsGuardOf (guarded_of g e.machine.inputs regions) e.machine code mode radius n l) (sym is.rail_number) is;
}

module _ (file : File) (s : Settings) (l : Layout) (settled : IsSettled file s l) (e : Elaborated) (elaborated : IsElaborated file s.library settled.m e) where
  pub over : IsLayoutOver e.latch_names e.output_names s l
  over =
      subst (λ (ns : List Name). IsLayoutOver ns e.output_names s l) (sym elaborated.latch_names)
      (subst (λ (ns : List Name). IsLayoutOver (latch_outputs settled.m) ns s l) (sym elaborated.output_names) settled.laid_out.is_layout)

  pub state_names : IsPartition (length e.latch_names) (data_places s.code) l.state
  state_names = subst (λ (ns : List Name). IsPartition (length ns) (data_places s.code) l.state) (sym elaborated.latch_names) settled.state

  pub output_names : IsPartition (length e.output_names) (data_places s.code) l.output
  output_names = subst (λ (ns : List Name). IsPartition (length ns) (data_places s.code) l.output) (sym elaborated.output_names) settled.output

  pub state : IsPartition (length e.machine.latches) (data_places s.code) l.state
  state = subst (λ (n : ℕ). IsPartition n (data_places s.code) l.state) elaborated.form.latches state_names

  pub output : IsPartition (length e.machine.outputs) (data_places s.code) l.output
  output = subst (λ (n : ℕ). IsPartition n (data_places s.code) l.output) elaborated.form.outputs output_names

  pub few_inputs : e.machine.inputs ≤ 4096
  few_inputs =
      let count = elaborated.form.inputs in
      let few = elaborated.form.few_inputs.0 in
      omega arith

  pub few_gates : length e.machine.net.gates ≤ 1000000
  few_gates = elaborated.form.few_gates

  -- the guard, with the machine that the naming gives back
  pub made : IsCode s.code → (d : ℕ) → IsDistance s.code d → needed_distance s.mode s.bound ≤ d → (gates : ℕ) → IsMachineSizeWith e.machine s.code s.mode s.bound (rail_count s.mode s.bound) l gates
      → (g : Guarded) → IsGuardOf g e.machine s.code s.mode s.bound (rail_count s.mode s.bound) l → (n : Named) → IsNamed n → IsGuardNamed n g e s.code l → (machine : Machine) → machine ≡ e.machine → IsGuardMade file s n machine l
  made is_code d is_distance wide gates is_gates g guard n named is_named machine same = record {
    from = record {
      m = settled.m;
      is_main = settled.laid_out.taken.main;
      e = e;
      elaborated = elaborated;
      is_code = is_code;
      d = d;
      is_distance = is_distance;
      wide = wide;
      l = l;
      is_layout = settled.laid_out.is_layout;
      size = settled.n;
      is_size = settled.is_plain;
      gates = gates;
      is_gates = is_gates;
      g = g;
      guard = guard;
      named = named;
      is_named = is_named;
    };
    machine_is = sym same;
    layout_is = refl;
    no_fault = settled.laid_out.no_fault;
    words = subst (λ (x : Machine). IsPartition (length x.outputs) (data_places s.code) l.output) (sym same) output;
  }
