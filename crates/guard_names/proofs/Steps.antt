-- What the steps to a guard promise is all that the text of a guard asks.
use Rattle.std.proofs.Common.{◌≡◌, subst, ℕ, ◌≤◌, List, length, Some, arith}
use Rattle.netlist_spec.specs.Netlist.{Name, Model, File}
use Rattle.netlist_spec.specs.Models.{main_model, output_nets}
use Rattle.netlist_spec.specs.Elaborated.{Elaborated, IsElaborated}
use Rattle.netlist_spec.specs.Written.{Named, IsNamed}
use Rattle.guard_spec.specs.Codes.{IsCode, IsDistance, data_places, needed_distance, rail_count}
use Rattle.guard_spec.specs.Plain.{IsMachineSizeWith, IsSizeWith}
use Rattle.guard_spec.specs.Regions.{Guarded}
use Rattle.guard_spec.specs.Words.{Settings, Layout, IsLayout, IsLayoutOver, IsPartition}
use Rattle.size_laws.specs.Sizes.{HoldsOfOne}
use Rattle.size_laws.proofs.GateCones.{one_machine_size}
use Rattle.size_laws.proofs.SourceCones.{layout_fits_machine}
use Rattle.guard_laws.specs.Named.{IsGuardNamed}
use Rattle.guard_laws.specs.Promised.{IsGuardOf, cell_count}
use Rattle.guard_laws.specs.Texts.{IsGuardFrom}
use Rattle.guard_laws.proofs.Sizes.{size_no_more}

module _ (source : File) (s : Settings) (radius size : ℕ) (m : Model) (e : Elaborated) (l : Layout) (elaborated : IsElaborated source s.library m e) (over : IsLayoutOver e.latch_names e.output_names s l)
    (is_size : IsSizeWith source s.library m s.code s.mode radius (rail_count s.mode s.bound) l size) where
  laid_out : IsLayout m s l
  laid_out =
      subst (λ (ns : List Name). IsLayoutOver ns (output_nets m) s l) elaborated.latch_names
      (subst (λ (ns : List Name). IsLayoutOver e.latch_names ns s l) elaborated.output_names over)

  machine_size : HoldsOfOne (IsMachineSizeWith e.machine s.code s.mode radius (rail_count s.mode s.bound) l)
  machine_size = one_machine_size e.machine s.code s.mode radius (rail_count s.mode s.bound) l (layout_fits_machine source s.library m e.machine s l elaborated.machine laid_out)

  pub few_cells : (g : Guarded) → IsPartition (length e.latch_names) (data_places s.code) l.state → IsGuardOf g e.machine s.code s.mode radius (rail_count s.mode s.bound) l → cell_count g ≤ size
  few_cells g partition guard =
      let a = guard.size machine_size.0 machine_size.1.holds in
      let words = subst (λ (n : ℕ). IsPartition n (data_places s.code) l.state) elaborated.form.latches partition in
      let b = size_no_more source s.library m e.machine elaborated.machine s.code s.mode radius (rail_count s.mode s.bound) (data_places s.code) l words machine_size.0 size machine_size.1.holds is_size in
      omega arith

  pub from_steps : (d : ℕ) (g : Guarded) (n : Named) → main_model source ≡ Some m → IsCode s.code → IsDistance s.code d → needed_distance s.mode radius ≤ d
      → IsGuardOf g e.machine s.code s.mode radius (rail_count s.mode s.bound) l → IsNamed n → IsGuardNamed n g e s.code l → IsGuardFrom source s radius n
  from_steps d g n main is_code is_distance wide guard named is_named = record {
    m = m;
    is_main = main;
    e = e;
    elaborated = elaborated;
    is_code = is_code;
    d = d;
    is_distance = is_distance;
    wide = wide;
    l = l;
    is_layout = laid_out;
    size = size;
    is_size = is_size;
    gates = machine_size.0;
    is_gates = machine_size.1.holds;
    g = g;
    guard = guard;
    named = named;
    is_named = is_named;
  }
