-- A guard's text, with all that comes to it: the source and its settings, what it is elaborated to, words, gates and names.
use Rattle.std.specs.Prelude.{◌≡◌, ℕ, ◌≤◌, Some}
use Rattle.netlist_spec.specs.Netlist.{Model, File}
use Rattle.netlist_spec.specs.Models.{main_model}
use Rattle.guard_spec.specs.Codes.{IsCode, IsDistance, needed_distance, rail_count}
use Rattle.guard_spec.specs.Words.{Settings, Layout, IsLayout}
use Rattle.guard_spec.specs.Plain.{IsMachineSizeWith, IsSizeWith}
use Rattle.netlist_spec.specs.Elaborated.{Elaborated, IsElaborated}
use Rattle.guard_spec.specs.Regions.{Guarded}
use Rattle.netlist_spec.specs.Written.{Named, IsNamed}
use Rattle.guard_laws.specs.Promised.{IsGuardOf}
use Rattle.guard_laws.specs.Named.{IsGuardNamed}

-- The gate list n with names was built for the source by these settings, with state words read within a radius.
pub record IsGuardFrom (source : File) (s : Settings) (radius : ℕ) (n : Named) : Type 0 where
  -- from `elaborate`
  pub m : Model
  pub is_main : main_model source ≡ Some m
  pub e : Elaborated
  pub elaborated : IsElaborated source s.library m e
  -- from `settings::read` and `strength`
  pub is_code : IsCode s.code
  pub d : ℕ
  pub is_distance : IsDistance s.code d
  pub wide : needed_distance s.mode radius ≤ d
  -- from `layout`
  pub l : Layout
  pub is_layout : IsLayout m s l
  -- from `plain_size`, and that a machine has a plain size
  pub size : ℕ
  pub is_size : IsSizeWith source s.library m s.code s.mode radius (rail_count s.mode s.bound) l size
  pub gates : ℕ
  pub is_gates : IsMachineSizeWith e.machine s.code s.mode radius (rail_count s.mode s.bound) l gates
  -- from `build`
  pub g : Guarded
  pub guard : IsGuardOf g e.machine s.code s.mode radius (rail_count s.mode s.bound) l
  -- from `name`
  pub named : IsNamed n
  pub is_named : IsGuardNamed n g e s.code l
