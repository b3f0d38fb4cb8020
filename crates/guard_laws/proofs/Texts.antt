-- The text of a guard whose nets are named is the text of a gate list that was built for the source.
use Rattle.std.proofs.Common.{◌≡◌, refl, sym, ◌∙◌, ap, subst, ℕ, ◌+◌, ◌≤◌, List, length, Some, Ok, arith}
use Rattle.netlist_spec.specs.Netlist.{Model, File}
use Rattle.netlist_spec.specs.Models.{main_model, output_nets}
use Rattle.guard_spec.specs.Codes.{IsCode, IsDistance, data_places, needed_distance, rail_count}
use Rattle.guard_spec.specs.Words.{Settings, Layout, IsLayout}
use Rattle.guard_spec.specs.Plain.{IsMachineSizeWith, IsSizeWith}
use Rattle.netlist_spec.specs.Elaborated.{Elaborated, IsElaborated}
use Rattle.netlist_spec.specs.Gates.{Machine}
use Rattle.guard_spec.specs.Shaped.{HasShape, IsShapedWithin}
use Rattle.guard_spec.specs.Rails.{IsNoCodeword, RailsTellIn}
use Rattle.guard_spec.specs.Regions.{Guarded}
use Rattle.netlist_spec.specs.Written.{Named, IsNamed, file_of}
use Rattle.named_netlist.proofs.WrittenModel.{written_model}
use Rattle.named_netlist.proofs.NamedOrder.{files-ordered}
use Rattle.containment.specs.Built.{IsCoded}
use Rattle.containment.specs.Written.{IsWritten, IsBuiltText, net_of, IsNamedGuard}
use Rattle.containment.proofs.Layouts.{coded_by_layout}
use Rattle.containment.proofs.WrittenRuns.{written_runs}
use Rattle.containment.proofs.IndependentTexts.{independent_text}
use Rattle.guard_laws.specs.Promised.{cell_count, IsGuardOf}
use Rattle.guard_laws.specs.Named.{IsGuardNamed}
use Rattle.guard_laws.specs.Texts.{IsGuardFrom}
use Rattle.guard_text_spec.specs.GuardText.{IsGuardText}
use Rattle.netlist_spec.specs.Reads.{Reads}
use Rattle.netlist_spec.specs.Runs.{IsSteady}
use Rattle.guard_spec.specs.SettingsFile.{settings_of_bytes}
use Rattle.netlist_spec.specs.Text.{text_of}
use Rattle.named_netlist.proofs.NamedReads.{texts-are-read}
use Rattle.containment.proofs.TellingTexts.{telling_text}
use Rattle.containment.proofs.Guards.{shaped_guard}
use Rattle.guard_laws.proofs.Kept.{built, telling}
use Rattle.guard_laws.proofs.Sizes.{size_no_more}
use Rattle.guard_laws.proofs.Shapes.{cells_counted, well_named, shape, rails_named}

-- what the rails of a text of this shape tell
abbrev TellsIn : (text source : File) (s : Settings) (radius : ℕ) → IsShapedWithin text source s radius → Type 0
TellsIn text source s radius shaped =
    RailsTellIn shaped.guard_model s.code shaped.layout (length (output_nets shaped.source_model)) (rail_count s.mode s.bound) (IsNoCodeword s.code)

module _ (file : File) (s : Settings) (m : Model) (e : Elaborated) (g : Guarded) (n : Named) (l : Layout) (radius : ℕ) (main : main_model file ≡ Some m) (elaborated : IsElaborated file s.library m e) (is_layout : IsLayout m s l) (is_code : IsCode s.code)
    (guard : IsGuardOf g e.machine s.code s.mode radius (rail_count s.mode s.bound) l) (named : IsNamed n) (is : IsGuardNamed n g e s.code l) where
  pub named_guard : IsNamedGuard n g e.machine
  named_guard = record {
    names = well_named n named;
    same = is.machine;
    rail_names = rails_named n g e s.code l is;
    is_machine = guard.is_machine;
    covers = guard.covers;
    own_nets = guard.own_nets;
    separate = guard.separate;
  }

  module _ (d small large : ℕ) (is_distance : IsDistance s.code d) (wide : needed_distance s.mode radius ≤ d) (is_small : IsMachineSizeWith e.machine s.code s.mode radius (rail_count s.mode s.bound) l small)
      (is_large : IsSizeWith file s.library m s.code s.mode radius (rail_count s.mode s.bound) l large) where
    coded : IsCoded e.machine s.code d l
    coded = coded_by_layout file s.library m e.machine s l d elaborated.machine is_layout is_code is_distance

    few : cell_count g ≤ large
    few =
        let a = guard.size small is_small in
        let b = size_no_more file s.library m e.machine elaborated.machine s.code s.mode radius (rail_count s.mode s.bound) (data_places s.code) l coded.state_words small large is_small is_large in
        omega arith

    as_many : length n.latches + length n.net.gates ≡ cell_count g
    as_many = ap (λ (k : Machine). length k.latches + length k.net.gates) is.machine

    pub built_text : IsBuiltText (file_of n) file s radius
    built_text =
        let both = independent_text n (well_named n named) g.rails g.regions e.machine (rails_named n g e s.code l is) g.machine is.machine guard.is_machine guard.covers guard.own_nets guard.separate in
        record {
          ordered = files-ordered n named;
          independent = both.0;
          shaped = record {
            guard_model = written_model n;
            is_guard_model = refl;
            source_model = m;
            is_source_model = main;
            layout = l;
            is_layout = is_layout;
            shape = subst (λ (k : ℕ). HasShape (written_model n) m s.code l k) guard.rail_number (shape n named file s.library m e g s.code l is_code elaborated is guard.inits both.1);
            size = large;
            is_size = is_large;
            small = let a = cells_counted n named in let b = as_many in let c = few in omega arith;
          };
          is_code = is_code;
          d = d;
          is_distance = is_distance;
          wide = wide;
          machine = e.machine;
          g = g;
          stands = record {
            net = net_of n;
            is_main = main;
            means = elaborated.machine;
            written = subst (λ (k : Machine). IsWritten (file_of n) k (net_of n)) is.machine (written_runs n (well_named n named));
          };
          built = built g e.machine s.code s.mode radius (rail_count s.mode s.bound) l guard;
          rails = guard.rail_number;
          tells = telling g e.machine s.code s.mode radius (rail_count s.mode s.bound) l guard;
        }

    -- What its rails tell on gates they tell on the text.
    pub built_tells : TellsIn (file_of n) file s radius built_text.shaped
    unfolding built_text
    built_tells =
        subst (λ (p : ℕ). RailsTellIn (written_model n) s.code l p (rail_count s.mode s.bound) (IsNoCodeword s.code)) elaborated.machine.outputs
        (subst (λ (rails : ℕ). RailsTellIn (written_model n) s.code l (length e.machine.outputs) rails (IsNoCodeword s.code)) guard.rail_number
        (telling_text n g e.machine named_guard s.code l (length e.machine.outputs) (IsNoCodeword s.code) (telling g e.machine s.code s.mode radius (rail_count s.mode s.bound) l guard)))

module _ (source : File) (s : Settings) (radius : ℕ) (n : Named) (from : IsGuardFrom source s radius n) where
  pub text_is_built : IsBuiltText (file_of n) source s radius
  text_is_built = built_text source s from.m from.e from.g n from.l radius from.is_main from.elaborated from.is_layout from.is_code from.guard from.named from.is_named from.d from.gates from.size from.is_distance from.wide from.is_gates from.is_size

  pub text_tells : TellsIn (file_of n) source s radius text_is_built.shaped
  unfolding text_is_built
  text_tells = built_tells source s from.m from.e from.g n from.l radius from.is_main from.elaborated from.is_layout from.is_code from.guard from.named from.is_named from.d from.gates from.size from.is_distance from.wide from.is_gates from.is_size

pub guarding_text : (settings netlist : List ℕ) (source : File) (s : Settings) (n : Named) → settings_of_bytes settings ≡ Ok s → Reads netlist source → IsGuardFrom source s s.bound n → IsGuardText settings netlist (text_of n.unknown_inits (file_of n)) (λ t. IsSteady t)
guarding_text settings netlist source s n is_settings reads from =
    let (guard, same) = shaped_guard (file_of n) source s (text_is_built source s s.bound n from) in
    record {
      s = s;
      is_settings = is_settings;
      source = source;
      is_source = reads;
      g = file_of n;
      text_of_g = record {
        unknown = n.unknown_inits;
        has_unknown = (from.m, from.is_main, from.is_named.unknown_inits ∙ from.elaborated.unknown_inits);
        written = refl;
        reading = texts-are-read n from.named;
      };
      guards = guard;
      tells = subst (TellsIn (file_of n) source s s.bound) (sym same) (text_tells source s s.bound n from);
    }
