-- One cycle of small sources, with their S-boxes, linear layers and placed models.
use Rattle.std.proofs.Common.{refl, [], ◌∷◌, codes, Bool, true, false, ◌||◌}
use Rattle.std.specs.Fmt.{digits}
use Rattle.netlist_spec.specs.Netlist.{Name, same_name}
use Rattle.netlist_spec.specs.Covers.{empty_library}
use Rattle.netlist_spec.specs.Fits.{fits, none, fits_names, fits_table, fits_linear, fits_model}
use Rattle.netlist_spec.specs.SourceRun.{SourceCycle}
use Rattle.spec_examples.specs.Examples.{cipher_library, box_model, box_file, layer_model, layer_file, gated_model, copies_model, copies_file}

abbrev box_values : Name → Bool
box_values n = same_name n (codes "y2") || same_name n (codes "y3")

pub box_cycle : SourceCycle box_file cipher_library box_model (false ∷ false ∷ false ∷ false ∷ []) [] (false ∷ false ∷ true ∷ true ∷ []) []
unfolding digits
box_cycle =
    record {
      values = box_values;
      fits = fits (fits_table (record { ins = 4; outs = 4; rows = 12 ∷ 5 ∷ 6 ∷ 11 ∷ 9 ∷ 0 ∷ 10 ∷ 13 ∷ 3 ∷ 14 ∷ 15 ∷ 8 ∷ 4 ∷ 7 ∷ 1 ∷ 2 ∷ [] }) refl (refl, (refl, (refl, (refl, tt)))) none);
      inputs = refl;
      state = refl;
      clocks = tt;
      outputs = refl;
      stores = refl;
    }

abbrev layer_values : Name → Bool
layer_values n = same_name n (codes "a") || same_name n (codes "b") || same_name n (codes "z")

pub layer_cycle : SourceCycle layer_file cipher_library layer_model (true ∷ true ∷ false ∷ []) [] (false ∷ true ∷ []) []
unfolding digits
layer_cycle =
    record {
      values = layer_values;
      fits = fits (fits_linear (record { rows = 3 ∷ 6 ∷ []; width = 3 }) refl (refl, (refl, tt)) none);
      inputs = refl;
      state = refl;
      clocks = tt;
      outputs = refl;
      stores = refl;
    }

-- in the first copy d and q are 1, in the second k alone
abbrev first_copy : Name → Bool
first_copy n = same_name n (codes "d") || same_name n (codes "q")

abbrev second_copy : Name → Bool
second_copy n = same_name n (codes "k")

abbrev copies_values : Name → Bool
copies_values n = same_name n (codes "a") || same_name n (codes "y")

pub copies_cycle : SourceCycle copies_file empty_library copies_model (true ∷ false ∷ []) [] (true ∷ false ∷ []) []
copies_cycle =
    record {
      values = copies_values;
      fits = fits (
          fits_model gated_model first_copy refl (fits (fits_names refl none)) (refl, (refl, (refl, tt)))
          (fits_model gated_model second_copy refl (fits (fits_names refl none)) (refl, (refl, (refl, tt))) none)
          );
      inputs = refl;
      state = refl;
      clocks = tt;
      outputs = refl;
      stores = refl;
    }
