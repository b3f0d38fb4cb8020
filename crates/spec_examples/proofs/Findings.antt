-- Small cells of which something is found.
use Rattle.std.proofs.Common.{◌≡◌, refl, sym, ◌∙◌, subst, [], ◌∷◌, codes, true, false, arith, lit<}
use Rattle.netlist_spec.specs.Netlist.{Name, names}
use Rattle.netlist_spec.specs.CellBits.{Bit, latch_bit, output_bit, IsBitOf, is_rail_name, IsRail, IsFinding, wide, unused, reads_output}
use Rattle.spec_examples.specs.Examples.{wide_model, unused_model, reading_model, both_cover, buffer_cover, inverter_cover}
use Rattle.spec_examples.proofs.IndependentByTest.{only_bit, one_bit, independent_cell}

pub wide_is_found : IsFinding wide_model (wide (codes "y"))
wide_is_found = record { before = []; cell = names (codes "a" ∷ codes "b" ∷ codes "c" ∷ []) (codes "y") both_cover; after = []; split = refl; found = (refl, lit< tt); none_before = tt }

-- every bit of the cell would be two different ones
no_bit : (b : Bit) → IsBitOf unused_model (names (codes "a" ∷ []) (codes "z") buffer_cover) b → ⊥
no_bit b h =
    let e = only_bit unused_model (names (codes "a" ∷ []) (codes "z") buffer_cover) (latch_bit 0) refl b h in
    let f = only_bit unused_model (names (codes "a" ∷ []) (codes "z") buffer_cover) (latch_bit 1) refl b h in
    let both : latch_bit 0 ≡ latch_bit 1 = sym e ∙ f in
    cc both

pub unused_is_found : IsFinding unused_model (unused (codes "z"))
unused_is_found = record { before = []; cell = names (codes "a" ∷ []) (codes "z") buffer_cover; after = names (codes "a" ∷ []) (codes "y") buffer_cover ∷ []; split = refl; found = (refl, (λ h. absurd (omega arith)), no_bit); none_before = tt }

no_rail : IsRail reading_model (output_bit 1) → ⊥
no_rail (n, at, rail) = let same : codes "z" ≡ n = cc at in let up : false ≡ true = subst (λ (k : Name). is_rail_name k ≡ true) (sym same) rail in cc up

pub output_read_is_found : IsFinding reading_model (reads_output (codes "y") (codes "z"))
output_read_is_found = record {
  before = names (codes "a" ∷ []) (codes "y") buffer_cover ∷ [];
  cell = names (codes "y" ∷ []) (codes "z") inverter_cover;
  after = [];
  split = refl;
  found = (refl, (λ h. absurd (omega arith)), refl, output_bit 1, one_bit reading_model (names (codes "y" ∷ []) (codes "z") inverter_cover) (output_bit 1) refl, no_rail);
  none_before = (independent_cell reading_model (names (codes "a" ∷ []) (codes "y") buffer_cover) (output_bit 0) refl, tt);
}
