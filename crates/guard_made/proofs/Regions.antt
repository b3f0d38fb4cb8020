-- The regions of a made guard stand in a row, and each reads and answers alone, as its bit or as a rail.
use Rattle.std.proofs.Common.{◌≡◌, sym, ◌∙◌, ap, subst, ℕ, suc, ◌<◌, ◌≤◌, ◌⊎◌, ◌↔◌, inl, inr, Bool, List, ◌++◌, arith, Contains}
use Rattle.std.specs.List.{AllByRecursion}
use Rattle.std.proofs.lemmas.List.Elements.{Contains-append_cases}
use Rattle.netlist_spec.specs.GateRanges.{Region}
use Rattle.netlist_spec.specs.Gates.{GateList, Machine}
use Rattle.netlist_spec.proofs.OneValue.{All_append}
use Rattle.guard_spec.specs.Codes.{Code}
use Rattle.guard_spec.specs.Regions.{IsBitNet, IsRailBit}
use Rattle.guard_spec.specs.Words.{Layout}
use Rattle.gate_net.specs.GateNet.{net_count}
use Rattle.cone_split.specs.Ranges.{KeepsGates}
use Rattle.cone_split.proofs.Cells.{all_contains}
use Rattle.guard_laws.specs.Rows.{AreInRow, IsRailRange, IsRangeOf}
use Rattle.guard_cells.specs.Cells.{AreCells, end_from, ranges_from}
use Rattle.guard_made.specs.Made.{OutputNets, guarded, rail_cells_of, word_cells}
use Rattle.guard_made.proofs.Cells.{between, end_join, in_row, of_range_bits, of_ranges, ranges_join, weaker, within}
use Rattle.guard_made.proofs.Kept.{range_kept}
use Rattle.guard_made.proofs.Own.{all_cells, all_own, is_rail, no_rail, rails_from, words, words_below}
use Rattle.guard_made.proofs.Order.{IsBelow, IsFrom}

module _ (g : Machine) (o : OutputNets) (outputs : g.outputs ≡ o.shown ++ o.checks ++ o.rails) (front : GateList) (source : Machine) (code : Code) (l : Layout) (leaf watched : List ℕ) (Bad : (ℕ → Bool) → Type 0) (kept : KeepsGates front g.net)
    (words_are : AreCells (λ net r. IsRangeOf net leaf source code l r) g.net.leaves (word_cells g o) front) (rails_are : AreCells (λ net r. IsRailRange net watched Bad r) (net_count front) (rail_cells_of o) g.net) where
  abbrev word_ranges : List Region
  word_ranges = ranges_from g.net.leaves (word_cells g o)

  abbrev rail_ranges : List Region
  rail_ranges = ranges_from (net_count front) (rail_cells_of o)

  abbrev HasGates : Region → Type 0
  HasGates r = r.first < r.end

  parts : (guarded g o).regions ≡ word_ranges ++ rail_ranges
  parts = ranges_join g.net.leaves (word_cells g o) (rail_cells_of o) ∙ ap (λ (n : ℕ). word_ranges ++ ranges_from n (rail_cells_of o)) words_are.end

  words_some : AllByRecursion HasGates word_ranges
  words_some = weaker (λ r. (r.first < r.end) × IsRangeOf front leaf source code l r) HasGates (λ r h. h.0) word_ranges words_are.ranges

  all_some : AllByRecursion HasGates (guarded g o).regions
  all_some =
      subst (λ (rs : List Region). AllByRecursion HasGates rs) (sym parts)
      (All_append HasGates word_ranges rail_ranges words_some
      (weaker (λ r. (r.first < r.end) × IsRailRange g.net watched Bad r) HasGates (λ r h. h.0) rail_ranges rails_are.ranges))

  all_end : end_from g.net.leaves (all_cells g o outputs) ≡ net_count g.net
  all_end = end_join g.net.leaves (word_cells g o) (rail_cells_of o) ∙ ap (λ (n : ℕ). end_from n (rail_cells_of o)) words_are.end ∙ rails_are.end

  pub row : AreInRow g.net.leaves (guarded g o).regions (net_count g.net)
  row = subst (λ (n : ℕ). AreInRow g.net.leaves (guarded g o).regions n) all_end (in_row g.net.leaves (all_cells g o outputs) all_some)

  pub gates : AllByRecursion (λ c. (g.net.leaves ≤ c.1) × (c.1 < net_count g.net)) (all_cells g o outputs)
  gates =
      subst (λ (n : ℕ). AllByRecursion (λ c. (g.net.leaves ≤ c.1) × (c.1 < n)) (all_cells g o outputs)) all_end
      (between g.net.leaves (all_cells g o outputs) all_some).1

  pub own : (r : Region) (n : ℕ) → Contains (guarded g o).regions r → r.end ≡ suc n → IsBitNet (guarded g o) r.bit n
  own r n has e =
      all_contains (λ (r : Region). (n : ℕ) → r.end ≡ suc n → IsBitNet (guarded g o) r.bit n) (guarded g o).regions r
      (of_ranges (IsBitNet (guarded g o)) g.net.leaves (all_cells g o outputs) (all_own g o outputs)) has n e

  in_part : (r : Region) → Contains (guarded g o).regions r → Contains word_ranges r ⊎ Contains rail_ranges r
  in_part r has = Contains-append_cases word_ranges rail_ranges r (subst (λ (rs : List Region). Contains rs r) parts has)

  word_bit : (r : Region) → Contains word_ranges r → IsRailBit (guarded g o) r.bit → ⊥
  word_bit r has = no_rail g o outputs r.bit (all_contains (λ (r : Region). IsBelow (words g o outputs) r.bit) word_ranges r (of_range_bits (IsBelow (words g o outputs)) g.net.leaves (word_cells g o) (words_below g o outputs)) has)

  rail_bit : (r : Region) → Contains rail_ranges r → IsRailBit (guarded g o) r.bit
  rail_bit r has = is_rail g o outputs r.bit (all_contains (λ (r : Region). IsFrom (words g o outputs) r.bit) rail_ranges r (of_range_bits (IsFrom (words g o outputs)) (net_count front) (rail_cells_of o) (rails_from g o outputs)) has)

  pub ranges : (r : Region) → Contains (guarded g o).regions r → (IsRailBit (guarded g o) r.bit → ⊥) → IsRangeOf g.net leaf source code l r
  ranges r has plain = by_part (in_part r has)
    where
      by_part : Contains word_ranges r ⊎ Contains rail_ranges r → IsRangeOf g.net leaf source code l r
      by_part (inl h) =
          let high = all_contains (λ (r : Region). r.end ≤ end_from g.net.leaves (word_cells g o)) word_ranges r (within g.net.leaves (word_cells g o) words_some) h in
          let end = words_are.end in
          range_kept source code l leaf r front g.net kept (omega arith) (all_contains (λ (r : Region). (r.first < r.end) × IsRangeOf front leaf source code l r) word_ranges r words_are.ranges h).1
      by_part (inr h) = absurd (plain (rail_bit r h))

  pub rails : (r : Region) → Contains (guarded g o).regions r → IsRailBit (guarded g o) r.bit → IsRailRange g.net watched Bad r
  rails r has rail = by_part (in_part r has)
    where
      by_part : Contains word_ranges r ⊎ Contains rail_ranges r → IsRailRange g.net watched Bad r
      by_part (inl h) = absurd (word_bit r h rail)
      by_part (inr h) = (all_contains (λ (r : Region). (r.first < r.end) × IsRailRange g.net watched Bad r) rail_ranges r rails_are.ranges h).1

-- A rail tells the same of what has the same values.
pub rail_of : (net : GateList) (watched : List ℕ) (Bad Other : (ℕ → Bool) → Type 0) → ((v : ℕ → Bool) → Bad v ↔ Other v) → (r : Region) → IsRailRange net watched Bad r → IsRailRange net watched Other r
rail_of net watched Bad Other same r is = record {
  reads = is.reads;
  leads = is.leads;
  value = λ last v e answers. let told = is.value last v e answers in let both = same v in (λ h. both.0 (told.0 h), λ h. told.1 (both.1 h));
}
