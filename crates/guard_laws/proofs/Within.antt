-- Ranges one behind the other cover the gates, are separate, and answer alone, in either mode.
use Rattle.std.proofs.Common.{◌≡◌, sym, ◌∙◌, ap, ap₂, subst, ℕ, suc, ◌+◌, ◌-◌, ◌*◌, ◌<◌, ◌≤◌, ◌⊎◌, ◌↔◌, inl, inr, Bool, List, [], ◌∷◌, ◌++◌, length, map, slice_get, Some, arith, Contains, IsTrue, length-append}
use Rattle.std.proofs.lemmas.Option.{same_Some}
use Rattle.std.proofs.lemmas.List.{length-map}
use Rattle.std.specs.List.{flat_map, range_with_len}
use Rattle.netlist_spec.specs.SourceRun.{Bits}
use Rattle.netlist_spec.specs.Gates.{Machine, GateStep, AnswersWithin, IsEvaluation, latch_nets, ReadsNet}
use Rattle.guard_spec.specs.Codes.{Code, Mode, detect, checks_of}
use Rattle.guard_spec.specs.Words.{Words, Layout, bits_at, codewords}
use Rattle.netlist_spec.specs.CellBits.{Bit, latch_bit, output_bit}
use Rattle.guard_spec.specs.Regions.{Guarded, IsBitNet, IsDataNet, IsRegion, CoversGates, IsRailBit, MayRead, AreSeparate, ReadDataAlone}
use Rattle.netlist_spec.specs.GateRanges.{Region, LiesIn, LeadsToEnd}
use Rattle.guard_spec.specs.Count.{StateWordsAre, IsNear, right_outputs}
use Rattle.gate_net.specs.GateNet.{net_count}
use Rattle.block_code.proofs.Coding.{length_checks}
use Rattle.containment.specs.RegionAnswers.{RegionsAnswer, RailsAnswerOf}
use Rattle.guard_laws.specs.Rows.{right_bit, IsRangeOf, IsMadeOfRanges}
use Rattle.gate_net.proofs.Steps.{step_evaluates}
use Rattle.guard_laws.specs.Within.{IsRangeWithin, IsMadeWithin}
use Rattle.guard_laws.proofs.Lists.{below_or, all_of, as_long}
use Rattle.std.proofs.lemmas.List.FromFn.{length-range_with_len}
use Rattle.guard_laws.proofs.Rows.{in_row, row_order, row_has}

module _ (g : Guarded) (source : Machine) (code : Code) (mode : Mode) (radius : ℕ) (l : Layout) (watched : List ℕ) (Bad : (ℕ → Bool) → Type 0) (is : IsMadeWithin g source code mode radius l watched Bad) where
  ends : (r : Region) → Contains g.regions r → (g.machine.net.leaves ≤ r.first) × (r.first < r.end) × (r.end ≤ net_count g.machine.net)
  ends r (k, inside, e) = subst (λ (x : Region). (g.machine.net.leaves ≤ x.first) × (x.first < x.end) × (x.end ≤ net_count g.machine.net)) e ((in_row g.machine.net.leaves g.regions (net_count g.machine.net) is.row).1 k r inside)

  last_of : (r : Region) → Contains g.regions r → (n : ℕ) × (r.end ≡ suc n)
  last_of r c = let (a, b, d) = ends r c in (r.end - 1, omega arith)

  pub covers : CoversGates g
  covers = record {
    regions = all_of (IsRegion g) g.regions (λ r c. let (a, b, d) = ends r c in let (n, e) = last_of r c in record { gates = a; some = b; last = n; is_last = e; own = is.own r n c e });
    apart = λ i j d less h. inl (row_order g.machine.net.leaves g.regions (net_count g.machine.net) is.row i j d less h);
    each = λ n low high. let (r, c, a, b) = row_has g.machine.net.leaves g.regions (net_count g.machine.net) is.row n low high in (r, c, a, b);
  }

  is_rail_or : (b : Bit) → IsRailBit g b ⊎ (IsRailBit g b → ⊥)
  is_rail_or (latch_bit i) = inr (λ x. x)
  is_rail_or (output_bit i) = by_place (below_or (i + g.rails) (length g.machine.outputs))
    where
      by_place : (i + g.rails < length g.machine.outputs) ⊎ (length g.machine.outputs ≤ i + g.rails) → (length g.machine.outputs ≤ i + g.rails) ⊎ (length g.machine.outputs ≤ i + g.rails → ⊥)
      by_place (inl h) = inr (λ k. omega arith)
      by_place (inr h) = inl h

  pub separate : AreSeparate g
  separate = record {
    reads = λ r n k c lies reads. may_read r n k c (is_rail_or r.bit) lies reads;
    leads = λ r n c lies. by_kind r n c (is_rail_or r.bit) lies;
    in_order = λ i j d less h. (is.in_order i j d less h, row_order g.machine.net.leaves g.regions (net_count g.machine.net) is.row i j d less h);
  }
    where
      may_read : (r : Region) (n k : ℕ) → Contains g.regions r → IsRailBit g r.bit ⊎ (IsRailBit g r.bit → ⊥) → LiesIn r n → ReadsNet g.machine.net n k → MayRead g r k
      may_read r n k c (inl rail) lies reads = by_watched ((is.rails r c rail).reads n k lies reads)
        where
          by_outside : (k < g.machine.net.leaves) ⊎ Contains g.machine.outputs k → MayRead g r k
          by_outside (inl h) = inl h
          by_outside (inr h) = inr (inr (rail, h))

          by_watched : Contains watched k ⊎ LiesIn r k → MayRead g r k
          by_watched (inl h) = by_outside (is.watches k h)
          by_watched (inr h) = inr (inl h)
      may_read r n k c (inr plain) lies reads = by_leaf ((is.ranges r c plain).reads n k lies reads)
        where
          by_leaf : (k < g.machine.net.leaves) ⊎ LiesIn r k → MayRead g r k
          by_leaf (inl h) = inl h
          by_leaf (inr h) = inr (inl h)

      by_kind : (r : Region) (n : ℕ) → Contains g.regions r → IsRailBit g r.bit ⊎ (IsRailBit g r.bit → ⊥) → LiesIn r n → LeadsToEnd g.machine.net r n
      by_kind r n c (inl rail) lies = (is.rails r c rail).leads n lies
      by_kind r n c (inr plain) lies = (is.ranges r c plain).leads n lies

  pub reads_data : mode ≡ detect → ReadDataAlone g code l.state
  reads_data e r n k c plain lies reads = (is.ranges r c plain).reads_data e n k lies reads

  -- one net for a bit
  same_net : (b : Bit) (n k : ℕ) → IsBitNet g b n → IsBitNet g b k → n ≡ k
  same_net (latch_bit i) n k p q = same_Some n k (sym p ∙ q)
  same_net (output_bit i) n k p q = same_Some n k (sym p ∙ q)

  checks_long : (y : Bits) (ws : Words) → length (flat_map (λ w. checks_of code (bits_at w y)) ws) ≡ length ws * code.columns
  checks_long y [] = let e : 0 ≡ 0 * code.columns = omega arith in e
  checks_long y (w ∷ ws) =
      length-append (checks_of code (bits_at w y)) (flat_map (λ w. checks_of code (bits_at w y)) ws)
      ∙ ap₂ (λ (a b : ℕ). a + b) (length_checks code.columns code.rows is.is_code.full (bits_at w y)) (checks_long y ws)
      ∙ more (length ws)
    where
      more : (n : ℕ) → code.columns + n * code.columns ≡ suc n * code.columns
      more n = grind arith

  answer : (r : Region) (n : ℕ) → Contains g.regions r → IsBitNet g r.bit n → (IsRailBit g r.bit → ⊥) → (x s y next : Bits) (v : ℕ → Bool) → (step : GateStep source [] x s y next) → map v (range_with_len 0 g.machine.inputs) ≡ x
      → StateWordsAre code (IsNear code mode radius s) l.state (map v (latch_nets g.machine)) 0 → AnswersWithin g.machine.net r.first r.end v → Some (v n) ≡ right_bit source code l step.values r.bit
  answer r n c at plain x s y next v step same near answers =
      let (k, e) = last_of r c in
      let one : k ≡ n = same_net r.bit k n (is.own r k c e) at in
      let long : length s ≡ length source.latches = sym (as_long _ (latch_nets source) s step.agrees.latches) ∙ length-range_with_len source.inputs (length source.latches) in
      let value : IsEvaluation source.net (map v (range_with_len 0 g.machine.inputs) ++ s) step.values = subst (λ (bs : Bits). IsEvaluation source.net (bs ++ s) step.values) (sym same) (step_evaluates source is.is_source.leaves s x step.values step.agrees) in
      ap (λ (j : ℕ). Some (v j)) (sym one) ∙ (is.ranges r c plain).value k v step.values s e answers long near value

  pub answers_alone : RegionsAnswer g source code mode radius l
  answers_alone = record {
    stores = λ r i n c bit at x s y next v step same near answers.
        answer r n c (subst (λ (b : Bit). IsBitNet g b n) (sym bit) at) (subst (λ (b : Bit). IsRailBit g b → ⊥) (sym bit) (λ z. z)) x s y next v step same near answers
        ∙ ap (right_bit source code l step.values) bit ∙ ap (λ (bs : Bits). slice_get (codewords code l.state bs) i) step.stores;
    shows = λ r i n c bit at x s y next v step same near inside answers.
        answer r n c (subst (λ (b : Bit). IsBitNet g b n) (sym bit) at) (subst (λ (b : Bit). IsRailBit g b → ⊥) (sym bit) (no_rail i y x s next step inside)) x s y next v step same near answers
        ∙ ap (right_bit source code l step.values) bit ∙ ap (λ (bs : Bits). slice_get (right_outputs code l bs) i) step.outputs;
  }
    where
      no_rail : (i : ℕ) (y x s next : Bits) → GateStep source [] x s y next → i < length (right_outputs code l y) → length g.machine.outputs ≤ i + g.rails → ⊥
      no_rail i y x s next step inside late =
          let a = length-append y (flat_map (λ w. checks_of code (bits_at w y)) l.output) in
          let b = checks_long y l.output in
          let c : length y ≡ length source.outputs = sym (ap length step.outputs) ∙ length-map source.outputs step.values in
          let d = is.outputs in
          omega arith

  pub rails_alone : RailsAnswerOf g Bad
  rails_alone r i n c bit at late v answers =
      let (k, e) = last_of r c in
      let one : k ≡ n = same_net (output_bit i) k n (subst (λ (b : Bit). IsBitNet g b k) bit (is.own r k c e)) at in
      subst (λ (j : ℕ). IsTrue (v j) ↔ Bad v) one ((is.rails r c (subst (λ (b : Bit). IsRailBit g b) (sym bit) late)).value k v e answers)

-- Ranges of a guard in detection are such ranges.
pub detecting : (g : Guarded) (source : Machine) (code : Code) (radius : ℕ) (l : Layout) (leaf watched : List ℕ) (Bad : (ℕ → Bool) → Type 0) → IsMadeOfRanges g source code l leaf watched Bad → IsMadeWithin g source code detect radius l watched Bad
detecting g source code radius l leaf watched Bad is = record {
  is_code = is.is_code;
  is_source = is.is_source;
  is_machine = is.is_machine;
  own_nets = is.own_nets;
  outputs = is.outputs;
  watches = is.watches;
  row = is.row;
  in_order = is.in_order;
  own = is.own;
  ranges = λ r c plain. range r (is.ranges r c plain);
  rails = is.rails;
}
  where
    data_or_own : (r : Region) (k : ℕ) → (k < g.machine.inputs) ⊎ IsDataNet code g.machine.inputs l.state k → (k < g.machine.inputs) ⊎ (IsDataNet code g.machine.inputs l.state k ⊎ LiesIn r k)
    data_or_own r k (inl h) = inl h
    data_or_own r k (inr h) = inr (inl h)

    range : (r : Region) → IsRangeOf g.machine.net leaf source code l r → IsRangeWithin g.machine.net g.machine.inputs (length g.machine.latches) source code detect radius l r
    range r a = record {
      reads = λ n k lies reads. elim (a.reads n k lies reads) [ inl c ↦ inl (is.leaves.within k c) | inr d ↦ inr d ];
      reads_data = λ e n k lies reads. elim (a.reads n k lies reads) [ inl c ↦ data_or_own r k (is.leaves.data_nets k c) | inr d ↦ inr (inr d) ];
      leads = a.leads;
      value = λ last v u s e answers long near evaluation.
          a.value last v u e answers (subst (λ (bs : Bits). IsEvaluation source.net bs u) (sym (is.leaves.bits v s long near)) evaluation);
    }
