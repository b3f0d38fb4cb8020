-- From what each region answers to what a cycle keeps.
use Rattle.std.proofs.Common.{◌≡◌, sym, ◌∙◌, subst, ℕ, ◌<◌, ◌≤◌, ◌+◌, zero, suc, List, [], ◌∷◌, ◌++◌, length, map, get_or, slice_get, Bool, false, ◌==◌, ◌⊎◌, ◌↔◌, inl, inr, Some, arith, Contains, IsTrue, ne_eqb, ap}
use Rattle.std.proofs.lemmas.Option.{slice_get_within}
use Rattle.std.proofs.lemmas.List.{length-map}
use Rattle.std.proofs.lemmas.List.FromFn.{get_or-map-range_with_len}
use Rattle.std.specs.List.{AllByRecursion, enumerate_from, flat_map, range_with_len}
use Rattle.netlist_spec.specs.SourceRun.{Bits}
use Rattle.netlist_spec.specs.Gates.{GateForm, gate_answer, Machine, ForcedNets, shown_net, GateValues, GateStep, AnswersWithin, latch_nets}
use Rattle.guard_spec.specs.Codes.{Code, Mode, checks_of}
use Rattle.guard_spec.specs.Words.{Layout, bits_at}
use Rattle.netlist_spec.specs.CellBits.{Bit, latch_bit, output_bit}
use Rattle.guard_spec.specs.Count.{Counts, StateWordsAre, IsNear, right_outputs}
use Rattle.containment.specs.RegionAnswers.{RegionsAnswer, RailsAnswerOf}
use Rattle.containment.proofs.OneCycle.{shows_own}
use Rattle.guard_spec.specs.Regions.{Guarded, IsUntouched, HaveOwnNets}
use Rattle.netlist_spec.specs.GateRanges.{Region}
use Rattle.guard_spec.specs.Rails.{RailsTellOf}

module _ (g : Guarded) (stored x : Bits) (faults : ForcedNets) (v : ℕ → Bool) (values : GateValues g.machine stored x faults v) where
  -- In an untouched region each gate has its answer.
  pub region_answers : (bit : Bit) (r : Region) → Contains g.regions r → r.bit ≡ bit → IsUntouched g faults bit → AnswersWithin g.machine.net r.first r.end v
  region_answers bit r in_list own free = each (enumerate_from g.machine.net.leaves g.machine.net.gates) values.gates
    where
      other : (n : ℕ) → r.first ≤ n → n < r.end → (fs : ForcedNets) → IsUntouched g fs bit → AllByRecursion (λ (e : ℕ × Bool). (e.0 == n) ≡ false) fs
      other n low high [] a = tt
      other n low high (e ∷ fs) a = (
        ne_eqb e.0 n (λ same. a.0 (inl (r, in_list, own, subst (λ (k : ℕ). r.first ≤ k) (sym same) low, subst (λ (k : ℕ). k < r.end) (sym same) high))),
        other n low high fs a.1,
      )

      each : (cells : List (ℕ × GateForm)) → AllByRecursion (λ (p : ℕ × GateForm). v p.0 ≡ shown_net faults p.0 (gate_answer p.1 v)) cells → AllByRecursion (λ (p : ℕ × GateForm). r.first ≤ p.0 → p.0 < r.end → v p.0 ≡ gate_answer p.1 v) cells
      each [] a = tt
      each (p ∷ cells) a = ((λ low high. a.0 ∙ shows_own faults p.0 (gate_answer p.1 v) (other p.0 low high faults free)), each cells a.1)

-- what stands at the front of two lists
front : (u : ℕ → Bool) (ns : List ℕ) (i n : ℕ) (rest : Bits) → slice_get ns i ≡ Some n → slice_get (map u ns ++ rest) i ≡ Some (u n)
front u [] i n rest e = cc e
front u (k ∷ ns) zero n rest e = let same : k ≡ n = cc e in ap (λ (m : ℕ). Some (u m)) same
front u (k ∷ ns) (suc i) n rest e = front u ns i n rest e

-- two valuations with the same bits on the same range
same_input : (v u : ℕ → Bool) (a b : ℕ) (x : Bits) → a ≡ b → map v (range_with_len 0 a) ≡ x → map u (range_with_len 0 b) ≡ x → (n : ℕ) → n < b → v n ≡ u n
same_input v u a b x same e f n h =
    sym (get_or-map-range_with_len v 0 a n n false (omega arith) (omega arith)) ∙ (ap (λ (bs : Bits). get_or bs n false) (e ∙ sym f) ∙ get_or-map-range_with_len u 0 b n n false h (omega arith))

below_or : (a b : ℕ) → (a < b) ⊎ (b ≤ a)
below_or a b = grind arith

module _ (g : Guarded) (source : Machine) (have : HaveOwnNets g source) where
  module _ (code : Code) (mode : Mode) (radius : ℕ) (l : Layout) (answer : RegionsAnswer g source code mode radius l) (x s y next stored : Bits) (faults : ForcedNets) (v : ℕ → Bool) (step : GateStep source [] x s y next) (values : GateValues g.machine stored x faults v) (near : StateWordsAre code (IsNear code mode radius s) l.state (map v (latch_nets g.machine)) 0) where
    -- an output has a region, or is a data input of the source
    output_shows : (i o : ℕ) → slice_get g.machine.outputs i ≡ Some o → i < length (right_outputs code l y) → IsUntouched g faults (output_bit i) → (o < g.machine.net.leaves) ⊎ (g.machine.net.leaves ≤ o) → Some (v o) ≡ slice_get (right_outputs code l y) i
    output_shows i o at_i inside free (inr gate) =
        let (r, in_list, own) = have.outputs i o at_i gate in
        answer.shows r i o in_list own at_i x s y next v step values.inputs near inside (region_answers g stored x faults v values (output_bit i) r in_list own free)
    output_shows i o at_i inside free (inl leaf) =
        let (low, at_source) = have.passes i o at_i leaf in
        ap (λ (b : Bool). Some b) (same_input v step.values g.machine.inputs source.inputs x have.inputs values.inputs step.agrees.inputs o low)
        ∙ (sym (front step.values source.outputs i o (flat_map (λ w. checks_of code (bits_at w y)) l.output) at_source)
        ∙ ap (λ (bs : Bits). slice_get (bs ++ flat_map (λ w. checks_of code (bits_at w y)) l.output) i) step.outputs)

  -- Regions that answer make a cycle that keeps its bits.
  pub regions_count : (code : Code) (mode : Mode) (radius : ℕ) (l : Layout) → RegionsAnswer g source code mode radius l → Counts g source code mode radius l
  regions_count code mode radius l answer x s y next stored faults v step values = record {
    stores = λ near i d at_i free.
        let short : i < length g.machine.latches = let h = slice_get_within (map (λ r. r.d) g.machine.latches) i d at_i in let e = length-map g.machine.latches (λ r. r.d) in omega arith in
        let (r, in_list, own) = have.latches i short in
        answer.stores r i d in_list own at_i x s y next v step values.inputs near (region_answers g stored x faults v values (latch_bit i) r in_list own free);
    outputs = λ near i o at_i inside free. output_shows code mode radius l answer x s y next stored faults v step values near i o at_i inside free (below_or o g.machine.net.leaves);
  }

  -- Rails are gates, because they stand behind the outputs of the source.
  pub rails_count : (Bad : (ℕ → Bool) → Type 0) → length source.outputs + g.rails ≤ length g.machine.outputs → RailsAnswerOf g Bad → RailsTellOf g Bad
  rails_count Bad many answer x stored faults v values i o at_i last free = by_place (below_or o g.machine.net.leaves)
    where
      by_place : (o < g.machine.net.leaves) ⊎ (g.machine.net.leaves ≤ o) → IsTrue (v o) ↔ Bad v
      by_place (inr gate) =
          let (r, in_list, own) = have.outputs i o at_i gate in
          answer r i o in_list own at_i last v (region_answers g stored x faults v values (output_bit i) r in_list own free)
      by_place (inl leaf) =
          let (low, at_source) = have.passes i o at_i leaf in
          absurd (let h = slice_get_within source.outputs i o at_source in omega arith)
