-- The words that rails watch are bad where some state word or some output word is.
use Rattle.std.proofs.Common.{◌≡◌, refl, sym, ◌∙◌, ap, ap₂, subst, ℕ, ◌+◌, ◌*◌, ◌<◌, ◌≤◌, ◌⊎◌, ◌↔◌, inl, inr, Bool, List, [], ◌∷◌, ◌++◌, length, map, get_or, arith, IsTrue}
use Rattle.std.specs.Prelude.{slice_range}
use Rattle.std.specs.List.{AllByRecursion, range_with_len, enumerate_from, flat_map}
use Rattle.std.proofs.lemmas.List.{length-map}
use Rattle.netlist_spec.specs.SourceRun.{Bits}
use Rattle.netlist_spec.specs.Gates.{GateForm, GateList, latch_nets}
use Rattle.guard_spec.specs.Codes.{Code, IsCodeword}
use Rattle.guard_spec.specs.Words.{Words, Layout, bits_at, output_word}
use Rattle.guard_spec.specs.Regions.{Guarded}
use Rattle.guard_spec.specs.Rails.{SomeStateWord, SomeOutputWord, IsNoCodeword, SomeNoCodeword}
use Rattle.gate_net.specs.GateNet.{net_count}
use Rattle.gate_net.proofs.Ranges.{front}
use Rattle.cone_split.proofs.Ranges.{alone_longer, all_lead_longer}
use Rattle.guard_laws.specs.Places.{latches_of_words}
use Rattle.gate_net.specs.Words.{WordNets, nets_of}
use Rattle.alarm_rails.specs.Rail.{SomeIsNone, IsRail}
use Rattle.guard_laws.specs.Watched.{state_nets, output_nets_of, watched_words}
use Rattle.guard_laws.specs.Rows.{IsRailRange}
use Rattle.std.proofs.lemmas.List.Sums.{sum_by-cons}
use Rattle.netlist_spec.specs.CellBits.{Bit}
use Rattle.guard_laws.specs.Copies.{range_of}
use Rattle.guard_laws.proofs.Lists.{maps_append, range_join, slice_of_map, slice_of_range, get_map_or}
use Rattle.std.proofs.lemmas.List.FromFn.{length-range_with_len}

bits_of_nets : (v : ℕ → Bool) (outs : List ℕ) (w : List ℕ) → AllByRecursion (λ i. i < length outs) w → bits_at w (map v outs) ≡ map v (map (λ i. get_or outs i 0) w)
bits_of_nets v outs [] a = refl
bits_of_nets v outs (i ∷ w) a = ap₂ (λ (b : Bool) (bs : Bits). b ∷ bs) (get_map_or v outs i a.0) (bits_of_nets v outs w a.1)

either : {A B C D : Type 0} → A ↔ C → B ↔ D → (A ⊎ B) ↔ (C ⊎ D)
either {A} {B} {C} {D} p q = (there, back)
  where
    there : A ⊎ B → C ⊎ D
    there (inl a) = inl (p.0 a)
    there (inr b) = inr (q.0 b)

    back : C ⊎ D → A ⊎ B
    back (inl c) = inl (p.1 c)
    back (inr d) = inr (q.1 d)

same_not : {A B : Type 0} → A ≡ B → (A → ⊥) ↔ (B → ⊥)
same_not e = (λ f b. f (subst (λ (X : Type 0). X) (sym e) b), λ f a. f (subst (λ (X : Type 0). X) e a))

module _ (code : Code) (v : ℕ → Bool) where
  state_words : (inputs count at : ℕ) (ws : Words) → at + latches_of_words code ws ≤ count → SomeIsNone code (state_nets code (inputs + at) ws) v ↔ SomeStateWord code (IsNoCodeword code) ws (map v (range_with_len inputs count)) at
  state_words inputs count at [] h = (λ x. x, λ x. x)
  state_words inputs count at (w ∷ ws) h =
      let s = sum_by-cons (λ w. length w + code.columns) w ws in
      let bits : map v (range_with_len (inputs + at) (length w) ++ range_with_len ((inputs + at) + length w) code.columns) ≡ slice_range (map v (range_with_len inputs count)) at (at + length w + code.columns)
      = ap (map v) (range_join (inputs + at) (length w) code.columns)
      ∙ ap (map v) (sym (slice_of_range inputs count at (length w + code.columns) (omega arith)))
      ∙ sym (slice_of_map v (range_with_len inputs count) at (at + (length w + code.columns)))
      ∙ ap (slice_range (map v (range_with_len inputs count)) at) (let e : at + (length w + code.columns) ≡ at + length w + code.columns = omega arith in e) in
      either
      (same_not (ap₂ (λ (k : ℕ) (z : Bits). IsCodeword code k z) (length-range_with_len (inputs + at) (length w)) bits))
      (subst (λ (k : ℕ). SomeIsNone code (state_nets code k ws) v ↔ SomeStateWord code (IsNoCodeword code) ws (map v (range_with_len inputs count)) (at + length w + code.columns))
      (let e : inputs + (at + length w + code.columns) ≡ (inputs + at) + length w + code.columns = omega arith in e)
      (state_words inputs count (at + length w + code.columns) ws (omega arith)))

  output_words : (p : ℕ) (outs : List ℕ) (ws : List (ℕ × List ℕ)) → AllByRecursion (λ (w : ℕ × List ℕ). AllByRecursion (λ i. i < length outs) w.1) ws
      → SomeIsNone code (map (output_nets_of code p outs) ws) v ↔ SomeOutputWord (λ (w : ℕ × List ℕ). IsNoCodeword code w.1 (output_word code p (map v outs) w)) ws
  output_words p outs [] a = (λ x. x, λ x. x)
  output_words p outs (w ∷ ws) a =
      let bits : map v (map (λ i. get_or outs i 0) w.1 ++ slice_range outs (p + w.0 * code.columns) (p + w.0 * code.columns + code.columns)) ≡ output_word code p (map v outs) w
      = maps_append v (map (λ i. get_or outs i 0) w.1) (slice_range outs (p + w.0 * code.columns) (p + w.0 * code.columns + code.columns))
      ∙ ap₂ (λ (x y : Bits). x ++ y) (sym (bits_of_nets v outs w.1 a.0)) (sym (slice_of_map v outs (p + w.0 * code.columns) (p + w.0 * code.columns + code.columns))) in
      either
      (same_not (ap₂ (λ (k : ℕ) (z : Bits). IsCodeword code k z) (length-map w.1 (λ i. get_or outs i 0)) bits))
      (output_words p outs ws a.1)

  parts : (xs ys : List WordNets) → SomeIsNone code (xs ++ ys) v ↔ (SomeIsNone code xs v ⊎ SomeIsNone code ys v)
  parts [] ys = (λ y. inr y, λ h. elim h as (λ _. SomeIsNone code ys v) [ inl x ↦ absurd x | inr y ↦ y ])
  parts (x ∷ xs) ys = (there (parts xs ys), back (parts xs ys))
    where
      there : SomeIsNone code (xs ++ ys) v ↔ (SomeIsNone code xs v ⊎ SomeIsNone code ys v) → SomeIsNone code (x ∷ (xs ++ ys)) v → SomeIsNone code (x ∷ xs) v ⊎ SomeIsNone code ys v
      there q (inl h) = inl (inl h)
      there q (inr h) = by_part (q.0 h)
        where
          by_part : SomeIsNone code xs v ⊎ SomeIsNone code ys v → SomeIsNone code (x ∷ xs) v ⊎ SomeIsNone code ys v
          by_part (inl a) = inl (inr a)
          by_part (inr b) = inr b

      back : SomeIsNone code (xs ++ ys) v ↔ (SomeIsNone code xs v ⊎ SomeIsNone code ys v) → SomeIsNone code (x ∷ xs) v ⊎ SomeIsNone code ys v → SomeIsNone code (x ∷ (xs ++ ys)) v
      back q (inl (inl h)) = inl h
      back q (inl (inr h)) = inr (q.1 (inl h))
      back q (inr h) = inr (q.1 (inr h))

numbered : (a : ℕ) (n : ℕ) (ws : Words) → AllByRecursion (λ w. AllByRecursion (λ i. i < n) w) ws → AllByRecursion (λ (w : ℕ × List ℕ). AllByRecursion (λ i. i < n) w.1) (enumerate_from a ws)
numbered a n [] h = tt
numbered a n (w ∷ ws) h = (h.0, numbered (a + 1) n ws h.1)

pub words_watched : (g : Guarded) (code : Code) (l : Layout) (p : ℕ) (v : ℕ → Bool) → latches_of_words code l.state ≡ length g.machine.latches → AllByRecursion (λ w. AllByRecursion (λ i. i < length g.machine.outputs) w) l.output
    → SomeIsNone code (watched_words g.machine code l p) v ↔ SomeNoCodeword g code l p v
words_watched g code l p v many below =
    let q = parts code v (state_nets code g.machine.inputs l.state) (map (output_nets_of code p g.machine.outputs) (enumerate_from 0 l.output)) in
    let s = subst (λ (k : ℕ). SomeIsNone code (state_nets code k l.state) v ↔ SomeStateWord code (IsNoCodeword code) l.state (map v (latch_nets g.machine)) 0) (let e : g.machine.inputs + 0 ≡ g.machine.inputs = omega arith in e) (state_words code v g.machine.inputs (length g.machine.latches) 0 l.state (omega arith)) in
    let o = output_words code v p g.machine.outputs (enumerate_from 0 l.output) (numbered 0 (length g.machine.outputs) l.output below) in
    let e = either s o in
    (λ h. e.0 (q.0 h), λ h. q.1 (e.1 h))

-- A rail is a range of a guard, also where more gates stand behind it.
pub rail_range : (g : Guarded) (code : Code) (l : Layout) (p : ℕ) (bit : Bit) (old new : GateList) (last : ℕ) (more : List GateForm) → latches_of_words code l.state ≡ length g.machine.latches → AllByRecursion (λ w. AllByRecursion (λ i. i < length g.machine.outputs) w) l.output
    → IsRail code (watched_words g.machine code l p) old new last → IsRailRange (record new { gates = new.gates ++ more }) (flat_map nets_of (watched_words g.machine code l p)) (SomeNoCodeword g code l p) (range_of bit old new)
rail_range g code l p bit old new last more many below is = record {
  reads = alone_longer new more (flat_map nets_of (watched_words g.machine code l p)) (range_of bit old new) (omega arith) (is.reads (range_of bit old new) (record { first = refl; end = refl }));
  leads = all_lead_longer new more (range_of bit old new) (is.leads (range_of bit old new) (record { first = refl; end = refl }));
  value = λ k v e answers.
      let same : k ≡ last = let a = is.is_last in omega arith in
      let told = is.value v (front new more (net_count old) (net_count new) v answers) in
      let both = words_watched g code l p v many below in
      subst (λ (n : ℕ). IsTrue (v n) ↔ SomeNoCodeword g code l p v) (sym same) ((λ h. both.0 (told.0 h), λ h. told.1 (both.1 h)));
}
