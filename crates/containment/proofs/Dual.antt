-- A guard that corrects t faults and tells of s.
use Rattle.std.proofs.Common.{◌≡◌, ◌≢◌, subst, ℕ, suc, ◌+◌, ◌*◌, ◌<◌, ◌≤◌, List, [], ◌∷◌, length, map, get_or, Bool, false, ◌⊎◌, inl, inr, arith, IsTrue}
use Rattle.std.proofs.lemmas.List.{length-map}
use Rattle.std.proofs.lemmas.List.Elements.{All-from_recursion}
use Rattle.std.specs.List.{AllByRecursion, enumerate_from}
use Rattle.netlist_spec.specs.SourceRun.{Bits, Stream}
use Rattle.netlist_spec.specs.Gates.{Machine, NetFault, forced_nets_at, latch_nets, GateValues, GateStep, GateRun}
use Rattle.guard_spec.specs.Codes.{Code, data_places, IsCode, encoded, apart, IsDistance, IsCodeword, Decodes, correct, IsFar}
use Rattle.guard_spec.specs.Words.{Words, Layout, bits_at, codewords, output_word}
use Rattle.netlist_spec.specs.CellBits.{latch_bit}
use Rattle.guard_spec.specs.Contained.{at_cycle, is_alarmed, DecodesAt}
use Rattle.guard_spec.specs.Count.{StateWordsAre}
use Rattle.guard_spec.specs.Dual.{DecodesOrTells}
use Rattle.containment.specs.Built.{IsCoded, IsBuilt}
use Rattle.block_code.proofs.Coding.{apart_sym, apart_same, apart_triangle, same_or_not, words_apart, decodes_near}
use Rattle.containment.proofs.Owners.{owned}
use Rattle.containment.proofs.OneCycle.{no_word, no_output_word}
use Rattle.containment.proofs.Cycle.{IsRightBut, state_near, stores_right, outputs_near, each_numbered}
use Rattle.containment.proofs.Alarm.{sounds}
use Rattle.containment.proofs.Blamed.{steady_blame}
use Rattle.containment.specs.Far.{ContainsTwiceOnGates}
use Rattle.containment.proofs.AllCycles.{corrected, Blame, AreCodewords, starts, each_cycle, at_start, carry}
use Rattle.guard_spec.specs.Regions.{Guarded}
use Rattle.guard_spec.specs.Rails.{SomeStateWord, SomeOutputWord, SomeFarWord, FarRailsTell}

module _ (code : Code) (is_code : IsCode code) (d : ℕ) (is_distance : IsDistance code d) (t n : ℕ) (wide : n + t < d) where
  -- a word that is near the right one is within t of it, or far from every codeword
  within_or_far : (z u : Bits) (m : ℕ) → length u ≡ m → m ≤ data_places code → apart z (encoded code u) ≤ n → (apart z (encoded code u) ≤ t) ⊎ IsFar code t m z
  within_or_far z u m long fits near = by_order (order (apart z (encoded code u)) t)
    where
      order : (a b : ℕ) → (a ≤ b) ⊎ (b < a)
      order a b = grind arith

      from_each : t < apart z (encoded code u) → (w : Bits) → length w ≡ m → (u ≡ w) ⊎ (u ≢ w) → t < apart z (encoded code w)
      from_each far w hw (inl e) = subst (λ (b : Bits). t < apart z (encoded code b)) e far
      from_each far w hw (inr other) =
          let a = words_apart code is_code d is_distance m fits u w long hw other in
          let b = apart_triangle (encoded code u) z (encoded code w) in
          let c = apart_sym (encoded code u) z in
          omega arith

      by_order : (apart z (encoded code u) ≤ t) ⊎ (t < apart z (encoded code u)) → (apart z (encoded code u) ≤ t) ⊎ IsFar code t m z
      by_order (inl h) = inl h
      by_order (inr h) = inr (λ w hw. from_each h w hw (same_or_not u w))

  both_or_one : {A B C D : Type 0} → A ⊎ C → B ⊎ D → (A × B) ⊎ (C ⊎ D)
  both_or_one (inr c) r = inr (inl c)
  both_or_one (inl a) (inl b) = inl (a, b)
  both_or_one (inl a) (inr h) = inr (inr h)

  state_words_far : (s : Bits) (ws : Words) → AllByRecursion (λ w. (1 ≤ length w) × (length w ≤ data_places code)) ws → (bits : Bits) (at : ℕ)
      → StateWordsAre code (λ w z. apart z (encoded code (bits_at w s)) ≤ n) ws bits at
      → StateWordsAre code (λ w z. apart z (encoded code (bits_at w s)) ≤ t) ws bits at ⊎ SomeStateWord code (λ w z. IsFar code t (length w) z) ws bits at
  state_words_far s [] fit bits at near = inl tt
  state_words_far s (w ∷ ws) fit bits at near =
      both_or_one
      (within_or_far _ (bits_at w s) (length w) (length-map w (λ i. get_or s i false)) fit.0.1 near.0)
      (state_words_far s ws fit.1 bits ((at + length w) + code.columns) near.1)

  output_words_far : (y z : Bits) (p : ℕ) (ws : List (ℕ × List ℕ)) → AllByRecursion (λ (w : ℕ × List ℕ). (1 ≤ length w.1) × (length w.1 ≤ data_places code)) ws
      → AllByRecursion (λ (w : ℕ × List ℕ). apart (output_word code p z w) (encoded code (bits_at w.1 y)) ≤ n) ws
      → AllByRecursion (λ (w : ℕ × List ℕ). apart (output_word code p z w) (encoded code (bits_at w.1 y)) ≤ t) ws ⊎ SomeOutputWord (λ (w : ℕ × List ℕ). IsFar code t (length w.1) (output_word code p z w)) ws
  output_words_far y z p [] fit near = inl tt
  output_words_far y z p (w ∷ ws) fit near =
      both_or_one
      (within_or_far _ (bits_at w.1 y) (length w.1) (length-map w.1 (λ i. get_or y i false)) fit.0.1 near.0)
      (output_words_far y z p ws fit.1 near.1)

decode_each : (code : Code) → IsCode code → (d : ℕ) → IsDistance code d → (t : ℕ) → 2 * t < d → (y z : Bits) (p : ℕ) (ws : List (ℕ × List ℕ)) → AllByRecursion (λ (w : ℕ × List ℕ). (1 ≤ length w.1) × (length w.1 ≤ data_places code)) ws
    → AllByRecursion (λ (w : ℕ × List ℕ). apart (output_word code p z w) (encoded code (bits_at w.1 y)) ≤ t) ws
    → AllByRecursion (λ (w : ℕ × List ℕ). Decodes code t (output_word code p z w) (bits_at w.1 y)) ws
decode_each code is_code d is_distance t wide y z p [] sizes all = tt
decode_each code is_code d is_distance t wide y z p (w ∷ ws) sizes all = (
  decodes_near code is_code d is_distance t wide (length w.1) sizes.0.1 _ (bits_at w.1 y) (length-map w.1 (λ i. get_or y i false)) all.0,
  decode_each code is_code d is_distance t wide y z p ws sizes.1 all.1,
)

-- a codeword is not far
no_far_codeword : (code : Code) (t m : ℕ) (z : Bits) → IsCodeword code m z → IsFar code t m z → ⊥
no_far_codeword code t m z (u, long, e) far =
    let h = far u long in
    let k : apart z (encoded code u) ≡ 0 = subst (λ (b : Bits). apart z b ≡ 0) e (apart_same z) in
    omega arith

some_weaker : (code : Code) (P Q : List ℕ → Bits → Type 0) → ((w : List ℕ) (z : Bits) → P w z → Q w z) → (ws : Words) (bits : Bits) (at : ℕ) → SomeStateWord code P ws bits at → SomeStateWord code Q ws bits at
some_weaker code P Q f [] bits at some = absurd some
some_weaker code P Q f (w ∷ ws) bits at (inl h) = inl (f w _ h)
some_weaker code P Q f (w ∷ ws) bits at (inr h) = inr (some_weaker code P Q f ws bits ((at + length w) + code.columns) h)

some_output_weaker : (P Q : ℕ × List ℕ → Type 0) → ((w : ℕ × List ℕ) → P w → Q w) → (ws : List (ℕ × List ℕ)) → SomeOutputWord P ws → SomeOutputWord Q ws
some_output_weaker P Q f [] some = absurd some
some_output_weaker P Q f (w ∷ ws) (inl h) = inl (f w h)
some_output_weaker P Q f (w ∷ ws) (inr h) = inr (some_output_weaker P Q f ws h)

pub codewords_are_not_far : (g : Guarded) (code : Code) (l : Layout) (p t : ℕ) (v : ℕ → Bool) → AreCodewords g code l p v → SomeFarWord g code l p t v → ⊥
codewords_are_not_far g code l p t v are (inl some) =
    no_word code (λ w z. IsCodeword code (length w) z) l.state (map v (latch_nets g.machine)) 0 are.0
    (some_weaker code (λ w z. IsFar code t (length w) z) (λ w z. IsCodeword code (length w) z → ⊥) (λ w z far word. no_far_codeword code t (length w) z word far) l.state (map v (latch_nets g.machine)) 0 some)
codewords_are_not_far g code l p t v are (inr some) =
    no_output_word (λ (w : ℕ × List ℕ). IsCodeword code (length w.1) (output_word code p (map v g.machine.outputs) w)) (enumerate_from 0 l.output) are.1
    (some_output_weaker (λ (w : ℕ × List ℕ). IsFar code t (length w.1) (output_word code p (map v g.machine.outputs) w)) (λ (w : ℕ × List ℕ). IsCodeword code (length w.1) (output_word code p (map v g.machine.outputs) w) → ⊥) (λ w far word. no_far_codeword code t (length w.1) _ word far) (enumerate_from 0 l.output) some)

module _ (g : Guarded) (source : Machine) (code : Code) (d : ℕ) (l : Layout) (coded : IsCoded source code d l) (t s : ℕ) (built : IsBuilt g source code correct t l) (tell : FarRailsTell g code l (length source.outputs) t) (more : t ≤ s) (wide : s + t < d) (enough : s < g.rails) (faults : List NetFault) (blame : Blame s s faults) where
  abbrev Stays : ℕ → Bits → Bits → Bits → Bits → Type 0
  Stays c y z next kept = DecodesAt code l (length source.outputs) t y z × IsRightBut g (blame.shown (suc c)) kept (codewords code l.state next)

  abbrev IsTold : Bits → Type 0
  IsTold z = IsTrue (is_alarmed code l (length source.outputs) z)

  telling_cycle : (c : ℕ) (x s' y next stored : Bits) (v : ℕ → Bool) → GateStep source [] x s' y next → GateValues g.machine stored x (forced_nets_at c faults) v
      → IsRightBut g (blame.shown c) stored (codewords code l.state s')
      → Stays c y (map v g.machine.outputs) next (map v (map (λ r. r.d) g.machine.latches)) ⊎ IsTold (map v g.machine.outputs)
  telling_cycle c x s' y next stored v step values but =
      by_state (state_words_far code coded.is_code d coded.is_distance t (length (blame.shown c)) small s' l.state coded.state_words.lengths (map v (latch_nets g.machine)) 0
      (state_near g source code d correct t l coded built x s' y next stored (forced_nets_at c faults) v step values (blame.shown c) (blame.faulty_shown c) but))
    where
      small : length (blame.shown c) + t < d
      small = let h = blame.few_shown c in omega arith

      small_now : length (blame.now c) + t < d
      small_now = let h = blame.few_now c in omega arith

      few : length (blame.now c) < g.rails
      few = let h = blame.few_now c in omega arith

      unique : 2 * t < d
      unique = omega arith

      alarm : SomeFarWord g code l (length source.outputs) t v → IsTold (map v g.machine.outputs)
      alarm some = sounds g built.is_machine built.covers code l (length source.outputs) (SomeFarWord g code l (length source.outputs) t) tell built.outputs x stored (forced_nets_at c faults) v values (blame.now c) few (blame.faulty_now c) some

      fit : AllByRecursion (λ (w : ℕ × List ℕ). (1 ≤ length w.1) × (length w.1 ≤ data_places code)) (enumerate_from 0 l.output)
      fit = each_numbered (λ (w : ℕ × List ℕ). (1 ≤ length w.1) × (length w.1 ≤ data_places code)) l.output (λ i e h. All-from_recursion (λ w. (1 ≤ length w) × (length w ≤ data_places code)) l.output coded.output_words.lengths i e h)

      by_outputs : StateWordsAre code (λ w z. apart z (encoded code (bits_at w s')) ≤ t) l.state (map v (latch_nets g.machine)) 0 → Stays c y (map v g.machine.outputs) next (map v (map (λ r. r.d) g.machine.latches)) ⊎ IsTold (map v g.machine.outputs)
      by_outputs near = by_word (output_words_far code coded.is_code d coded.is_distance t (length (blame.now c)) small_now y (map v g.machine.outputs) (length source.outputs) (enumerate_from 0 l.output) fit
          (outputs_near g source code d correct t l coded built x s' y next stored (forced_nets_at c faults) v step values near (blame.now c) (blame.faulty_now c)))
        where
          by_word : AllByRecursion (λ (w : ℕ × List ℕ). apart (output_word code (length source.outputs) (map v g.machine.outputs) w) (encoded code (bits_at w.1 y)) ≤ t) (enumerate_from 0 l.output) ⊎ SomeOutputWord (λ (w : ℕ × List ℕ). IsFar code t (length w.1) (output_word code (length source.outputs) (map v g.machine.outputs) w)) (enumerate_from 0 l.output)
              → Stays c y (map v g.machine.outputs) next (map v (map (λ r. r.d) g.machine.latches)) ⊎ IsTold (map v g.machine.outputs)
          by_word (inr some) = inr (alarm (inr some))
          by_word (inl all) = inl (
            decode_each code coded.is_code d coded.is_distance t unique y (map v g.machine.outputs) (length source.outputs) (enumerate_from 0 l.output) fit all,
            (λ k h none. stores_right g source code d correct t l coded built x s' y next stored (forced_nets_at c faults) v step values near (blame.now c) (blame.faulty_now c) k h (blame.later c (owned g (latch_bit k)) none)),
          )

      by_state : StateWordsAre code (λ w z. apart z (encoded code (bits_at w s')) ≤ t) l.state (map v (latch_nets g.machine)) 0 ⊎ SomeStateWord code (λ w z. IsFar code t (length w) z) l.state (map v (latch_nets g.machine)) 0
          → Stays c y (map v g.machine.outputs) next (map v (map (λ r. r.d) g.machine.latches)) ⊎ IsTold (map v g.machine.outputs)
      by_state (inr some) = inr (alarm (inl some))
      by_state (inl near) = by_outputs near

  module _ (xs : Stream) (states outs stored zs : List Bits) (source_run : GateRun source xs [] states outs) (guard_run : GateRun g.machine xs faults stored zs) where
    one_more_told : (c : ℕ) → c < length xs → IsRightBut g (blame.shown c) (at_cycle stored c) (codewords code l.state (at_cycle states c))
        → Stays c (at_cycle outs c) (at_cycle zs c) (at_cycle states (suc c)) (at_cycle stored (suc c)) ⊎ IsTold (at_cycle zs c)
    one_more_told c h but =
        let a = each_cycle (λ c x s y next. GateStep source [] x s y next) (map (λ r. r.init) source.latches) xs states outs source_run c h in
        let b = each_cycle (λ c x s y next. GateStep g.machine (forced_nets_at c faults) x s y next) (map (λ r. r.init) g.machine.latches) xs stored zs guard_run c h in
        let r = telling_cycle c (at_cycle xs c) (at_cycle states c) (at_cycle outs c) (at_cycle states (suc c)) (at_cycle stored c) b.values a b.agrees but in
        subst (λ (kept : Bits). Stays c (at_cycle outs c) (at_cycle zs c) (at_cycle states (suc c)) kept ⊎ IsTold (at_cycle zs c)) b.stores
        (subst (λ (z : Bits). Stays c (at_cycle outs c) z (at_cycle states (suc c)) (map b.values (map (λ r. r.d) g.machine.latches)) ⊎ IsTold z) b.outputs r)

    pub decodes_or_tells : DecodesOrTells code l (length source.outputs) t (length xs) outs zs
    decodes_or_tells =
        carry (length xs)
        (λ c. IsRightBut g (blame.shown c) (at_cycle stored c) (codewords code l.state (at_cycle states c)))
        (λ c. DecodesAt code l (length source.outputs) t (at_cycle outs c) (at_cycle zs c))
        (λ c. IsTold (at_cycle zs c))
        (at_start g source code d correct t l coded built states stored (blame.shown 0)
        (starts (λ c x s y next. GateStep source [] x s y next) 0 (map (λ r. r.init) source.latches) xs states outs source_run)
        (starts (λ c x s y next. GateStep g.machine (forced_nets_at c faults) x s y next) 0 (map (λ r. r.init) g.machine.latches) xs stored zs guard_run))
        one_more_told

-- Both claims.
pub contains_both : (g : Guarded) (source : Machine) (code : Code) (d t s : ℕ) (l : Layout) → IsCoded source code d l → IsBuilt g source code correct t l → FarRailsTell g code l (length source.outputs) t → t ≤ s → t + s < d → s < g.rails → ContainsTwiceOnGates g source code l t s
contains_both g source code d t s l coded built tell more wide enough = record {
  corrects = λ xs faults states outs stored zs steady source_run guard_run.
      let unique : 2 * t < d = omega arith in
      (corrected g source code d t l coded built t unique faults (steady_blame t faults steady) xs states outs stored zs source_run guard_run).decoded;
  detects = λ xs faults states outs stored zs steady source_run guard_run.
      let wider : s + t < d = omega arith in
      decodes_or_tells g source code d l coded t s built tell more wider enough faults (steady_blame s faults steady) xs states outs stored zs source_run guard_run;
}
