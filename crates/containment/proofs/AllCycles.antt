-- All cycles of a run of a guard beside the run of its source.
use Rattle.std.proofs.Common.{◌≡◌, ◌≢◌, refl, sym, ◌∙◌, ap, subst, ℕ, zero, suc, ◌+◌, ◌*◌, ◌<◌, ◌≤◌, List, [], ◌∷◌, length, map, get_or, Bool, false, ◌⊎◌, inl, inr, arith, IsTrue, add-zero, zero-add, ext_get_or}
use Rattle.std.proofs.lemmas.Bool.{cases_eq}
use Rattle.std.proofs.lemmas.Option.{slice_get_within}
use Rattle.std.proofs.lemmas.List.{length-map}
use Rattle.std.proofs.lemmas.List.Elements.{All-from_recursion}
use Rattle.std.specs.List.{AllByRecursion, list_any, enumerate_from}
use Rattle.netlist_spec.specs.SourceRun.{Bits, Stream, CycleStep, RunsFrom}
use Rattle.netlist_spec.specs.Gates.{Machine, ForcedNets, NetFault, forced_nets_at, latch_nets, GateValues, GateStep, GateRun}
use Rattle.guard_spec.specs.Codes.{Code, data_places, encoded, apart, IsCodeword, Decodes, Mode, detect, correct}
use Rattle.guard_spec.specs.Words.{Layout, bits_at, codewords, output_word}
use Rattle.netlist_spec.specs.CellBits.{latch_bit}
use Rattle.guard_spec.specs.Contained.{at_cycle, is_alarmed, IsWholeAt, DecodesAt, IsEncodedAt, IsQuiet, IsDetected, IsCorrected}
use Rattle.guard_spec.specs.Count.{StateWordsAre, IsNear}
use Rattle.containment.specs.Nets.{IsFaultless}
use Rattle.containment.specs.Built.{IsCoded, IsBuilt}
use Rattle.containment.specs.Cycles.{AreAmong}
use Rattle.containment.specs.OneCycle.{IsWholeAndFew}
use Rattle.block_code.proofs.Coding.{apart_zero, apart_same, decodes_near}
use Rattle.containment.proofs.Owners.{owned}
use Rattle.containment.proofs.OneCycle.{words_weaker, no_word, no_output_word, state_words_tell, output_words_tell}
use Rattle.containment.proofs.Cycle.{IsRightBut, right_long, state_near, stores_right, stores_near, outputs_near, wrong_in_few, each_numbered, each_passes}
use Rattle.containment.proofs.Alarm.{sounds, stays_quiet}
use Rattle.guard_spec.specs.Regions.{Guarded}
use Rattle.guard_spec.specs.Rails.{SomeStateWord, SomeOutputWord, IsNoCodeword, SomeNoCodeword, RailsTell, RailsTellOf}

-- A run, cycle by cycle.

pub starts : (step : CycleStep) (c : ℕ) (s : Bits) (xs : Stream) (states outs : List Bits) → RunsFrom step c s xs states outs → at_cycle states 0 ≡ s
starts step c s [] [] outs r = absurd r
starts step c s [] (now ∷ []) [] r = r
starts step c s [] (now ∷ []) (y ∷ outs) r = absurd r
starts step c s [] (now ∷ k ∷ states) outs r = absurd r
starts step c s (x ∷ xs) [] outs r = absurd r
starts step c s (x ∷ xs) (now ∷ states) [] r = absurd r
starts step c s (x ∷ xs) (now ∷ states) (y ∷ outs) r = r.0

each_from : (step : CycleStep) (c : ℕ) (s : Bits) (xs : Stream) (states outs : List Bits) → RunsFrom step c s xs states outs → (k : ℕ) → k < length xs
    → step (c + k) (at_cycle xs k) (at_cycle states k) (at_cycle outs k) (at_cycle states (suc k))
each_from step c s [] states outs r k h = absurd (omega arith)
each_from step c s (x ∷ xs) [] outs r k h = absurd r
each_from step c s (x ∷ xs) (now ∷ states) [] r k h = absurd r
each_from step c s (x ∷ xs) (now ∷ states) (y ∷ outs) r zero h =
    subst (λ (n : ℕ). step n x now y (at_cycle states 0)) (sym (add-zero c))
    (subst (λ (w : Bits). step c x w y (at_cycle states 0)) (sym r.0)
    (subst (λ (w : Bits). step c x s y w) (sym (starts step (c + 1) r.1 xs states outs r.3)) r.2))
each_from step c s (x ∷ xs) (now ∷ states) (y ∷ outs) r (suc k) h =
    subst (λ (n : ℕ). step n (at_cycle xs k) (at_cycle states k) (at_cycle outs k) (at_cycle states (suc k))) moved
    (each_from step (c + 1) r.1 xs states outs r.3 k (omega arith))
  where
    moved : (c + 1) + k ≡ c + suc k
    moved = omega arith

pub each_cycle : (step : CycleStep) (s : Bits) (xs : Stream) (states outs : List Bits) → RunsFrom step 0 s xs states outs → (k : ℕ) → k < length xs
    → step k (at_cycle xs k) (at_cycle states k) (at_cycle outs k) (at_cycle states (suc k))
each_cycle step s xs states outs r k h = subst (λ (n : ℕ). step n (at_cycle xs k) (at_cycle states k) (at_cycle outs k) (at_cycle states (suc k))) (zero-add k) (each_from step 0 s xs states outs r k h)

-- For each cycle, the cells that may be faulty in it, and the cells that wrong shown latches come from.
pub record Blame (t radius : ℕ) (faults : List NetFault) : Type 0 where
  pub now : ℕ → List ℕ
  pub shown : ℕ → List ℕ
  pub few_now : (c : ℕ) → length (now c) ≤ t
  pub few_shown : (c : ℕ) → length (shown c) ≤ radius
  pub faulty_now : (c : ℕ) → AreAmong (now c) (forced_nets_at c faults)
  pub faulty_shown : (c : ℕ) → AreAmong (shown c) (forced_nets_at c faults)
  pub later : (c : ℕ) (p : ℕ → Bool) → list_any p (shown (suc c)) ≡ false → list_any p (now c) ≡ false

nothing_wrong : (g : Guarded) (stored right : Bits) → length stored ≡ length g.machine.latches → length right ≡ length g.machine.latches → IsRightBut g [] stored right → stored ≡ right
nothing_wrong g stored right hs hr but = ext_get_or false stored right (hs ∙ sym hr) (λ k h. but k (subst (λ (n : ℕ). k < n) hs h) refl)

module _ (g : Guarded) (source : Machine) (code : Code) (d : ℕ) (mode : Mode) (radius : ℕ) (l : Layout) (coded : IsCoded source code d l) (built : IsBuilt g source code mode radius l) where
  -- at the start nothing is wrong
  pub at_start : (states stored : List Bits) (cells : List ℕ) → at_cycle states 0 ≡ map (λ r. r.init) source.latches → at_cycle stored 0 ≡ map (λ r. r.init) g.machine.latches → IsRightBut g cells (at_cycle stored 0) (codewords code l.state (at_cycle states 0))
  at_start states stored cells hs hg k h none = ap (λ (bs : Bits). get_or bs k false) (hg ∙ (built.inits ∙ ap (λ (s : Bits). codewords code l.state s) (sym hs)))

-- State words that are right are near in each mode.
right_is_near : (code : Code) (mode : Mode) (radius : ℕ) (s : Bits) (w : List ℕ) (z : Bits) → z ≡ encoded code (bits_at w s) → IsNear code mode radius s w z
right_is_near code detect radius s w z e = e
right_is_near code correct radius s w z e = let k : apart z (encoded code (bits_at w s)) ≡ 0 = subst (λ (u : Bits). apart z u ≡ 0) e (apart_same z) in omega arith

none_apart : (z u : Bits) → apart z u ≤ 0 → z ≡ u
none_apart z u h = apart_zero z u (omega arith)

pub no_rails : (g : Guarded) (Bad : (ℕ → Bool) → Type 0) → g.rails ≡ 0 → RailsTellOf g Bad
no_rails g Bad none x stored faults v values i o at_i past free = absurd (let h = slice_get_within g.machine.outputs i o at_i in omega arith)

-- In each cycle what is good and the invariant follow, or something is up. So up to each cycle all is good, or
-- something was up by then.
module _ (n : ℕ) (Inv Good Up : ℕ → Type 0) (begins : Inv 0) (step : (c : ℕ) → c < n → Inv c → (Good c × Inv (suc c)) ⊎ Up c) where
  abbrev SoFar : ℕ → Type 0
  SoFar c = (((i : ℕ) → i < c → Good i) × Inv c) ⊎ ((i : ℕ) × (i < c) × Up i)

  reach : (c : ℕ) → c ≤ n → SoFar c
  reach zero h = inl ((λ i k. absurd (omega arith)), begins)
  reach (suc c) h = go_on (reach c (omega arith))
    where
      add_one : ((i : ℕ) → i < c → Good i) → (Good c × Inv (suc c)) ⊎ Up c → SoFar (suc c)
      add_one good (inr up) = inr (c, omega arith, up)
      add_one good (inl right) = inl ((λ i k. in_order i (cases_eq i c) k), right.1)
        where
          in_order : (i : ℕ) → (i ≡ c) ⊎ (i ≢ c) → i < suc c → Good i
          in_order i (inl e) k = subst Good (sym e) right.0
          in_order i (inr other) k = good i (omega arith)

      go_on : SoFar c → SoFar (suc c)
      go_on (inr (i, k, up)) = inr (i, omega arith, up)
      go_on (inl (good, inv)) = add_one good (step c h inv)

  pub carry : (c : ℕ) → c < n → ((i : ℕ) → i ≤ c → Good i) ⊎ ((i : ℕ) × (i ≤ c) × Up i)
  carry c h = told (reach (suc c) h)
    where
      told : SoFar (suc c) → ((i : ℕ) → i ≤ c → Good i) ⊎ ((i : ℕ) × (i ≤ c) × Up i)
      told (inl (good, inv)) = inl (λ i k. good i (omega arith))
      told (inr (i, k, up)) = inr (i, omega arith, up)

-- the output words of a layout are no longer than the code has data places
pub fitting_words : (source : Machine) (code : Code) (d : ℕ) (l : Layout) → IsCoded source code d l → AllByRecursion (λ (w : ℕ × List ℕ). (1 ≤ length w.1) × (length w.1 ≤ data_places code)) (enumerate_from 0 l.output)
fitting_words source code d l coded = each_numbered (λ (w : ℕ × List ℕ). (1 ≤ length w.1) × (length w.1 ≤ data_places code)) l.output (λ i e h. All-from_recursion (λ w. (1 ≤ length w) × (length w ≤ data_places code)) l.output coded.output_words.lengths i e h)

-- Detection, in one cycle.
module _ (g : Guarded) (source : Machine) (code : Code) (d radius : ℕ) (l : Layout) (coded : IsCoded source code d l) (built : IsBuilt g source code detect radius l) (tell : RailsTell g code l (length source.outputs)) (x s y next stored : Bits) (faults : ForcedNets) (v : ℕ → Bool) (step : GateStep source [] x s y next) (values : GateValues g.machine stored x faults v) (cells : List ℕ) (among : AreAmong cells faults) (small : length cells < d) (few : length cells < g.rails) where
  abbrev KeepsRight : Type 0
  KeepsRight = IsWholeAt code l (length source.outputs) y (map v g.machine.outputs) × IsRightBut g cells (map v (map (λ r. r.d) g.machine.latches)) (codewords code l.state next)

  abbrev IsTold : Type 0
  IsTold = IsTrue (is_alarmed code l (length source.outputs) (map v g.machine.outputs))

  alarm : SomeNoCodeword g code l (length source.outputs) v → IsTold
  alarm some = sounds g built.is_machine built.covers code l (length source.outputs) (SomeNoCodeword g code l (length source.outputs)) tell built.outputs x stored faults v values cells few among some

  -- with right state words every output word is right, or a rail is up
  by_outputs : StateWordsAre code (λ w z. z ≡ encoded code (bits_at w s)) l.state (map v (latch_nets g.machine)) 0 → KeepsRight ⊎ IsTold
  by_outputs right = by_word (output_words_tell code coded.is_code d coded.is_distance y (map v g.machine.outputs) (length cells) (length source.outputs) small (enumerate_from 0 l.output)
      (fitting_words source code d l coded)
      (outputs_near g source code d detect radius l coded built x s y next stored faults v step values right cells among))
    where
      by_word : IsWholeAt code l (length source.outputs) y (map v g.machine.outputs) ⊎ SomeOutputWord (λ (w : ℕ × List ℕ). IsNoCodeword code w.1 (output_word code (length source.outputs) (map v g.machine.outputs) w)) (enumerate_from 0 l.output) → KeepsRight ⊎ IsTold
      by_word (inr some) = inr (alarm (inr some))
      by_word (inl whole) = inl (whole, stores_right g source code d detect radius l coded built x s y next stored faults v step values right cells among)

  -- Where shown state words are less than d places apart from the right ones, the cycle is right or a rail is up.
  pub whole_or_alarm : (n : ℕ) → n < d → StateWordsAre code (λ w z. apart z (encoded code (bits_at w s)) ≤ n) l.state (map v (latch_nets g.machine)) 0 → KeepsRight ⊎ IsTold
  whole_or_alarm n wide near = by_state (state_words_tell code coded.is_code d coded.is_distance s n wide l.state coded.state_words.lengths (map v (latch_nets g.machine)) 0 near)
    where
      by_state : StateWordsAre code (λ w z. z ≡ encoded code (bits_at w s)) l.state (map v (latch_nets g.machine)) 0 ⊎ SomeStateWord code (IsNoCodeword code) l.state (map v (latch_nets g.machine)) 0 → KeepsRight ⊎ IsTold
      by_state (inr some) = inr (alarm (inl some))
      by_state (inl right) = by_outputs right

  -- The same, with all that is said of few wrong bits.
  pub whole_and_few : (n : ℕ) → n < d → StateWordsAre code (λ w z. apart z (encoded code (bits_at w s)) ≤ n) l.state (map v (latch_nets g.machine)) 0
      → IsWholeAndFew g code l (length source.outputs) (length cells) y next v ⊎ IsTold
  whole_and_few n wide near = by_state (state_words_tell code coded.is_code d coded.is_distance s n wide l.state coded.state_words.lengths (map v (latch_nets g.machine)) 0 near)
    where
      with_few : StateWordsAre code (λ w z. z ≡ encoded code (bits_at w s)) l.state (map v (latch_nets g.machine)) 0 → KeepsRight ⊎ IsTold → IsWholeAndFew g code l (length source.outputs) (length cells) y next v ⊎ IsTold
      with_few right (inr up) = inr up
      with_few right (inl kept) = inl (record { whole = kept.0; few = wrong_in_few g source code d detect radius l coded built x s y next stored faults v step values right cells among })

      by_state : StateWordsAre code (λ w z. z ≡ encoded code (bits_at w s)) l.state (map v (latch_nets g.machine)) 0 ⊎ SomeStateWord code (IsNoCodeword code) l.state (map v (latch_nets g.machine)) 0
          → IsWholeAndFew g code l (length source.outputs) (length cells) y next v ⊎ IsTold
      by_state (inr some) = inr (alarm (inl some))
      by_state (inl right) = with_few right (by_outputs right)

-- Detection, in all cycles.
module _ (g : Guarded) (source : Machine) (code : Code) (d radius : ℕ) (l : Layout) (coded : IsCoded source code d l) (built : IsBuilt g source code detect radius l) (tell : RailsTell g code l (length source.outputs)) (wide : radius < d) (t : ℕ) (fits : t < d) (enough : t < g.rails) (faults : List NetFault) (blame : Blame t radius faults) where
  abbrev StaysRight : ℕ → Bits → Bits → Bits → Bits → Type 0
  StaysRight c y z next kept = IsWholeAt code l (length source.outputs) y z × IsRightBut g (blame.shown (suc c)) kept (codewords code l.state next)

  detecting_cycle : (c : ℕ) (x s y next stored : Bits) (v : ℕ → Bool) → GateStep source [] x s y next → GateValues g.machine stored x (forced_nets_at c faults) v
      → IsRightBut g (blame.shown c) stored (codewords code l.state s)
      → StaysRight c y (map v g.machine.outputs) next (map v (map (λ r. r.d) g.machine.latches)) ⊎ IsTrue (is_alarmed code l (length source.outputs) (map v g.machine.outputs))
  detecting_cycle c x s y next stored v step values but =
      pass_on
      (whole_or_alarm g source code d radius l coded built tell x s y next stored (forced_nets_at c faults) v step values (blame.now c) (blame.faulty_now c) small_now few (length (blame.shown c)) small
      (state_near g source code d detect radius l coded built x s y next stored (forced_nets_at c faults) v step values (blame.shown c) (blame.faulty_shown c) but))
    where
      small : length (blame.shown c) < d
      small = let h = blame.few_shown c in omega arith

      small_now : length (blame.now c) < d
      small_now = let h = blame.few_now c in omega arith

      few : length (blame.now c) < g.rails
      few = let h = blame.few_now c in omega arith

      pass_on : (IsWholeAt code l (length source.outputs) y (map v g.machine.outputs) × IsRightBut g (blame.now c) (map v (map (λ r. r.d) g.machine.latches)) (codewords code l.state next)) ⊎ IsTrue (is_alarmed code l (length source.outputs) (map v g.machine.outputs))
          → StaysRight c y (map v g.machine.outputs) next (map v (map (λ r. r.d) g.machine.latches)) ⊎ IsTrue (is_alarmed code l (length source.outputs) (map v g.machine.outputs))
      pass_on (inr up) = inr up
      pass_on (inl right) = inl (right.0, (λ k h none. right.1 k h (blame.later c (owned g (latch_bit k)) none)))

  module _ (xs : Stream) (states outs stored zs : List Bits) (source_run : GateRun source xs [] states outs) (guard_run : GateRun g.machine xs faults stored zs) where
    one_more_cycle : (c : ℕ) → c < length xs → IsRightBut g (blame.shown c) (at_cycle stored c) (codewords code l.state (at_cycle states c))
        → StaysRight c (at_cycle outs c) (at_cycle zs c) (at_cycle states (suc c)) (at_cycle stored (suc c)) ⊎ IsTrue (is_alarmed code l (length source.outputs) (at_cycle zs c))
    one_more_cycle c h but =
        let a = each_cycle (λ c x s y next. GateStep source [] x s y next) (map (λ r. r.init) source.latches) xs states outs source_run c h in
        let b = each_cycle (λ c x s y next. GateStep g.machine (forced_nets_at c faults) x s y next) (map (λ r. r.init) g.machine.latches) xs stored zs guard_run c h in
        let r = detecting_cycle c (at_cycle xs c) (at_cycle states c) (at_cycle outs c) (at_cycle states (suc c)) (at_cycle stored c) b.values a b.agrees but in
        subst (λ (kept : Bits). StaysRight c (at_cycle outs c) (at_cycle zs c) (at_cycle states (suc c)) kept ⊎ IsTrue (is_alarmed code l (length source.outputs) (at_cycle zs c))) b.stores
        (subst (λ (z : Bits). StaysRight c (at_cycle outs c) z (at_cycle states (suc c)) (map b.values (map (λ r. r.d) g.machine.latches)) ⊎ IsTrue (is_alarmed code l (length source.outputs) z)) b.outputs r)

    pub detected : IsDetected code l (length source.outputs) (length xs) outs zs
    detected =
        carry (length xs)
        (λ c. IsRightBut g (blame.shown c) (at_cycle stored c) (codewords code l.state (at_cycle states c)))
        (λ c. IsWholeAt code l (length source.outputs) (at_cycle outs c) (at_cycle zs c))
        (λ c. IsTrue (is_alarmed code l (length source.outputs) (at_cycle zs c)))
        (at_start g source code d detect radius l coded built states stored (blame.shown 0)
        (starts (λ c x s y next. GateStep source [] x s y next) 0 (map (λ r. r.init) source.latches) xs states outs source_run)
        (starts (λ c x s y next. GateStep g.machine (forced_nets_at c faults) x s y next) 0 (map (λ r. r.init) g.machine.latches) xs stored zs guard_run))
        one_more_cycle

-- Correction.
module _ (g : Guarded) (source : Machine) (code : Code) (d radius : ℕ) (l : Layout) (coded : IsCoded source code d l) (built : IsBuilt g source code correct radius l) (t : ℕ) (wide : 2 * t < d) (faults : List NetFault) (blame : Blame t radius faults) where
  -- a cycle in which no more than some cells are faulty
  pub record Corrects (c : ℕ) (y z next kept : Bits) : Type 0 where
    pub decoded : DecodesAt code l (length source.outputs) t y z
    pub whole : IsFaultless faults c → IsWholeAt code l (length source.outputs) y z
    pub repaired : IsFaultless faults c → IsEncodedAt code l next kept
    pub goes_on : IsRightBut g (blame.shown (suc c)) kept (codewords code l.state next)

  correcting_cycle : (c : ℕ) (x s y next stored : Bits) (v : ℕ → Bool) → GateStep source [] x s y next → GateValues g.machine stored x (forced_nets_at c faults) v
      → IsRightBut g (blame.shown c) stored (codewords code l.state s)
      → Corrects c y (map v g.machine.outputs) next (map v (map (λ r. r.d) g.machine.latches))
  correcting_cycle c x s y next stored v step values but = record {
    decoded = decode_each (enumerate_from 0 l.output) fit (outputs_near g source code d correct radius l coded built x s y next stored (forced_nets_at c faults) v step values near (blame.now c) (blame.faulty_now c));
    whole = λ free. each_passes _ _ (λ w h. none_apart _ _ h) (enumerate_from 0 l.output) (outputs_near g source code d correct radius l coded built x s y next stored (forced_nets_at c faults) v step values near [] (none_among free));
    repaired = λ free. nothing_wrong g (map v (map (λ r. r.d) g.machine.latches)) (codewords code l.state next) kept_long (right_long g source code d correct radius l coded built next)
        (stores_right g source code d correct radius l coded built x s y next stored (forced_nets_at c faults) v step values near [] (none_among free));
    goes_on = λ k h none. stores_right g source code d correct radius l coded built x s y next stored (forced_nets_at c faults) v step values near (blame.now c) (blame.faulty_now c) k h (blame.later c (owned g (latch_bit k)) none);
  }
    where
      near : StateWordsAre code (λ w z. apart z (encoded code (bits_at w s)) ≤ radius) l.state (map v (latch_nets g.machine)) 0
      near = words_weaker code (λ w z. apart z (encoded code (bits_at w s)) ≤ length (blame.shown c)) (λ w z. apart z (encoded code (bits_at w s)) ≤ radius) (λ w z h. let b = blame.few_shown c in omega arith) l.state (map v (latch_nets g.machine)) 0
          (state_near g source code d correct radius l coded built x s y next stored (forced_nets_at c faults) v step values (blame.shown c) (blame.faulty_shown c) but)

      kept_long : length (map v (map (λ r. r.d) g.machine.latches)) ≡ length g.machine.latches
      kept_long = length-map (map (λ r. r.d) g.machine.latches) v ∙ length-map g.machine.latches (λ r. r.d)

      none_among : IsFaultless faults c → AreAmong [] (forced_nets_at c faults)
      none_among free = subst (λ (fs : ForcedNets). AreAmong [] fs) (sym free) tt

      fit : AllByRecursion (λ (w : ℕ × List ℕ). (1 ≤ length w.1) × (length w.1 ≤ data_places code)) (enumerate_from 0 l.output)
      fit = each_numbered (λ (w : ℕ × List ℕ). (1 ≤ length w.1) × (length w.1 ≤ data_places code)) l.output (λ i e h. All-from_recursion (λ w. (1 ≤ length w) × (length w ≤ data_places code)) l.output coded.output_words.lengths i e h)

      few : length (blame.now c) ≤ t
      few = blame.few_now c

      decode_each : (ws : List (ℕ × List ℕ)) → AllByRecursion (λ (w : ℕ × List ℕ). (1 ≤ length w.1) × (length w.1 ≤ data_places code)) ws
          → AllByRecursion (λ (w : ℕ × List ℕ). apart (output_word code (length source.outputs) (map v g.machine.outputs) w) (encoded code (bits_at w.1 y)) ≤ length (blame.now c)) ws
          → AllByRecursion (λ (w : ℕ × List ℕ). Decodes code t (output_word code (length source.outputs) (map v g.machine.outputs) w) (bits_at w.1 y)) ws
      decode_each [] sizes all = tt
      decode_each (w ∷ ws) sizes all = (
        decodes_near code coded.is_code d coded.is_distance t wide (length w.1) sizes.0.1 _ (bits_at w.1 y) (length-map w.1 (λ i. get_or y i false)) (let h = all.0 in omega arith),
        decode_each ws sizes.1 all.1,
      )

  module _ (xs : Stream) (states outs stored zs : List Bits) (source_run : GateRun source xs [] states outs) (guard_run : GateRun g.machine xs faults stored zs) where
    corrected_cycle : (c : ℕ) → c < length xs → IsRightBut g (blame.shown c) (at_cycle stored c) (codewords code l.state (at_cycle states c))
        → Corrects c (at_cycle outs c) (at_cycle zs c) (at_cycle states (suc c)) (at_cycle stored (suc c))
    corrected_cycle c h but =
        let a = each_cycle (λ c x s y next. GateStep source [] x s y next) (map (λ r. r.init) source.latches) xs states outs source_run c h in
        let b = each_cycle (λ c x s y next. GateStep g.machine (forced_nets_at c faults) x s y next) (map (λ r. r.init) g.machine.latches) xs stored zs guard_run c h in
        let r = correcting_cycle c (at_cycle xs c) (at_cycle states c) (at_cycle outs c) (at_cycle states (suc c)) (at_cycle stored c) b.values a b.agrees but in
        subst (λ (kept : Bits). Corrects c (at_cycle outs c) (at_cycle zs c) (at_cycle states (suc c)) kept) b.stores
        (subst (λ (z : Bits). Corrects c (at_cycle outs c) z (at_cycle states (suc c)) (map b.values (map (λ r. r.d) g.machine.latches))) b.outputs r)

    right_but : (c : ℕ) → c ≤ length xs → IsRightBut g (blame.shown c) (at_cycle stored c) (codewords code l.state (at_cycle states c))
    right_but zero h =
        at_start g source code d correct radius l coded built states stored (blame.shown 0)
        (starts (λ c x s y next. GateStep source [] x s y next) 0 (map (λ r. r.init) source.latches) xs states outs source_run)
        (starts (λ c x s y next. GateStep g.machine (forced_nets_at c faults) x s y next) 0 (map (λ r. r.init) g.machine.latches) xs stored zs guard_run)
    right_but (suc c) h = let r = corrected_cycle c h (right_but c (omega arith)) in r.goes_on

    pub corrected : IsCorrected code l (length source.outputs) t (IsFaultless faults) (length xs) states outs stored zs
    corrected = record {
      decoded = λ c h. let r = corrected_cycle c h (right_but c (omega arith)) in r.decoded;
      whole = λ c h. let r = corrected_cycle c h (right_but c (omega arith)) in r.whole;
      repaired = λ c h. let r = corrected_cycle c h (right_but c (omega arith)) in r.repaired;
    }

-- Without faults. Rails may tell of any words that are bad, as far as codewords are not.
abbrev pub AreCodewords : Guarded → Code → Layout → ℕ → (ℕ → Bool) → Type 0
AreCodewords g code l p v =
    StateWordsAre code (λ w z. IsCodeword code (length w) z) l.state (map v (latch_nets g.machine)) 0
    × AllByRecursion (λ (w : ℕ × List ℕ). IsCodeword code (length w.1) (output_word code p (map v g.machine.outputs) w)) (enumerate_from 0 l.output)

module _ (g : Guarded) (source : Machine) (code : Code) (d : ℕ) (mode : Mode) (radius : ℕ) (l : Layout) (coded : IsCoded source code d l) (built : IsBuilt g source code mode radius l) (Bad : (ℕ → Bool) → Type 0) (tell : RailsTellOf g Bad) (not_bad : (v : ℕ → Bool) → AreCodewords g code l (length source.outputs) v → Bad v → ⊥) where
  record Faithful (y z next kept : Bits) : Type 0 where
    whole : IsWholeAt code l (length source.outputs) y z
    quiet : is_alarmed code l (length source.outputs) z ≡ false
    encoded_next : IsEncodedAt code l next kept

  faithful_cycle : (x s y next stored : Bits) (v : ℕ → Bool) → GateStep source [] x s y next → GateValues g.machine stored x [] v
      → IsEncodedAt code l s stored → Faithful y (map v g.machine.outputs) next (map v (map (λ r. r.d) g.machine.latches))
  faithful_cycle x s y next stored v step values kept = record {
    whole = whole;
    quiet = stays_quiet g built.is_machine built.covers code l (length source.outputs) Bad tell built.outputs x stored [] v values refl all_right;
    encoded_next = none_apart _ _ (stores_near g source code d mode radius l coded built x s y next stored [] v step values near [] tt);
  }
    where
      right : StateWordsAre code (λ w z. z ≡ encoded code (bits_at w s)) l.state (map v (latch_nets g.machine)) 0
      right = words_weaker code (λ w z. apart z (encoded code (bits_at w s)) ≤ 0) (λ w z. z ≡ encoded code (bits_at w s)) (λ w z h. none_apart _ _ h) l.state (map v (latch_nets g.machine)) 0
          (state_near g source code d mode radius l coded built x s y next stored [] v step values [] tt (λ k h none. ap (λ (bs : Bits). get_or bs k false) kept))

      near : StateWordsAre code (IsNear code mode radius s) l.state (map v (latch_nets g.machine)) 0
      near = words_weaker code (λ w z. z ≡ encoded code (bits_at w s)) (IsNear code mode radius s) (λ w z e. right_is_near code mode radius s w z e) l.state (map v (latch_nets g.machine)) 0 right

      whole : IsWholeAt code l (length source.outputs) y (map v g.machine.outputs)
      whole = each_passes _ _ (λ w h. none_apart _ _ h) (enumerate_from 0 l.output) (outputs_near g source code d mode radius l coded built x s y next stored [] v step values near [] tt)

      all_right : Bad v → ⊥
      all_right bad = not_bad v (
        words_weaker code (λ w z. z ≡ encoded code (bits_at w s)) (λ w z. IsCodeword code (length w) z) (λ w z e. (bits_at w s, length-map w (λ i. get_or s i false), e)) l.state (map v (latch_nets g.machine)) 0 right,
        each_passes (λ (w : ℕ × List ℕ). output_word code (length source.outputs) (map v g.machine.outputs) w ≡ encoded code (bits_at w.1 y)) _ (λ w e. (bits_at w.1 y, length-map w.1 (λ i. get_or y i false), e)) (enumerate_from 0 l.output) whole,
      ) bad

  module _ (xs : Stream) (states outs stored zs : List Bits) (source_run : GateRun source xs [] states outs) (guard_run : GateRun g.machine xs [] stored zs) where
    free_cycle : (c : ℕ) → c < length xs → IsEncodedAt code l (at_cycle states c) (at_cycle stored c)
        → Faithful (at_cycle outs c) (at_cycle zs c) (at_cycle states (suc c)) (at_cycle stored (suc c))
    free_cycle c h kept =
        let a = each_cycle (λ c x s y next. GateStep source [] x s y next) (map (λ r. r.init) source.latches) xs states outs source_run c h in
        let b = each_cycle (λ c x s y next. GateStep g.machine [] x s y next) (map (λ r. r.init) g.machine.latches) xs stored zs guard_run c h in
        let r = faithful_cycle (at_cycle xs c) (at_cycle states c) (at_cycle outs c) (at_cycle states (suc c)) (at_cycle stored c) b.values a b.agrees kept in
        subst (λ (kept : Bits). Faithful (at_cycle outs c) (at_cycle zs c) (at_cycle states (suc c)) kept) b.stores
        (subst (λ (z : Bits). Faithful (at_cycle outs c) z (at_cycle states (suc c)) (map b.values (map (λ r. r.d) g.machine.latches))) b.outputs r)

    encoded_at : (c : ℕ) → c ≤ length xs → IsEncodedAt code l (at_cycle states c) (at_cycle stored c)
    encoded_at zero h =
        starts (λ c x s y next. GateStep g.machine [] x s y next) 0 (map (λ r. r.init) g.machine.latches) xs stored zs guard_run
        ∙ (built.inits ∙ ap (λ (s : Bits). codewords code l.state s) (sym (starts (λ c x s y next. GateStep source [] x s y next) 0 (map (λ r. r.init) source.latches) xs states outs source_run)))
    encoded_at (suc c) h = let r = free_cycle c h (encoded_at c (omega arith)) in r.encoded_next

    pub quiet_run : IsQuiet code l (length source.outputs) (length xs) states outs stored zs
    quiet_run = record {
      whole = λ c h. let r = free_cycle c h (encoded_at c (omega arith)) in r.whole;
      no_alarm = λ c h. let r = free_cycle c h (encoded_at c (omega arith)) in r.quiet;
      kept = encoded_at;
    }

pub codewords_are_not_bad : (g : Guarded) (code : Code) (l : Layout) (p : ℕ) (v : ℕ → Bool) → AreCodewords g code l p v → SomeNoCodeword g code l p v → ⊥
codewords_are_not_bad g code l p v are (inl some) = no_word code (λ w z. IsCodeword code (length w) z) l.state (map v (latch_nets g.machine)) 0 are.0 some
codewords_are_not_bad g code l p v are (inr some) = no_output_word (λ (w : ℕ × List ℕ). IsCodeword code (length w.1) (output_word code p (map v g.machine.outputs) w)) (enumerate_from 0 l.output) are.1 some
