-- A guard has a run on each stream on which its source has one, under each fault list.
use Rattle.std.proofs.Common.{◌≡◌, refl, sym, ◌∙◌, ap, ap₂, subst, ℕ, suc, ◌+◌, ◌<◌, ◌≤◌, List, [], ◌∷◌, ◌++◌, length, map, filter, Bool, true, false, not, ◌&&◌, ◌||◌, Option, None, Some, arith, IsTrue, cond, count_by, get_or, ◌==◌}
use Rattle.std.specs.Bool.{beq}
use Rattle.std.specs.Cmp.Lexicographic.{bytes_decides}
use Rattle.std.specs.Prelude.{IsSomeAnd}
use Rattle.std.proofs.lemmas.List.{length-map}
use Rattle.std.proofs.lemmas.List.FromFn.{length-range_with_len}
use Rattle.std.specs.List.{AllByRecursion, flat_map, enumerate_from}
use Rattle.netlist_spec.specs.Netlist.{Name, Clocking, plain, edge, same_name, stands_in, Model, File}
use Rattle.netlist_spec.specs.Covers.{Library}
use Rattle.netlist_spec.specs.Reads.{control_nets}
use Rattle.netlist_spec.specs.Placed.{port_names}
use Rattle.netlist_spec.specs.Models.{main_model, Latch, latches_of, latch_outputs, first_model, clock_nets, data_inputs, init_bits}
use Rattle.netlist_spec.specs.SourceRun.{Bits, Stream, RunsFrom, SourceCycle, SourceRun}
use Rattle.netlist_spec.specs.Sound.{IsSound, is_clocked}
use Rattle.netlist_spec.specs.Models.{same_clocking, first_clocking, is_declared}
use Rattle.netlist_spec.specs.Runs.{Fault, Run}
use Rattle.netlist_spec.specs.Ordered.{IsOrdered}
use Rattle.guard_spec.specs.Codes.{Code, encoded, checks_of}
use Rattle.guard_spec.specs.Words.{Settings, Words, Layout, AreWords, all_numbers, bits_at}
use Rattle.guard_spec.specs.Shaped.{latch_for, latches_for, guard_latches, HasShape, IsShapedBy}
use Rattle.netlist_spec.proofs.SomeRun.{IsWide, some_run}

second : (a b : Bool) → (a && b) ≡ true → b ≡ true
second true b h = h
second false b h = cc h

first : (a b : Bool) → (a && b) ≡ true → a ≡ true
first true b h = refl
first false b h = h

-- whether a name stands in two lists
stands_in_both : (n : Name) (xs ys : List Name) → stands_in n (xs ++ ys) ≡ (stands_in n xs || stands_in n ys)
stands_in_both n [] ys = refl
stands_in_both n (x ∷ xs) ys = ap (λ (b : Bool). same_name n x || b) (stands_in_both n xs ys) ∙ sym (grouped (same_name n x) (stands_in n xs) (stands_in n ys))
  where
    grouped : (a b c : Bool) → ((a || b) || c) ≡ (a || (b || c))
    grouped true b c = refl
    grouped false b c = refl

same_twice : (a : Bool) → (a || a) ≡ a
same_twice true = refl
same_twice false = refl

with_none : (a : Bool) → (a || false) ≡ a
with_none true = refl
with_none false = refl

-- Where all latches have the control nets of one clocking, those are the control nets.
abbrev controls_of : List Latch → List Name
controls_of ls = flat_map (λ l. control_nets l.clocking) ls

one_clocking : (n : Name) (c : Clocking) (l : Latch) (ls : List Latch) → AllByRecursion (λ l. control_nets l.clocking ≡ control_nets c) (l ∷ ls) → stands_in n (controls_of (l ∷ ls)) ≡ stands_in n (control_nets c)
one_clocking n c l [] all =
    stands_in_both n (control_nets l.clocking) [] ∙ (with_none (stands_in n (control_nets l.clocking)) ∙ ap (stands_in n) all.0)
one_clocking n c l (k ∷ ks) all =
    stands_in_both n (control_nets l.clocking) (controls_of (k ∷ ks))
    ∙ (ap₂ (λ (a b : Bool). a || b) (ap (stands_in n) all.0) (one_clocking n c k ks all.1) ∙ same_twice (stands_in n (control_nets c)))

no_control : (n : Name) (c : Clocking) → control_nets c ≡ [] → (ls : List Latch) → AllByRecursion (λ l. control_nets l.clocking ≡ control_nets c) ls → stands_in n (controls_of ls) ≡ false
no_control n c none [] all = refl
no_control n c none (l ∷ ls) all = one_clocking n c l ls all ∙ ap (stands_in n) none

-- the latches of a guard have this clocking
each_placed : (c : Clocking) (w : ℕ) (places : List (ℕ × Bool)) → AllByRecursion (λ l. control_nets l.clocking ≡ control_nets c) (map (latch_for c w) places)
each_placed c w [] = tt
each_placed c w (p ∷ ps) = (refl, each_placed c w ps)

all_both : {A : Type 0} (P : A → Type 0) (xs ys : List A) → AllByRecursion P xs → AllByRecursion P ys → AllByRecursion P (xs ++ ys)
all_both P [] ys a b = b
all_both P (x ∷ xs) ys a b = (a.0, all_both P xs ys a.1 b)

each_clocked : (code : Code) (c : Clocking) (inits : Bits) (k : ℕ) (ws : Words) → AllByRecursion (λ l. control_nets l.clocking ≡ control_nets c) (flat_map (latches_for code c inits) (enumerate_from k ws))
each_clocked code c inits k [] = tt
each_clocked code c inits k (w ∷ ws) = all_both (λ l. control_nets l.clocking ≡ control_nets c) _ _ (each_placed c k (enumerate_from 0 (encoded code (bits_at w inits)))) (each_clocked code c inits (k + 1) ws)

append_long : {A : Type 0} (xs ys : List A) → length (xs ++ ys) ≡ length xs + length ys
append_long [] ys = omega arith
append_long (x ∷ xs) ys = let e = append_long xs ys in omega arith

numbered_long : {A : Type 0} (k : ℕ) (xs : List A) → length (enumerate_from k xs) ≡ length xs
numbered_long k [] = refl
numbered_long k (x ∷ xs) = ap suc (numbered_long (k + 1) xs)

-- there are no fewer latches than numbers in the words
latches_for_words : (code : Code) (c : Clocking) (inits : Bits) (k : ℕ) (ws : Words) → length (all_numbers ws) ≤ length (flat_map (latches_for code c inits) (enumerate_from k ws))
latches_for_words code c inits k [] = omega arith
latches_for_words code c inits k (w ∷ ws) =
    let a = append_long w (all_numbers ws) in
    let b = append_long (latches_for code c inits (k, w)) (flat_map (latches_for code c inits) (enumerate_from (k + 1) ws)) in
    let e = latches_for_words code c inits (k + 1) ws in
    let f : length (latches_for code c inits (k, w)) ≡ length (encoded code (bits_at w inits)) = length-map (enumerate_from 0 (encoded code (bits_at w inits))) (latch_for c k) ∙ numbered_long 0 (encoded code (bits_at w inits)) in
    let h = append_long (bits_at w inits) (checks_of code (bits_at w inits)) in
    let j = length-map w (λ i. get_or inits i false) in
    omega arith

at_least_one : (p : ℕ → Bool) (ks : List ℕ) → count_by p ks ≡ 1 → 0 < length ks
at_least_one p [] e = absurd (omega arith)
at_least_one p (k ∷ ks) e = omega arith

-- where there is a net, there is a number in the words
some_number : (k : ℕ) (nets : List Name) (named : Option (List (List Name))) (ws : Words) → 0 < length nets → AreWords k nets named ws → 0 < length (all_numbers ws)
some_number k nets None ws some are = let e = ap (λ (ns : List ℕ). length ns) are.0 in let f = length-range_with_len 0 (length nets) in omega arith
some_number k nets (Some names) ws some are = at_least_one (λ j. j == 0) (all_numbers ws) (are.1.each_once 0 some)

same_controls : (c d : Clocking) → same_clocking c d ≡ true → control_nets c ≡ control_nets d
same_controls plain plain h = refl
same_controls plain (edge s d) h = cc h
same_controls (edge r c) plain h = cc h
same_controls (edge r None) (edge s None) h = refl
same_controls (edge r None) (edge s (Some b)) h = cc (second (beq r s) false h)
same_controls (edge r (Some a)) (edge s None) h = cc (second (beq r s) false h)
same_controls (edge r (Some a)) (edge s (Some b)) h = ap (λ (n : Name). n ∷ []) ((bytes_decides a b).0 (second (beq r s) (same_name a b) h))

-- the same control nets, whether or not there are latches
controls_same : (n : Name) (ls gs : List Latch) → AllByRecursion (λ l. control_nets l.clocking ≡ control_nets (first_clocking ls)) ls → AllByRecursion (λ l. control_nets l.clocking ≡ control_nets (first_clocking ls)) gs
    → (0 < length ls → 0 < length gs) → stands_in n (controls_of gs) ≡ stands_in n (controls_of ls)
controls_same n [] gs all others some = no_control n plain refl gs others
controls_same n (l ∷ ls) [] all others some = absurd (let h = some (omega arith) in omega arith)
controls_same n (l ∷ ls) (k ∷ ks) all others some = one_clocking n l.clocking k ks others ∙ sym (one_clocking n l.clocking l ls all)

clocked_alike : (m : Model) (ls : List Latch) → AllByRecursion (λ l. IsTrue (is_clocked m l)) ls → AllByRecursion (λ l. control_nets l.clocking ≡ control_nets (first_clocking (latches_of m))) ls
clocked_alike m [] all = tt
clocked_alike m (l ∷ ls) all = (same_controls l.clocking (first_clocking (latches_of m)) (first (same_clocking l.clocking (first_clocking (latches_of m))) (is_declared m l.clocking) all.0), clocked_alike m ls all.1)

filter_same : (p q : Name → Bool) (ns : List Name) → ((n : Name) → p n ≡ q n) → filter p ns ≡ filter q ns
filter_same p q [] h = refl
filter_same p q (n ∷ ns) h = ap₂ (λ (b : Bool) (rest : List Name). cond b (n ∷ rest) rest) (h n) (filter_same p q ns h)

module _ (g m : Model) (code : Code) (l : Layout) (rails : ℕ) (shape : HasShape g m code l rails) (clocked : AllByRecursion (λ x. IsTrue (is_clocked m x)) (latches_of m)) (k : ℕ) (named : Option (List (List Name))) (are : AreWords k (latch_outputs m) named l.state) where
  same_clock_nets : (n : Name) → stands_in n (clock_nets g) ≡ stands_in n (clock_nets m)
  same_clock_nets n =
      stands_in_both n (port_names g.clocks) (controls_of (latches_of g))
      ∙ (ap₂ (λ (a b : Bool). a || b) (ap (stands_in n) shape.clocks)
      (ap (λ (ls : List Latch). stands_in n (controls_of ls)) shape.latches
      ∙ controls_same n (latches_of m) (guard_latches code (first_clocking (latches_of m)) (init_bits m) l.state) (clocked_alike m (latches_of m) clocked) (each_clocked code (first_clocking (latches_of m)) (init_bits m) 0 l.state) some)
      ∙ sym (stands_in_both n (port_names m.clocks) (controls_of (latches_of m))))
    where
      some : 0 < length (latches_of m) → 0 < length (guard_latches code (first_clocking (latches_of m)) (init_bits m) l.state)
      some h =
          let a = latches_for_words code (first_clocking (latches_of m)) (init_bits m) 0 l.state in
          let b = some_number k (latch_outputs m) named l.state (let e = length-map (latches_of m) (λ (x : Latch). x.q) in omega arith) are in
          omega arith

  -- A guard has the data inputs of its source.
  pub same_data_inputs : data_inputs g ≡ data_inputs m
  same_data_inputs =
      filter_same (λ n. not (stands_in n (clock_nets g))) (λ n. not (stands_in n (clock_nets m))) (port_names g.inputs) (λ n. ap not (same_clock_nets n))
      ∙ ap (λ (ns : List Name). filter (λ n. not (stands_in n (clock_nets m))) ns) shape.inputs

-- each cycle of a stream on which a source has a run has a bit for each data input
as_wide : (file : File) (library : Library) (m : Model) (k : ℕ) (c : ℕ) (s : Bits) (xs : Stream) (states outs : List Bits) → length (data_inputs m) ≡ k → RunsFrom (λ c x s y next. SourceCycle file library m x s y next) c s xs states outs → AllByRecursion (λ x. k ≡ length x) xs
as_wide file library m k c s [] states outs e r = tt
as_wide file library m k c s (x ∷ xs) [] outs e r = absurd r
as_wide file library m k c s (x ∷ xs) (now ∷ states) [] e r = absurd r
as_wide file library m k c s (x ∷ xs) (now ∷ states) (y ∷ outs) e r = (
  sym e ∙ (sym (length-map (data_inputs m) r.2.values) ∙ ap (λ (bs : Bits). length bs) r.2.inputs),
  as_wide file library m k (c + 1) r.1 xs states outs e r.3,
)

same_main : (o : Option Model) (a b : Model) → o ≡ Some a → o ≡ Some b → a ≡ b
same_main o a b e f = let both : Some a ≡ Some b = sym e ∙ f in cc both

-- An ordered file with the shape of a guard has a run.
pub guard_runs : (g source : File) (s : Settings) (rails : ℕ) (Size : Model → Layout → ℕ → Type 0) → IsOrdered g → IsShapedBy g source s rails Size → IsSound source s.library
    → (xs : Stream) (faults : List Fault) (states outs : List Bits) → SourceRun source s.library xs states outs → (stored zs : List Bits) × Run g xs faults stored zs
guard_runs g source s rails Size ordered shaped sound xs faults states outs run =
    let m = shaped.source_model in
    let gm = shaped.guard_model in
    let main = sound.main shaped.source_model shaped.is_source_model in
    let same = same_data_inputs shaped.guard_model shaped.source_model s.code shaped.layout _ shaped.shape main.clocking _ s.state_words shaped.is_layout.state in
    let wide = as_wide source s.library shaped.source_model (length (data_inputs shaped.guard_model)) 0 (init_bits shaped.source_model) xs states outs (ap (λ (ns : List Name). length ns) (sym same))
    (subst (λ o. IsSomeAnd o (λ m. RunsFrom (λ c x now y next. SourceCycle source s.library m x now y next) 0 (init_bits m) xs states outs)) shaped.is_source_model run) in
    some_run g ordered xs faults (subst (λ (k : Model). IsWide k xs) (same_main (main_model g) gm ordered.model shaped.is_guard_model (ap first_model ordered.one_model)) wide)
