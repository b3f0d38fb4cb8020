-- What holds of a guard's gate list holds of its text.
use Rattle.std.proofs.Common.{◌≡◌, refl, sym, ◌∙◌, ap, subst, ℕ, zero, suc, ◌+◌, ◌<◌, ◌≤◌, List, [], ◌∷◌, length, map, filter, Bool, true, false, cond, not, ◌==◌, Some, arith, Contains}
use Rattle.std.specs.Prelude.{IsSomeAnd}
use Rattle.std.proofs.lemmas.List.{length-map}
use Rattle.std.specs.List.{AllByRecursion}
use Rattle.std.specs.Cmp.Lexicographic.{bytes_decides}
use Rattle.netlist_spec.specs.Netlist.{Name, same_name, Model, File}
use Rattle.netlist_spec.specs.Covers.{Library}
use Rattle.netlist_spec.specs.Reads.{first_appearances}
use Rattle.netlist_spec.specs.Models.{main_model, init_bits}
use Rattle.netlist_spec.specs.SourceRun.{Bits, Stream, CycleStep, RunsFrom, SourceCycle, SourceRun}
use Rattle.netlist_spec.specs.Runs.{Fault, faults_at, IsWithin, IsSteady, IsMoving}
use Rattle.netlist_spec.specs.Gates.{Machine, ForcedNets, NetFault, forced_nets_at, GateStep, GateRun}
use Rattle.netlist_spec.specs.Elaborated.{IsMachineOf}
use Rattle.guard_spec.specs.Codes.{Code}
use Rattle.guard_spec.specs.Words.{Layout}
use Rattle.guard_spec.specs.Contained.{at_cycle, DecodesAt, IsQuiet, IsDetected, IsCorrected, IsFaithful, Detects, Corrects}
use Rattle.guard_spec.specs.Dual.{DecodesOrTells, ContainsTwice}
use Rattle.containment.specs.Nets.{AreWithin, AreSteady, AreMoving, IsFaultless}
use Rattle.containment.specs.OnGates.{IsFaithfulOnGates, DetectsOnGates, CorrectsOnGates}
use Rattle.containment.specs.Written.{net_faults, IsWritten, StandsForGates}
use Rattle.containment.specs.Far.{ContainsTwiceOnGates}
use Rattle.containment.proofs.Cycle.{each_passes}
use Rattle.guard_spec.specs.Regions.{Guarded}

-- Fault lists.

module _ (net : Name → ℕ) where
  one_fault : (a : Fault) (rest : List Fault) (more : List NetFault) (b : Bool) → map {B = ℕ × Bool} (λ a. (a.cell, a.bit)) more ≡ map {B = ℕ × Bool} (λ a. (net a.cell, a.bit)) rest
      → map {B = ℕ × Bool} (λ a. (a.cell, a.bit)) (cond b (record { cycle = a.cycle; cell = net a.cell; bit = a.bit } ∷ more) more) ≡ map {B = ℕ × Bool} (λ a. (net a.cell, a.bit)) (cond b (a ∷ rest) rest)
  one_fault a rest more true e = ap (λ (fs : ForcedNets). (net a.cell, a.bit) ∷ fs) e
  one_fault a rest more false e = e

  pub same_faults : (c : ℕ) (faults : List Fault) → forced_nets_at c (net_faults net faults) ≡ map {B = ℕ × Bool} (λ a. (net a.cell, a.bit)) (faults_at c faults)
  same_faults c [] = refl
  same_faults c (a ∷ faults) = one_fault a (faults_at c faults) (filter (λ a. a.cycle == c) (net_faults net faults)) (a.cycle == c) (same_faults c faults)

  pub no_faults : (c : ℕ) (faults : List Fault) → faults_at c faults ≡ [] → IsFaultless (net_faults net faults) c
  no_faults c faults free = same_faults c faults ∙ ap (λ (fs : List Fault). map {B = ℕ × Bool} (λ a. (net a.cell, a.bit)) fs) free

  pub within_nets : (t : ℕ) (faults : List Fault) → IsWithin t faults → AreWithin t (net_faults net faults)
  within_nets t faults w = record {
    cycle = w.cycle;
    one_cycle = each faults w.one_cycle;
    few = let e = length-map {B = NetFault} faults (λ a. record { cycle = a.cycle; cell = net a.cell; bit = a.bit }) in let h = w.few in omega arith;
  }
    where
      each : (fs : List Fault) → AllByRecursion (λ a. a.cycle ≡ w.cycle) fs → AllByRecursion (λ a. a.cycle ≡ w.cycle) (net_faults net fs)
      each [] a = tt
      each (f ∷ fs) a = (a.0, each fs a.1)

  pub moving_nets : (t : ℕ) (faults : List Fault) → IsMoving t faults → AreMoving t (net_faults net faults)
  moving_nets t faults m c =
      let e = ap (λ (fs : ForcedNets). length fs) (same_faults c faults) in
      let k = length-map {B = ℕ × Bool} (faults_at c faults) (λ a. (net a.cell, a.bit)) in
      let h = m c in
      omega arith

  -- a name that is left out as a second appearance has the net of the first
  kept : (n : Name) (ns : List Name) (y : ℕ) → Contains (map net ns) y → Contains (net n ∷ map net (filter (λ m. not (same_name n m)) ns)) y
  kept n [] y (k, inside, e) = absurd (omega arith)
  kept n (m ∷ ns) y (zero, inside, e) = by_test (same_name n m) refl
    where
      by_test : (b : Bool) → same_name n m ≡ b → Contains (net n ∷ map net (cond (not b) (m ∷ filter (λ m. not (same_name n m)) ns) (filter (λ m. not (same_name n m)) ns))) y
      by_test true same = (0, omega arith, ap net ((bytes_decides n m).0 same) ∙ e)
      by_test false other = (1, omega arith, e)
  kept n (m ∷ ns) y (suc k, inside, e) = by_test (not (same_name n m)) (kept n ns y (k, omega arith, e))
    where
      by_test : (b : Bool) → Contains (net n ∷ map net (filter (λ m. not (same_name n m)) ns)) y → Contains (net n ∷ map net (cond b (m ∷ filter (λ m. not (same_name n m)) ns) (filter (λ m. not (same_name n m)) ns))) y
      by_test false h = h
      by_test true (zero, inside', e') = (0, omega arith, e')
      by_test true (suc j, inside', e') = (suc (suc j), omega arith, e')

  appears : (ns : List Name) → AllByRecursion (λ n. Contains (map net (first_appearances ns)) (net n)) ns
  appears [] = tt
  appears (n ∷ ns) = (
    (0, omega arith, refl),
    each_passes _ _ (λ m h. kept n (first_appearances ns) (net m) h) ns (appears ns),
  )

  pub steady_nets : (t : ℕ) (faults : List Fault) → IsSteady t faults → AreSteady t (net_faults net faults)
  steady_nets t faults few = record {
    cells = map net (first_appearances (map (λ a. a.cell) faults));
    few = let e = length-map (first_appearances (map (λ a. a.cell) faults)) net in omega arith;
    named = each faults (appears (map (λ a. a.cell) faults));
  }
    where
      each : (fs : List Fault) → AllByRecursion (λ n. Contains (map net (first_appearances (map (λ a. a.cell) faults))) (net n)) (map (λ a. a.cell) fs) → AllByRecursion (λ a. Contains (map net (first_appearances (map (λ a. a.cell) faults))) a.cell) (net_faults net fs)
      each [] a = tt
      each (f ∷ fs) a = (a.0, each fs a.1)

-- Runs.

pub runs_by : (step other : CycleStep) → ((c : ℕ) (x s y next : Bits) → step c x s y next → other c x s y next) → (c : ℕ) (s : Bits) (xs : Stream) (states outs : List Bits) → RunsFrom step c s xs states outs → RunsFrom other c s xs states outs
runs_by step other f c s [] [] outs r = absurd r
runs_by step other f c s [] (now ∷ []) [] r = r
runs_by step other f c s [] (now ∷ []) (y ∷ outs) r = absurd r
runs_by step other f c s [] (now ∷ k ∷ states) outs r = absurd r
runs_by step other f c s (x ∷ xs) [] outs r = absurd r
runs_by step other f c s (x ∷ xs) (now ∷ states) [] r = absurd r
runs_by step other f c s (x ∷ xs) (now ∷ states) (y ∷ outs) r = (r.0, r.1, f c x s y r.1 r.2, runs_by step other f (c + 1) r.1 xs states outs r.3)

-- the source's runs are runs of its machine
pub source_gate_run : (file : File) (library : Library) (m : Model) (machine : Machine) → main_model file ≡ Some m → IsMachineOf file library m machine → (xs : Stream) (states outs : List Bits) → SourceRun file library xs states outs → GateRun machine xs [] states outs
source_gate_run file library m machine is_main means xs states outs r =
    subst (λ (s : Bits). RunsFrom (λ c x s y next. GateStep machine [] x s y next) 0 s xs states outs) (sym means.inits)
    (runs_by (λ c x s y next. SourceCycle file library m x s y next) (λ c x s y next. GateStep machine [] x s y next) (λ c x s y next step. (means.steps x s y next).0 step) 0 (init_bits m) xs states outs
    (subst (λ ms. IsSomeAnd ms (λ m. RunsFrom (λ c x s y next. SourceCycle file library m x s y next) 0 (init_bits m) xs states outs)) is_main r))

module _ (file source : File) (library : Library) (m : Model) (machine : Machine) (is_main : main_model source ≡ Some m) (means : IsMachineOf source library m machine) (g : Guarded) (net : Name → ℕ) (written : IsWritten file g.machine net) (code : Code) (l : Layout) where
  pub faithful_text : IsFaithfulOnGates g machine code l → IsFaithful file source library m code l
  faithful_text faithful xs states outs stored zs source_run free_run =
      subst (λ (p : ℕ). IsQuiet code l p (length xs) states outs stored zs) means.outputs
      (faithful xs states outs stored zs (source_gate_run source library m machine is_main means xs states outs source_run) (written.runs xs [] stored zs free_run))

  pub detecting_text : (allowed : List Fault → Type 0) (on_nets : List NetFault → Type 0) → ((faults : List Fault) → allowed faults → on_nets (net_faults net faults)) → DetectsOnGates g machine code l on_nets → Detects file source library m code l allowed
  detecting_text allowed on_nets carries detects xs faults states outs stored zs is_list fit source_run guard_run =
      subst (λ (p : ℕ). IsDetected code l p (length xs) outs zs) means.outputs
      (detects xs (net_faults net faults) states outs stored zs (carries faults fit) (source_gate_run source library m machine is_main means xs states outs source_run) (written.runs xs faults stored zs guard_run))

  pub correcting_text : (t : ℕ) (allowed : List Fault → Type 0) (on_nets : List NetFault → Type 0) → ((faults : List Fault) → allowed faults → on_nets (net_faults net faults)) → CorrectsOnGates g machine code l t on_nets → Corrects file source library m code l t allowed
  correcting_text t allowed on_nets carries corrects xs faults states outs stored zs is_list fit source_run guard_run =
      let c = subst (λ (p : ℕ). IsCorrected code l p t (IsFaultless (net_faults net faults)) (length xs) states outs stored zs) means.outputs
      (corrects xs (net_faults net faults) states outs stored zs (carries faults fit) (source_gate_run source library m machine is_main means xs states outs source_run) (written.runs xs faults stored zs guard_run)) in
      record {
        decoded = c.decoded;
        whole = λ i h free. c.whole i h (no_faults net i faults free);
        repaired = λ i h free. c.repaired i h (no_faults net i faults free);
      }

few_appearances : (ns : List Name) → length (first_appearances ns) ≤ length ns
few_appearances [] = omega arith
few_appearances (n ∷ ns) =
    let a = few_appearances ns in
    let b = few_kept (λ m. not (same_name n m)) (first_appearances ns) in
    omega arith
  where
    few_kept : (p : Name → Bool) (ms : List Name) → length (filter p ms) ≤ length ms
    few_kept p [] = omega arith
    few_kept p (m ∷ ms) = by_test (p m) (few_kept p ms)
      where
        by_test : (b : Bool) → length (filter p ms) ≤ length ms → length (cond b (m ∷ filter p ms) (filter p ms)) ≤ suc (length ms)
        by_test true h = omega arith
        by_test false h = omega arith

-- A list within one cycle names few cells.
pub within_is_steady_list : (t : ℕ) (faults : List Fault) → IsWithin t faults → IsSteady t faults
within_is_steady_list t faults w =
    let a = few_appearances (map (λ a. a.cell) faults) in
    let b = length-map faults (λ (a : Fault). a.cell) in
    let h = w.few in
    omega arith

-- The text corrects few faults and tells of more where its gate list does.
pub twice_text : (file source : File) (library : Library) (m : Model) (machine : Machine) (g : Guarded) → StandsForGates file source library m machine g → (code : Code) (l : Layout) (t s : ℕ) → ContainsTwiceOnGates g machine code l t s → ContainsTwice file source library m code l t s
twice_text file source library m machine g text code l t s twice = record {
  corrects = λ xs faults states outs stored zs is_list steady source_run guard_run.
      subst (λ (p : ℕ). (c : ℕ) → c < length xs → DecodesAt code l p t (at_cycle outs c) (at_cycle zs c)) text.means.outputs
      (twice.corrects xs (net_faults text.net faults) states outs stored zs (steady_nets text.net t faults steady) (source_gate_run source library m machine text.is_main text.means xs states outs source_run) (text.written.runs xs faults stored zs guard_run));
  detects = λ xs faults states outs stored zs is_list steady source_run guard_run.
      subst (λ (p : ℕ). DecodesOrTells code l p t (length xs) outs zs) text.means.outputs
      (twice.detects xs (net_faults text.net faults) states outs stored zs (steady_nets text.net s faults steady) (source_gate_run source library m machine text.is_main text.means xs states outs source_run) (text.written.runs xs faults stored zs guard_run));
}
