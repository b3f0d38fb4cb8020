-- From a gate list that was built for a source to a guard of the source's file.
use Rattle.std.proofs.Common.{◌≡◌, refl, subst, ℕ, ◌+◌, ◌*◌, ◌<◌, ◌≤◌, List, length, arith}
use Rattle.netlist_spec.specs.Netlist.{Model, File}
use Rattle.netlist_spec.specs.Gates.{Machine}
use Rattle.guard_spec.specs.Codes.{Mode, detect, correct, needed_distance, rail_count}
use Rattle.guard_spec.specs.Words.{Settings, Layout}
use Rattle.netlist_spec.specs.Runs.{Fault, IsSteady, IsMoving}
use Rattle.guard_spec.specs.Contained.{Corrects}
use Rattle.guard_spec.specs.Containment.{ContainsFaults, IsGuard, IsGuardFor}
use Rattle.containment.specs.Nets.{AreSteady, AreMoving}
use Rattle.containment.specs.Built.{IsCoded, IsBuilt}
use Rattle.containment.specs.Written.{StandsForGates, IsBuiltText, IsBuiltDualText}
use Rattle.containment.proofs.AllCycles.{detected, corrected, quiet_run, codewords_are_not_bad}
use Rattle.containment.proofs.Dual.{codewords_are_not_far, contains_both}
use Rattle.containment.proofs.Layouts.{coded_by_layout}
use Rattle.containment.proofs.Blamed.{steady_blame, moving_blame}
use Rattle.containment.proofs.Text.{faithful_text, twice_text, detecting_text, correcting_text, steady_nets, moving_nets}
use Rattle.guard_spec.specs.Regions.{Guarded}
use Rattle.guard_spec.specs.Rails.{IsFarWord, RailsTell, SomeNoCodeword, SomeFarWord, RailsTellIn}
use Rattle.guard_spec.specs.Dual.{IsDualGuard}

-- A set of at most t fixed cells does no harm in either mode.
pub contains_steady : (mode : Mode) (t : ℕ) (file source : File) (s : Settings) (m : Model) (machine : Machine) (g : Guarded) (d : ℕ) (l : Layout) → t ≡ s.bound
    → StandsForGates file source s.library m machine g → IsCoded machine s.code d l → IsBuilt g machine s.code mode t l → RailsTell g s.code l (length machine.outputs)
    → needed_distance mode t ≤ d → g.rails ≡ rail_count mode t
    → (allowed : List Fault → Type 0) → ((faults : List Fault) → allowed faults → IsSteady t faults) → ContainsFaults mode file source s m l allowed
contains_steady detect t file source s m machine g d l same text coded built tell wide rails allowed are_steady =
    let enough : t < d = omega arith in
    let more : t < g.rails = omega arith in
    detecting_text file source s.library m machine text.is_main text.means g text.net text.written s.code l allowed (AreSteady t) (λ faults h. steady_nets text.net t faults (are_steady faults h))
    (λ xs faults states outs stored zs steady source_run guard_run. detected g machine s.code d t l coded built tell enough t enough more faults (steady_blame t faults steady) xs states outs stored zs source_run guard_run)
contains_steady correct t file source s m machine g d l same text coded built tell wide rails allowed are_steady =
    let unique : 2 * t < d = omega arith in
    subst (λ (n : ℕ). Corrects file source s.library m s.code l n allowed) same
    (correcting_text file source s.library m machine text.is_main text.means g text.net text.written s.code l t allowed (AreSteady t) (λ faults h. steady_nets text.net t faults (are_steady faults h))
    (λ xs faults states outs stored zs steady source_run guard_run. corrected g machine s.code d t l coded built t unique faults (steady_blame t faults steady) xs states outs stored zs source_run guard_run))

-- At most t new cells in each cycle do no harm, where the state is read within 2t.
pub contains_moving : (mode : Mode) (t : ℕ) (file source : File) (s : Settings) (m : Model) (machine : Machine) (g : Guarded) (d : ℕ) (l : Layout) → t ≡ s.bound
    → StandsForGates file source s.library m machine g → IsCoded machine s.code d l → IsBuilt g machine s.code mode (2 * t) l → RailsTell g s.code l (length machine.outputs)
    → needed_distance mode (2 * t) ≤ d → g.rails ≡ rail_count mode t → ContainsFaults mode file source s m l (IsMoving t)
contains_moving detect t file source s m machine g d l same text coded built tell wide rails =
    let enough : 2 * t < d = omega arith in
    let fits : t < d = omega arith in
    let more : t < g.rails = omega arith in
    detecting_text file source s.library m machine text.is_main text.means g text.net text.written s.code l (IsMoving t) (AreMoving t) (moving_nets text.net t)
    (λ xs faults states outs stored zs moving source_run guard_run. detected g machine s.code d (2 * t) l coded built tell enough t fits more faults (moving_blame t faults moving) xs states outs stored zs source_run guard_run)
contains_moving correct t file source s m machine g d l same text coded built tell wide rails =
    let unique : 2 * t < d = omega arith in
    subst (λ (n : ℕ). Corrects file source s.library m s.code l n (IsMoving t)) same
    (correcting_text file source s.library m machine text.is_main text.means g text.net text.written s.code l t (IsMoving t) (AreMoving t) (moving_nets text.net t)
    (λ xs faults states outs stored zs moving source_run guard_run. corrected g machine s.code d (2 * t) l coded built t unique faults (moving_blame t faults moving) xs states outs stored zs source_run guard_run))

-- The text of a built gate list is a guard.
module _ (text source : File) (s : Settings) (radius : ℕ) (b : IsBuiltText text source s radius) where
  coded : IsCoded b.machine s.code b.d b.shaped.layout
  coded = coded_by_layout source s.library b.shaped.source_model b.machine s b.shaped.layout b.d b.stands.means b.shaped.is_layout b.is_code b.is_distance

  guard_for : (allowed : List Fault → Type 0) → ContainsFaults s.mode text source s b.shaped.source_model b.shaped.layout allowed → IsGuardFor text source s radius allowed
  guard_for allowed contains = record {
    ordered = b.ordered;
    shaped = b.shaped;
    independent = b.independent;
    faithful = faithful_text text source s.library b.shaped.source_model b.machine b.stands.is_main b.stands.means b.g b.stands.net b.stands.written s.code b.shaped.layout
        (λ xs states outs stored zs source_run guard_run. quiet_run b.g b.machine s.code b.d s.mode radius b.shaped.layout coded b.built (SomeNoCodeword b.g s.code b.shaped.layout (length b.machine.outputs)) b.tells (codewords_are_not_bad b.g s.code b.shaped.layout (length b.machine.outputs)) xs states outs stored zs source_run guard_run);
    contains = contains;
  }

-- for lists that name few cells
pub steady_guard : (text source : File) (s : Settings) → IsBuiltText text source s s.bound → (allowed : List Fault → Type 0) → ((faults : List Fault) → allowed faults → IsSteady s.bound faults) → IsGuardFor text source s s.bound allowed
steady_guard text source s b allowed are_steady =
    guard_for text source s s.bound b allowed
    (contains_steady s.mode s.bound text source s b.shaped.source_model b.machine b.g b.d b.shaped.layout refl b.stands (coded text source s s.bound b) b.built b.tells b.wide b.rails allowed are_steady)

-- The guard has the shape of the built text.
pub shaped_guard : (text source : File) (s : Settings) (b : IsBuiltText text source s s.bound) → (guard : IsGuard text source s (IsSteady s.bound)) × (guard.shaped ≡ b.shaped)
unfolding steady_guard guard_for
shaped_guard text source s b = (steady_guard text source s b (IsSteady s.bound) (λ faults h. h), refl)

pub moving_guard : (text source : File) (s : Settings) → IsBuiltText text source s (2 * s.bound) → IsGuardFor text source s (2 * s.bound) (IsMoving s.bound)
moving_guard text source s b =
    guard_for text source s (2 * s.bound) b (IsMoving s.bound)
    (contains_moving s.mode s.bound text source s b.shaped.source_model b.machine b.g b.d b.shaped.layout refl b.stands (coded text source s (2 * s.bound) b) b.built b.tells b.wide b.rails)

-- The text of a gate list with far rails is a guard that corrects faults and tells of more.
pub dual_guard : (text source : File) (settings : Settings) (s : ℕ) → IsBuiltDualText text source settings s → IsDualGuard text source settings s
dual_guard text source settings s b = record {
  ordered = b.ordered;
  shaped = b.shaped;
  independent = b.independent;
  faithful = faithful_text text source settings.library b.shaped.source_model b.machine b.stands.is_main b.stands.means b.g b.stands.net b.stands.written settings.code b.shaped.layout
      (λ xs states outs stored zs source_run guard_run. quiet_run b.g b.machine settings.code b.d correct settings.bound b.shaped.layout coded b.built (SomeFarWord b.g settings.code b.shaped.layout (length b.machine.outputs) settings.bound) b.tells (codewords_are_not_far b.g settings.code b.shaped.layout (length b.machine.outputs) settings.bound) xs states outs stored zs source_run guard_run);
  contains =
      let wide : settings.bound + s < b.d = let h = b.wide in omega arith in
      let enough : s < b.g.rails = let h = b.rails in omega arith in
      twice_text text source settings.library b.shaped.source_model b.machine b.g b.stands settings.code b.shaped.layout settings.bound s
      (contains_both b.g b.machine settings.code b.d settings.bound s b.shaped.layout coded b.built b.tells b.more wide enough);
  tells =
      subst (λ (p : ℕ). RailsTellIn b.shaped.guard_model settings.code b.shaped.layout p (s + 1) (IsFarWord settings.code settings.bound)) b.stands.means.outputs
      (subst (λ (rails : ℕ). RailsTellIn b.shaped.guard_model settings.code b.shaped.layout (length b.machine.outputs) rails (IsFarWord settings.code settings.bound)) b.rails b.tells_in);
}
  where
    coded : IsCoded b.machine settings.code b.d b.shaped.layout
    coded = coded_by_layout source settings.library b.shaped.source_model b.machine settings b.shaped.layout b.d b.stands.means b.shaped.is_layout b.is_code b.is_distance
