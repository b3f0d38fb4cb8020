-- The load of a stimulus in the walk of a command: how the walk passes it, and what stops it there.
use Rattle.std.proofs.Common.{◌≡◌, ℕ, ◌≤◌, List, length, Ok, Err, Some, refl, sym, subst, inr}
use Rattle.std.specs.Prelude.{IsSome}
use Rattle.imp_io.specs.Files.{FilesSeen, IsLater, bytes_at}
use Rattle.netlist_spec.specs.Netlist.{Model}
use Rattle.netlist_spec.specs.Models.{data_inputs}
use Rattle.netlist_spec.specs.SourceRun.{Stream}
use Rattle.stimulus_spec.specs.Stimulus.{stimulus_of}
use Rattle.sim_text.specs.declared.fault.StimFault.{StimFault}
use Rattle.sim_text.specs.declared.fault.StimFault.TheVariants.{BadStimulus, NoMemory}
use Rattle.sim_text.specs.Faults.{IsStimFault, fault_of as line_of}
use Rattle.program_spec.specs.Commands.{Command, other_limit}
use Rattle.program_spec.specs.ErrorLines.{Answer}
use Rattle.program_spec.specs.Refusals.{bad_stimulus}
use Rattle.program_spec.specs.Steps.{gives, stimulus_in}
use Rattle.program_spec.specs.Verdict.{walk_of}
use Rattle.program_spec.specs.Walk.{Walk, load, test}
use Rattle.impeccable.specs.declared.ended.Stop.{Stop}
use Rattle.impeccable.specs.Ended.{fault_answer, stop_answer}
use Rattle.impeccable.specs.Loads.{StopsLoad, WhereHeld}
use Rattle.impeccable.specs.Steps.{Passed, Stops}
use Rattle.impeccable.proofs.LoadsLemmas.{held-earlier, held-loaded, stops-earlier, tested-passes, tested-stops}

-- what is left of the walk before the load, where the rest is the same for each stream
abbrev pub of_stimulus : List ℕ → Walk → Model → Walk
of_stimulus stimulus rest m = load stimulus other_limit (λ text. test Stream (stimulus_in m text) (λ xs. rest))

-- the stimulus is held, for as many data inputs as the model has
abbrev pub IsDriven : FilesSeen → List ℕ → Model → Stream → Type 0
IsDriven old s m xs = WhereHeld old s (λ bytes. (length bytes ≤ other_limit) × (stimulus_of (length (data_inputs m)) bytes ≡ Ok xs))

-- that of a later load
pub drives : (s : List ℕ) (old mid : FilesSeen) (inputs : ℕ) (m : Model) (cycles : Stream) → IsLater old mid → inputs ≡ length (data_inputs m) → (found : Stream) × (cycles ≡ found) × WhereHeld mid s (λ bytes. (length bytes ≤ other_limit) × (stimulus_of inputs bytes ≡ Ok found)) → IsDriven old s m cycles
drives s old mid inputs m cycles later is (found, same, held) =
    held-earlier old mid s (λ bytes. (length bytes ≤ other_limit) × (stimulus_of (length (data_inputs m)) bytes ≡ Ok cycles)) later
    (subst (λ k. WhereHeld mid s (λ bytes. (length bytes ≤ other_limit) × (stimulus_of k bytes ≡ Ok cycles))) is
    (subst (λ (ys : Stream). WhereHeld mid s (λ bytes. (length bytes ≤ other_limit) × (stimulus_of inputs bytes ≡ Ok ys))) (sym same) held))

module _ (command : Command) (s : List ℕ) (rest : Walk) (old : FilesSeen) (m : Model) where
  pub driven : (xs : Stream) → Passed old (walk_of command) (of_stimulus s rest m) → IsDriven old s m xs → Passed old (walk_of command) rest
  driven xs p held = tested-passes old (walk_of command) s other_limit Stream (stimulus_in m) (λ ys. rest) xs p held

  pub not-driven : (mid new : FilesSeen) (inputs : ℕ) (stop : Stop) → Passed old (walk_of command) (of_stimulus s rest m) → IsLater old mid → inputs ≡ length (data_inputs m)
      → StopsLoad Stream mid s other_limit (λ bytes. gives Stream ℕ (stimulus_of inputs bytes) bad_stimulus) (stop_answer stop) new → Stops command old stop new
  not-driven mid new inputs stop p later is h =
      tested-stops command old new s other_limit Stream (stimulus_in m) (λ xs. rest) stop p
      (stops-earlier Stream old mid new s other_limit (stimulus_in m) (stop_answer stop) later
      (subst (λ k. StopsLoad Stream mid s other_limit (λ bytes. gives Stream ℕ (stimulus_of k bytes) bad_stimulus) (stop_answer stop) new) is h))

-- the reading of a stimulus
pub stimulus-stops : (old new : FilesSeen) (name : List ℕ) (inputs : ℕ) (bytes : List ℕ) (fault : StimFault) (answer : Answer) → length bytes ≤ other_limit → (IsSome old.told → bytes_at old.told name ≡ Some bytes) → IsStimFault (stimulus_of inputs bytes) fault → answer ≡ fault_answer ℕ bad_stimulus (line_of fault)
    → StopsLoad Stream old name other_limit (λ b. gives Stream ℕ (stimulus_of inputs b) bad_stimulus) answer new
stimulus-stops old new name inputs bytes (BadStimulus line) answer short at h is =
    subst (λ a. StopsLoad Stream old name other_limit (λ b. gives Stream ℕ (stimulus_of inputs b) bad_stimulus) a new) (sym is)
    (inr (tt, held-loaded old name bytes (λ b. (length b ≤ other_limit) × ((f : ℕ) × (stimulus_of inputs b ≡ Err f) × (bad_stimulus line ≡ bad_stimulus f))) at (short, (line, h, refl))))
stimulus-stops old new name inputs bytes NoMemory answer short at h is =
    subst (λ a. StopsLoad Stream old name other_limit (λ b. gives Stream ℕ (stimulus_of inputs b) bad_stimulus) a new) (sym is) tt
