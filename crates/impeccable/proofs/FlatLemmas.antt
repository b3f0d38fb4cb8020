-- The steps of `flat`: where it stands after each, and what stops it there.
use Rattle.std.proofs.Common.{◌≡◌, ◌≤◌, List, ℕ, Some, None, refl, subst}
use Rattle.std.specs.Prelude.{Option, IfSome, IsSomeAnd, length}
use Rattle.imp_io.specs.Files.{FilesSeen}
use Rattle.netlist_spec.specs.Covers.{empty_library}
use Rattle.netlist_spec.specs.Netlist.{File}
use Rattle.netlist_spec.specs.Reads.{Reads}
use Rattle.netlist_spec.specs.Sound.{IsSound}
use Rattle.netlist_spec.specs.SoundFaults.{SoundFault, IsRefusedWith}
use Rattle.netlist_spec.specs.WrittenText.{IsFlatText}
use Rattle.program_spec.specs.Commands.{flat, netlist_limit}
use Rattle.program_spec.specs.Refusals.{unsound}
use Rattle.program_spec.specs.Walk.{Walk, end, test}
use Rattle.program_spec.specs.Steps.{Nothing, reading, soundness}
use Rattle.program_spec.specs.Verdict.{walk_of}
use Rattle.impeccable.specs.declared.ended.Stop.{Stop}
use Rattle.impeccable.specs.Ended.{fault_answer, stop_answer}
use Rattle.impeccable.specs.Loads.{StopsLoad}
use Rattle.impeccable.specs.Steps.{Passed, Stops}
use Rattle.impeccable.proofs.LoadsLemmas.{tested-passes, tested-stops}
use Rattle.impeccable.proofs.OrderedLemmas.{IsHeld}
use Rattle.impeccable.proofs.StepLemmas.{starts, test-passes, fault-stops}

-- what is left of the walk behind the reading
abbrev of_file : File → Walk
of_file file = test Nothing (soundness file empty_library) (λ found. end)

pub read : (netlist : List ℕ) (old : FilesSeen) (file : File) → IsHeld old netlist file → Passed old (walk_of (flat netlist)) (of_file file)
read netlist old file held = tested-passes old (walk_of (flat netlist)) netlist netlist_limit File reading of_file file (starts old (walk_of (flat netlist))) held

pub sound : (netlist : List ℕ) (old : FilesSeen) (file : File) → Passed old (walk_of (flat netlist)) (of_file file) → IsSound file empty_library → Passed old (walk_of (flat netlist)) end
sound netlist old file p h = test-passes old (walk_of (flat netlist)) Nothing (soundness file empty_library) (λ found. end) tt p h

pub unread : (netlist : List ℕ) (old new : FilesSeen) (stop : Stop) → StopsLoad File old netlist netlist_limit reading (stop_answer stop) new → Stops (flat netlist) old stop new
unread netlist old new stop h = tested-stops (flat netlist) old new netlist netlist_limit File reading of_file stop (starts old (walk_of (flat netlist))) h

is-told : (file : File) (fault : Option SoundFault) → IfSome fault (IsRefusedWith file empty_library) → (f : SoundFault) → fault ≡ Some f → IsRefusedWith file empty_library f
is-told file None h f e = absurd (cc e)
is-told file (Some g) h f e = let same : g ≡ f = cc e in subst (IsRefusedWith file empty_library) same h

pub not-sound : (netlist : List ℕ) (old new : FilesSeen) (file : File) (fault : Option SoundFault) (stop : Stop) → Passed old (walk_of (flat netlist)) (of_file file) → IfSome fault (IsRefusedWith file empty_library) → stop_answer stop ≡ fault_answer SoundFault unsound fault → Stops (flat netlist) old stop new
not-sound netlist old new file fault stop p h =
    fault-stops (flat netlist) old new Nothing SoundFault (soundness file empty_library) (λ found. end) unsound fault stop p (λ f e. (f, is-told file fault h f e, refl)) (λ f. tt)

-- the text that is written, of the bytes that are held
pub flat-text : (seen : Option (List ℕ)) (file : File) (text : List ℕ) → ((netlist : List ℕ) → Reads netlist file → IsFlatText netlist text empty_library)
    → IsSomeAnd seen (λ bytes. (length bytes ≤ netlist_limit) × Reads bytes file) → IsSomeAnd seen (λ bytes. IsFlatText bytes text empty_library)
flat-text None file text go h = absurd h
flat-text (Some bytes) file text go h = go bytes h.1
