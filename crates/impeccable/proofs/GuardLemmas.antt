-- The steps of a guard, in the walk of each command that begins with them, and what stops it there.
use Rattle.std.proofs.Common.{◌≡◌, ℕ, ◌<◌, ◌≤◌, List, length, Ok, Some, None, refl, sym, subst, ◌∙◌}
use Rattle.std.specs.Prelude.{Option, IfSome, IsSomeAnd}
use Rattle.imp_io.specs.Files.{FilesSeen, IsLater, bytes_at}
use Rattle.netlist_spec.specs.Netlist.{Model, File}
use Rattle.netlist_spec.specs.Models.{main_model}
use Rattle.netlist_spec.specs.Reads.{Reads}
use Rattle.netlist_spec.specs.Runs.{IsSteady}
use Rattle.guard_spec.specs.Codes.{IsDistance, needed_distance}
use Rattle.guard_spec.specs.SettingsFile.{settings_of_bytes}
use Rattle.guard_spec.specs.Words.{Settings, Layout}
use Rattle.guard_text_spec.specs.GuardText.{IsGuardText}
use Rattle.program_spec.specs.Commands.{Command, flat, code, guard, sim, audit, campaign, demo, netlist_limit, other_limit}
use Rattle.program_spec.specs.Refusals.{Refusal, too_small, unsound as unsound_told, bad_layout as layout_told, guard_too_large as size_told}
use Rattle.program_spec.specs.ErrorLines.{refused}
use Rattle.program_spec.specs.Walk.{Test, Walk, load, passes, test}
use Rattle.program_spec.specs.Steps.{Nothing, main_of, reading, settings_in, smallness, soundness, strength, words_of}
use Rattle.program_spec.specs.Verdict.{guard_walk, walk_of}
use Rattle.guard_source.specs.Accepted.{GuardRefusal, unsound, bad_layout, guard_too_large, IsTaken, IsLaidOut, IsSmall, IsRefusedGuard}
use Rattle.impeccable.specs.declared.ended.Stop.{Stop}
use Rattle.impeccable.specs.declared.ended.Success.TheVariants.{Done}
use Rattle.impeccable.specs.declared.guarded.Guarded.{Guarded}
use Rattle.impeccable.specs.Answers.{TookTooMuch}
use Rattle.impeccable.specs.Ended.{fault_answer, stop_answer}
use Rattle.impeccable.specs.Flat.{named_text}
use Rattle.impeccable.specs.Guard.{guard_told}
use Rattle.impeccable.specs.Guarded.{BeginsWith, IsMadeOf, rest_of}
use Rattle.impeccable.specs.Loads.{StopsLoad, WhereHeld}
use Rattle.impeccable.specs.Steps.{IsPrepared, Passed, Stops}
use Rattle.impeccable.proofs.LoadsLemmas.{held-earlier, stops-earlier, tested-passes, tested-stops}
use Rattle.impeccable.proofs.OrderedLemmas.{IsHeld, reads}
use Rattle.impeccable.proofs.StepLemmas.{fault-stops, memory-stops, starts, test-passes}

-- the settings are held
abbrev pub AreHeld : FilesSeen → List ℕ → Settings → Type 0
AreHeld old n s = WhereHeld old n (λ bytes. (length bytes ≤ other_limit) × (settings_of_bytes bytes ≡ Ok s))

-- what is left of the walk behind each step, where the rest goes on with the main model
module _ (rest : Model → Walk) where
  abbrev pub of_layout : File → Settings → Model → Layout → Walk
  of_layout file s m l = test Nothing (smallness file s m l) (λ small. rest m)

  abbrev pub of_main : File → Settings → Model → Walk
  of_main file s m = test Layout (words_of m s) (of_layout file s m)

  abbrev pub of_sound : File → Settings → Walk
  of_sound file s = test Model (main_of file) (of_main file s)

  abbrev pub of_file : Settings → File → Walk
  of_file s file = test Nothing (soundness file s.library) (λ sound. of_sound file s)

  abbrev pub of_strong : List ℕ → Settings → Walk
  of_strong netlist s = load netlist netlist_limit (λ bytes. test File (reading bytes) (of_file s))

  abbrev pub of_settings : List ℕ → Settings → Walk
  of_settings netlist s = test Nothing (strength s) (λ strong. of_strong netlist s)

-- a command that begins with the steps of a guard
pub begins : (command : Command) (settings netlist : List ℕ) (old : FilesSeen) → BeginsWith command settings netlist → Passed old (walk_of command) (guard_walk settings netlist (λ file s m l. rest_of command m))
begins (guard first second) settings netlist old (p, q) = rw (← p, ← q) (starts old (walk_of (guard first second)))
begins (campaign first second stimulus cycle) settings netlist old (p, q) = rw (← p, ← q) (starts old (walk_of (campaign first second stimulus cycle)))
begins (flat first) settings netlist old h = absurd h
begins (code first) settings netlist old h = absurd h
begins (sim first second third) settings netlist old h = absurd h
begins (audit first) settings netlist old h = absurd h
begins (demo size) settings netlist old h = absurd h

module _ (settings netlist : List ℕ) (command : Command) (is : BeginsWith command settings netlist) (old : FilesSeen) where
  abbrev pub IsAt : Walk → Type 0
  IsAt left = Passed old (walk_of command) left

  abbrev rest : Model → Walk
  rest m = rest_of command m

  -- ---- steps that pass

  pub settled : (s : Settings) → AreHeld old settings s → IsAt (of_settings rest netlist s)
  settled s held = tested-passes old (walk_of command) settings other_limit Settings settings_in (of_settings rest netlist) s (begins command settings netlist old is) held

  strong : (s : Settings) (d : ℕ) → IsAt (of_settings rest netlist s) → IsDistance s.code d → needed_distance s.mode s.bound ≤ d → IsAt (of_strong rest netlist s)
  strong s d p distance enough = test-passes old (walk_of command) Nothing (strength s) (λ strong. of_strong rest netlist s) tt p (d, distance, enough)

  pub read : (s : Settings) (file : File) → IsAt (of_strong rest netlist s) → IsHeld old netlist file → IsAt (of_file rest s file)
  read s file p held = tested-passes old (walk_of command) netlist netlist_limit File reading (of_file rest s) file p held

  taken : (s : Settings) (file : File) (m : Model) → IsAt (of_file rest s file) → IsTaken file s m → IsAt (of_main rest file s m)
  taken s file m p t =
      test-passes old (walk_of command) Model (main_of file) (of_main rest file s) m
      (test-passes old (walk_of command) Nothing (soundness file s.library) (λ sound. of_sound rest file s) tt p t.sound)
      t.main

  laid_out : (s : Settings) (file : File) (m : Model) (l : Layout) → IsAt (of_file rest s file) → IsLaidOut file s m l → IsAt (of_layout rest file s m l)
  laid_out s file m l p t = test-passes old (walk_of command) Layout (words_of m s) (of_layout rest file s m) l (taken s file m p t.taken) (t.no_fault, t.is_layout)

  pub small : (s : Settings) (file : File) (m : Model) → IsAt (of_file rest s file) → IsSmall file s → main_model file ≡ Some m → IsAt (rest m)
  small s file m p t main =
      let one : Some t.m ≡ Some m = sym t.laid_out.taken.main ∙ main in
      let same : t.m ≡ m = cc in
      subst (λ k. IsAt (rest k)) same
      (test-passes old (walk_of command) Nothing (smallness file s t.m t.l) (λ small. rest t.m) tt (laid_out s file t.m t.l p t.laid_out) (t.n, t.is_plain, t.small))

  -- all that stands before the load of the netlist
  pub ready : (s : Settings) (d : ℕ) → AreHeld old settings s → IsDistance s.code d → needed_distance s.mode s.bound ≤ d → IsAt (of_strong rest netlist s)
  ready s d held distance enough = strong s d (settled s held) distance enough

  -- ---- what stops it

  pub unsettled : (new : FilesSeen) (stop : Stop) → StopsLoad Settings old settings other_limit settings_in (stop_answer stop) new → Stops command old stop new
  unsettled new stop h = tested-stops command old new settings other_limit Settings settings_in (of_settings rest netlist) stop (begins command settings netlist old is) h

  -- one refusal of a test
  refuses : (new : FilesSeen) (A : Type 0) (asks : Test A) (next : A → Walk) (refusal : Refusal) (stop : Stop) → IsAt (test A asks next) → asks.Refuses refusal → TookTooMuch command refusal old new → stop_answer stop ≡ refused refusal → Stops command old stop new
  refuses new A asks next refusal stop p h took told = fault-stops command old new A (Unit {0}) asks next (λ one. refusal) (Some tt) stop p (λ one e. h) (λ one. took) told

  pub weak : (new : FilesSeen) (s : Settings) (d : ℕ) (stop : Stop) → IsAt (of_settings rest netlist s) → IsDistance s.code d → d < needed_distance s.mode s.bound → stop_answer stop ≡ refused (too_small d (needed_distance s.mode s.bound)) → Stops command old stop new
  weak new s d stop p distance below told = refuses new Nothing (strength s) (λ strong. of_strong rest netlist s) (too_small d (needed_distance s.mode s.bound)) stop p (d, distance, below, refl) tt told

  pub unread : (mid new : FilesSeen) (s : Settings) (stop : Stop) → IsAt (of_strong rest netlist s) → IsLater old mid → StopsLoad File mid netlist netlist_limit reading (stop_answer stop) new → Stops command old stop new
  unread mid new s stop p later h =
      tested-stops command old new netlist netlist_limit File reading (of_file rest s) stop p
      (stops-earlier File old mid new netlist netlist_limit reading (stop_answer stop) later h)

  pub not_guarded : (new : FilesSeen) (s : Settings) (file : File) (fault : Option GuardRefusal) (stop : Stop) → IsAt (of_file rest s file) → IfSome fault (IsRefusedGuard file s) → stop_answer stop ≡ fault_answer GuardRefusal guard_told fault → Stops command old stop new
  not_guarded new s file None stop p h told = memory-stops command old new stop told
  not_guarded new s file (Some (unsound f)) stop p h told = refuses new Nothing (soundness file s.library) (λ sound. of_sound rest file s) (unsound_told f) stop p (f, h, refl) tt told
  not_guarded new s file (Some (bad_layout f)) stop p (m, is_taken, faulty) told = refuses new Layout (words_of m s) (of_layout rest file s m) (layout_told f) stop (taken s file m p is_taken) (f, faulty, refl) tt told
  not_guarded new s file (Some guard_too_large) stop p (m, l, is_laid_out, (n, plain, large)) told =
      refuses new Nothing (smallness file s m l) (λ small. rest m) size_told stop (laid_out s file m l p is_laid_out) (n, plain, large, refl) tt told

-- what was made of a netlist that is loaded later stands for what its test finds
pub read-later : (netlist : List ℕ) (old mid : FilesSeen) (file : File) → IsLater old mid → (found : File) × (file ≡ found) × IsHeld mid netlist found → IsHeld old netlist file
read-later netlist old mid file later made = held-earlier old mid netlist (λ bytes. (length bytes ≤ netlist_limit) × Reads bytes file) later (reads netlist mid file made)

-- ---- the text that is written

guard-text : (given seen : Option (List ℕ)) (s : Settings) (file : File) (text : List ℕ)
    → ((settings netlist : List ℕ) → settings_of_bytes settings ≡ Ok s → Reads netlist file → IsGuardText settings netlist text (λ t. IsSteady t))
    → IsSomeAnd given (λ bytes. settings_of_bytes bytes ≡ Ok s) → IsSomeAnd seen (λ bytes. Reads bytes file)
    → IsSomeAnd given (λ settings. IsSomeAnd seen (λ netlist. IsGuardText settings netlist text (λ t. IsSteady t)))
guard-text None seen s file text go h k = absurd h
guard-text (Some settings) None s file text go h k = absurd k
guard-text (Some settings) (Some netlist) s file text go h k = go settings netlist h k

pub guard-prepared : (settings netlist : List ℕ) (old : FilesSeen) (g : Guarded) → IsMadeOf settings netlist old g → IsPrepared (guard settings netlist) Done old (named_text g.guard.named)
guard-prepared settings netlist old g h = λ known. (
  (h.passed (guard settings netlist) (refl, refl)).verdict known passes refl,
  guard-text (bytes_at old.told settings) (bytes_at old.told netlist) g.settings h.source (named_text g.guard.named) h.text (h.are_settings known) (h.is_source known),
)
