-- A command on its walk: each step that passes, and each that stops it.
use Rattle.std.proofs.Common.{◌≡◌, ◌<◌, ◌≤◌, List, ℕ, Ok, Err, Some, None, refl, sym, subst, ◌∙◌, ap, inl, inr}
use Rattle.std.specs.Prelude.{Option, IsSome, IsSomeAnd, Result, length}
use Rattle.imp_io.specs.Files.{FilesSeen, bytes_at}
use Rattle.imp_io.specs.Sink.{SinkSeen, Puts}
use Rattle.imp_io.specs.declared.fault.SinkFault.{SinkFault}
use Rattle.imp_io.specs.declared.fault.SinkFault.TheVariants.{Failed, NoMemory as NoRoom}
use Rattle.netlist_spec.specs.Netlist.{File}
use Rattle.netlist_spec.specs.ReadFaults.{ReadFault as Unread, read_fault}
use Rattle.guard_spec.specs.SettingsFile.{SettingsFault, settings_of_bytes}
use Rattle.guard_spec.specs.Words.{Settings}
use Rattle.program_spec.specs.Commands.{Command}
use Rattle.program_spec.specs.Refusals.{Refusal, file_too_long, unreadable, bad_settings}
use Rattle.program_spec.specs.Walk.{Contents, passes, refused as refuses, Test, Walk, load, test, ComesTo}
use Rattle.program_spec.specs.Steps.{reading, settings_in}
use Rattle.program_spec.specs.Verdict.{walk_of, IsVerdict, IsTextFor}
use Rattle.program_spec.specs.ErrorLines.{refused, no_memory}
use Rattle.blif_write.specs.declared.refusal.WriteRefusal.{WriteRefusal}
use Rattle.blif_write.specs.declared.refusal.WriteRefusal.TheVariants.{Fault, NoMemory as NoSpace}
use Rattle.blif_write.specs.Refusals.{put_answer}
use Rattle.blif_read.specs.Faults.{IsFault}
use Rattle.settings.specs.Faults.{IsFault as IsSettingsFault}
use Rattle.impeccable.specs.declared.ended.Success.{Success}
use Rattle.impeccable.specs.declared.ended.Success.TheVariants.{Done, Found}
use Rattle.impeccable.specs.declared.ended.Stop.{Stop}
use Rattle.impeccable.specs.declared.ended.Stop.TheVariants.{Usage, Refused, ReadFault, WriteFault, NoMemory}
use Rattle.impeccable.specs.Answers.{Answers, TookTooMuch, WhereTold}
use Rattle.impeccable.specs.Ended.{success_answer, stop_answer, fault_answer, sink_answer, write_answer}
use Rattle.impeccable.specs.Steps.{IsPrepared, LoadsNamed, Passed, Stops}

-- ---- steps that pass

pub starts : (old : FilesSeen) (walk : Walk) → Passed old walk walk
starts old walk = record { verdict = λ known v h. h; load = λ known name h. h; steps = λ name limit h. h }

pub load-passes : (old : FilesSeen) (walk : Walk) (name : List ℕ) (limit : ℕ) (next : List ℕ → Walk) (bytes : List ℕ) → Passed old walk (load name limit next) → length bytes ≤ limit → (IsSome old.told → bytes_at old.told name ≡ Some bytes) → Passed old walk (next bytes)
load-passes old walk name limit next bytes p short found = record {
  verdict = λ known v h. p.verdict known v (rw (found known) (inr (short, h)));
  load = λ known n h. p.load known n (rw (found known) (inr (short, h)));
  steps = λ n most h. p.steps n most (inr (bytes, h));
}

pub test-passes : (old : FilesSeen) (walk : Walk) (A : Type 0) (asks : Test A) (next : A → Walk) (found : A) → Passed old walk (test A asks next) → asks.Finds found → Passed old walk (next found)
test-passes old walk A asks next found p finds = record {
  verdict = λ known v h. p.verdict known v (inl (found, finds, h));
  load = λ known n h. p.load known n (found, finds, h);
  steps = λ n most h. p.steps n most (found, h);
}

-- ---- steps that stop a command

-- what is said of one answer, said of the same
as-answered : (command : Command) (old new : FilesSeen) (stop : Stop) (answer : _) → stop_answer stop ≡ answer → ((out : SinkSeen) → Answers command old new out out answer) → Stops command old stop new
as-answered command old new stop answer is h = λ out. subst (λ a. Answers command old new out out a) (sym is) (h out)

pub memory-stops : (command : Command) (old new : FilesSeen) (stop : Stop) → stop_answer stop ≡ no_memory → Stops command old stop new
memory-stops command old new stop is = as-answered command old new stop no_memory is (λ out. inl refl)

pub test-stops : (command : Command) (old new : FilesSeen) (A : Type 0) (asks : Test A) (next : A → Walk) (refusal : Refusal) (out : SinkSeen) → Passed old (walk_of command) (test A asks next) → asks.Refuses refusal → TookTooMuch command refusal old new → Answers command old new out out (refused refusal)
test-stops command old new A asks next refusal out p h took = (refl, λ known. p.verdict known (refuses refusal) (inr (refusal, h, refl)), took)

-- a fault of a layer
pub fault-stops : (command : Command) (old new : FilesSeen) (A F : Type 0) (asks : Test A) (next : A → Walk) (told : F → Refusal) (fault : Option F) (stop : Stop) → Passed old (walk_of command) (test A asks next) → ((f : F) → fault ≡ Some f → asks.Refuses (told f)) → ((f : F) → TookTooMuch command (told f) old new)
    → stop_answer stop ≡ fault_answer F told fault → Stops command old stop new
fault-stops command old new A F asks next told None stop p h took is = memory-stops command old new stop is
fault-stops command old new A F asks next told (Some f) stop p h took is =
    as-answered command old new stop (refused (told f)) is (λ out. test-stops command old new A asks next (told f) out p (h f refl) (took f))

pub is-read-fault : (bytes : List ℕ) (fault : Option Unread) → IsFault (read_fault bytes) fault → (f : Unread) → fault ≡ Some f → read_fault bytes ≡ Some f
is-read-fault bytes None h f e = absurd (cc)
is-read-fault bytes (Some g) h f e = h ∙ e

pub reading-stops : (command : Command) (old new : FilesSeen) (bytes : List ℕ) (next : File → Walk) (fault : Option Unread) (stop : Stop) → Passed old (walk_of command) (test File (reading bytes) next) → IsFault (read_fault bytes) fault → stop_answer stop ≡ fault_answer Unread unreadable fault → Stops command old stop new
reading-stops command old new bytes next fault stop p h =
    fault-stops command old new File Unread (reading bytes) next unreadable fault stop p (λ f e. (f, is-read-fault bytes fault h f e, refl)) (λ f. tt)

pub is-settings-fault : (answer : Result Settings SettingsFault) (fault : Option SettingsFault) → IsSettingsFault answer fault → (f : SettingsFault) → fault ≡ Some f → answer ≡ Err f
is-settings-fault answer None h f e = absurd (cc)
is-settings-fault answer (Some g) h f e = let same : g ≡ f = cc in h ∙ ap (λ x. Err x) same

pub settings-stop : (command : Command) (old new : FilesSeen) (text : List ℕ) (next : Settings → Walk) (fault : Option SettingsFault) (stop : Stop) → Passed old (walk_of command) (test Settings (settings_in text) next) → IsSettingsFault (settings_of_bytes text) fault → stop_answer stop ≡ fault_answer SettingsFault bad_settings fault → Stops command old stop new
settings-stop command old new text next fault stop p h =
    fault-stops command old new Settings SettingsFault (settings_in text) next bad_settings fault stop p (λ f e. (f, is-settings-fault (settings_of_bytes text) fault h f e, refl)) (λ f. tt)

-- a load
long-step : (contents : Contents) (name : List ℕ) (limit : ℕ) (next : List ℕ → Walk) (found : Option (List ℕ)) → contents name ≡ found → IsSomeAnd found (λ bytes. limit < length bytes) → ComesTo (load name limit next) contents (refuses (file_too_long name))
long-step contents name limit next None is long = absurd long
long-step contents name limit next (Some bytes) is long = rw is (inl (long, refl))

pub load-stops : (command : Command) (old new : FilesSeen) (name : List ℕ) (limit : ℕ) (next : List ℕ → Walk) (stop : Stop) → Passed old (walk_of command) (load name limit next) → LoadsNamed old name limit (Err stop) new → Stops command old stop new
load-stops command old new name limit next (Refused told) p h =
    rw h.0 (λ out. (
      refl,
      λ known. p.verdict known (refuses (file_too_long name)) (long-step (bytes_at old.told) name limit next (bytes_at old.told name) refl (h.2 known)),
      (limit, p.steps name limit (inl (refl, refl)), h.1),
    ))
load-stops command old new name limit next (ReadFault failed) p h =
    rw h.0 (λ out. (
      refl,
      record {
        rose = h.1;
        named = (limit, p.steps name limit (inl (refl, refl)));
        file = λ known. (p.load known name (inl refl), h.2);
      },
    ))
load-stops command old new name limit next NoMemory p h = λ out. inl refl
load-stops command old new name limit next Usage p h = absurd h
load-stops command old new name limit next WriteFault p h = absurd h

-- ---- what is written

-- a text of either kind
either : (command : Command) (success : Success) (old : FilesSeen) (text : List ℕ) → IsPrepared command success old text → WhereTold old (λ contents. IsVerdict command contents passes × IsTextFor command contents text)
either command Done old text h = λ known. ((h known).0, inl (h known).1)
either command Found old text h = λ known. ((h.1 known).0, inr (h.1 known).1)

-- the whole text
pub put-ends : {T : Type 0} (command : Command) (success : Success) (old new : FilesSeen) (out out' : SinkSeen) (text : List ℕ) (x : T) → IsPrepared command success old text → Puts {T = T} out text (Ok x) out' → Answers command old new out out' (success_answer success)
put-ends command Done old new out out' text x h p = (p.kept, λ known. ((h known).0, text, (h known).1, p.whole))
put-ends command Found old new out out' text x h p = (p.kept, h.0, λ known. ((h.1 known).0, text, (h.1 known).1, p.whole))

-- a put that fails
pub put-stops : {T : Type 0} (command : Command) (success : Success) (old new : FilesSeen) (out out' : SinkSeen) (text : List ℕ) (fault : SinkFault) (stop : Stop) → IsPrepared command success old text → Puts {T = T} out text (Err fault) out'
    → stop_answer stop ≡ sink_answer fault → Answers command old new out out' (stop_answer stop)
put-stops command success old new out out' text Failed stop h p is =
    let ready = either command success old text h in
    subst (λ a. Answers command old new out out' a) (sym is) (p.failed refl, λ known. ((ready known).0, text, (ready known).1, p.prefix))
put-stops command success old new out out' text NoRoom stop h p is =
    let ready = either command success old text h in
    subst (λ a. Answers command old new out out' a) (sym is) (inr (p.no_memory refl, λ known. ((ready known).0, text, (ready known).1, p.prefix)))

-- a netlist that isn't written whole
pub write-stops : {T : Type 0} (command : Command) (success : Success) (old new : FilesSeen) (out out' : SinkSeen) (text : List ℕ) (fault : WriteRefusal) (stop : Stop) → IsPrepared command success old text → Puts {T = T} out text (put_answer (Err fault)) out'
    → stop_answer stop ≡ write_answer fault → Answers command old new out out' (stop_answer stop)
write-stops command success old new out out' text Fault stop h p is = put-stops command success old new out out' text Failed stop h p is
write-stops command success old new out out' text NoSpace stop h p is = put-stops command success old new out out' text NoRoom stop h p is
