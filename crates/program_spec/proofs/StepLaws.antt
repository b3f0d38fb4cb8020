-- Each test has one answer, and so each command one verdict.
use Rattle.std.proofs.Common.{◌≡◌, refl, sym, ◌∙◌, ap, subst, ℕ, ◌≤◌, List, length, Option, Some, None, Result, Ok, Err, arith}
use Rattle.std.specs.Prelude.{IsSomeAnd}
use Rattle.netlist_spec.specs.Netlist.{Model, File}
use Rattle.netlist_spec.specs.Models.{main_model, data_inputs}
use Rattle.netlist_spec.specs.Covers.{Library, empty_library}
use Rattle.netlist_spec.specs.ReadFaults.{ReadFault, read_fault}
use Rattle.netlist_spec.specs.Ordered.{order_fault, cell_nets}
use Rattle.netlist_spec.specs.Runs.{Fault}
use Rattle.netlist_spec.specs.SourceRun.{Stream}
use Rattle.netlist_spec.proofs.OneReading.{one_reading}
use Rattle.netlist_spec.proofs.NoFault.{reads_no_fault}
use Rattle.netlist_spec.proofs.SoundHasNoFault.{sound_no_fault}
use Rattle.refusal_laws.proofs.OneRefusal.{one_refusal as one_fault}
use Rattle.size_laws.proofs.AloneSizes.{size_alone}
use Rattle.guard_spec.specs.Codes.{Code, IsDistance, needed_distance, rail_count}
use Rattle.guard_spec.specs.Words.{Settings, Layout, LayoutFault, layout_fault}
use Rattle.guard_spec.specs.SettingsFile.{settings_of_bytes}
use Rattle.stimulus_spec.specs.Stimulus.{stimulus_of, script_of}
use Rattle.program_spec.specs.Commands.{Command, flat, code, guard, sim, audit, campaign, demo}
use Rattle.program_spec.specs.Printed.{IsIndependentText, IsFindingText}
use Rattle.program_spec.specs.Refusals.{Refusal, unreadable, bad_settings, too_small, unsound, bad_layout, out_of_order, bad_stimulus, bad_script_line}
use Rattle.program_spec.specs.Walk.{Contents, Verdict, refused, passes, IsTest, HasTests, Walk, end}
use Rattle.program_spec.specs.Steps.{IsToldOf, Nothing, gives, reading, soundness, strength, main_of, words_of, smallness, order_of, script_in, stimulus_in}
use Rattle.program_spec.specs.Verdict.{IsTextOfFile, guard_steps, load_ordered, run_walk, stimulus_walk, walk_of, IsVerdict, IsDoneText, IsFoundText}
use Rattle.program_spec.proofs.FindingLaws.{nothing_found}
use Rattle.program_spec.proofs.OneLayout.{one_layout}
use Rattle.program_spec.proofs.WalkLaws.{one_verdict}

same_some : {A : Type 0} (answer : Option A) (a b : A) → answer ≡ Some a → answer ≡ Some b → a ≡ b
same_some answer a b p q = let e : Some a ≡ Some b = sym p ∙ q in cc

same_ok : (A F : Type 0) (answer : Result A F) (a b : A) → answer ≡ Ok a → answer ≡ Ok b → a ≡ b
same_ok A F answer a b p q = let e : Ok a ≡ Ok b = sym p ∙ q in cc

same_err : (A F : Type 0) (answer : Result A F) (f g : F) → answer ≡ Err f → answer ≡ Err g → f ≡ g
same_err A F answer f g p q = let e : Err f ≡ Err g = sym p ∙ q in cc

not_both : (A F : Type 0) (answer : Result A F) (a : A) (f : F) → answer ≡ Ok a → answer ≡ Err f → ⊥
not_both A F answer a f p q = let e : Ok a ≡ Err f = sym p ∙ q in cc

-- what a function tells is one thing
one_told : (F : Type 0) (fault : Option F) (told : F → Refusal) (r s : Refusal) → IsToldOf F fault told r → IsToldOf F fault told s → r ≡ s
one_told F fault told r s (f, p, a) (g, q, b) =
    let e : Some f ≡ Some g = sym p ∙ q in
    let same : f ≡ g = cc in
    a ∙ (ap told same ∙ sym b)

none_told : (F : Type 0) (fault : Option F) (told : F → Refusal) (r : Refusal) → fault ≡ None → IsToldOf F fault told r → ⊥
none_told F fault told r none (f, p, a) = let e : None ≡ Some f = sym none ∙ p in cc

pub gives_test : (A F : Type 0) (answer : Result A F) (told : F → Refusal) → IsTest A (gives A F answer told)
gives_test A F answer told =
    record {
      one_found = λ a b p q. same_ok A F answer a b p q;
      one_refused = λ r s (f, p, a) (g, q, b). a ∙ (ap told (same_err A F answer f g p q) ∙ sym b);
      never_both = λ a r p (f, q, b). not_both A F answer a f p q;
    }

pub reading_test : (bytes : List ℕ) → IsTest File (reading bytes)
reading_test bytes =
    record {
      one_found = λ a b p q. one_reading bytes a b p q;
      one_refused = one_told ReadFault (read_fault bytes) unreadable;
      never_both = λ a r p q. none_told ReadFault (read_fault bytes) unreadable r (reads_no_fault bytes a p) q;
    }

pub soundness_test : (file : File) (library : Library) → IsTest (Unit {0}) (soundness file library)
soundness_test file library =
    record {
      one_found = λ a b p q. refl;
      one_refused = λ r s (f, p, a) (g, q, b). a ∙ (ap unsound (one_fault file library f g p q) ∙ sym b);
      never_both = λ a r p (f, q, b). sound_no_fault file library p f q.found;
    }

pub order_test : (file : File) → IsTest (Unit {0}) (order_of file)
order_test file =
    record {
      one_found = λ a b p q. refl;
      one_refused = one_told _ (order_fault file) out_of_order;
      never_both = λ a r p q. none_told _ (order_fault file) out_of_order r p q;
    }

pub main_test : (file : File) → IsTest Model (main_of file)
main_test file =
    record {
      one_found = λ a b p q. same_some (main_model file) a b p q;
      one_refused = λ r s p q. absurd p;
      never_both = λ a r p q. q;
    }

stream_test : (m : Model) (bytes : List ℕ) → IsTest Stream (stimulus_in m bytes)
stream_test m bytes = gives_test _ _ (stimulus_of (length (data_inputs m)) bytes) bad_stimulus

script_test : (m : Model) (bytes : List ℕ) → IsTest (List Fault) (script_in m bytes)
script_test m bytes = gives_test _ _ (script_of (cell_nets m) bytes) bad_script_line

-- a code has one distance
one_distance : (k : Code) (d e : ℕ) → IsDistance k d → IsDistance k e → d ≡ e
one_distance k d e a b =
    let low : d ≤ e = subst (λ (n : ℕ). d ≤ n) b.reached (a.bound b.least b.places b.nonzero) in
    let high : e ≤ d = subst (λ (n : ℕ). e ≤ n) a.reached (b.bound a.least a.places a.nonzero) in
    omega arith

pub strength_test : (s : Settings) → IsTest Nothing (strength s)
strength_test s =
    record {
      one_found = λ a b p q. refl;
      one_refused = λ r t (d, p, h, is) (e, q, k, also). is ∙ (ap (λ (n : ℕ). too_small n need) (one_distance s.code d e p q) ∙ sym also);
      never_both = λ a r (d, p, h) (e, q, k, is). let same = one_distance s.code d e p q in omega (arith, same, h, k);
    }
  where
    need : ℕ
    need = needed_distance s.mode s.bound

pub words_test : (m : Model) (s : Settings) → IsTest Layout (words_of m s)
words_test m s =
    record {
      one_found = λ a b p q. one_layout m s a b p.0 p.1 q.1;
      one_refused = one_told LayoutFault (layout_fault m s) bad_layout;
      never_both = λ a r p q. none_told LayoutFault (layout_fault m s) bad_layout r p.0 q;
    }

pub smallness_test : (file : File) (s : Settings) (m : Model) (l : Layout) → IsTest Nothing (smallness file s m l)
smallness_test file s m l =
    record {
      one_found = λ a b p q. refl;
      one_refused = λ r t (n, is, large, one) (k, other, larger, same). one ∙ sym same;
      never_both = λ a r (n, is, small) (k, other, large, told).
          let e = size_alone file s.library m s.code s.mode s.bound (rail_count s.mode s.bound) l n k is other in
          omega (arith, e, small, large);
    }

-- ---- the tests of each command

-- those of a guard behind its settings, before others
guard_tests : (s : Settings) (netlist : List ℕ) (next : File → Settings → Model → Layout → Walk) → ((file : File) (m : Model) (l : Layout) → HasTests (next file s m l)) → HasTests (guard_steps s netlist next)
guard_tests s netlist next rest = (
  strength_test s,
  λ strong is. λ bytes short. (
    reading_test bytes,
    λ file reads.
        (soundness_test file s.library, λ sound holds. (main_test file, λ m main. (words_test m s, λ l fits. (smallness_test file s m l, λ small few. rest file m l)))),
  ),
)

-- those of a netlist that can be evaluated line by line, before others
ordered_tests : (netlist : List ℕ) (next : File → Model → Walk) → ((file : File) (m : Model) → HasTests (next file m)) → HasTests (load_ordered netlist next)
ordered_tests netlist next rest = λ bytes short. (reading_test bytes, λ file reads. (order_test file, λ ordered is. (main_test file, λ m main. rest file m)))

pub has_tests : (command : Command) → HasTests (walk_of command)
has_tests (flat netlist) = λ bytes short. (reading_test bytes, λ file reads. (soundness_test file empty_library, λ sound is. tt))
has_tests (code settings) = λ text short. (gives_test _ _ (settings_of_bytes text) bad_settings, λ s is. tt)
has_tests (guard settings netlist) = λ text short. (gives_test _ _ (settings_of_bytes text) bad_settings, λ s is. guard_tests s netlist (λ file s m l. end) (λ file m l. tt))
has_tests (sim netlist stimulus script) =
    ordered_tests netlist (λ file m. run_walk m stimulus script)
    (λ file m. λ text short. (stream_test m text, λ xs is. λ lines few. (script_test m lines, λ faults said. tt)))
has_tests (audit netlist) = ordered_tests netlist (λ file m. end) (λ file m. tt)
has_tests (campaign settings netlist stimulus cycle) = λ text short. (
  gives_test _ _ (settings_of_bytes text) bad_settings,
  λ s is. guard_tests s netlist (λ file s m l. stimulus_walk m stimulus) (λ file m l. λ rows few. (stream_test m rows, λ xs said. tt)),
)
has_tests (demo size) = tt

-- ---- one kind of text

audited_once : (bytes text other : List ℕ) → IsTextOfFile IsIndependentText bytes text → IsTextOfFile IsFindingText bytes other → ⊥
audited_once bytes text other done found =
    let same : found.file ≡ done.file = one_reading bytes found.file done.file found.reads done.reads in
    let of_same = subst (λ (file : File). IsFindingText file other) same found.is_text in
    nothing_found done.file of_same.model of_same.finding of_same.is_model done.is_text.independent of_same.is_finding

audited : (held : Option (List ℕ)) (text other : List ℕ) → IsSomeAnd held (λ bytes. IsTextOfFile IsIndependentText bytes text) → IsSomeAnd held (λ bytes. IsTextOfFile IsFindingText bytes other) → ⊥
audited None text other done found = done
audited (Some bytes) text other done found = audited_once bytes text other done found

-- What a command may write is of one kind.
pub one_kind : (command : Command) (contents : Contents) (text other : List ℕ) → IsDoneText command contents text → IsFoundText command contents other → ⊥
one_kind (audit netlist) contents text other done found = audited (contents netlist) text other done found
one_kind _ contents text other done found = found

-- ---- two verdicts

pub one_of_command : (command : Command) (contents : Contents) (v w : Verdict) → IsVerdict command contents v → IsVerdict command contents w → v ≡ w
one_of_command command = one_verdict (walk_of command) (has_tests command)

pub passes_not_refused : (command : Command) (contents : Contents) (refusal : Refusal) → IsVerdict command contents passes → IsVerdict command contents (refused refusal) → ⊥
passes_not_refused command contents refusal a b = let e = one_of_command command contents passes (refused refusal) a b in cc

pub one_refusal : (command : Command) (contents : Contents) (a b : Refusal) → IsVerdict command contents (refused a) → IsVerdict command contents (refused b) → a ≡ b
one_refusal command contents a b p r = let e = one_of_command command contents (refused a) (refused b) p r in cc
