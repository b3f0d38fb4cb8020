-- What `campaign` writes, of a guard, its stimulus and its tally.
use Rattle.std.proofs.Common.{◌≡◌, ℕ, List, ◌++◌, length, Ok, Some, None, refl, sym, subst, ap, ◌∙◌}
use Rattle.std.specs.Prelude.{Option, IsSomeAnd}
use Rattle.imp_io.specs.Files.{FilesSeen, bytes_at}
use Rattle.netlist_spec.specs.Netlist.{File}
use Rattle.netlist_spec.specs.Gates.{Machine}
use Rattle.netlist_spec.specs.Models.{data_inputs}
use Rattle.netlist_spec.specs.Reads.{Reads}
use Rattle.netlist_spec.specs.Runs.{IsSteady}
use Rattle.netlist_spec.specs.SourceRun.{Stream}
use Rattle.netlist_spec.specs.Written.{Named}
use Rattle.stimulus_spec.specs.Stimulus.{stimulus_of}
use Rattle.guard_spec.specs.SettingsFile.{settings_of_bytes}
use Rattle.guard_spec.specs.Words.{Settings, Layout}
use Rattle.guard_tally.specs.Tallied.{IsTallied, MakesText, lines_of}
use Rattle.guard_tally.specs.declared.tally.GuardTally.{GuardTally}
use Rattle.program_spec.specs.CampaignText.{IsCampaignText}
use Rattle.program_spec.specs.Commands.{campaign, other_limit}
use Rattle.program_spec.specs.Walk.{end, passes}
use Rattle.impeccable.specs.declared.ended.Success.TheVariants.{Done}
use Rattle.impeccable.specs.declared.guarded.Guarded.{Guarded}
use Rattle.impeccable.specs.Flat.{named_text}
use Rattle.impeccable.specs.Guarded.{IsMadeOf}
use Rattle.impeccable.specs.Steps.{IsPrepared}
use Rattle.impeccable.proofs.LoadsLemmas.{held-short}
use Rattle.impeccable.proofs.StimulusLemmas.{IsDriven, driven}

-- the law of the text of a campaign
abbrev pub IsLaw : Type 0
IsLaw =
    (settings netlist stimulus : List ℕ) (source : File) (s : Settings) (n : Named) (machine : Machine) (l : Layout) (xs : Stream) (cycle : ℕ) (t : GuardTally)
    → MakesText settings netlist stimulus source s n machine l xs cycle t

-- what holds of the bytes of each of three files that are held
of-three : (P Q R : List ℕ → Type 0) (T : List ℕ → List ℕ → List ℕ → Type 0) (a b c : Option (List ℕ)) → ((x y z : List ℕ) → P x → Q y → R z → T x y z)
    → IsSomeAnd a P → IsSomeAnd b Q → IsSomeAnd c R → IsSomeAnd a (λ x. IsSomeAnd b (λ y. IsSomeAnd c (λ z. T x y z)))
of-three P Q R T None b c go p q r = absurd p
of-three P Q R T (Some x) None c go p q r = absurd q
of-three P Q R T (Some x) (Some y) None go p q r = absurd r
of-three P Q R T (Some x) (Some y) (Some z) go p q r = go x y z p q r

module _ (settings netlist : List ℕ) (old : FilesSeen) (g : Guarded) (h : IsMadeOf settings netlist old g) where
  -- the machine has the data inputs of the source
  pub inputs-are : g.guard.machine.inputs ≡ length (data_inputs h.made.from.m)
  inputs-are = sym (ap (λ (k : Machine). k.inputs) h.made.machine_is) ∙ h.made.from.elaborated.machine.inputs

  pub campaign-prepared : (stimulus : List ℕ) (cycle : ℕ) (xs : Stream) (t : GuardTally) → IsLaw → IsDriven old stimulus h.made.from.m xs → IsTallied g.guard.named g.guard.machine g.settings g.guard.layout xs cycle t
      → IsPrepared (campaign settings netlist stimulus cycle) Done old (lines_of t ++ named_text g.guard.named)
  campaign-prepared stimulus cycle xs t law drives tallied = λ known.
      let m = h.made.from.m in
      let passed = driven (campaign settings netlist stimulus cycle) stimulus end old m xs (h.passed (campaign settings netlist stimulus cycle) (refl, refl)) drives in
      let makes = λ (given bytes rows : List ℕ) (is : settings_of_bytes given ≡ Ok g.settings) (reads : Reads bytes h.source) (said : stimulus_of (length (data_inputs m)) rows ≡ Ok xs).
      law given bytes rows h.source g.settings g.guard.named g.guard.machine g.guard.layout xs cycle t h.made is reads
      (subst (λ k. stimulus_of k rows ≡ Ok xs) (sym inputs-are) said) tallied in (
        passed.verdict known passes refl,
        of-three (λ bytes. settings_of_bytes bytes ≡ Ok g.settings) (λ bytes. Reads bytes h.source) (λ bytes. stimulus_of (length (data_inputs m)) bytes ≡ Ok xs)
            (λ given bytes rows. IsCampaignText given bytes rows (lines_of t ++ named_text g.guard.named) cycle (λ f. IsSteady f))
            (bytes_at old.told settings) (bytes_at old.told netlist) (bytes_at old.told stimulus) makes
            (h.are_settings known) (h.is_source known) (held-short old stimulus other_limit (λ bytes. stimulus_of (length (data_inputs m)) bytes ≡ Ok xs) drives known),
      )
