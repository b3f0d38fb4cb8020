-- What a sound source gives to its words, and what is settled or refused when they are tested.
use Rattle.std.proofs.Common.{◌≡◌, refl, sym, ◌∙◌, subst, ℕ, ◌<◌, ◌≤◌, length, true, Option, Some, None, arith}
use Rattle.std.specs.Prelude.{IfSome}
use Rattle.std.specs.Option.{option_map}
use Rattle.std.proofs.lemmas.List.{length-map}
use Rattle.netlist_spec.specs.Netlist.{File, Model, Port, are_distinct}
use Rattle.netlist_spec.specs.Covers.{Library}
use Rattle.netlist_spec.specs.Models.{Latch, latches_of, latch_outputs, main_model, output_nets}
use Rattle.netlist_spec.specs.Sound.{HasOneDriverEach, IsSound}
use Rattle.netlist_spec.specs.SoundFaults.{SoundFault, IsRefusedWith}
use Rattle.guard_spec.specs.Codes.{data_places}
use Rattle.guard_spec.specs.Plain.{IsPlain}
use Rattle.guard_spec.specs.Words.{IsLayout, IsPartition, Layout, LayoutFault, Settings, layout_fault}
use Rattle.source_laws.proofs.Drivers.{drives_once}
use Rattle.source_laws.proofs.SomeCycle.{few_latches}
use Rattle.source_laws.proofs.SomeValuation.{once_distinct}
use Rattle.encode_state.specs.Faults.{IsFault}
use Rattle.plain_size.specs.Sizes.{IsMainPlain, IsPartitioned}
use Rattle.guard_source.specs.Accepted.{IsLaidOut, IsRefusedGuard, IsTaken, bad_layout, guard_too_large, unsound}
use Rattle.guard_source.specs.Settled.{IsSettled}

pub refused_unsound : (file : File) (s : Settings) (library : Library) → library ≡ s.library → (told : Option SoundFault) → IfSome told (IsRefusedWith file library) → IfSome (option_map (λ f. unsound f) told) (IsRefusedGuard file s)
refused_unsound file s library same None is = tt
refused_unsound file s library same (Some fault) is = subst (λ (k : Library). IsRefusedWith file k fault) same is

module _ (file : File) (s : Settings) (m : Model) (sound : IsSound file s.library) (main : main_model file ≡ Some m) where
  drivers : HasOneDriverEach file s.library m
  drivers = (sound.used m (m, main, 0, refl)).drivers

  pub latches_distinct : are_distinct (latch_outputs m) ≡ true
  latches_distinct =
      once_distinct (latch_outputs m) (λ n. let a = few_latches file s.library n m.statements in let b = drives_once file s.library m drivers n in omega arith)

  pub outputs_distinct : are_distinct (output_nets m) ≡ true
  outputs_distinct = drivers.outputs

  pub latches_few : length (latch_outputs m) ≤ 4096
  latches_few =
      let a = (sound.main m main).latches in
      let b = length-map (latches_of m) (λ (l : Latch). l.q) in
      omega arith

  pub outputs_few : length (output_nets m) ≤ 4096
  outputs_few =
      let a = (sound.main m main).outputs in
      let b = length-map m.outputs (λ (p : Port). p.name) in
      omega arith

  taken : IsTaken file s m
  taken = record { sound = sound; main = main }

  pub refused_words : (told : Option LayoutFault) → IsFault (layout_fault m s) told → IfSome (option_map (λ f. bad_layout f) told) (IsRefusedGuard file s)
  refused_words None is = tt
  refused_words (Some fault) is = (m, taken, is)

  module _ (l : Layout) (none : layout_fault m s ≡ None) (is : IsLayout m s l) where
    laid_out : IsLaidOut file s m l
    laid_out = record { taken = taken; no_fault = none; is_layout = is }

    -- the plain size is that of the main model
    plain_of_main : (n : ℕ) → IsMainPlain file s l n → IsPlain file s.library m s.code s.mode s.bound l n
    plain_of_main n (k, is_main, plain) =
        let one : Some k ≡ Some m = sym is_main ∙ main in
        let same : k ≡ m = cc one in
        subst (λ (x : Model). IsPlain file s.library x s.code s.mode s.bound l n) same plain

    pub refused_large : (n : ℕ) → IsMainPlain file s l n → 1000000 < n → IsRefusedGuard file s guard_too_large
    refused_large n plain large = (m, l, laid_out, (n, plain_of_main n plain, large))

    module _ (state : IsPartition (length (latch_outputs m)) (data_places s.code) l.state) (output : IsPartition (length (output_nets m)) (data_places s.code) l.output) where
      pub partitioned : (k : Model) → main_model file ≡ Some k → IsPartitioned k s.code l
      partitioned k is_main =
          let one : Some m ≡ Some k = sym main ∙ is_main in
          let same : m ≡ k = cc one in
          subst (λ (x : Model). IsPartitioned x s.code l) same (record {
            state = subst (λ (n : ℕ). IsPartition n (data_places s.code) l.state) (length-map (latches_of m) (λ (l : Latch). l.q)) state;
            output = output;
          })

      pub settled : (n : ℕ) → IsMainPlain file s l n → n ≤ 1000000 → IsSettled file s l
      settled n plain small = record {
        m = m;
        laid_out = laid_out;
        state = state;
        output = output;
        n = n;
        is_plain = plain_of_main n plain;
        small = small;
      }
