-- What a sound source gives to the words over its latches and outputs.
use Rattle.std.proofs.Common.{◌≡◌, refl, sym, ◌∙◌, subst, ℕ, ◌≤◌, length, true, Some, arith}
use Rattle.std.proofs.lemmas.List.{length-map}
use Rattle.netlist_spec.specs.Netlist.{File, Model, Port, are_distinct}
use Rattle.netlist_spec.specs.Covers.{Library}
use Rattle.netlist_spec.specs.Models.{Latch, latches_of, latch_outputs, main_model, output_nets}
use Rattle.netlist_spec.specs.Sound.{HasOneDriverEach, IsSound}
use Rattle.guard_spec.specs.Codes.{Code, data_places}
use Rattle.guard_spec.specs.Words.{IsPartition, Layout}
use Rattle.source_laws.proofs.Drivers.{drives_once}
use Rattle.source_laws.proofs.SomeCycle.{few_latches}
use Rattle.source_laws.proofs.SomeValuation.{once_distinct}
use Rattle.plain_size.specs.Sizes.{IsPartitioned}

module _ (file : File) (library : Library) (m : Model) (sound : IsSound file library) (main : main_model file ≡ Some m) where
  drivers : HasOneDriverEach file library m
  drivers = (sound.used m (m, main, 0, refl)).drivers

  pub latches_distinct : are_distinct (latch_outputs m) ≡ true
  latches_distinct =
      once_distinct (latch_outputs m) (λ n. let a = few_latches file library n m.statements in let b = drives_once file library m drivers n in omega arith)

  pub outputs_distinct : are_distinct (output_nets m) ≡ true
  outputs_distinct = drivers.outputs

  pub latches_few : length (latch_outputs m) ≤ 4096
  latches_few =
      let a = (sound.main m main).latches in
      let b = length-map (latches_of m) (λ (l : Latch). l.q) in
      omega arith

  pub outputs_few : length (output_nets m) ≤ 4096
  outputs_few =
      let a = (sound.main m main).outputs in
      let b = length-map m.outputs (λ (p : Port). p.name) in
      omega arith

  module _ (code : Code) (l : Layout) (state : IsPartition (length (latch_outputs m)) (data_places code) l.state) (output : IsPartition (length (output_nets m)) (data_places code) l.output) where
    pub partitioned : (k : Model) → main_model file ≡ Some k → IsPartitioned k code l
    partitioned k is_main =
        let one : Some m ≡ Some k = sym main ∙ is_main in
        let same : m ≡ k = cc one in
        subst (λ (x : Model). IsPartitioned x code l) same (record {
          state = subst (λ (n : ℕ). IsPartition n (data_places code) l.state) (length-map (latches_of m) (λ (l : Latch). l.q)) state;
          output = output;
        })
