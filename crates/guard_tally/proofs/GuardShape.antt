-- A guard that was made for a source is in order, and has the source's inputs and outputs, the check bits and the rails.
use Rattle.std.proofs.Common.{◌≡◌, sym, ◌∙◌, ap, ℕ, ◌+◌, ◌*◌, List, [], ◌∷◌, length, map, arith}
use Rattle.std.proofs.lemmas.List.{length-map, length-take-le}
use Rattle.netlist_spec.specs.Netlist.{Model, File}
use Rattle.netlist_spec.specs.Models.{data_inputs, output_nets}
use Rattle.netlist_spec.specs.Gates.{Machine}
use Rattle.netlist_spec.specs.Written.{Named, label_name, net_name, output_names, file_of}
use Rattle.guard_spec.specs.Codes.{rail_count}
use Rattle.guard_spec.specs.Words.{Layout, Settings}
use Rattle.campaign.specs.Runs.{IsGuardShape}
use Rattle.named_netlist.proofs.NamedFiles.{names-back}
use Rattle.named_netlist.proofs.NamedModels.{first-inputs}
use Rattle.named_netlist.proofs.NamedOrder.{files-ordered}
use Rattle.named_netlist.proofs.WrittenModel.{written_model}
use Rattle.guard_source.specs.Made.{IsGuardMade}
use Rattle.guard_tally.specs.Tallied.{HasItsShape}

same_head : (a b : Model) → ◌≡◌ {A = List Model} (a ∷ []) (b ∷ []) → a ≡ b
same_head a b e = cc e

module _ (source : File) (s : Settings) (n : Named) (machine : Machine) (l : Layout) (made : IsGuardMade source s n machine l) where
  as_many_inputs : length (data_inputs (written_model n)) ≡ machine.inputs
  as_many_inputs =
      let names = map label_name n.labels in
      let long = length-map n.labels label_name in
      let labels = made.from.named.labels in
      let leaves = made.from.named.leaves in
      ap length (first-inputs n made.from.named) ∙ length-take-le n.data_inputs names (omega (arith, long, labels, leaves))
      ∙ ap (λ (k : Machine). k.inputs) made.from.is_named.machine ∙ made.from.guard.own_nets.inputs ∙ ap (λ (k : Machine). k.inputs) made.machine_is

  as_many_outputs : length (output_nets (written_model n)) ≡ length machine.outputs + length l.output * s.code.columns + rail_count s.mode s.bound
  as_many_outputs =
      ap length (names-back (3 + length n.inputs) (output_names n)) ∙ length-map n.outputs (net_name n) ∙ ap (λ (k : Machine). length k.outputs) made.from.is_named.machine ∙ made.from.guard.outputs
      ∙ ap (λ (k : Machine). length k.outputs + length made.from.l.output * s.code.columns + made.from.g.rails) made.machine_is
      ∙ ap (λ (w : Layout). length machine.outputs + length w.output * s.code.columns + made.from.g.rails) made.layout_is
      ∙ ap (λ (rails : ℕ). length machine.outputs + length l.output * s.code.columns + rails) made.from.guard.rail_number

  has_shape : IsGuardShape (file_of n) machine l s.code (rail_count s.mode s.bound)
  has_shape ordered =
      let same = same_head (written_model n) ordered.model ordered.one_model in (
        ap (λ (m : Model). length (data_inputs m)) (sym same) ∙ as_many_inputs,
        ap (λ (m : Model). length (output_nets m)) (sym same) ∙ as_many_outputs,
      )

pub its_shape : (source : File) (s : Settings) (n : Named) (machine : Machine) (l : Layout) → HasItsShape source s n machine l
its_shape source s n machine l made = (files-ordered n made.from.named, has_shape source s n machine l made)
