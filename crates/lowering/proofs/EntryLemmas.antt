-- Library entries whose gates are appended.
use Rattle.std.proofs.Common.{◌≡◌, sym, ◌∙◌, ap, subst, ℕ, ◌+◌, ◌≤◌, List, length, map, Bool}
use Rattle.std.proofs.lemmas.List.{length-map}
use Rattle.std.specs.List.{AllByRecursion, range_with_len}
use Rattle.netlist_spec.specs.Placed.{numbered_ports}
use Rattle.netlist_spec.specs.Gates.{GateList}
use Rattle.blif_read.specs.declared.file.Bind.{Bind as ReadBind}
use Rattle.gate_net.specs.declared.gate.NetId.{NetId}
use Rattle.gate_net.specs.Gate.{net_number}
use Rattle.gate_net.specs.GateNet.{net_count}
use Rattle.reduction.specs.Appended.{Extends, HasBits, IsAppended, ReadsInputsAlone}
use Rattle.lowering.specs.Ports.{NotesPorts, port_net, input_nets, outputs_put}
use Rattle.lowering.proofs.PortLemmas.{ports_length}

pub nets_count : (ins : List NetId) (table : List ℕ) (binds : List ReadBind) (count : ℕ) → map net_number ins ≡ input_nets table binds count → length ins ≡ count
nets_count ins table binds count e =
    sym (length-map ins net_number) ∙ (ap length e ∙ (length-map (numbered_ports 105 count) (port_net table binds) ∙ ports_length 105 count))

pub notes_ports : (ins outs : ℕ) (value : List Bool → ℕ → Bool) (most : ℕ) (binds : List ReadBind) (old : GateList) (before : List ℕ) (new : GateList) (noted : List ℕ) (in_nets out_nets : List NetId)
    → map net_number in_nets ≡ input_nets before binds ins → length out_nets ≡ outs
    → noted ≡ outputs_put (numbered_ports 111 (length out_nets)) (map net_number out_nets) before binds
    → AllByRecursion (IsAppended old new) (map net_number out_nets)
    → HasBits old new (map net_number out_nets) (λ v. map (value (map v (map net_number in_nets))) (range_with_len 0 outs))
    → net_count new ≤ net_count old + most → ReadsInputsAlone old new (map net_number in_nets) → Extends old new
    → NotesPorts ins outs value most binds old before new noted
notes_ports ins outs value most binds old before new noted in_nets out_nets inputs count table appended values cost reads extends =
    record {
      nets = map net_number out_nets;
      count = length-map out_nets net_number ∙ count;
      table = table ∙ ap (λ (n : ℕ). outputs_put (numbered_ports 111 n) (map net_number out_nets) before binds) count;
      appended = appended;
      values = subst (λ (ns : List ℕ). HasBits old new (map net_number out_nets) (λ v. map (value (map v ns)) (range_with_len 0 outs))) inputs values;
      cost = cost;
      reads = subst (λ (ns : List ℕ). ReadsInputsAlone old new ns) inputs reads;
      extends = extends;
    }
