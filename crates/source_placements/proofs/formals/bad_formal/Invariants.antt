-- The words so far have good formals, which are the given ones.
use Rattle.std.proofs.Common.{◌≡◌, ◌++◌, [], List, map, take, drop}
use Rattle.netlist_spec.specs.Netlist.{Name}
use Rattle.netlist_spec.specs.Placed.{input_ports, output_ports}
use Rattle.netlist_spec.specs.SoundFaults.{bad_formal}
use Rattle.blif_read.specs.declared.file.Bind.{Bind}
use Rattle.blif_read.specs.View.{bind_of}
use Rattle.source_nets.specs.Ports.{source_file, source_library}
use Rattle.source_nets.specs.Survey.{placed_at}
use Rattle.source_placements.proofs.formals.bad_formal.Given as goal

abbrev pub invariant-loop-bind : goal.invariant-loop-bind
invariant-loop-bind l =
    let place = placed_at (source_file l.source) (source_library l.source) l.meaning in
    let ports = input_ports place ++ output_ports place in
    record {
      given : l.given ≡ map (λ (b : Bind). b.formal) (take l.bind-index l.binds);
      found : (all : List Name) → bad_formal ports l.given (map (bind_of all) (drop l.bind-index l.binds)) ≡ bad_formal ports [] (map (bind_of all) l.binds);
    }
