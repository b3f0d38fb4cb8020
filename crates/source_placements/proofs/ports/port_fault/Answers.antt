use Rattle.std.proofs.Common.{◌≡◌, sym, ◌∙◌, ap, ap₂, List, map, find, not, Option}
use Rattle.std.specs.Option.{option_or}
use Rattle.std.proofs.lemmas.Result.{IfOk-weaker}
use Rattle.netlist_spec.specs.Netlist.{Name, Bind, stands_in}
use Rattle.netlist_spec.specs.Placed.{input_ports}
use Rattle.netlist_spec.specs.SoundFaults.{with_model, missing_port}
use Rattle.blif_read.specs.declared.file.Bind.{Bind as ReadBind}
use Rattle.blif_read.specs.View.{bind_of}
use Rattle.source_nets.specs.Ports.{source_file, source_library}
use Rattle.source_nets.specs.Survey.{placed_at}
use Rattle.source_nets.proofs.SurveyLemmas.{mapped_twice}
use Rattle.source_placements.proofs.PortLemmas.{port_fault_is}
use Rattle.source_placements.proofs.ports.port_fault.Goals as goal

pub returns : goal.returns
returns c =
    let file = source_file c.args.source.now in
    let library = source_library c.args.source.now in
    let place = placed_at file library c.args.meaning in
    let given = c.bad_formal.new.given in
    let all_given : given ≡ map (λ (b : ReadBind). b.formal) c.args.binds.now = rw c.in_default-2.is at c.in_ok-formal.ensures.given in
    IfOk-weaker c.missing_port.result _ _
    (λ found e. λ all name.
    let binds = map (bind_of all) c.args.binds.now in
    let formals : map (λ (b : Bind). b.formal) binds ≡ given = sym (mapped_twice (λ (b : Bind). b.formal) (bind_of all) c.args.binds.now) ∙ sym all_given in
    let missing : missing_port (input_ports place) binds ≡ found = ap (λ (ns : List Name). find (λ p. not (stands_in p ns)) (input_ports place)) formals ∙ sym e in
    sym (port_fault_is file library c.args.meaning name binds c.requires.meaning c.in_default.not-Cell c.in_default.not-Nothing
    ∙ ap₂ (λ (x y : Option Name). with_model name (option_or x y)) (sym (c.in_ok-formal.ensures.found all) ∙ c.in_default-2.is) missing))
    c.missing_port.ensures
