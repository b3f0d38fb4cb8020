use Rattle.std.proofs.Common.{◌≡◌, ◌∙◌, sym, ap, ℕ, Bool, true, false, get_or, List}
use Rattle.std.specs.Bool.{then_some}
use Rattle.netlist_spec.specs.Netlist.{Name, is_reserved}
use Rattle.blif_read.specs.declared.file.Port.{Port}
use Rattle.blif_read.specs.View.{name_at}
use Rattle.main_check.proofs.Firsts.{goes_on, is_found, none_left}
use Rattle.main_check.proofs.NameLemmas.{reserved_at, ports_are, reserved_told_at}
use Rattle.main_check.proofs.reserved.reserved_port.Goals as goal

pub returns-then-is_reserved-clause-name : goal.returns-then-is_reserved-clause-name
returns-then-is_reserved-clause-name c =
    let none : Port = record { name = record { 0 = 0 }; line = 0 } in
    let all = c.args.names.now in
    let ports = c.args.ports.now in
    let i = c.loop-port.port-index in
    let port = get_or ports i none in
    sym (is_found (reserved_at all) ports i none (name_at all port.name) c.loop-port-test.true
    (reserved_told_at all port c.get.result.now c.is_reserved.result true c.get.ensures c.is_reserved.ensures c.if-is_reserved.true))
    ∙ (c.loop-port.invariant ∙ ports_are all ports)

pub loop-port-preserved : goal.loop-port-preserved
loop-port-preserved c =
    let none : Port = record { name = record { 0 = 0 }; line = 0 } in
    let all = c.args.names.now in
    let ports = c.args.ports.now in
    let i = c.loop-port.port-index in
    let port = get_or ports i none in
    goes_on (reserved_at all) ports i none c.loop-port-test.true
    (reserved_told_at all port c.get.result.now c.is_reserved.result false c.get.ensures c.is_reserved.ensures c.if-is_reserved.false)
    ∙ c.loop-port.invariant

pub returns-clause-name : goal.returns-clause-name
returns-clause-name c =
    sym (none_left (reserved_at c.args.names.now) c.args.ports.now c.loop-port.port-index c.loop-port-test.false)
    ∙ (c.loop-port.invariant ∙ ports_are c.args.names.now c.args.ports.now)
