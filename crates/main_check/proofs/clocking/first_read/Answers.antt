use Rattle.std.proofs.Common.{◌≡◌, ◌∙◌, sym, true, false, get_or}
use Rattle.blif_read.specs.declared.file.Port.{Port}
use Rattle.blif_read.specs.View.{name_at}
use Rattle.main_check.proofs.Firsts.{goes_on, is_found, none_left}
use Rattle.main_check.proofs.ClockLemmas.{read_at, read_is, read_told}
use Rattle.main_check.proofs.clocking.first_read.Goals as goal

pub returns-then-is_clock-is_read-clause-name : goal.returns-then-is_clock-is_read-clause-name
returns-then-is_clock-is_read-clause-name c = λ all nets reads k r.
    let none : Port = record { name = record { 0 = 0 }; line = 0 } in
    let ports = c.args.ports.now in
    let i = c.loop-port.port-index in
    let here = name_at all (get_or ports i none).name in
    sym (is_found (read_at all nets reads) ports i none here c.loop-port-test.true
    (read_told _ _ _ _ here true (c.has-is_clock.ensures all nets k) (c.has-is_read.ensures all reads r) c.if-is_clock-is_read.true))
    ∙ (c.loop-port.invariant all nets reads k r ∙ read_is all nets reads ports)

pub loop-port-preserved : goal.loop-port-preserved
loop-port-preserved c = λ all nets reads k r.
    let none : Port = record { name = record { 0 = 0 }; line = 0 } in
    let ports = c.args.ports.now in
    let i = c.loop-port.port-index in
    let here = name_at all (get_or ports i none).name in
    goes_on (read_at all nets reads) ports i none c.loop-port-test.true
    (read_told _ _ _ _ here false (c.has-is_clock.ensures all nets k) (c.has-is_read.ensures all reads r) c.if-is_clock-is_read.false)
    ∙ c.loop-port.invariant all nets reads k r

pub returns-clause-name : goal.returns-clause-name
returns-clause-name c = λ all nets reads k r.
    sym (none_left (read_at all nets reads) c.args.ports.now c.loop-port.port-index c.loop-port-test.false)
    ∙ (c.loop-port.invariant all nets reads k r ∙ read_is all nets reads c.args.ports.now)
