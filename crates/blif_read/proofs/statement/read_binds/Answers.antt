use Rattle.std.proofs.Common.{◌+◌, ◌≤◌, length, take, get_or, [], arith}
use denote.Ref.{Bor}
use Rattle.netlist_spec.specs.Lines.{Word}
use Rattle.blif_read.specs.LineTests.{words_in}
use Rattle.blif_read.proofs.SpelledLemmas.{binds-next, bound-at, words-step}
use Rattle.blif_read.proofs.statement.read_binds.Goals as goal

pub read_bind-requires-clause-bind : goal.read_bind-requires-clause-bind
read_bind-requires-clause-bind c =
    let none : Bor Word = record { ref_ptr = (0, 0); now = [] } in
    bound-at c.args.ports.now c.requires.binds c.loop-port.port-index none c.loop-port-test.true

pub loop-port-preserved : goal.loop-port-preserved
loop-port-preserved c =
    let none : Bor Word = record { ref_ptr = (0, 0); now = [] } in
    let ws = c.args.ports.now in
    let i = c.loop-port.port-index in
    let more = words-step ws i none c.loop-port-test.true in
    let next = binds-next c.args.names.now c.loop-port.names c.read_bind.new.names c.loop-port.binds.items (words_in (take i ws)) (words_in (take (i + 1) ws)) c.in_ok-bind.bind (get_or ws i none).now more c.loop-port.invariant.names c.loop-port.invariant.binds c.in_ok-bind.ensures.names c.in_ok-bind.ensures.formal c.in_ok-bind.ensures.actual in
    let few : length c.read_bind.new.names ≤ length c.args.names.now + (i + 1) = omega (arith, next.2, c.loop-port.invariant.few) in
    record { names = next.0; binds = rw c.in_ok-push.ensures.items next.1; few = few }
