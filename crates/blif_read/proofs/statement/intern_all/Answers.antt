use Rattle.std.proofs.Common.{◌+◌, ◌≤◌, length, take, get_or, [], arith}
use denote.Ref.{Bor}
use Rattle.netlist_spec.specs.Lines.{Word}
use Rattle.netlist_spec.specs.Netlist.{IsName}
use Rattle.blif_read.specs.LineTests.{words_in}
use Rattle.blif_read.proofs.SpelledLemmas.{numbers-next, word-at, words-step}
use Rattle.blif_read.proofs.statement.intern_all.Goals as goal

pub intern-requires-clause-some : goal.intern-requires-clause-some
intern-requires-clause-some c =
    let none : Bor Word = record { ref_ptr = (0, 0); now = [] } in
    (word-at IsName c.args.words.now c.requires.words c.loop-word.word-index none c.loop-word-test.true).0

pub intern-requires-clause-short : goal.intern-requires-clause-short
intern-requires-clause-short c =
    let none : Bor Word = record { ref_ptr = (0, 0); now = [] } in
    (word-at IsName c.args.words.now c.requires.words c.loop-word.word-index none c.loop-word-test.true).1

pub loop-word-preserved : goal.loop-word-preserved
loop-word-preserved c =
    let none : Bor Word = record { ref_ptr = (0, 0); now = [] } in
    let ws = c.args.words.now in
    let i = c.loop-word.word-index in
    let more = words-step ws i none c.loop-word-test.true in
    let next = numbers-next c.args.names.now c.loop-word.names c.intern.new.self c.loop-word.ids.items (words_in (take i ws)) (words_in (take (i + 1) ws)) c.in_ok-id.id (get_or ws i none).now more c.loop-word.invariant.names c.loop-word.invariant.ids c.in_ok-id.ensures.names c.in_ok-id.ensures.place in
    let few : length c.intern.new.self ≤ length c.args.names.now + (i + 1) = omega (arith, next.2, c.loop-word.invariant.few) in
    record { names = next.0; ids = rw c.in_ok-push.ensures.items next.1; few = few }
