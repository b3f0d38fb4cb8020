use Rattle.std.proofs.Common.{◌+◌, ◌-◌, ◌≤◌, length, take, drop, get_or, [], arith, sym, subst}
use Rattle.std.specs.List.{AllByRecursion}
use denote.Ref.{Bor}
use Rattle.netlist_spec.specs.Lines.{Word}
use Rattle.netlist_spec.specs.Netlist.{IsName}
use Rattle.blif_read.specs.LineTests.{words_in}
use Rattle.blif_read.proofs.SpelledLemmas.{adds-next, word-at, words-rest, words-step}
use Rattle.blif_read.proofs.statement.add_ports.Goals as goal

pub intern-requires-clause-some : goal.intern-requires-clause-some
intern-requires-clause-some c =
    let none : Bor Word = record { ref_ptr = (0, 0); now = [] } in
    let ws = c.args.line.now.words.now in
    let are = subst (AllByRecursion IsName) (sym (words-rest 1 ws)) c.requires.words in
    (word-at IsName (take (length ws - 1) (drop 1 ws)) are c.loop-word.word-index none c.loop-word-test.true).0

pub intern-requires-clause-short : goal.intern-requires-clause-short
intern-requires-clause-short c =
    let none : Bor Word = record { ref_ptr = (0, 0); now = [] } in
    let ws = c.args.line.now.words.now in
    let are = subst (AllByRecursion IsName) (sym (words-rest 1 ws)) c.requires.words in
    (word-at IsName (take (length ws - 1) (drop 1 ws)) are c.loop-word.word-index none c.loop-word-test.true).1

pub loop-word-preserved : goal.loop-word-preserved
loop-word-preserved c =
    let none : Bor Word = record { ref_ptr = (0, 0); now = [] } in
    let ws = take (length c.args.line.now.words.now - 1) (drop 1 c.args.line.now.words.now) in
    let i = c.loop-word.word-index in
    let more = words-step ws i none c.loop-word-test.true in
    let next = adds-next c.args.names.now c.loop-word.names c.intern.new.self c.args.line.now.number (words_in (take i ws)) (words_in (take (i + 1) ws)) c.args.ports.now.items c.loop-word.ports.items c.push.new.self.items c.in_ok-name.name (get_or ws i none).now more c.loop-word.invariant.names c.loop-word.invariant.ports c.in_ok-name.ensures.names c.in_ok-name.ensures.place c.in_ok-push.ensures.items in
    let few : length c.intern.new.self ≤ length c.args.names.now + (i + 1) = omega (arith, next.2, c.loop-word.invariant.few) in
    record { names = next.0; ports = next.1; few = few }
