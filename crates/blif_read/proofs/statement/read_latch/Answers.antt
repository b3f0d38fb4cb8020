use Rattle.std.proofs.Common.{Some, [], drop, get_or, sym, subst}
use Rattle.std.proofs.lemmas.List.{take_rest}
use denote.Ref.{Bor}
use Rattle.netlist_spec.specs.Lines.{Word}
use Rattle.netlist_spec.specs.Statements.{Said}
use Rattle.blif_read.specs.declared.file.Statement.TheVariants.{Latch}
use Rattle.blif_read.specs.LineTests.{words_in}
use Rattle.blif_read.specs.Spelled.{SpellsSome, clocking_said, init_said, statement_said}
use Rattle.blif_read.proofs.SpelledLemmas.{latch-parts, latch-spelled}
use Rattle.blif_read.proofs.statement.read_latch.Goals as goal

pub returns-clause-statement : goal.returns-clause-statement
returns-clause-statement c =
    let none : Bor Word = record { ref_ptr = (0, 0); now = [] } in
    let ws = c.args.words.now in
    let rest = words_in (drop 2 ws) in
    let n3 = c.read_clocking.new.names in
    let clocking = c.in_ok-clocking.clocking in
    let init = c.read_init-init.result in
    let spelled = latch-spelled c.intern.new.self c.intern-2.new.self n3 c.in_ok-d.d c.in_ok-q.q clocking init (init_said rest) (get_or ws 0 none).now (get_or ws 1 none).now (clocking_said rest)
    c.in_ok-d.ensures.place c.in_ok-q.ensures.names c.in_ok-q.ensures.place (rw (take_rest ws 2) at c.in_ok-clocking.ensures.names) (rw (take_rest ws 2) at c.in_ok-clocking.ensures.same) c.in_ok-clocking.ensures.within (rw (take_rest ws 2) at c.read_init-init.ensures) in
    subst (λ (said : Said). SpellsSome n3 (Some (Latch c.in_ok-d.d c.in_ok-q.q clocking init)) (statement_said said)) (sym (latch-parts ws none c.requires.two)) spelled
