use Rattle.std.proofs.Common.{◌∙◌, Some, [], drop, map, get_or, ap, sym, subst}
use Rattle.std.proofs.lemmas.List.{take_rest}
use denote.Ref.{Bor}
use Rattle.netlist_spec.specs.Lines.{Word}
use Rattle.netlist_spec.specs.Statements.{Said}
use Rattle.netlist_spec.specs.Said.{word_bind}
use Rattle.blif_read.specs.declared.file.Statement.TheVariants.{Subckt}
use Rattle.blif_read.specs.LineTests.{words_in}
use Rattle.blif_read.specs.Spelled.{SpellsSome, nets_of, statement_said, with_names}
use Rattle.blif_read.proofs.SpelledLemmas.{actuals-are, subckt-parts, subckt-spelled}
use Rattle.blif_read.proofs.statement.read_subckt.Goals as goal

pub returns-clause-names : goal.returns-clause-names
returns-clause-names c =
    let none : Bor Word = record { ref_ptr = (0, 0); now = [] } in
    let ws = c.args.words.now in
    rw (take_rest ws 1) at c.in_ok-binds.ensures.names ∙ ap (with_names c.args.names.now) (sym (actuals-are (words_in (drop 1 ws))) ∙ ap (λ (said : Said). nets_of (statement_said said)) (sym (subckt-parts ws none c.requires.some)))

pub returns-clause-statement : goal.returns-clause-statement
returns-clause-statement c =
    let none : Bor Word = record { ref_ptr = (0, 0); now = [] } in
    let ws = c.args.words.now in
    let all = c.read_binds.new.names in
    let model = c.in_ok-model.model in
    let binds = c.in_ok-binds.binds in
    let spelled = subckt-spelled all model (get_or ws 0 none).now binds (map word_bind (words_in (drop 1 ws))) c.in_ok-model.ensures (rw (take_rest ws 1) at c.in_ok-binds.ensures.binds) in
    subst (λ (said : Said). SpellsSome all (Some (Subckt model binds)) (statement_said said)) (sym (subckt-parts ws none c.requires.some)) spelled
