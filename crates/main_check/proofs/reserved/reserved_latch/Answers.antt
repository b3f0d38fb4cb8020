use Rattle.std.proofs.Common.{◌≡◌, ◌∙◌, sym, find, Option}
use Rattle.netlist_spec.specs.Netlist.{Name, is_reserved}
use Rattle.blif_read.specs.declared.file.Located.{Located}
use Rattle.blif_read.specs.View.{name_at, statement_of}
use Rattle.line_order.specs.Marks.{latch_output_of}
use Rattle.main_check.proofs.Firsts.{item_found, none_left}
use Rattle.main_check.proofs.NameLemmas.{outputs_are}
use Rattle.main_check.proofs.reserved.reserved_latch.Goals as goal

pub returns-in-Some-clause-name : goal.returns-in-Some-clause-name
returns-in-Some-clause-name c =
    let all = c.args.names.now in
    let f : Located → Option Name = λ s. find is_reserved (latch_output_of (statement_of all s.what)) in
    sym (item_found f c.args.statements.now c.loop-s.s-index c.s-item.result (name_at all c.in-Some.id) c.loop-s-test.true c.s-item.is (sym c.in-Some.ensures.name))
    ∙ (c.loop-s.invariant ∙ outputs_are all c.args.statements.now)

pub returns-clause-name : goal.returns-clause-name
returns-clause-name c =
    let all = c.args.names.now in
    let f : Located → Option Name = λ s. find is_reserved (latch_output_of (statement_of all s.what)) in
    sym (none_left f c.args.statements.now c.loop-s.s-index c.loop-s-test.false) ∙ (c.loop-s.invariant ∙ outputs_are all c.args.statements.now)
