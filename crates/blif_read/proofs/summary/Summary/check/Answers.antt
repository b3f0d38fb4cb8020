use Rattle.std.proofs.Common.{◌≡◌, ◌-◌, Some, sym, ap, ◌∙◌, length}
use Rattle.netlist_spec.specs.ReadFaults.{count_fault}
use Rattle.imp_text.specs.Quantities.{quantity_of}
use Rattle.blif_read.specs.Kinds.{kind_in}
use Rattle.blif_read.specs.LineTests.{line_of}
use Rattle.blif_read.specs.Summaries.{order_fault, words_fault, row_fault, model_fault, count_fault_by, passed_by}
use Rattle.blif_read.proofs.SummaryLemmas.{last_fault, count_behind}
use Rattle.blif_read.proofs.summary.Summary.check.Goals as goal

pub returns-in-Some-clause-err : goal.returns-in-Some-clause-err
returns-in-Some-clause-err c =
    let s = c.args.self.now in
    let k = kind_in c.args.line.now.kind in
    let l = line_of c.args.line.now in
    let passed : Some (quantity_of c.in-Some.what) ≡ passed_by s.room k (length c.args.line.now.words.now - 1) = c.in-Some.ensures in
    last_fault (order_fault s k l) (words_fault k l) (row_fault s k l) (model_fault s k l) (count_fault_by s k l)
    c.in_ok-check_order.ensures.ok c.in_ok-check_words.ensures.ok c.in_ok-check_row.ensures.ok c.in_ok-check_model.ensures.ok
    ∙ (ap (λ n. count_fault l.number (passed_by s.room k n)) (count_behind c.args.line.now.words.now) ∙ ap (count_fault l.number) (sym passed))
