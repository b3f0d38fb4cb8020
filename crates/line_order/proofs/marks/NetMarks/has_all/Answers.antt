use Rattle.std.proofs.Common.{◌∙◌, sym, Bool}
use Rattle.std.proofs.lemmas.List.{take_all}
use Rattle.netlist_spec.specs.Netlist.{Name, stands_in}
use Rattle.imp_text.specs.declared.names.NameId.{NameId}
use Rattle.blif_read.specs.View.{name_at}
use Rattle.line_order.proofs.MarkLemmas.{all_more, one_fails, list_all-map}
use Rattle.line_order.proofs.marks.NetMarks.has_all.Goals as goal

pub loop-id-preserved : goal.loop-id-preserved
loop-id-preserved c = λ all listed m.
    let none : NameId = record { 0 = 0 } in
    let p : NameId → Bool = λ id. stands_in (name_at all id) listed in
    let here = c.has.ensures all listed m in
    all_more p c.args.ids.now c.loop-id.id-index none c.loop-id-test.true (c.loop-id.invariant all listed m) (sym here ∙ c.if-not-has.false)

pub returns-then-not-has : goal.returns-then-not-has
returns-then-not-has c = λ all listed m.
    let none : NameId = record { 0 = 0 } in
    let p : NameId → Bool = λ id. stands_in (name_at all id) listed in
    let here = c.has.ensures all listed m in
    sym (list_all-map (λ (n : Name). stands_in n listed) (name_at all) c.args.ids.now ∙ one_fails p c.args.ids.now c.loop-id.id-index none c.loop-id-test.true (sym here ∙ c.if-not-has.true))

pub returns : goal.returns
returns c = λ all listed m.
    let p : NameId → Bool = λ id. stands_in (name_at all id) listed in
    sym (list_all-map (λ (n : Name). stands_in n listed) (name_at all) c.args.ids.now ∙ rw (← take_all c.loop-id.id-index c.args.ids.now c.loop-id-test.false) (c.loop-id.invariant all listed m))
