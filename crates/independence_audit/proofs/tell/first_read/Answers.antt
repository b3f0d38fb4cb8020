use Rattle.std.proofs.Common.{◌≡◌, ◌&&◌, sym, ◌∙◌, ap₂, get_or, Bool}
use Rattle.netlist_spec.specs.Netlist.{Name, stands_in}
use Rattle.imp_text.specs.declared.names.NameId.{NameId}
use Rattle.blif_read.specs.View.{name_at}
use Rattle.independence_audit.proofs.TellLemmas.{none_more, found_here}
use Rattle.independence_audit.proofs.tell.first_read.Goals as goal

pub loop-id-preserved : goal.loop-id-preserved
loop-id-preserved c = λ all outputs cells o k.
    let none : NameId = record { 0 = 0 } in
    none_more (λ (n : Name). stands_in n outputs && stands_in n cells) (name_at all) c.args.ins.now c.loop-id.id-index none c.loop-id-test.true (c.loop-id.invariant all outputs cells o k)
    (ap₂ (λ (a b : Bool). a && b) (sym (c.has-output.ensures all outputs o)) (sym (c.has-driven.ensures all cells k)) ∙ c.if-output-driven.false)

pub returns-then-output-driven : goal.returns-then-output-driven
returns-then-output-driven c = λ all outputs cells o k.
    let none : NameId = record { 0 = 0 } in
    sym
    (found_here (λ (n : Name). stands_in n outputs && stands_in n cells) (name_at all) c.args.ins.now c.loop-id.id-index none c.loop-id-test.true (c.loop-id.invariant all outputs cells o k)
    (ap₂ (λ (a b : Bool). a && b) (sym (c.has-output.ensures all outputs o)) (sym (c.has-driven.ensures all cells k)) ∙ c.if-output-driven.true))
