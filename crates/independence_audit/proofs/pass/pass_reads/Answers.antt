use Rattle.std.proofs.Common.{List, sym, ◌∙◌, ap, subst, map, take}
use Rattle.std.proofs.lemmas.List.{take_all}
use Rattle.netlist_spec.specs.Netlist.{Name}
use Rattle.imp_text.specs.declared.names.NameId.{NameId}
use Rattle.blif_read.specs.View.{name_at}
use Rattle.audit_laws.specs.Along.{bits_partly}
use Rattle.independence_audit.specs.Kept.{Keeps}
use Rattle.independence_audit.proofs.TableLemmas.{names_more}
use Rattle.independence_audit.proofs.PassLemmas.{none_read, all_read}
use Rattle.independence_audit.proofs.pass.pass_reads.Goals as goal

pub loop-id-init : goal.loop-id-init
loop-id-init c = λ m later g marks b k. none_read m later g c.args.table.now k

pub loop-id-preserved : goal.loop-id-preserved
loop-id-preserved c = λ m later g marks b k.
    let none : NameId = record { 0 = 0 } in
    let ins = c.args.ins.now in
    let i = c.loop-id.id-index in
    subst (λ (ns : List Name). Keeps m.names c.pass_read.new.table (bits_partly m later g ns)) (sym (names_more m.names ins i none c.loop-id-test.true))
    (c.pass_read.ensures m later g (map (name_at m.names) (take i ins)) marks b (c.loop-id.invariant m later g marks b k))

pub returns : goal.returns
returns c = λ m later g marks b is k.
    let ins = c.args.ins.now in
    all_read m later g c.loop-id.table
    (subst (λ (ns : List Name). Keeps m.names c.loop-id.table (bits_partly m later g ns)) (ap (map (name_at m.names)) (take_all c.loop-id.id-index ins c.loop-id-test.false) ∙ sym is) (c.loop-id.invariant m later g marks b k))
