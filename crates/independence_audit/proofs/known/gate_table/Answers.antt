use Rattle.std.proofs.Common.{sym, ◌∙◌, ap, subst, [], List, length}
use Rattle.netlist_spec.specs.Models.{gates_of}
use Rattle.blif_read.specs.declared.file.Located.{Located}
use Rattle.blif_read.specs.View.{model_of}
use Rattle.audit_laws.specs.Along.{bits_along}
use Rattle.independence_audit.specs.declared.kept.Kept.{Kept}
use Rattle.independence_audit.specs.Kept.{Keeps}
use Rattle.independence_audit.proofs.PassLemmas.{gates_from}
use Rattle.independence_audit.proofs.TableLemmas.{written}
use Rattle.independence_audit.proofs.known.gate_table.Goals as goal

pub returns : goal.returns
returns c =
    let m = c.args.m.now in
    let M = model_of m in
    let items = c.in_ok-table.table.items in
    let begins : Keeps m.names c.as_mut_slice.result.now (bits_along M []) = subst (λ (xs : List Kept). Keeps m.names xs (bits_along M [])) (sym c.as_mut_slice.ensures.value) c.in_ok-table.ensures in
    let ends : Keeps m.names c.pass_back.new.table (bits_along M (gates_of M)) =
    subst (λ (ss : List Located). Keeps m.names c.pass_back.new.table (bits_along M (gates_from m.names ss))) c.deref.ensures.value (c.pass_back.ensures M c.requires.outputs begins) in
    subst (λ (xs : List Kept). Keeps m.names xs (bits_along M (gates_of M)))
    (sym (written c.pass_back.new.table items c.in_ok-table.table.len (c.pass_back.auto.table ∙ ap length c.as_mut_slice.ensures.value) c.in_ok-table.table.ok.0)) ends
