use Rattle.std.proofs.Common.{◌≡◌, ◌<◌, ◌∙◌, ap, subst, length, get_or, List}
use Rattle.blif_read.specs.declared.file.Port.{Port}
use Rattle.impeccable.proofs.AuditLemmas.{output-named}
use Rattle.impeccable.proofs.audit.Audited.output_net.Goals as goal

pub returns-in-Some : goal.returns-in-Some
returns-in-Some c =
    let m = c.args.self.now.model in
    let port = c.in-Some.port.now in
    let told = c.in-Some.ensures.lookup in
    let within = subst (λ (xs : List Port). c.args.i < length xs) c.deref.ensures.value told.3.0 in
    let is : port ≡ get_or m.outputs.items c.args.i port = told.3.1 port ∙ ap (λ (xs : List Port). get_or xs c.args.i port) c.deref.ensures.value in
    c.name_of.ensures ∙ output-named m c.args.i port within is
