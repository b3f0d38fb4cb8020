use Rattle.std.proofs.Common.{◌≡◌, ◌<◌, ◌≤◌, ◌∙◌, ap, subst, length, get_or, List}
use Rattle.netlist_spec.specs.Ordered.{driven_by}
use Rattle.audit_laws.specs.OnePass.{IsNoSubckt}
use Rattle.blif_read.specs.declared.file.Located.{Located}
use Rattle.blif_read.specs.declared.file.Statement.{Statement}
use Rattle.blif_read.specs.View.{name_at, statement_of}
use Rattle.impeccable.proofs.AuditLemmas.{cell-named, is-no-subckt, no-such-cell}
use Rattle.impeccable.proofs.audit.Audited.cell_net.Goals as goal

pub returns-in_default : goal.returns-in_default
returns-in_default c =
    let m = c.args.self.now.model in
    no-such-cell m c.requires.cells c.args.place (subst (λ (xs : List Located). length xs ≤ c.args.place) c.deref.ensures.value c.in_default.ensures.lookup.3)

pub returns-in-Names : goal.returns-in-Names
returns-in-Names c =
    let m = c.args.self.now.model in
    let s = c.in-Some.s.now in
    let told = c.in-Some.ensures.lookup in
    let within = subst (λ (xs : List Located). c.args.place < length xs) c.deref.ensures.value told.3.0 in
    let is : s ≡ get_or m.statements.items c.args.place s = told.3.1 s ∙ ap (λ (xs : List Located). get_or xs c.args.place s) c.deref.ensures.value in
    c.name_of.ensures ∙ cell-named m c.requires.cells c.args.place s (name_at m.names c.in-Names.out) within is (ap (λ (what : Statement). driven_by (statement_of m.names what)) c.in-Names.is)

pub returns-in-Latch : goal.returns-in-Latch
returns-in-Latch c =
    let m = c.args.self.now.model in
    let s = c.in-Some.s.now in
    let told = c.in-Some.ensures.lookup in
    let within = subst (λ (xs : List Located). c.args.place < length xs) c.deref.ensures.value told.3.0 in
    let is : s ≡ get_or m.statements.items c.args.place s = told.3.1 s ∙ ap (λ (xs : List Located). get_or xs c.args.place s) c.deref.ensures.value in
    c.name_of-in-Latch.ensures ∙ cell-named m c.requires.cells c.args.place s (name_at m.names c.in-Latch.q) within is (ap (λ (what : Statement). driven_by (statement_of m.names what)) c.in-Latch.is)

pub returns-in-Subckt : goal.returns-in-Subckt
returns-in-Subckt c =
    let m = c.args.self.now.model in
    let s = c.in-Some.s.now in
    let told = c.in-Some.ensures.lookup in
    let within = subst (λ (xs : List Located). c.args.place < length xs) c.deref.ensures.value told.3.0 in
    let is : s ≡ get_or m.statements.items c.args.place s = told.3.1 s ∙ ap (λ (xs : List Located). get_or xs c.args.place s) c.deref.ensures.value in
    let none = subst (λ (what : Statement). IsNoSubckt (statement_of m.names what)) c.in-Subckt.is (is-no-subckt m c.requires.cells c.args.place s within is) in
    absurd (cc none)
