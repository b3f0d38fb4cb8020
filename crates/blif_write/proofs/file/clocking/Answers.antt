use Rattle.std.proofs.Common.{◌≡◌, Some, slice_get, ap, subst, sym, ◌∙◌}
use Rattle.std.specs.Prelude.{Option}
use Rattle.std.specs.List.{AllByRecursion}
use Rattle.imp_text.specs.declared.names.NameId.{NameId}
use Rattle.blif_read.specs.declared.file.Clocking.TheVariants.{Edge}
use Rattle.netlist_spec.specs.Netlist.{IsName, Clocking}
use Rattle.netlist_spec.specs.Reads.{control_nets}
use Rattle.netlist_spec.specs.Written.{Named, IsNamed}
use Rattle.blif_read.specs.Spelled.{with_names}
use Rattle.named_netlist.proofs.NetLemmas.{control-is}
use Rattle.blif_read.proofs.SpelledLemmas.{one-within}
use Rattle.blif_write.proofs.NumberLemmas.{control-name, control-same}
use Rattle.blif_write.proofs.file.clocking.Goals as goal

pub intern-requires-clause-some : goal.intern-requires-clause-some
intern-requires-clause-some c =
    let view = ap (λ (h : Named). h.clocking) c.g.view_is in
    let arm = c.in-Edge-default-Some in
    let is = control-name c.args.g.now c.g.inside.names c.g.inside.clocking arm.rising arm.id c.get.result.now view (arm.is ∙ ap (λ (k : Option NameId). Edge arm.rising k) (rw arm.is at arm.control-is)) (subst (λ (i : NameId). slice_get c.g.inside.names i.0 ≡ Some c.get.result.now) arm.id-is c.get.ensures) in
    let named = subst IsNamed c.g.view_is c.g.invariant.named in
    let name = subst (λ (k : Clocking). AllByRecursion IsName (control_nets k)) (sym is) (control-is c.args.g.now named) in
    name.0.0

pub intern-requires-clause-short : goal.intern-requires-clause-short
intern-requires-clause-short c =
    let view = ap (λ (h : Named). h.clocking) c.g.view_is in
    let arm = c.in-Edge-default-Some in
    let is = control-name c.args.g.now c.g.inside.names c.g.inside.clocking arm.rising arm.id c.get.result.now view (arm.is ∙ ap (λ (k : Option NameId). Edge arm.rising k) (rw arm.is at arm.control-is)) (subst (λ (i : NameId). slice_get c.g.inside.names i.0 ≡ Some c.get.result.now) arm.id-is c.get.ensures) in
    let named = subst IsNamed c.g.view_is c.g.invariant.named in
    let name = subst (λ (k : Clocking). AllByRecursion IsName (control_nets k)) (sym is) (control-is c.args.g.now named) in
    name.0.1

pub returns-in_ok-control-in-Edge-default-Some-clause-names : goal.returns-in_ok-control-in-Edge-default-Some-clause-names
returns-in_ok-control-in-Edge-default-Some-clause-names c =
    let view = ap (λ (h : Named). h.clocking) c.g.view_is in
    let arm = c.in-Edge-default-Some in
    let is = control-name c.args.g.now c.g.inside.names c.g.inside.clocking arm.rising arm.id c.get.result.now view (arm.is ∙ ap (λ (k : Option NameId). Edge arm.rising k) (rw arm.is at arm.control-is)) (subst (λ (i : NameId). slice_get c.g.inside.names i.0 ≡ Some c.get.result.now) arm.id-is c.get.ensures) in
    c.in_ok-control-in-Edge-default-Some.ensures.names ∙ ap (λ (k : Clocking). with_names c.args.names.now (control_nets k)) is

pub returns-in_ok-control-in-Edge-default-Some-clause-same : goal.returns-in_ok-control-in-Edge-default-Some-clause-same
returns-in_ok-control-in-Edge-default-Some-clause-same c =
    let view = ap (λ (h : Named). h.clocking) c.g.view_is in
    let arm = c.in-Edge-default-Some in
    let is = control-name c.args.g.now c.g.inside.names c.g.inside.clocking arm.rising arm.id c.get.result.now view (arm.is ∙ ap (λ (k : Option NameId). Edge arm.rising k) (rw arm.is at arm.control-is)) (subst (λ (i : NameId). slice_get c.g.inside.names i.0 ≡ Some c.get.result.now) arm.id-is c.get.ensures) in
    control-same c.args.g.now c.intern.new.self arm.rising c.in_ok-control-in-Edge-default-Some.control c.get.result.now is c.in_ok-control-in-Edge-default-Some.ensures.place

pub returns-in_ok-control-in-Edge-default-Some-clause-within : goal.returns-in_ok-control-in-Edge-default-Some-clause-within
returns-in_ok-control-in-Edge-default-Some-clause-within c =
    one-within c.intern.new.self c.in_ok-control-in-Edge-default-Some.control c.get.result.now c.in_ok-control-in-Edge-default-Some.ensures.place
