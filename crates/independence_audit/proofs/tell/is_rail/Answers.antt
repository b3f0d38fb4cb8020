use Rattle.std.proofs.Common.{◌≡◌, ◌<◌, ◌≤◌, sym, ◌∙◌, ap, subst, length, get_or, List}
use Rattle.std.specs.Prelude.{slice_get}
use Rattle.gate_net.specs.Bit.{bit_of}
use Rattle.gate_net.specs.declared.words.Bit.{Bit}
use Rattle.blif_read.specs.declared.file.Port.{Port}
use Rattle.blif_read.specs.View.{model_of}
use Rattle.audit_laws.specs.OnePass.{is_rail}
use Rattle.independence_audit.proofs.TellLemmas.{no_rail_past, rail_at}
use Rattle.independence_audit.proofs.tell.is_rail.Goals as goal

pub returns-in-Some : goal.returns-in-Some
returns-in-Some c =
    let m = c.args.m.now in
    let i = c.in-Output.i in
    let port = c.in-Some.port.now in
    let told = c.in-Some.ensures.lookup in
    let within = subst (λ (xs : List Port). i < length xs) c.deref.ensures.value told.3.0 in
    let is : port ≡ get_or m.outputs.items i port = told.3.1 port ∙ ap (λ (xs : List Port). get_or xs i port) c.deref.ensures.value in
    c.starts_with.ensures.value
    ∙ (sym (rail_at m i port c.get-in-Some.result.now within (ap (λ (p : Port). slice_get m.names p.name.0) (sym is) ∙ c.get-in-Some.ensures)) ∙ ap (λ (b : Bit). is_rail (model_of m) (bit_of b)) (sym c.in-Output.is))

pub returns-in-None : goal.returns-in-None
returns-in-None c =
    let m = c.args.m.now in
    let i = c.in-Output.i in
    sym (no_rail_past m i (subst (λ (xs : List Port). length xs ≤ i) c.deref.ensures.value c.in-None.ensures.lookup.3)) ∙ ap (λ (b : Bit). is_rail (model_of m) (bit_of b)) (sym c.in-Output.is)
