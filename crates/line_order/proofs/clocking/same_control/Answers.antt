use Rattle.std.proofs.Common.{subst, All, Option, arith}
use Rattle.imp_text.specs.declared.names.NameId.{NameId}
use Rattle.blif_read.specs.Ids.{IsIdOf}
use Rattle.line_order.specs.Tables.{control_of}
use Rattle.line_order.proofs.MarkLemmas.{same_number}
use Rattle.line_order.proofs.clocking.same_control.Goals as goal

pub returns-in-Some-Some : goal.returns-in-Some-Some
returns-in-Some-Some c = λ all d ha hb.
    let P : Option NameId → Type 0 = λ o. All (IsIdOf all) (control_of o) in
    let x = c.in-Some-Some.x in
    let y = c.in-Some-Some.y in
    let inside = subst P c.in-Some-Some.is-0 ha 0 x (omega arith) in
    let within = subst P c.in-Some-Some.is-1 hb 0 y (omega arith) in
    rw (c.in-Some-Some.is-0, c.in-Some-Some.is-1) (same_number all x.0 y.0 d inside within)
