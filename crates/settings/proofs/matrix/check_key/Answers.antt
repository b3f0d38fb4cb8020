use Rattle.std.proofs.Common.{◌≡◌, Ok, true, false, map, sym}
use Rattle.std.specs.Prelude.{is_some, codes}
use Rattle.netlist_spec.specs.Digits.{each_gives}
use Rattle.guard_spec.specs.SettingsFile.{as_text, bad_value, code_of}
use Rattle.toml.specs.Data.{Data}
use Rattle.toml.specs.View.{view, table_view}
use Rattle.settings.specs.Faults.{fault_of}
use Rattle.settings.specs.Matrix.{check_of}
use Rattle.settings.proofs.Steps.{fault_as}
use Rattle.settings.proofs.Arrays.{texts_at}
use Rattle.settings.proofs.Texts.{check_bad_value, check_ok, check_bad_shape}
use Rattle.settings.proofs.matrix.check_key.Goals as goal

pub returns-then-not-are_texts-clause-err : goal.returns-then-not-are_texts-clause-err
returns-then-not-are_texts-clause-err c =
    let d = view c.in_ok-value.value.now in
    let vs = c.in-Some.values.now.items in
    let no_texts : is_some (each_gives as_text (map view vs)) ≡ false = rw (← c.deref.ensures.value) (sym c.if-not-are_texts.ensures) in
    fault_as Data _ (bad_value (codes "check")) (fault_of c.refused_value.result) (check_bad_value (table_view c.args.doc.now) d (map view vs) c.in_ok-value.ensures.ok (texts_at d vs c.in-Some.ensures) no_texts) c.refused_value.ensures

made : (c : goal.In-Some-code) → (check_of (table_view c.args.doc.now) ≡ Ok c.in-Some-code.code.rows) × (c.in-Some-code.code ≡ code_of c.in-Some-code.code.rows)
made c =
    let d = view c.in_ok-value.value.now in
    let vs = c.in-Some.values.now.items in
    let are_texts : is_some (each_gives as_text (map view vs)) ≡ true = rw (← c.deref.ensures.value) (sym c.if-not-are_texts.ensures) in
    check_ok (table_view c.args.doc.now) d (map view vs) c.in_ok-value.ensures.ok (texts_at d vs c.in-Some.ensures) c.in-Some-code.code are_texts (rw c.deref-in-Some.ensures.value at c.in-Some-code.ensures)

pub returns-in-Some-code-clause-ok : goal.returns-in-Some-code-clause-ok
returns-in-Some-code-clause-ok c = (made c).0

pub returns-in-Some-code-clause-columns : goal.returns-in-Some-code-clause-columns
returns-in-Some-code-clause-columns c = (made c).1

pub returns-in-None-code-clause-err : goal.returns-in-None-code-clause-err
returns-in-None-code-clause-err c =
    let d = view c.in_ok-value.value.now in
    let vs = c.in-Some.values.now.items in
    let are_texts : is_some (each_gives as_text (map view vs)) ≡ true = rw (← c.deref.ensures.value) (sym c.if-not-are_texts.ensures) in
    check_bad_shape (table_view c.args.doc.now) d (map view vs) c.in_ok-value.ensures.ok (texts_at d vs c.in-Some.ensures) are_texts (rw c.deref-in-Some.ensures.value at c.in-None-code.ensures)
