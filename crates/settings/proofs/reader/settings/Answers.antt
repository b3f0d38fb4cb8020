use Rattle.std.proofs.Common.{option_map}
use Rattle.std.proofs.lemmas.Result.{err_from_is_err_and}
use Rattle.toml.specs.View.{table_view}
use Rattle.settings.specs.Faults.{fault_of}
use Rattle.settings.specs.declared.types.Settings.TheInside.{Inside}
use Rattle.settings.specs.Types.{mode_in, words_in, library_in}
use Rattle.settings.proofs.Documents.{library_fails, keys_fail, all_given}
use Rattle.settings.proofs.Shape.{made_settings}
use Rattle.settings.proofs.reader.settings.Goals as goal

pub returns-in_err-tables-clause-err : goal.returns-in_err-tables-clause-err
returns-in_err-tables-clause-err c =
    let p = err_from_is_err_and c.from_residual-in_err-tables.result c.from_residual-in_err-tables.ensures.1 in
    rw (p.1, p.2) (
    library_fails (table_view c.args.doc.now) (mode_in c.in_ok-mode.mode) c.in_ok-bound.bound c.in_ok-code.code.rows c.k.result c.k-2.result (option_map words_in c.in_ok-state_words.state_words) (option_map words_in c.in_ok-output_words.output_words)
    c.in_ok-mode.ensures.ok c.in_ok-bound.ensures.ok c.in_ok-code.ensures.ok c.k.ensures.rows c.k-2.ensures.rows c.in_ok-state_words.ensures.ok c.in_ok-output_words.ensures.ok
    (fault_of c.in_err-tables.field-0.0) c.in_err-tables.ensures.err
    )

pub returns-in_err-check_keys-clause-err : goal.returns-in_err-check_keys-clause-err
returns-in_err-check_keys-clause-err c =
    let p = err_from_is_err_and c.from_residual-in_err-check_keys.result c.from_residual-in_err-check_keys.ensures.1 in
    rw (p.1, p.2) (
    keys_fail (table_view c.args.doc.now) (mode_in c.in_ok-mode.mode) c.in_ok-bound.bound c.in_ok-code.code.rows c.k.result c.k-2.result (option_map words_in c.in_ok-state_words.state_words) (option_map words_in c.in_ok-output_words.output_words)
    c.in_ok-mode.ensures.ok c.in_ok-bound.ensures.ok c.in_ok-code.ensures.ok c.k.ensures.rows c.k-2.ensures.rows c.in_ok-state_words.ensures.ok c.in_ok-output_words.ensures.ok
    (library_in c.in_ok-tables.tables c.in_ok-tables.linears) c.in_ok-tables.ensures.ok (fault_of c.in_err-check_keys.field-0.0) c.in_err-check_keys.ensures.err
    )

pub returns-clause-ok : goal.returns-clause-ok
returns-clause-ok c =
    all_given (table_view c.args.doc.now) (mode_in c.in_ok-mode.mode) c.in_ok-bound.bound c.in_ok-code.code.rows c.k.result c.k-2.result (option_map words_in c.in_ok-state_words.state_words) (option_map words_in c.in_ok-output_words.output_words)
    c.in_ok-mode.ensures.ok c.in_ok-bound.ensures.ok c.in_ok-code.ensures.ok c.k.ensures.rows c.k-2.ensures.rows c.in_ok-state_words.ensures.ok c.in_ok-output_words.ensures.ok
    (library_in c.in_ok-tables.tables c.in_ok-tables.linears) c.in_ok-tables.ensures.ok c.in_ok-code.code c.in_ok-code.ensures.columns c.in_ok-check_keys.ensures.ok

pub invariant_of-result : goal.invariant_of-result
invariant_of-result c =
    let s : Inside = record { mode = c.in_ok-mode.mode; bound = c.in_ok-bound.bound; code = c.in_ok-code.code; state_words = c.in_ok-state_words.state_words; output_words = c.in_ok-output_words.output_words; tables = c.in_ok-tables.tables; linears = c.in_ok-tables.linears } in
    made_settings s c.k.result c.k-2.result (table_view c.args.doc.now) c.in_ok-bound.ensures.within c.k.ensures.valid c.k.ensures.rows c.k-2.ensures.rows c.in_ok-state_words.ensures.ok c.in_ok-output_words.ensures.ok c.in_ok-tables.ensures.valid c.in_ok-tables.ensures.table_order c.in_ok-tables.ensures.linear_order

pub returns-clause-valid : goal.returns-clause-valid
returns-clause-valid c =
    let s : Inside = record { mode = c.in_ok-mode.mode; bound = c.in_ok-bound.bound; code = c.in_ok-code.code; state_words = c.in_ok-state_words.state_words; output_words = c.in_ok-output_words.output_words; tables = c.in_ok-tables.tables; linears = c.in_ok-tables.linears } in
    made_settings s c.k.result c.k-2.result (table_view c.args.doc.now) c.in_ok-bound.ensures.within c.k.ensures.valid c.k.ensures.rows c.k-2.ensures.rows c.in_ok-state_words.ensures.ok c.in_ok-output_words.ensures.ok c.in_ok-tables.ensures.valid c.in_ok-tables.ensures.table_order c.in_ok-tables.ensures.linear_order
