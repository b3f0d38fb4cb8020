use Rattle.std.proofs.Common.{◌≡◌, ◌∙◌, codes}
use Rattle.guard_spec.specs.SettingsFile.{dotted}
use Rattle.toml.specs.View.{table_view}
use Rattle.settings.proofs.EntryShapes.{table_made}
use Rattle.settings.proofs.tables.table.Goals as goal

pub invariant_of-result : goal.invariant_of-result
invariant_of-result c = table_made (dotted (dotted (codes "sbox") c.args.name.now) (codes "values")) (table_view c.in_ok-entry.entry.now) c.in_ok-ins.ins c.in_ok-outs.outs c.in_ok-rows.rows.items c.in_ok-ins.ensures.within c.in_ok-outs.ensures.within c.in_ok-rows.ensures.ok

pub returns-clause-valid : goal.returns-clause-valid
returns-clause-valid c =
    let name : c.in_ok-name.name ≡ c.args.name.now = c.in_ok-name.ensures ∙ c.as_bytes.ensures.value in (
      rw name (c.in_ok-entry.ensures.some, c.in_ok-entry.ensures.short),
      table_made (dotted (dotted (codes "sbox") c.args.name.now) (codes "values")) (table_view c.in_ok-entry.entry.now) c.in_ok-ins.ins c.in_ok-outs.outs c.in_ok-rows.rows.items c.in_ok-ins.ensures.within c.in_ok-outs.ensures.within c.in_ok-rows.ensures.ok,
    )
