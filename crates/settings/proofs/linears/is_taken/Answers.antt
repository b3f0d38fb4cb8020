use Rattle.std.proofs.Common.{List, ℕ, map, ◌∙◌, ap}
use Rattle.std.specs.Prelude.{is_some}
use Rattle.netlist_spec.specs.Netlist.{stands_in}
use Rattle.sbox_table.specs.declared.table.NamedTable.{NamedTable}
use Rattle.settings.proofs.Layers.{same_some, found_is_taken}
use Rattle.settings.proofs.linears.is_taken.Goals as goal

pub returns : goal.returns
returns c =
    let names : List (List ℕ) = map (λ (t : NamedTable). t.name) c.args.tables.now in
    c.is_some.ensures
    ∙ (same_some c.find_in_byte_order.result
    ∙ (ap is_some c.find_in_byte_order.ensures
    ∙ (found_is_taken (λ (t : NamedTable). t.name) c.as_bytes.result.now c.args.tables.now ∙ ap (λ (n : List ℕ). stands_in n names) c.as_bytes.ensures.value)))
