use Rattle.std.proofs.Common.{◌≡◌, ◌∙◌, sym, ap, subst, ℕ, ◌<◌, length, All}
use Rattle.netlist_spec.specs.Models.{data_inputs, same_clocking}
use Rattle.netlist_spec.specs.Ordered.{cell_nets}
use Rattle.imp_text.specs.declared.names.NameId.{NameId}
use Rattle.imp_text.proofs.NamesLemmas.{stands_in-append}
use Rattle.blif_read.specs.Ids.{control_ids}
use Rattle.blif_read.specs.View.{name_at, clocking_of}
use Rattle.line_order.proofs.TableLemmas.{latch_told}
use Rattle.line_order.proofs.tables.Tables.is_wrong_latch.Goals as goal

pub returns : goal.returns
returns c = λ m passed init t.
    let size : c.requires.0 ≡ length m.names = sym c.requires.1.0.cells ∙ t.cells.each_name in
    let own : All (λ (id : NameId). id.0 < length m.names) (control_ids c.args.clocking) = subst (λ (n : ℕ). All (λ (id : NameId). id.0 < n) (control_ids c.args.clocking)) size c.requires.1.1.2 in
    latch_told c.is_driven-driven.result c.has-has_source.result c.same_clocking-alike.result c.is_declared-declared.result _ _ _ _
    (c.is_driven-driven.ensures m passed t)
    (c.has-has_source.ensures m.names _ t.sources ∙ stands_in-append (name_at m.names c.args.d) (data_inputs m) (cell_nets m))
    (c.same_clocking-alike.ensures m.names t.inputs.distinct own t.control ∙ ap (same_clocking (clocking_of m.names c.args.clocking)) t.first)
    (c.is_declared-declared.ensures m t.declared)
