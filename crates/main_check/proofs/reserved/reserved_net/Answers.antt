use Rattle.std.proofs.Common.{◌≡◌, ◌∙◌, sym, ap, map, find, Option, None}
use Rattle.std.specs.List.{flat_map}
use Rattle.netlist_spec.specs.Netlist.{Name, is_reserved}
use Rattle.blif_read.specs.declared.file.Port.{Port}
use Rattle.blif_read.specs.declared.file.Located.{Located}
use Rattle.blif_read.specs.View.{name_at, statement_of, model_of}
use Rattle.line_order.specs.Marks.{latch_output_of}
use Rattle.line_order.proofs.TableLemmas.{ports_named, latches_named}
use Rattle.main_check.proofs.NameLemmas.{parts_are, by_parts, ports_found}
use Rattle.main_check.proofs.reserved.reserved_net.Goals as goal

pub returns-in-Some-clause-name : goal.returns-in-Some-clause-name
returns-in-Some-clause-name c =
    let m = c.args.m.now in
    let parts = by_parts _ _ _ _ _ (parts_are (model_of m)) in
    sym (parts.0 (name_at m.names c.in-Some.id) (sym (ports_found m.names c.deref.result.now m.inputs.items _ c.deref.ensures.value c.in-Some.ensures.name)))

pub returns-in-Some-reserved_port-clause-name : goal.returns-in-Some-reserved_port-clause-name
returns-in-Some-reserved_port-clause-name c =
    let m = c.args.m.now in
    let parts = by_parts _ _ _ _ _ (parts_are (model_of m)) in
    sym (parts.1 (name_at m.names c.in-Some-reserved_port.id) (sym (ports_found m.names c.deref.result.now m.inputs.items _ c.deref.ensures.value c.in_default.ensures.name))
    (sym (ports_found m.names c.deref-2.result.now m.clocks.items _ c.deref-2.ensures.value c.in-Some-reserved_port.ensures.name)))

pub returns-in-Some-reserved_port-2-clause-name : goal.returns-in-Some-reserved_port-2-clause-name
returns-in-Some-reserved_port-2-clause-name c =
    let m = c.args.m.now in
    let parts = by_parts _ _ _ _ _ (parts_are (model_of m)) in
    sym (parts.2 (name_at m.names c.in-Some-reserved_port-2.id) (sym (ports_found m.names c.deref.result.now m.inputs.items _ c.deref.ensures.value c.in_default.ensures.name))
    (sym (ports_found m.names c.deref-2.result.now m.clocks.items _ c.deref-2.ensures.value c.in_default-reserved_port.ensures.name))
    (sym (ports_found m.names c.deref-3.result.now m.outputs.items _ c.deref-3.ensures.value c.in-Some-reserved_port-2.ensures.name)))

pub returns-clause-name : goal.returns-clause-name
returns-clause-name c =
    let m = c.args.m.now in
    let parts = by_parts _ _ _ _ _ (parts_are (model_of m)) in
    c.reserved_latch.ensures.name
    ∙ (ap (find is_reserved) (ap (flat_map (λ (s : Located). latch_output_of (statement_of m.names s.what))) c.deref-4.ensures.value ∙ latches_named m.names m.statements.items)
    ∙ sym (parts.3 (sym (ports_found m.names c.deref.result.now m.inputs.items _ c.deref.ensures.value c.in_default.ensures.name))
    (sym (ports_found m.names c.deref-2.result.now m.clocks.items _ c.deref-2.ensures.value c.in_default-reserved_port.ensures.name))
    (sym (ports_found m.names c.deref-3.result.now m.outputs.items _ c.deref-3.ensures.value c.in_default-reserved_port-2.ensures.name))))
