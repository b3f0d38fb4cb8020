use Rattle.std.proofs.Common.{◌≡◌, sym, ◌∙◌, ap, subst, ℕ, ◌<◌, length, map, find, filter, Some, All, option_map}
use Rattle.netlist_spec.specs.Netlist.{stands_in}
use Rattle.netlist_spec.specs.Placed.{port_names}
use Rattle.netlist_spec.specs.Models.{clock_nets}
use Rattle.blif_read.specs.declared.file.Port.{Port}
use Rattle.blif_read.specs.View.{model_of, name_at}
use Rattle.line_order.proofs.TableLemmas.{ports_named}
use Rattle.main_check.proofs.ClockLemmas.{read_clock_is, first_part, second_part}
use Rattle.main_check.proofs.clocking.read_clock.Goals as goal

pub returns-in-Some-clause-name : goal.returns-in-Some-clause-name
returns-in-Some-clause-name c = λ nets k.
    let m = c.args.m.now in
    let M = model_of m in
    first_part _ _ _ (name_at m.names c.in-Some.id) (read_clock_is M nets)
    (c.in-Some.ensures.name m.names (clock_nets M) nets c.requires.clocks k
    ∙ ap (λ ns. find (λ n. stands_in n nets) (filter (λ n. stands_in n (clock_nets M)) ns)) (ap (map (λ (p : Port). name_at m.names p.name)) c.deref.ensures.value ∙ ports_named m.names m.inputs.items))

pub returns-clause-name : goal.returns-clause-name
returns-clause-name c = λ nets k.
    let m = c.args.m.now in
    let M = model_of m in
    second_part _ _ _ _ (read_clock_is M nets)
    (sym (ap (option_map (name_at m.names)) c.in_default.is) ∙ (c.first_read.ensures.name m.names (clock_nets M) nets c.requires.clocks k
    ∙ ap (λ ns. find (λ n. stands_in n nets) (filter (λ n. stands_in n (clock_nets M)) ns)) (ap (map (λ (p : Port). name_at m.names p.name)) c.deref.ensures.value ∙ ports_named m.names m.inputs.items)))
    (c.first_read-2.ensures.name m.names (clock_nets M) nets c.requires.clocks k
    ∙ ap (λ ns. find (λ n. stands_in n nets) (filter (λ n. stands_in n (clock_nets M)) ns)) (ap (map (λ (p : Port). name_at m.names p.name)) c.deref-2.ensures.value ∙ ports_named m.names m.clocks.items))
