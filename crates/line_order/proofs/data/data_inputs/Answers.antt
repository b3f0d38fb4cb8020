use Rattle.std.proofs.Common.{◌++◌, ◌∷◌, [], cond, get_or, ◌∙◌, sym, ap, subst, arith, List, Bool, filter, length, map, not, All}
use Rattle.std.proofs.lemmas.List.{take_all}
use Rattle.netlist_spec.specs.Netlist.{Name, stands_in}
use Rattle.netlist_spec.specs.Models.{clock_nets}
use Rattle.blif_read.specs.declared.file.Port.{Port}
use Rattle.blif_read.specs.Ids.{IsIdOf}
use Rattle.blif_read.specs.View.{name_at, model_of}
use Rattle.line_order.proofs.MarkLemmas.{all_of, data_next, pushed_named, pushed_within, pushed_few}
use Rattle.line_order.proofs.TableLemmas.{ports_named}
use Rattle.line_order.proofs.data.data_inputs.Goals as goal

pub loop-port-preserved : goal.loop-port-preserved
loop-port-preserved c =
    let m = c.args.m.now in
    let all = m.names in
    let nets = clock_nets (model_of m) in
    let ports = c.deref-port-items.result.now in
    let i = c.loop-port.port-index in
    let none : Port = record { name = record { 0 = 0 }; line = 0 } in
    let is_clock = c.has-is_clock.result in
    let inside : All (λ (p : Port). IsIdOf all p.name) ports = subst (All (λ (p : Port). IsIdOf all p.name)) (sym c.deref-port-items.ensures.value) c.requires.inputs in
    record {
      names = pushed_named all c.loop-port.ids.items c.push_if.new.ids.items (not is_clock) _ c.in_ok-push_if.ensures
          ∙ (ap (λ (ns : List Name). ns ++ cond (not is_clock) (name_at all (get_or ports i none).name ∷ []) []) c.loop-port.invariant.names ∙ sym (data_next all nets ports i none is_clock c.loop-port-test.true (c.has-is_clock.ensures all nets c.in_ok-clocks.ensures)));
      within = pushed_within (IsIdOf all) c.loop-port.ids.items c.push_if.new.ids.items (not is_clock) _ c.in_ok-push_if.ensures (inside i none c.loop-port-test.true) c.loop-port.invariant.within;
      few = pushed_few c.loop-port.ids.items c.push_if.new.ids.items (not is_clock) _ i c.in_ok-push_if.ensures c.loop-port.invariant.few;
    }

pub returns-clause-names : goal.returns-clause-names
returns-clause-names c =
    let m = c.args.m.now in
    let all = m.names in
    let keep : Name → Bool = λ n. not (stands_in n (clock_nets (model_of m))) in
    let named : Port → Name = λ p. name_at all p.name in
    c.loop-port.invariant.names
    ∙ ap (filter keep) (ap (map named) (take_all c.loop-port.port-index c.deref-port-items.result.now c.loop-port-test.false ∙ c.deref-port-items.ensures.value) ∙ ports_named all m.inputs.items)

pub returns-clause-within : goal.returns-clause-within
returns-clause-within c = all_of (IsIdOf c.args.m.now.names) c.loop-port.ids.items c.loop-port.invariant.within

pub returns-clause-few : goal.returns-clause-few
returns-clause-few c = omega (arith, ap length c.deref-port-items.ensures.value)
