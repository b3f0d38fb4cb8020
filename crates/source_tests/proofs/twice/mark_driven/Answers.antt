use Rattle.std.proofs.Common.{◌∙◌, refl, sym, ap, ap₂, ◌++◌, List, map, Bool, ◌||◌, append-nil}
use Rattle.std.proofs.lemmas.List.{take_all}
use Rattle.netlist_spec.specs.Netlist.{Name}
use Rattle.netlist_spec.specs.SoundFaults.{first_repeated}
use Rattle.imp_text.specs.declared.names.NameId.{NameId}
use Rattle.blif_read.specs.View.{name_at}
use Rattle.line_order.proofs.MarkLemmas.{none_marked}
use Rattle.source_tests.proofs.NetLemmas.{net_marked}
use Rattle.source_tests.proofs.SeenLemmas.{stands_in_parts, repeated_here, repeated_later, repeated_nowhere}
use Rattle.source_tests.proofs.twice.mark_driven.Goals as goal

pub loop-net-init : goal.loop-net-init
loop-net-init c =
    record {
      size = refl;
      marked = λ all ds m. none_marked all ds _ m;
      new = λ all ins cs ds i k m. ap (λ (ns : List Name). first_repeated (ins ++ cs ++ ns) (map (name_at all) c.args.nets.now)) (append-nil ds);
    }

pub returns-then-is_input-is_clock-clause-name : goal.returns-then-is_input-is_clock-clause-name
returns-then-is_input-is_clock-clause-name c = λ all ins cs ds i k m.
    let none : NameId = record { 0 = 0 } in
    let nets = c.args.nets.now in
    let at = c.loop-net.net-index in
    sym (repeated_here all ins cs ds nets at none c.loop-net-test.true
    (stands_in_parts all ins cs ds nets at _
    ∙ (sym (ap₂ (λ (s t : Bool). s || t) (ap₂ (λ (s t : Bool). s || t) (c.has-is_input.ensures all ins i) (c.has-is_clock.ensures all cs k)) (c.has-again.ensures all _ (c.loop-net.invariant.marked all ds m)))
    ∙ c.if-is_input-is_clock.true)))
    ∙ c.loop-net.invariant.new all ins cs ds i k m

pub loop-net-preserved : goal.loop-net-preserved
loop-net-preserved c =
    let none : NameId = record { 0 = 0 } in
    let nets = c.args.nets.now in
    let at = c.loop-net.net-index in
    record {
      size = c.mark.ensures.size ∙ c.loop-net.invariant.size;
      marked = λ all ds m. net_marked all ds c.mark.new.self nets at none c.loop-net-test.true (c.mark.ensures.marked all _ (c.loop-net.invariant.marked all ds m));
      new = λ all ins cs ds i k m.
          repeated_later all ins cs ds nets at none c.loop-net-test.true
          (stands_in_parts all ins cs ds nets at _
          ∙ (sym (ap₂ (λ (s t : Bool). s || t) (ap₂ (λ (s t : Bool). s || t) (c.has-is_input.ensures all ins i) (c.has-is_clock.ensures all cs k)) (c.has-again.ensures all _ (c.loop-net.invariant.marked all ds m)))
          ∙ c.if-is_input-is_clock.false))
          ∙ c.loop-net.invariant.new all ins cs ds i k m;
    }

pub returns-clause-name : goal.returns-clause-name
returns-clause-name c = λ all ins cs ds i k m.
    sym (repeated_nowhere all ins cs ds c.args.nets.now c.loop-net.net-index c.loop-net-test.false) ∙ c.loop-net.invariant.new all ins cs ds i k m

pub returns-clause-marked : goal.returns-clause-marked
returns-clause-marked c = λ all ds m.
    rw (← take_all c.loop-net.net-index c.args.nets.now c.loop-net-test.false) (c.loop-net.invariant.marked all ds m)
