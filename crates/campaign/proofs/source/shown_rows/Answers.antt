use Rattle.std.proofs.Common.{◌≡◌, length, ap, subst, ◌∙◌, [], arith}
use Rattle.std.specs.Vec.{with_items}
use Rattle.std.proofs.lemmas.List.{with_items_is}
use Rattle.netlist_spec.specs.Gates.{GateStep}
use Rattle.netlist_spec.specs.SourceRun.{Bits}
use Rattle.campaign.proofs.SourceLemmas.{shows_more}
use Rattle.campaign.proofs.source.shown_rows.Goals as goal

pub loop-c-preserved : goal.loop-c-preserved
loop-c-preserved c =
    let source = c.args.source.now in
    let x = c.row.new.x in
    let y = c.step_into.new.out in
    let next = c.step_into.new.state in
    let bits = c.step_into.new.row in
    let test = c.loop-c-test.true in
    let count = c.cycles-c-end.ensures.count in
    let ins : length x ≡ length c.loop-c.x.items = c.row.auto.x ∙ ap length c.deref_mut.ensures.value in
    let nexts : length next ≡ length c.loop-c.state.items = c.step_into.auto.state ∙ ap length c.deref_mut-in-loop-c.ensures.value in
    let rows : length bits ≡ length c.loop-c.row.items = c.step_into.auto.row ∙ ap length c.deref_mut-in-loop-c-2.ensures.value in
    let outs : length y ≡ length c.in_ok-out.out.items = c.step_into.auto.out ∙ ap length c.deref_mut-in-loop-c-3.ensures.value in
    let put_in : (with_items c.loop-c.x x).items ≡ x = with_items_is c.loop-c.x x (omega (arith, ins, c.loop-c.x.ok.0)) in
    let put_next : (with_items c.loop-c.state next).items ≡ next = with_items_is c.loop-c.state next (omega (arith, nexts, c.loop-c.state.ok.0)) in
    let put_row : (with_items c.loop-c.row bits).items ≡ bits = with_items_is c.loop-c.row bits (omega (arith, rows, c.loop-c.row.ok.0)) in
    let put_out : (with_items c.in_ok-out.out y).items ≡ y = with_items_is c.in_ok-out.out y (omega (arith, outs, c.in_ok-out.out.ok.0)) in
    let step : GateStep source [] x c.loop-c.state.items y next =
    subst (λ (b : Bits). GateStep source [] b c.loop-c.state.items y next) (c.deref.ensures.value ∙ put_in)
    (subst (λ (b : Bits). GateStep source [] c.deref.result.now b y next) c.deref_mut-in-loop-c.ensures.value c.step_into.ensures.step) in
    record {
      shows = shows_more source c.args.stimulus.now.cycles c.loop-c.c c.loop-c.rows.items c.push.new.self.items (with_items c.in_ok-out.out y) x y c.loop-c.state.items next (with_items c.loop-c.state next).items (omega arith) c.row.ensures c.loop-c.invariant.shows step c.in_ok-push.ensures.items put_out put_next;
      x = ap length put_in ∙ (ins ∙ c.loop-c.invariant.x);
      state = ap length put_next ∙ (nexts ∙ c.loop-c.invariant.state);
      row = ap length put_row ∙ (rows ∙ c.loop-c.invariant.row);
    }
