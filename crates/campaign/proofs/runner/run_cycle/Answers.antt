use Rattle.std.proofs.Common.{◌≡◌, ℕ, length, sym, subst, ap, ◌∙◌, arith}
use Rattle.std.specs.Prelude.{Bool, Vec}
use Rattle.std.specs.declared.alloc.Global.{Global}
use Rattle.std.specs.Vec.{with_items}
use Rattle.std.proofs.lemmas.List.{with_items_is}
use Rattle.netlist_spec.specs.SourceRun.{Bits}
use Rattle.fault_sim.specs.Faults.{named_faults}
use Rattle.fault_sim.specs.Simulated.{CycleUnder, Simulated}
use Rattle.guard_spec.specs.Codes.{data_places}
use Rattle.guard_spec.specs.Words.{IsPartition}
use Rattle.campaign.proofs.RunLemmas.{is_ready, row_here, seen_here, stored_all}
use Rattle.campaign.proofs.runner.run_cycle.Goals as goal

pub seen_at-requires-clause-words : goal.seen_at-requires-clause-words
seen_at-requires-clause-words c =
    let row = row_here c.args.task.now c.args.runner.now c.requires.ready c.args.c c.index-task-c.result c.deref-2.result.now c.requires.cycle c.index-task-c.is (c.deref-2.ensures.value ∙ ap (λ (v : Vec Bool Global). v.items) (sym c.index-task-c.is)) in
    subst (λ (n : ℕ). IsPartition n (data_places c.args.task.now.code.now) c.args.task.now.layout.now.output) (sym row.1) c.requires.ready.words

pub seen_at-requires-clause-room : goal.seen_at-requires-clause-room
seen_at-requires-clause-room c =
    let s = c.args.runner.now in
    let row = row_here c.args.task.now s c.requires.ready c.args.c c.index-task-c.result c.deref-2.result.now c.requires.cycle c.index-task-c.is (c.deref-2.ensures.value ∙ ap (λ (v : Vec Bool Global). v.items) (sym c.index-task-c.is)) in
    let y = c.cycle.new.out in
    let outs : length y ≡ length s.outputs.items = c.cycle.auto.out ∙ ap length c.deref_mut-2.ensures.value in
    let out_len : length y ≡ s.outputs.len = omega (arith, outs, s.outputs.ok.0) in
    let put_out : (with_items s.outputs y).items ≡ y = with_items_is s.outputs y out_len in
    let shown : length c.deref-3.result.now ≡ length s.sim.outputs = ap length (c.deref-3.ensures.value ∙ put_out) ∙ (outs ∙ c.requires.ready.outputs) in
    let room = c.requires.ready.room in
    let long = row.1 in
    omega arith

pub returns : goal.returns
returns c =
    let s = c.args.runner.now in
    let task = c.args.task.now in
    let row = row_here task s c.requires.ready c.args.c c.index-task-c.result c.deref-2.result.now c.requires.cycle c.index-task-c.is (c.deref-2.ensures.value ∙ ap (λ (v : Vec Bool Global). v.items) (sym c.index-task-c.is)) in
    let x = c.row.new.x in
    let y = c.cycle.new.out in
    let same = c.cycle.ensures.netlist in
    let ins : length x ≡ length s.inputs.items = c.row.auto.x ∙ ap length c.deref_mut.ensures.value in
    let outs : length y ≡ length s.outputs.items = c.cycle.auto.out ∙ ap length c.deref_mut-2.ensures.value in
    let in_len : length x ≡ s.inputs.len = omega (arith, ins, s.inputs.ok.0) in
    let out_len : length y ≡ s.outputs.len = omega (arith, outs, s.outputs.ok.0) in
    let put_in : (with_items s.inputs x).items ≡ x = with_items_is s.inputs x in_len in
    let put_out : (with_items s.outputs y).items ≡ y = with_items_is s.outputs y out_len in
    let next = c.cycle.new.self.stored in
    let ready = c.requires.ready in
    let stored : length next ≡ length s.sim.stores = stored_all ready.file s.sim ready.simulates (named_faults s.sim.cells c.args.faults.now) c.deref.result.now y next (c.cycle.ensures.cycle ready.file ready.simulates) in
    record {
      x = x;
      shown = y;
      is_row = c.row.ensures;
      cycle = λ file simulates.
          subst (λ (z : Bits). CycleUnder simulates.ordered.model (named_faults s.sim.cells c.args.faults.now) z s.sim.stored y next) (c.deref.ensures.value ∙ put_in) (c.cycle.ensures.cycle file simulates);
      is_seen = seen_here task c.seen_at.result c.deref-2.result.now c.deref-3.result.now y c.args.c row.0 row.1 (c.deref-3.ensures.value ∙ put_out) c.seen_at.ensures;
      netlist = same;
      ready = is_ready task s (record { sim = c.cycle.new.self; inputs = with_items s.inputs x; outputs = with_items s.outputs y }) ready same
          (stored ∙ sym (ap (λ (t : Simulated). length t.stores) same)) (ap length put_in ∙ ins) (ap length put_out ∙ outs);
    }
