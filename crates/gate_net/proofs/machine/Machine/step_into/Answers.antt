use Rattle.std.proofs.Common.{◌≡◌, ◌∙◌, ◌++◌, sym, ap, subst, ℕ, ◌+◌, [], List, length, map, take, arith}
use Rattle.netlist_spec.specs.Gates.{GateStep, IsEvaluation, Machine}
use Rattle.gate_net.specs.declared.gate.NetId.{NetId}
use Rattle.gate_net.specs.declared.machine.LatchRow.{LatchRow}
use Rattle.gate_net.specs.Gate.{net_number}
use Rattle.gate_net.specs.Machine.{latch_row, machine_of}
use Rattle.gate_net.specs.GateNet.{net_bit, net_count}
use Rattle.gate_net.proofs.Machines.{evaluated, stepped}
use Rattle.gate_net.proofs.machine.Machine.step_into.Goals as goal

pub returns : goal.returns
returns c =
    let m = machine_of c.self.inside.net c.self.inside.inputs c.self.inside.latches.items c.self.inside.outputs.items in
    let row = c.answer_gates.new.row in
    let inputs : length c.args.x.now ≡ m.inputs = c.requires.inputs ∙ sym (ap (λ (q : Machine). q.inputs) c.self.view_is) in
    let state : length c.args.state.now ≡ length m.latches = c.requires.state ∙ sym (ap (λ (q : Machine). length q.latches) c.self.view_is) in
    let whole : net_count m.net ≡ net_count c.args.self.now.net = ap (λ (q : Machine). net_count q.net) c.self.view_is in
    let long : length row ≡ net_count m.net = omega arith in
    let front : m.net.leaves ≡ length c.args.x.now + length c.args.state.now = let e = c.self.invariant.leaves in omega arith in
    let leaves = c.answer_gates.ensures.leaves ∙ (ap (λ (n : ℕ). take n c.put_leaves.new.row) front ∙ c.put_leaves.ensures) in
    let out = c.read_outputs.ensures ∙ ap (λ (ns : List NetId). map (net_bit row) (map net_number ns)) c.deref.ensures.value in
    let next = c.store.ensures ∙ ap (λ (ls : List LatchRow). map (net_bit row) (map (λ q. q.d) (map latch_row ls))) c.deref-2.ensures.value in
    record {
      step =
          let Step : Machine → Type 0 = λ q. GateStep q [] c.args.x.now c.args.state.now c.read_outputs.new.out c.store.new.state in
          subst Step c.self.view_is
          (rw (out, next) (stepped m c.args.x.now c.args.state.now row c.self.invariant inputs state long leaves c.answer_gates.ensures.gates));
      row =
          let Row : Machine → Type 0 = λ q. IsEvaluation q.net (c.args.x.now ++ c.args.state.now) (net_bit row) in
          subst Row c.self.view_is
          (evaluated m c.args.x.now c.args.state.now row c.self.invariant inputs state long leaves c.answer_gates.ensures.gates);
    }
