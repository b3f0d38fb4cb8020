use Rattle.std.proofs.Common.{◌≡◌, ◌∙◌, sym, ap, subst, refl, ℕ, [], ◌∷◌, ◌++◌, map, ◌<◌, arith}
use Rattle.std.specs.List.{AllByRecursion}
use Rattle.netlist_spec.specs.Gates.{gate_reads, GateList}
use Rattle.gate_net.specs.declared.gate.Gate.{Gate}
use Rattle.gate_net.specs.declared.gate.Gate.TheVariants.{Const, One, Two}
use Rattle.gate_net.specs.declared.gate.NetId.{NetId}
use Rattle.gate_net.specs.Gate.{gate_form}
use Rattle.gate_net.specs.GateNet.{net_count, IsNet}
use Rattle.gate_net.proofs.Nets.{HasFourAnswers, is_net_more}
use Rattle.gate_net.proofs.net.GateNet.push.Goals as goal
use Rattle.gate_net.proofs.net.GateNet.push.Goals.{in-Two+else-prove, in_default}

other_gate : (g : Gate) → ((op : ℕ) (a b : NetId) → g ≡ Two op a b → ⊥) → HasFourAnswers g
other_gate (Const b) none = tt
other_gate (One inv a) none = tt
other_gate (Two op a b) none = absurd (none op a b refl)

pub invariant_of-self-2 : goal.invariant_of-self-2
invariant_of-self-2 c =
    elim c.match-gate.branch [
      | in-Two+else-prove w ↦
          more (w.gate-is ∙ sym w.in-Two.is)
          (let P : Gate → Type 0 = λ g. HasFourAnswers g in subst P (sym w.in-Two.is) (let four : w.in-Two.op < 16 = rw (← w.op.view_is) w.op.invariant in four))
      | in_default w ↦ more w.gate-is (other_gate c.args.gate w.in_default.not-Two)
    ]
  where
    more : c.match-gate.gate ≡ c.args.gate → HasFourAnswers c.args.gate → IsNet (record { leaves = c.self.inside.leaves; gates = map gate_form c.push.new.self.items })
    more same four =
        let viewed = ap net_count c.self.view_is in
        is_net_more c.self.inside.leaves c.self.inside.gates.items c.push.new.self.items c.args.gate
        (c.in_ok-push.ensures.items ∙ ap (λ g. c.self.inside.gates.items ++ g ∷ []) same) c.self.invariant four
        (omega (arith, c.requires.room))
        (let P : GateList → Type 0 = λ net. AllByRecursion (λ m. m < net_count net) (gate_reads (gate_form c.args.gate)) in subst P (sym c.self.view_is) c.requires.reads)
