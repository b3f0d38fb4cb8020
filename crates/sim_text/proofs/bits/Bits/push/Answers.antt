use Rattle.std.proofs.Common.{◌++◌, [], ◌∷◌, length, sym, ap, ◌∙◌, arith}
use Rattle.sim_text.proofs.PackedLemmas.{IsReady, ready_new, ready_old, unpacked_length, pushed}
use Rattle.sim_text.proofs.bits.Bits.push.Goals as goal
use Rattle.sim_text.proofs.bits.Bits.push.Goals.{then-len-eq0+in_ok-push, else-len-eq0}

pub overflow_add-self : goal.overflow_add-self
overflow_add-self c =
    let count = sym (ap length c.self.view_is) ∙ unpacked_length c.self.inside.len c.self.inside.bytes.items in
    omega (arith, count, c.requires)

pub invariant_of-self-2 : goal.invariant_of-self-2
invariant_of-self-2 c =
    let len = c.self.inside.len in
    let old = c.self.inside.bytes.items in
    let bytes = c.if-len-eq0.self-inside.bytes.items in
    let ready : IsReady len old bytes = elim c.if-len-eq0.branch [
      | then-len-eq0+in_ok-push w ↦ ready_new len old bytes c.self.invariant w.if-len-eq0.true (ap (λ s. s.bytes.items) w.self-inside-is ∙ w.in_ok-push.ensures.items)
      | else-len-eq0 w ↦ ready_old len old bytes c.self.invariant w.if-len-eq0.false (ap (λ s. s.bytes.items) w.self-inside-is)
    ] in
    (pushed len old bytes c.args.bit c.index.result.now c.with_bit.result c.self.invariant ready c.index.ensures c.with_bit.ensures).0

pub returns : goal.returns
returns c =
    let len = c.self.inside.len in
    let old = c.self.inside.bytes.items in
    let bytes = c.if-len-eq0.self-inside.bytes.items in
    let ready : IsReady len old bytes = elim c.if-len-eq0.branch [
      | then-len-eq0+in_ok-push w ↦ ready_new len old bytes c.self.invariant w.if-len-eq0.true (ap (λ s. s.bytes.items) w.self-inside-is ∙ w.in_ok-push.ensures.items)
      | else-len-eq0 w ↦ ready_old len old bytes c.self.invariant w.if-len-eq0.false (ap (λ s. s.bytes.items) w.self-inside-is)
    ] in
    (pushed len old bytes c.args.bit c.index.result.now c.with_bit.result c.self.invariant ready c.index.ensures c.with_bit.ensures).1
    ∙ ap (λ bits. bits ++ c.args.bit ∷ []) c.self.view_is
