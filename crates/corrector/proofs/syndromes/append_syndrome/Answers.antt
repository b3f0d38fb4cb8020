use Rattle.std.proofs.Common.{◌≡◌, sym, ◌∙◌, ap, subst, ◌+◌, ◌<◌, ◌++◌, ◌∷◌, List, [], ℕ, inl, inr, length, map, get_or, take, Contains, slice_get, arith}
use Rattle.std.proofs.lemmas.List.{take_all, map_push, length_push, length-map}
use Rattle.netlist_spec.specs.Covers.{differ, parity}
use Rattle.guard_spec.specs.Codes.{syndrome_of}
use Rattle.gate_net.specs.declared.gate.NetId.{NetId}
use Rattle.gate_net.specs.Gate.{net_number}
use Rattle.gate_net.specs.GateNet.{net_count}
use Rattle.gate_net.specs.Words.{nets_of, word_nets}
use Rattle.cone_split.proofs.Cells.{contains_cases}
use Rattle.predictor.proofs.Checks.{chosen_roots}
use Rattle.reduction.proofs.Appended.{extends_same, extends_further}
use Rattle.reduction.proofs.GateReads.{AreAllowed, allowed_also, input_at, reads_same}
use Rattle.corrector.proofs.Computed.{none_computed, more_computed, nets_as, bits_as, in_left, in_right, all_later}
use Rattle.corrector.proofs.SyndromeBits.{number_at, ones_of, syndrome_more, syndrome_long, few_added, next_column}
use Rattle.corrector.proofs.syndromes.append_syndrome.Goals as goal

-- a check place is a net of the word
check_known : (places checks items : List NetId) (j : ℕ) (d : NetId) → items ≡ checks → j < length items → Contains (map net_number places ++ map net_number checks) (get_or items j d).0
check_known places checks items j d e h =
    in_right (map net_number places) (map net_number checks) (get_or items j d).0
    (subst (λ (ns : List NetId). Contains (map net_number ns) (get_or items j d).0) e (input_at items j d h))

-- and so are the data places
places_known : (places checks items : List NetId) (k : ℕ) → items ≡ places → Contains (map net_number items) k → Contains (map net_number places ++ map net_number checks) k
places_known places checks items k e c = in_left (map net_number places) (map net_number checks) k (subst (λ (ns : List NetId). Contains (map net_number ns) k) e c)

pub loop-j-init : goal.loop-j-init
loop-j-init c = record {
  computed =
      nets_as c.args.net.now c.args.net.now (nets_of (word_nets c.args.word.now)) (map net_number c.new-bits.result.items) [] _ (ap (map net_number) c.new-bits.ensures)
      (none_computed c.args.net.now c.args.net.now (nets_of (word_nets c.args.word.now)) (extends_same c.args.net.now) (reads_same c.args.net.now (nets_of (word_nets c.args.word.now))));
  count = ap length c.new-bits.ensures;
  cost = omega arith;
}

pub append_syndrome_bit-requires-clause-nets : goal.append_syndrome_bit-requires-clause-nets
append_syndrome_bit-requires-clause-nets c =
    let places = c.args.word.now.places.items in
    let checks = c.args.word.now.checks.items in
    let items = c.deref-check-items.result.now in
    all_later c.args.net.now c.loop-j.net (nets_of (word_nets c.args.word.now)) ((get_or items c.loop-j.j (record { 0 = 0 })).0 ∷ map net_number c.deref.result.now) c.loop-j.invariant.computed.extends c.requires.nets
    (λ k d. elim (contains_cases (get_or items c.loop-j.j (record { 0 = 0 })).0 k (map net_number c.deref.result.now) d) [
      | inl e ↦ subst (λ (n : ℕ). Contains (nets_of (word_nets c.args.word.now)) n) e (check_known places checks items c.loop-j.j (record { 0 = 0 }) c.deref-check-items.ensures.0 c.loop-j-test.true)
      | inr f ↦ places_known places checks c.deref.result.now k c.deref.ensures.0 f
    ])

pub append_syndrome_bit-requires-clause-room : goal.append_syndrome_bit-requires-clause-room
append_syndrome_bit-requires-clause-room c =
    let rows = c.args.code.now.rows in
    let places = map net_number c.args.word.now.places.items in
    let same = ap (λ (ns : List NetId). length (chosen_roots rows c.loop-j.j (map net_number ns))) c.deref.ensures.0 in
    let next = next_column rows places c.loop-j.j in
    let some = few_added rows places (c.loop-j.j + 1) in
    let size = ap (λ (k : ℕ). ones_of rows k) (length-map c.args.word.now.places.items net_number) in
    let cost = c.loop-j.invariant.cost in
    let room = c.requires.room in
    omega arith

pub loop-j-preserved : goal.loop-j-preserved
loop-j-preserved c =
    let old = c.args.net.now in
    let now = c.loop-j.net in
    let new = c.append_syndrome_bit.new.net in
    let rows = c.args.code.now.rows in
    let places = c.args.word.now.places.items in
    let checks = c.args.word.now.checks.items in
    let ins = nets_of (word_nets c.args.word.now) in
    let items = c.deref-check-items.result.now in
    let j = c.loop-j.j in
    let check = (get_or items j (record { 0 = 0 })).0 in
    let bit = c.in_ok-append_syndrome_bit.field-0 in
    let made = c.in_ok-append_syndrome_bit.ensures.computed in
    let pushed = c.push.ensures.items in
    let below = ap length c.deref-check-items.ensures.0 in
    let at = ap (λ (ns : List NetId). slice_get (map net_number ns) j) (sym c.deref-check-items.ensures.0) ∙ number_at items j (record { 0 = 0 }) c.loop-j-test.true in
    let allowed : AreAllowed ins (net_count old) (check ∷ map net_number c.deref.result.now) = allowed_also ins (map net_number c.deref.result.now) (net_count old) check (inl (check_known places checks items j (record { 0 = 0 }) c.deref-check-items.ensures.0 c.loop-j-test.true)) (λ k f. inl (places_known places checks c.deref.result.now k c.deref.ensures.0 f)) in
    record {
      computed =
          nets_as old new ins (map net_number c.push.new.self.items) (map net_number c.loop-j.bits.items ++ bit.0 ∷ []) _ (ap (map net_number) pushed ∙ map_push net_number c.loop-j.bits.items bit)
          (more_computed old now new ins (check ∷ map net_number c.deref.result.now) (map net_number c.loop-j.bits.items) bit.0 _ _ _ allowed
          (λ v answers.
          ap (λ (ns : List NetId). take j (syndrome_of c.args.code.now (length places) (map v ins)) ++ differ (v check) (parity (map v (chosen_roots rows j (map net_number ns)))) ∷ []) c.deref.ensures.0
          ∙ syndrome_more c.args.code.now c.r-columns.ensures.valid (map net_number places) (map net_number checks) (length places) (sym (length-map places net_number)) (length-map checks net_number ∙ c.requires.checks) v j check
          (let less = c.loop-j-test.true in let long = c.requires.checks in omega arith) at)
          c.loop-j.invariant.computed made);
      count = ap length pushed ∙ (length_push c.loop-j.bits.items bit ∙ ap (λ (k : ℕ). k + 1) c.loop-j.invariant.count);
      cost =
          let same = ap (λ (ns : List NetId). length (chosen_roots rows j (map net_number ns))) c.deref.ensures.0 in
          let next = next_column rows (map net_number places) j in
          let cost = c.loop-j.invariant.cost in
          let more = c.in_ok-append_syndrome_bit.ensures.cost in
          omega arith;
    }

pub returns-in_err-append_syndrome_bit-clause-extends : goal.returns-in_err-append_syndrome_bit-clause-extends
returns-in_err-append_syndrome_bit-clause-extends c = extends_further c.args.net.now c.loop-j.net c.append_syndrome_bit.new.net c.loop-j.invariant.computed.extends c.in_err-append_syndrome_bit.ensures.extends

pub returns-clause-computed : goal.returns-clause-computed
returns-clause-computed c =
    let places = c.args.word.now.places.items in
    let checks = c.args.word.now.checks.items in
    let same = ap length c.deref-check-items.ensures.0 in
    bits_as c.args.net.now c.loop-j.net (nets_of (word_nets c.args.word.now)) (map net_number c.loop-j.bits.items) _ _
    (λ v.
    let long = syndrome_long c.args.code.now c.r-columns.ensures.valid (map net_number places) (map net_number checks) (length places) (sym (length-map places net_number)) (length-map checks net_number ∙ c.requires.checks) v in
    take_all c.loop-j.j (syndrome_of c.args.code.now (length places) (map v (nets_of (word_nets c.args.word.now)))) (let end = c.loop-j-test.false in let all = c.requires.checks in omega arith))
    c.loop-j.invariant.computed

pub returns-clause-count : goal.returns-clause-count
returns-clause-count c = let same = ap length c.deref-check-items.ensures.0 in let end = c.loop-j-test.false in let all = c.requires.checks in let count = c.loop-j.invariant.count in omega arith

pub returns-clause-cost : goal.returns-clause-cost
returns-clause-cost c =
    let rows = c.args.code.now.rows in
    let some = few_added rows (map net_number c.args.word.now.places.items) c.loop-j.j in
    let size = ap (λ (k : ℕ). ones_of rows k) (length-map c.args.word.now.places.items net_number) in
    let cost = c.loop-j.invariant.cost in
    omega arith

pub returns-clause-extends : goal.returns-clause-extends
returns-clause-extends c = c.loop-j.invariant.computed.extends
