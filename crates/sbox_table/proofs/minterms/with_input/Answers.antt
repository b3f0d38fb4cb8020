use Rattle.std.proofs.Common.{◌∷◌, sym, ◌∙◌, ap, ap₂, ◌++◌, ◌&&◌, ◌*◌, ◌+◌, not, List, Bool, map, subst}
use Rattle.netlist_spec.specs.Covers.{has_bit}
use Rattle.netlist_spec.specs.Gates.{bit_number}
use Rattle.gate_net.specs.declared.gate.NetId.{NetId}
use Rattle.gate_net.specs.Gate.{net_number}
use Rattle.gate_net.specs.GateNet.{net_count}
use Rattle.reduction.proofs.GateReads.{reads_further, allowed_self}
use Rattle.reduction.proofs.Inputs.{bits_at}
use Rattle.reduction.proofs.Outputs.{AreAnswered, answered_append, answered_same}
use Rattle.sbox_table.proofs.Terms.{and_answer, and_not_answer, map_each}
use Rattle.sbox_table.proofs.minterms.with_input.Goals as goal

both : (c : goal.After-drop-high-2)
    → AreAnswered c.args.net.now c.products-2.new.net c.extend_from_slice.new.self.items (λ v. map (λ b. b && not (v c.args.n.0)) (bits_at v c.args.terms.now) ++ map (λ b. b && v c.args.n.0) (bits_at v c.args.terms.now))
both c =
    let items = c.in_ok-extend_from_slice.ensures.items ∙ ap (λ high. c.in_ok-all.all.items ++ high) c.deref.ensures.value in
    let P : List NetId → Type 0 = λ all. AreAnswered c.args.net.now c.products-2.new.net all (λ v. map (λ b. b && not (v c.args.n.0)) (bits_at v c.args.terms.now) ++ map (λ b. b && v c.args.n.0) (bits_at v c.args.terms.now)) in
    subst P (sym items)
    (answered_same c.args.net.now c.products-2.new.net (c.in_ok-all.all.items ++ c.in_ok-high.high.items) _ _
    (λ v.
    ap₂ (λ (x y : List Bool). x ++ y)
    (map_each (λ b. has_bit 4 (2 * bit_number b + bit_number (v c.args.n.0))) (λ b. b && not (v c.args.n.0)) (λ b. and_not_answer b (v c.args.n.0)) (bits_at v c.args.terms.now))
    (map_each (λ b. has_bit 8 (2 * bit_number b + bit_number (v c.args.n.0))) (λ b. b && v c.args.n.0) (λ b. and_answer b (v c.args.n.0)) (bits_at v c.args.terms.now)))
    (answered_append c.args.net.now c.products.new.net c.products-2.new.net c.in_ok-all.all.items c.in_ok-high.high.items _ _
    (record { extends = c.in_ok-all.ensures.extends; appended = c.in_ok-all.ensures.appended; has = c.in_ok-all.ensures.values })
    (record { extends = c.in_ok-high.ensures.extends; appended = c.in_ok-high.ensures.appended; has = c.in_ok-high.ensures.values })))

pub returns-clause-appended : goal.returns-clause-appended
returns-clause-appended c = (both c).appended

pub returns-clause-values : goal.returns-clause-values
returns-clause-values c = (both c).has

pub returns-in_err-high-clause-reads : goal.returns-in_err-high-clause-reads
returns-in_err-high-clause-reads c = reads_further c.args.net.now c.products.new.net c.products-2.new.net (c.args.n.0 ∷ map net_number c.args.terms.now) (c.args.n.0 ∷ map net_number c.args.terms.now) c.in_ok-all.ensures.extends c.in_err-high.ensures.extends (allowed_self (c.args.n.0 ∷ map net_number c.args.terms.now) (net_count c.args.net.now)) c.in_ok-all.ensures.reads c.in_err-high.ensures.reads

pub returns-in_err-extend_from_slice-clause-reads : goal.returns-in_err-extend_from_slice-clause-reads
returns-in_err-extend_from_slice-clause-reads c = reads_further c.args.net.now c.products.new.net c.products-2.new.net (c.args.n.0 ∷ map net_number c.args.terms.now) (c.args.n.0 ∷ map net_number c.args.terms.now) c.in_ok-all.ensures.extends c.in_ok-high.ensures.extends (allowed_self (c.args.n.0 ∷ map net_number c.args.terms.now) (net_count c.args.net.now)) c.in_ok-all.ensures.reads c.in_ok-high.ensures.reads

pub returns-clause-reads : goal.returns-clause-reads
returns-clause-reads c = reads_further c.args.net.now c.products.new.net c.products-2.new.net (c.args.n.0 ∷ map net_number c.args.terms.now) (c.args.n.0 ∷ map net_number c.args.terms.now) c.in_ok-all.ensures.extends c.in_ok-high.ensures.extends (allowed_self (c.args.n.0 ∷ map net_number c.args.terms.now) (net_count c.args.net.now)) c.in_ok-all.ensures.reads c.in_ok-high.ensures.reads
