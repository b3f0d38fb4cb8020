use Rattle.std.proofs.Common.{◌≡◌, sym, ◌∙◌, ap, true, not, List, [], inr, length, map, vec_len, ◌∷◌}
use Rattle.std.proofs.lemmas.List.{length-map}
use Rattle.std.proofs.lemmas.Bool.{eqb-true, eq-eqb, false≢true}
use Rattle.std.specs.List.{list_any}
use Rattle.netlist_spec.specs.Netlist.{Row}
use Rattle.netlist_spec.specs.Covers.{row_fits}
use Rattle.netlist_spec.specs.Gates.{one}
use Rattle.gate_net.specs.Gate.{net_number}
use Rattle.gate_net.specs.GateNet.{net_count}
use Rattle.imp_text.specs.declared.cover.Row.{Row as TextRow}
use Rattle.reduction.proofs.GateReads.{extends_of_push, reads_further, reads_of_push, allowed_self, allowed_also, allowed_none}
use Rattle.reduction.proofs.Appended.{bit_of_push_behind, count_of_push}
use Rattle.reduction.proofs.Inputs.{bits_at}
use Rattle.cover.specs.Cover.{row_of, cover_of}
use Rattle.cover.proofs.Rows.{value_on, value_off, value_none, cost_off}
use Rattle.cover.proofs.products.lower.Goals as goal
use Rattle.cover.proofs.products.lower.Goals.{then-cover-via-then-cover, then-cover-via-else-cover+then-is_empty}

pub returns-then-cover-clause-value : goal.returns-then-cover-clause-value
returns-then-cover-clause-value c = λ v a.
    let bits = bits_at v c.args.ins.now in
    c.in_ok-any.ensures.value v a
    ∙ (ap (λ (rows : List TextRow). list_any (λ (r : Row). row_fits r bits) (map row_of rows)) c.deref.ensures.value
    ∙ elim c.then-cover.branch [
      | then-cover-via-then-cover w ↦ sym (value_on (cover_of c.args.cover.now) bits w.if-cover.true)
      | then-cover-via-else-cover+then-is_empty w ↦ sym (value_none (cover_of c.args.cover.now) bits (length-map c.args.cover.now.rows.items row_of ∙ (sym (ap length c.deref.ensures.value) ∙ (c.deref.ensures.len ∙ eqb-true _ _ (sym w.is_empty.ensures ∙ w.if-is_empty.true)))))
    ])

pub returns-clause-value : goal.returns-clause-value
returns-clause-value c =
    bit_of_push_behind c.args.net.now c.some_product.new.net c.push.new.self (one true c.in_ok-any.any.0) _ c.push.result c.in_ok-any.ensures.extends c.push.ensures.ok c.push.ensures.number
    (λ v a.
    let bits = bits_at v c.args.ins.now in
    ap not (c.in_ok-any.ensures.value v a ∙ ap (λ (rows : List TextRow). list_any (λ (r : Row). row_fits r bits) (map row_of rows)) c.deref.ensures.value)
    ∙ sym (value_off (cover_of c.args.cover.now) bits c.if-cover.false
    (λ none. let e : vec_len c.args.cover.now.rows ≡ 0 = sym c.deref.ensures.len ∙ (ap length c.deref.ensures.value ∙ (sym (length-map c.args.cover.now.rows.items row_of) ∙ none)) in
    false≢true (sym c.if-is_empty.false ∙ (c.is_empty.ensures ∙ eq-eqb _ _ e)))))

pub returns-clause-cost : goal.returns-clause-cost
returns-clause-cost c =
    let a = count_of_push c.some_product.new.net c.push.new.self (one true c.in_ok-any.any.0) c.push.result c.push.ensures.ok c.push.ensures.err in
    cost_off (net_count c.args.net.now) (net_count c.some_product.new.net) (net_count c.push.new.self) (length c.args.ins.now) (length c.args.cover.now.rows.items) (length c.deref.result.now)
    (ap length c.deref.ensures.value) c.in_ok-any.ensures.cost a

pub returns-clause-reads : goal.returns-clause-reads
returns-clause-reads c =
    let ins = map net_number c.args.ins.now in
    let old = c.args.net.now in
    let mid = c.some_product.new.net in
    let any = c.in_ok-any.any.0 in
    reads_further old mid c.push.new.self ins (any ∷ []) c.in_ok-any.ensures.extends
    (extends_of_push mid c.push.new.self (one true any) c.push.result c.push.ensures.ok c.push.ensures.err)
    (allowed_also ins [] (net_count old) any (inr c.in_ok-any.ensures.appended.0) (allowed_none ins (net_count old)))
    c.in_ok-any.ensures.reads
    (reads_of_push mid c.push.new.self (one true any) (any ∷ []) c.push.result c.push.ensures.ok c.push.ensures.err (allowed_self (any ∷ []) (net_count mid)))
