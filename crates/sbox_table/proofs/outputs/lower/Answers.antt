use Rattle.std.proofs.Common.{◌≡◌, ◌==◌, sym, ◌∙◌, ap, ap₂, ℕ, ◌^◌, ◌<◌, List, map, length, subst}
use Rattle.std.proofs.lemmas.List.{length-map}
use Rattle.std.specs.List.{AllByRecursion, range_with_len}
use Rattle.reduction.specs.Appended.{IsAppended}
use Rattle.reduction.proofs.GateReads.{reads_further, allowed_appended}
use Rattle.netlist_spec.specs.Covers.{Table, table_value, number_of}
use Rattle.gate_net.specs.declared.gate.NetId.{NetId}
use Rattle.gate_net.specs.Gate.{net_number}
use Rattle.reduction.proofs.Inputs.{bits_at}
use Rattle.reduction.proofs.Outputs.{AreAnswered, bits_over, bits_same}
use Rattle.sbox_table.specs.Tables.{output_bit}
use Rattle.sbox_table.proofs.Numbers.{number_below}
use Rattle.sbox_table.proofs.Terms.{output_at, map_each}
use Rattle.sbox_table.proofs.outputs.lower.Goals as goal

pub returns-clause-values : goal.returns-clause-values
returns-clause-values c =
    let t = c.args.table.now in
    let ins = c.args.ins.now in
    let rows = c.deref.result.now in
    let rows_are : rows ≡ t.rows = c.deref.ensures.value ∙ ap (λ (x : Table). x.rows) c.table.view_is in
    let outs_are : c.table.inside.outs ≡ t.outs = ap (λ (x : Table). x.outs) c.table.view_is in
    let ins_are : c.table.inside.ins ≡ t.ins = ap (λ (x : Table). x.ins) c.table.view_is in
    let long : length rows ≡ 2 ^ length ins = ap length c.deref.ensures.value ∙ (c.table.invariant.count ∙ ap (λ n. 2 ^ n) (ins_are ∙ sym c.requires.inputs)) in
    bits_same c.args.net.now c.outputs.new.net c.outputs.result _ _
    (λ v.
    let bits = bits_at v ins in
    let wide : length bits ≡ length ins = length-map (map net_number ins) v ∙ length-map ins net_number in
    let P : ℕ → Type 0 = λ n. number_of bits < 2 ^ n in
    map_each _ _ (λ j. output_at rows (number_of bits) j (2 ^ length ins) (subst P wide (number_below bits)) long) (range_with_len 0 c.table.inside.outs)
    ∙ ap₂ (λ (rs : List ℕ) (n : ℕ). map (table_value (record t { rows = rs }) bits) (range_with_len 0 n)) rows_are outs_are)
    (bits_over c.args.net.now c.minterms.new.net c.outputs.new.net c.deref-2.result.now c.outputs.result (λ v. map (λ k. number_of (bits_at v ins) == k) (range_with_len 0 (2 ^ length ins)))
    (λ v places. map (output_bit rows places) (range_with_len 0 c.table.inside.outs))
    (let Q : List NetId → Type 0 = λ terms. AreAnswered c.args.net.now c.minterms.new.net terms (λ v. map (λ k. number_of (bits_at v ins) == k) (range_with_len 0 (2 ^ length ins))) in
    subst Q (sym c.deref-2.ensures.value) (record { extends = c.in_ok-terms.ensures.extends; appended = c.in_ok-terms.ensures.appended; has = c.in_ok-terms.ensures.values }))
    c.outputs.ensures.extends c.outputs.ensures.appended c.outputs.ensures.values)

pub returns-clause-reads : goal.returns-clause-reads
returns-clause-reads c =
    let old = c.args.net.now in
    let mid = c.minterms.new.net in
    let P : List NetId → Type 0 = λ terms. AllByRecursion (IsAppended old mid) (map net_number terms) in
    reads_further old mid c.outputs.new.net (map net_number c.args.ins.now) (map net_number c.deref-2.result.now) c.in_ok-terms.ensures.extends c.outputs.ensures.extends
    (allowed_appended (map net_number c.args.ins.now) old mid (map net_number c.deref-2.result.now) (subst P (sym c.deref-2.ensures.value) c.in_ok-terms.ensures.appended))
    c.in_ok-terms.ensures.reads c.outputs.ensures.reads
