use Rattle.std.proofs.Common.{◌≡◌, ◌+◌, ◌<◌, ◌≤◌, ◌^◌, sym, ◌∙◌, ap, subst, [], ℕ, Vec, Global, length, get_or, map, arith}
use Rattle.std.proofs.lemmas.List.{length-map}
use Rattle.netlist_spec.specs.Gates.{GateList, IsMachine, Machine}
use Rattle.guard_spec.specs.Codes.{data_places}
use Rattle.guard_spec.specs.Words.{Layout, Words}
use Rattle.gate_net.specs.GateNet.{IsNet}
use Rattle.encode_state.specs.Types.{words_in}
use Rattle.encode_state.proofs.MarkLemmas.{words_at}
use Rattle.guard_net.proofs.LatchRows.{starts_are, stores_are, word_pushed, words_fit}
use Rattle.guard_net.proofs.rows.latch_rows.Goals as goal

pub overflow_cast-w : goal.overflow_cast-w
overflow_cast-w c =
    let vecs = c.deref-word-items.result.now in
    let state_is : c.args.l.now.state ≡ words_in vecs = ap (λ (l : Layout). l.state) (sym c.l.view_is) ∙ ap words_in (sym c.deref-word-items.ensures.value) in
    let long : length c.args.l.now.state ≡ length vecs = ap length state_is ∙ length-map vecs (λ (v : Vec ℕ Global). v.items) in
    let few : length c.args.l.now.state ≤ 2 ^ 23 = words_fit c.args.m.now (data_places c.args.code.now) c.args.l.now.state (subst IsMachine c.m.view_is c.m.invariant) (subst (λ (net : GateList). IsNet net) (ap (λ (m : Machine). m.net) c.m.view_is) c.len-nets.ensures.well_formed) c.requires.layout in
    let inside : c.loop-w.w < length vecs = c.loop-w-test.true in
    omega (arith, long, few, inside)

pub loop-w-preserved : goal.loop-w-preserved
loop-w-preserved c =
    let code = c.args.code.now in
    let state = c.args.l.now.state in
    let w = c.loop-w.w in
    let vecs = c.deref-word-items.result.now in
    let vec = c.word-item.result in
    let state_is : state ≡ words_in vecs = ap (λ (l : Layout). l.state) (sym c.l.view_is) ∙ ap words_in (sym c.deref-word-items.ensures.value) in
    let inside : w < length vecs = c.loop-w-test.true in
    let long : length state ≡ length vecs = ap length state_is ∙ length-map vecs (λ (v : Vec ℕ Global). v.items) in
    let same : get_or state w [] ≡ vec.items = ap (λ (ws : Words). get_or ws w []) state_is ∙ words_at vecs w vec inside c.word-item.is in
    let size : length (get_or state w []) ≡ length vec.items = ap length same in
    let filled = vec.ok.0 in
    let count : c.len.result ≡ length vec.items = omega (arith, c.len.ensures, filled) in
    let narrow = c.from-columns.ensures in
    let columns = c.r.ensures.columns in
    word_pushed code state (map (λ r. r.init) c.args.m.now.latches) c.args.cells.now w c.loop-w.rows.items c.push_rows.new.rows.items (c.len.result + c.from-columns.result) c.initial-bits.result.0 (omega (arith, long, inside)) c.loop-w.invariant
    (omega (arith, size, count, narrow, columns)) c.initial-bits.ensures.codeword c.in_ok-push_rows.ensures.stores c.in_ok-push_rows.ensures.inits

pub returns-clause-stores : goal.returns-clause-stores
returns-clause-stores c =
    let vecs = c.deref-word-items.result.now in
    let state_is : c.args.l.now.state ≡ words_in vecs = ap (λ (l : Layout). l.state) (sym c.l.view_is) ∙ ap words_in (sym c.deref-word-items.ensures.value) in
    let long : length c.args.l.now.state ≡ length vecs = ap length state_is ∙ length-map vecs (λ (v : Vec ℕ Global). v.items) in
    let past : length vecs ≤ c.loop-w.w = c.loop-w-test.false in
    stores_are c.args.code.now c.args.l.now.state (map (λ r. r.init) c.args.m.now.latches) c.args.cells.now c.loop-w.w c.loop-w.rows.items (omega (arith, long, past)) c.loop-w.invariant

pub returns-clause-inits : goal.returns-clause-inits
returns-clause-inits c =
    let vecs = c.deref-word-items.result.now in
    let state_is : c.args.l.now.state ≡ words_in vecs = ap (λ (l : Layout). l.state) (sym c.l.view_is) ∙ ap words_in (sym c.deref-word-items.ensures.value) in
    let long : length c.args.l.now.state ≡ length vecs = ap length state_is ∙ length-map vecs (λ (v : Vec ℕ Global). v.items) in
    let past : length vecs ≤ c.loop-w.w = c.loop-w-test.false in
    starts_are c.args.code.now c.args.l.now.state (map (λ r. r.init) c.args.m.now.latches) c.args.cells.now c.loop-w.w c.loop-w.rows.items (omega (arith, long, past)) c.loop-w.invariant
