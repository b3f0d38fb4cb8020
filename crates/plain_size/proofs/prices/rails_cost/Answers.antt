use Rattle.std.proofs.Common.{◌≡◌, ◌≤◌, sym, ◌∙◌, ap, subst, ℕ, ◌+◌, ◌*◌, List, length, min, sum_by, All, arith}
use Rattle.guard_spec.specs.Codes.{data_places}
use Rattle.guard_spec.specs.Words.{Layout, Words}
use Rattle.encode_state.specs.Types.{words_in, numbers_in}
use Rattle.plain_size.specs.Prices.{watch_cost}
use Rattle.plain_size.proofs.PriceLemmas.{mapped_all, map_sum, cut_product}
use Rattle.plain_size.proofs.prices.rails_cost.Goals as goal

pub watched-state-requires-clause-words : goal.watched-state-requires-clause-words
watched-state-requires-clause-words c =
    let state : c.args.l.now.state ≡ words_in c.deref.result.now = ap (λ (l : Layout). l.state) (sym c.l.view_is) ∙ ap words_in (sym c.deref.ensures.value) in
    mapped_all (λ (w : List ℕ). length w ≤ data_places c.args.code.now) numbers_in c.deref.result.now (subst (λ (ws : Words). All (λ w. length w ≤ data_places c.args.code.now) ws) state c.requires.words.state)

pub watched-rail-requires-clause-words : goal.watched-rail-requires-clause-words
watched-rail-requires-clause-words c =
    let output : c.args.l.now.output ≡ words_in c.deref-2.result.now = ap (λ (l : Layout). l.output) (sym c.l.view_is) ∙ ap words_in (sym c.deref-2.ensures.value) in
    mapped_all (λ (w : List ℕ). length w ≤ data_places c.args.code.now) numbers_in c.deref-2.result.now (subst (λ (ws : Words). All (λ w. length w ≤ data_places c.args.code.now) ws) output c.requires.words.output)

pub returns : goal.returns
returns c =
    let code = c.args.code.now in
    let state : c.args.l.now.state ≡ words_in c.deref.result.now = ap (λ (l : Layout). l.state) (sym c.l.view_is) ∙ ap words_in (sym c.deref.ensures.value) in
    let output : c.args.l.now.output ≡ words_in c.deref-2.result.now = ap (λ (l : Layout). l.output) (sym c.l.view_is) ∙ ap words_in (sym c.deref-2.ensures.value) in
    let a = ap (sum_by (watch_cost code)) state ∙ map_sum (watch_cost code) numbers_in c.deref.result.now in
    let b = ap (sum_by (watch_cost code)) output ∙ map_sum (watch_cost code) numbers_in c.deref-2.result.now in
    let first = c.watched-state.ensures in
    let second = c.watched-rail.ensures in
    let rail : c.watched-rail.result ≡ min (1 + sum_by (watch_cost code) c.args.l.now.state + sum_by (watch_cost code) c.args.l.now.output) 1000001 = omega arith in
    c.min.ensures ∙ (ap (λ (x : ℕ). min (x * c.watched-rail.result) 1000001) c.from.ensures ∙ (ap (λ (x : ℕ). min (c.args.count * x) 1000001) rail ∙ cut_product c.args.count (1 + sum_by (watch_cost code) c.args.l.now.state + sum_by (watch_cost code) c.args.l.now.output)))
