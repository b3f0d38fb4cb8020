use Rattle.std.proofs.Common.{◌≡◌, ◌<◌, ◌≤◌, ◌+◌, sym, ◌∙◌, ap, subst, ℕ, List, length, All, Option, Some, slice_get, arith}
use Rattle.netlist_spec.specs.Netlist.{Name}
use Rattle.netlist_spec.specs.Models.{output_nets}
use Rattle.guard_spec.specs.Codes.{Code, data_places}
use Rattle.guard_spec.specs.Words.{Words}
use Rattle.guard_spec.specs.Plain.{AreNets}
use Rattle.plain_size.specs.Sums.{IsWord, partial}
use Rattle.plain_size.proofs.SumLemmas.{word_of, each_word, word_nets, cost_under, bits_under}
use Rattle.plain_size.proofs.sums.add_outputs.Goals as goal

pub add_word-requires-clause-places : goal.add_word-requires-clause-places
add_word-requires-clause-places c =
    subst (λ (w : List ℕ). length w ≤ data_places c.args.code.now) (sym c.deref.ensures.value)
    (each_word (λ (w : List ℕ). length w ≤ data_places c.args.code.now) c.args.words.now c.loop-word.word-index c.word-item.result c.requires.words.short c.loop-word-test.true c.word-item.is)

pub add_word-requires-clause-within : goal.add_word-requires-clause-within
add_word-requires-clause-within c =
    subst (λ (w : List ℕ). All (λ i. i < length c.args.nets.now) w) (sym c.deref.ensures.value)
    (each_word (λ (w : List ℕ). All (λ i. i < length c.args.nets.now) w) c.args.words.now c.loop-word.word-index c.word-item.result c.requires.words.within c.loop-word-test.true c.word-item.is)

pub loop-word-preserved : goal.loop-word-preserved
loop-word-preserved c = record {
  size = c.add_word.ensures.size ∙ c.loop-word.invariant.size;
  fresh = λ k d h. let less = (rw c.in-Some.is at c.in_ok-sum.ensures.fresh) k d h in omega arith;
  small = rw c.in-Some.is at c.in_ok-sum.ensures.small;
  sum = λ p rails k are code state names words begins.
      let i = c.loop-word.word-index in
      let word = c.word-item.result.items in
      let start : ℕ = c.loop-word.total + c.from.result in
      let is : slice_get k.output i ≡ Some word = ap (λ (ws : Words). slice_get ws i) words ∙ word_of c.args.words.now i c.word-item.result c.loop-word-test.true c.word-item.is in
      let (nets, are_nets) = word_nets p c.args.nets.now (output_nets p.m) c.args.words.now i c.word-item.result names c.requires.words.within c.loop-word-test.true c.word-item.is in
      let added = c.in_ok-sum.ensures.cost p (output_nets p.m) nets are code names (subst (λ (w : List ℕ). AreNets (output_nets p.m) w nets) (sym c.deref.ensures.value) are_nets) in
      let (cost, is_cost, e) = subst (λ (o : Option ℕ). IsWord p nets start o) c.in-Some.is added in
      let more = c.partial_sizes_add_up.ensures.output p.file p.library p.m p.code p.mode p.radius rails k (length k.state) i word nets c.loop-word.total cost is (c.loop-word.invariant.sum p rails k are code state names words begins) are_nets
      (cost_under p k.state nets cost state is_cost) in
      let columns : c.from.result ≡ p.code.columns = c.from.ensures ∙ (c.r.ensures.columns ∙ ap (λ (d : Code). d.columns) (sym code)) in
      let same : c.loop-word.total + cost ≡ c.in-Some.sum = omega arith in
      subst (λ (n : ℕ). partial p rails k (length k.state) (i + 1) n) same more;
}

pub returns-in-None-clause-cost : goal.returns-in-None-clause-cost
returns-in-None-clause-cost c = λ p rails k are code state names words begins n size.
    let i = c.loop-word.word-index in
    let word = c.word-item.result.items in
    let start : ℕ = c.loop-word.total + c.from.result in
    let is : slice_get k.output i ≡ Some word = ap (λ (ws : Words). slice_get ws i) words ∙ word_of c.args.words.now i c.word-item.result c.loop-word-test.true c.word-item.is in
    let (nets, are_nets) = word_nets p c.args.nets.now (output_nets p.m) c.args.words.now i c.word-item.result names c.requires.words.within c.loop-word-test.true c.word-item.is in
    let added = c.in_ok-sum.ensures.cost p (output_nets p.m) nets are code names (subst (λ (w : List ℕ). AreNets (output_nets p.m) w nets) (sym c.deref.ensures.value) are_nets) in
    let (front, rest, costs, split, bits, large) = subst (λ (o : Option ℕ). IsWord p nets start o) c.in-None.is added in
    let below = c.partial_sizes_stay_below.ensures.output p.file p.library p.m p.code p.mode p.radius rails k (length k.state) i word front rest costs c.loop-word.total n is (c.loop-word.invariant.sum p rails k are code state names words begins)
    (subst (λ (xs : List Name). AreNets (output_nets p.m) word xs) split are_nets) (bits_under p k.state front costs state bits) size in
    let columns : c.from.result ≡ p.code.columns = c.from.ensures ∙ (c.r.ensures.columns ∙ ap (λ (d : Code). d.columns) (sym code)) in
    omega arith
