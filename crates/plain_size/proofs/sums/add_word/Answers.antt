use Rattle.std.proofs.Common.{◌<◌, ◌∙◌, subst, ℕ, length, get_or, Option, Some, None, arith}
use Rattle.std.specs.Prelude.{count_ones}
use Rattle.netlist_spec.specs.Netlist.{Name}
use Rattle.imp_text.specs.declared.names.NameId.{NameId}
use Rattle.blif_read.specs.View.{name_at}
use Rattle.plain_size.specs.Sums.{IsBit}
use Rattle.plain_size.proofs.SumLemmas.{word_goes_on, word_stops, word_ends, word_too_large, place_of_word, nets_long}
use Rattle.plain_size.proofs.sums.add_word.Goals as goal

pub loop-i-preserved : goal.loop-i-preserved
loop-i-preserved c =
    let i = c.loop-i.i in
    let none : NameId = record { 0 = 0 } in
    let net : NameId = get_or c.args.nets.now (get_or c.args.word.now i 0) none in
    let inside : i < length c.args.word.now = (let t = c.loop-i-test.true in let e = c.places-i-end.ensures.places in omega arith) in
    record {
      size = c.add_bit.ensures.size ∙ c.loop-i.invariant.size;
      fresh = rw c.in-Some.is at c.in_ok-sum.ensures.fresh;
      small = rw c.in-Some.is at c.in_ok-sum.ensures.small;
      sum = λ p all some are code names nets.
          let here = place_of_word p c.args.code.now c.args.nets.now c.args.word.now all some i c.row-checks.result code c.places-i-end.ensures.valid c.requires.places inside c.requires.within c.row-checks.ensures.bits c.row-checks.ensures.within names nets in
          let is = subst (λ (o : Option ℕ). IsBit p (name_at p.m.names net) (count_ones c.row-checks.result) c.loop-i.total o) c.in-Some.is (c.in_ok-sum.ensures.cost p are) in
          word_goes_on p some c.args.start c.word_costs_add_up.ensures.more here.is_code i c.loop-i.total (count_ones c.row-checks.result) here.x here.at here.few here.ones (c.loop-i.invariant.sum p all some are code names nets) c.in-Some.sum
          (subst (λ (x : Name). IsBit p x (count_ones c.row-checks.result) c.loop-i.total (Some c.in-Some.sum)) here.named is);
    }

pub returns-in-None-clause-cost : goal.returns-in-None-clause-cost
returns-in-None-clause-cost c = λ p all some are code names nets.
    let i = c.loop-i.i in
    let none : NameId = record { 0 = 0 } in
    let net : NameId = get_or c.args.nets.now (get_or c.args.word.now i 0) none in
    let inside : i < length c.args.word.now = (let t = c.loop-i-test.true in let e = c.places-i-end.ensures.places in omega arith) in
    let here = place_of_word p c.args.code.now c.args.nets.now c.args.word.now all some i c.row-checks.result code c.places-i-end.ensures.valid c.requires.places inside c.requires.within c.row-checks.ensures.bits c.row-checks.ensures.within names nets in
    let is = subst (λ (o : Option ℕ). IsBit p (name_at p.m.names net) (count_ones c.row-checks.result) c.loop-i.total o) c.in-None.is (c.in_ok-sum.ensures.cost p are) in
    word_stops p some c.args.start c.word_costs_add_up.ensures.more here.is_code i c.loop-i.total (count_ones c.row-checks.result) here.x here.at here.few here.ones (c.loop-i.invariant.sum p all some are code names nets)
    (subst (λ (x : Name). IsBit p x (count_ones c.row-checks.result) c.loop-i.total None) here.named is)

pub returns-then-start-gt-LIMIT-clause-cost : goal.returns-then-start-gt-LIMIT-clause-cost
returns-then-start-gt-LIMIT-clause-cost c = λ p all some are code names nets. word_too_large p some c.args.start (c.word_costs_add_up.ensures.none p.code) c.if-start-gt-LIMIT.true

pub returns-clause-cost : goal.returns-clause-cost
returns-clause-cost c = λ p all some are code names nets.
    word_ends p some c.args.start c.loop-i.i c.loop-i.total (let t = c.loop-i-test.false in let e = c.places-i-end.ensures.places in let l = nets_long all c.args.word.now some nets in omega arith) (c.loop-i.invariant.sum p all some are code names nets)
