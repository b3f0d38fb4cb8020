use Rattle.std.proofs.Common.{◌≡◌, refl, sym, ◌∙◌, ap, subst, ℕ, List, length, map, Option}
use Rattle.std.proofs.lemmas.List.{length-map}
use Rattle.std.proofs.lemmas.Result.{IfOk-weaker}
use Rattle.imp_text.specs.declared.names.NameId.{NameId}
use Rattle.netlist_spec.specs.Models.{latch_inputs, latches_of, output_nets}
use Rattle.guard_spec.specs.Words.{Layout, Settings}
use Rattle.blif_read.specs.View.{model_of, name_at}
use Rattle.encode_state.specs.Types.{words_in}
use Rattle.plain_size.specs.Cones.{Source}
use Rattle.plain_size.specs.Sizes.{source_of}
use Rattle.plain_size.specs.Sums.{IsStateSum}
use Rattle.plain_size.proofs.SizeLemmas.{latch_count, output_words, state_words, whole_of, words_under}
use Rattle.plain_size.proofs.size.whole_sum.Goals as goal

pub add_state-requires-clause-words : goal.add_state-requires-clause-words
add_state-requires-clause-words c =
    let m = model_of c.args.m.now in
    let code = ap (λ (s : Settings). s.code) c.s.view_is in
    let state : c.args.l.now.state ≡ words_in c.deref-2.result.now = ap (λ (l : Layout). l.state) (sym c.l.view_is) ∙ ap words_in (sym c.deref-2.ensures.value) in
    let count : length (latches_of m) ≡ length c.deref.result.now
    = sym (latch_count m c.args.s.now.code c.args.l.now c.requires.layout) ∙ (ap length (sym c.in_ok-stores.ensures.names) ∙ (length-map c.in_ok-stores.stores.items (name_at c.args.m.now.names) ∙ ap length (sym c.deref.ensures.value))) in
    words_under c.args.s.now.code c.s.inside.code (length (latches_of m)) (length c.deref.result.now) c.args.l.now.state (words_in c.deref-2.result.now) (sym code) count state (state_words m c.args.s.now.code c.args.l.now c.requires.layout)

pub add_outputs-requires-clause-words : goal.add_outputs-requires-clause-words
add_outputs-requires-clause-words c =
    let m = model_of c.args.m.now in
    let code = ap (λ (s : Settings). s.code) c.s.view_is in
    let output : c.args.l.now.output ≡ words_in c.deref-in-Some-2.result.now = ap (λ (l : Layout). l.output) (sym c.l.view_is) ∙ ap words_in (sym c.deref-in-Some-2.ensures.value) in
    let count : length (output_nets m) ≡ length c.deref-in-Some.result.now
    = ap length (sym c.in_ok-outputs.ensures.names) ∙ (length-map c.in_ok-outputs.outputs.items (name_at c.args.m.now.names) ∙ ap length (sym c.deref-in-Some.ensures.value)) in
    words_under c.args.s.now.code c.s.inside.code (length (output_nets m)) (length c.deref-in-Some.result.now) c.args.l.now.output (words_in c.deref-in-Some-2.result.now) (sym code) count output (output_words m c.args.s.now.code c.args.l.now c.requires.layout)

pub returns-in-Some-clause-sum : goal.returns-in-Some-clause-sum
returns-in-Some-clause-sum c = λ file rails are.
    let m = model_of c.args.m.now in
    let l = c.args.l.now in
    let p : Source = source_of file m c.args.s.now l in
    let code = ap (λ (s : Settings). s.code) (sym c.s.view_is) in
    let state : l.state ≡ words_in c.deref-2.result.now = ap (λ (k : Layout). k.state) (sym c.l.view_is) ∙ ap words_in (sym c.deref-2.ensures.value) in
    let output : l.output ≡ words_in c.deref-in-Some-2.result.now = ap (λ (k : Layout). k.output) (sym c.l.view_is) ∙ ap words_in (sym c.deref-in-Some-2.ensures.value) in
    let stores : map (name_at m.names) c.deref.result.now ≡ latch_inputs m = ap (λ (ids : List NameId). map (name_at m.names) ids) c.deref.ensures.value ∙ c.in_ok-stores.ensures.names in
    let shows : map (name_at m.names) c.deref-in-Some.result.now ≡ output_nets m = ap (λ (ids : List NameId). map (name_at m.names) ids) c.deref-in-Some.ensures.value ∙ c.in_ok-outputs.ensures.names in
    let half = subst (λ (o : Option ℕ). IsStateSum p rails l c.args.start o) c.in-Some.is (c.in_ok-total.ensures.cost p rails l are code refl stores state) in
    let all = c.partial_sizes_add_up.ensures.all file p.library m p.code p.mode p.radius rails l in
    IfOk-weaker c.add_outputs.result _ _ (λ r is. whole_of p rails l c.args.start c.in-Some.total r half all is) (c.add_outputs.ensures.cost p rails l are code refl shows output)

pub returns-clause-sum : goal.returns-clause-sum
returns-clause-sum c = λ file rails are.
    let m = model_of c.args.m.now in
    let l = c.args.l.now in
    let p : Source = source_of file m c.args.s.now l in
    let code = ap (λ (s : Settings). s.code) (sym c.s.view_is) in
    let state : l.state ≡ words_in c.deref-2.result.now = ap (λ (k : Layout). k.state) (sym c.l.view_is) ∙ ap words_in (sym c.deref-2.ensures.value) in
    let stores : map (name_at m.names) c.deref.result.now ≡ latch_inputs m = ap (λ (ids : List NameId). map (name_at m.names) ids) c.deref.ensures.value ∙ c.in_ok-stores.ensures.names in
    subst (λ (o : Option ℕ). IsStateSum p rails l c.args.start o) c.in-None.is (c.in_ok-total.ensures.cost p rails l are code refl stores state)
