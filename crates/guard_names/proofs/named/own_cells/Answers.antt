use Rattle.std.proofs.Common.{◌≡◌, sym, ◌∙◌, ap, List, ◌++◌, length, arith}
use Rattle.guard_spec.specs.Words.{Layout}
use Rattle.encode_state.specs.Types.{words_in}
use Rattle.named_netlist.specs.declared.label.Label.{Label}
use Rattle.guard_names.specs.declared.labels.Kind.TheVariants.{Next as ForNext}
use Rattle.guard_names.specs.Labels.{state_labels}
use Rattle.guard_names.proofs.Arguments.{as_many_words, short_words_in, shown_fits, own_nets_are, own_labels_are}
use Rattle.guard_names.proofs.named.own_cells.Goals as goal

pub push_state-requires-clause-short : goal.push_state-requires-clause-short
push_state-requires-clause-short c = short_words_in c.deref-2.result.now c.args.l.now.state (ap (λ (l : Layout). l.state) (sym c.l.view_is) ∙ ap words_in (sym c.deref-2.ensures.value)) c.requires.1.short

pub push_gates-requires : goal.push_gates-requires
push_gates-requires c =
    let size = c.l.inside.output.ok.0 in
    let many = as_many_words c.l.inside.output.items c.args.l.now.output (ap (λ (l : Layout). l.output) (sym c.l.view_is)) in
    let count : c.len-words.result ≡ length c.args.l.now.output = omega (arith, size, many, c.len-words.ensures) in
    shown_fits c.args.output_names.now c.args.columns c.len-words.result c.args.g.now.rails c.args.l.now.output c.deref-3.result.now c.deref-4.result.now (c.deref-4.ensures.value ∙ c.in_ok-shown.ensures) count
    (ap length c.deref-3.ensures.value ∙ c.requires.1.outputs)

pub returns-clause-nets : goal.returns-clause-nets
returns-clause-nets c =
    own_nets_are c.args.g.now c.in_ok-nets.nets.items c.push_gates.new.nets.items c.deref-3.result.now c.deref.result.now c.leaves.result c.in_ok-nets.ensures c.deref.ensures.value c.deref-3.ensures.value c.leaves.ensures c.in_ok-push_gates.ensures.nets

pub returns-clause-labels : goal.returns-clause-labels
returns-clause-labels c =
    let size = c.l.inside.output.ok.0 in
    let many = as_many_words c.l.inside.output.items c.args.l.now.output (ap (λ (l : Layout). l.output) (sym c.l.view_is)) in
    let count : c.len-words.result ≡ length c.args.l.now.output = omega (arith, size, many, c.len-words.ensures) in
    own_labels_are c.args.g.now c.args.output_names.now c.args.l.now c.args.columns c.len-words.result c.leaves.result c.push_state.new.labels.items c.push_gates.new.labels.items c.deref-4.result.now c.deref-3.result.now (words_in c.deref-2.result.now)
    (c.in_ok-push_state.ensures ∙ ap (λ (ls : List Label). ls ++ state_labels ForNext c.args.columns (words_in c.deref-2.result.now)) c.new-labels.ensures.items)
    (ap words_in c.deref-2.ensures.value ∙ ap (λ (l : Layout). l.state) c.l.view_is) (c.deref-4.ensures.value ∙ c.in_ok-shown.ensures) count c.deref-3.ensures.value c.leaves.ensures c.in_ok-push_gates.ensures.labels
