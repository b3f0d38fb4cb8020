use Rattle.std.proofs.Common.{refl, sym, ◌∙◌, ap, length, map}
use Rattle.gate_net.specs.Gate.{net_number}
use Rattle.guard_spec.specs.Words.{Layout}
use Rattle.encode_state.specs.Types.{words_in}
use Rattle.guard_names.proofs.Arguments.{short_words_in, own_fits, all_labels_are}
use Rattle.guard_names.proofs.named.guard_labels.Goals as goal

pub push_state-requires-clause-short : goal.push_state-requires-clause-short
push_state-requires-clause-short c = short_words_in c.deref.result.now c.args.l.now.state (ap (λ (l : Layout). l.state) (sym c.l.view_is) ∙ ap words_in (sym c.deref.ensures.value)) c.requires.short

pub push_between-requires-clause-each : goal.push_between-requires-clause-each
push_between-requires-clause-each c =
    own_fits c.args.g.now (length c.args.data_names.now) c.args.columns c.args.output_names.now c.args.l.now c.requires c.deref-2.result.now c.deref-3.result.now
    (ap (map net_number) c.deref-2.ensures.value ∙ c.in_ok-own.ensures.nets) (c.deref-3.ensures.value ∙ c.in_ok-own.ensures.labels)

pub returns : goal.returns
returns c =
    all_labels_are c.args.g.now (length c.args.data_names.now) c.args.columns c.args.output_names.now c.args.l.now c.requires c.args.data_names.now refl c.new-labels.result.items c.push_given.new.labels.items c.push_state.new.labels.items c.push_between.new.labels.items c.deref-3.result.now
    (words_in c.deref.result.now) c.deref-2.result.now c.new-labels.ensures.items c.in_ok-push_given.ensures c.in_ok-push_state.ensures (ap words_in c.deref.ensures.value ∙ ap (λ (l : Layout). l.state) c.l.view_is)
    (ap (map net_number) c.deref-2.ensures.value ∙ c.in_ok-own.ensures.nets) (c.deref-3.ensures.value ∙ c.in_ok-own.ensures.labels) c.in_ok-push_between.ensures
