use Rattle.std.proofs.Common.{◌≡◌, sym, ◌∙◌, ap, subst, ◌<◌, ℕ, List, [], None, length, map}
use Rattle.std.proofs.lemmas.List.{length-map}
use Rattle.std.proofs.lemmas.Result.{err_from_is_err_and}
use Rattle.netlist_spec.specs.Netlist.{Name}
use Rattle.guard_spec.specs.Words.{Layout, Words, all_numbers, as_fault, in_two_words, not_in_a_word}
use Rattle.blif_read.specs.View.{name_at}
use Rattle.encode_state.specs.Faults.{IsFault, fault_of}
use Rattle.encode_state.specs.Listed.{first_again, first_out, marks_of, nets_at}
use Rattle.encode_state.specs.Types.{words_in}
use Rattle.encode_state.proofs.FaultLemmas.{first_fault, later_fault, no_fault}
use Rattle.encode_state.proofs.InitLemmas.{each_within}
use Rattle.encode_state.proofs.MarkLemmas.{marks_length}
use Rattle.encode_state.proofs.layouts.check_words.Goals as goal

pub mark_words-requires-clause-within : goal.mark_words-requires-clause-within
mark_words-requires-clause-within c =
    each_within (λ i. i < length c.args.latches.now) c.deref.result.now c.args.l.now.state (ap (λ (l : Layout). l.state) (sym c.l.view_is) ∙ ap words_in (sym c.deref.ensures.value)) c.requires.state

pub mark_words-requires-2-clause-within : goal.mark_words-requires-2-clause-within
mark_words-requires-2-clause-within c =
    each_within (λ i. i < length c.args.outputs.now) c.deref-2.result.now c.args.l.now.output (ap (λ (l : Layout). l.output) (sym c.l.view_is) ∙ ap words_in (sym c.deref-2.ensures.value)) c.requires.output

pub returns-in_err-stored-clause-fault : goal.returns-in_err-stored-clause-fault
returns-in_err-stored-clause-fault c =
    let latches = map (name_at c.args.names.now) c.args.latches.now in
    let told = fault_of c.in_err-stored.field-0.0 in
    let state : c.args.l.now.state ≡ words_in c.deref.result.now = ap (λ (l : Layout). l.state) (sym c.l.view_is) ∙ ap words_in (sym c.deref.ensures.value) in
    let p = err_from_is_err_and c.from_residual.result c.from_residual.ensures.1 in
    rw (p.1, p.2) (first_fault _ _ told (subst (λ (ws : Words). IsFault (as_fault (λ n. in_two_words n) (first_again latches ws)) told) (sym state) c.in_err-stored.ensures.fault))

pub returns-in_err-shown-clause-fault : goal.returns-in_err-shown-clause-fault
returns-in_err-shown-clause-fault c =
    let latches = map (name_at c.args.names.now) c.args.latches.now in
    let outputs = map (name_at c.args.names.now) c.args.outputs.now in
    let told = fault_of c.in_err-shown.field-0.0 in
    let state : c.args.l.now.state ≡ words_in c.deref.result.now = ap (λ (l : Layout). l.state) (sym c.l.view_is) ∙ ap words_in (sym c.deref.ensures.value) in
    let output : c.args.l.now.output ≡ words_in c.deref-2.result.now = ap (λ (l : Layout). l.output) (sym c.l.view_is) ∙ ap words_in (sym c.deref-2.ensures.value) in
    let p = err_from_is_err_and c.from_residual-in_err-shown.result c.from_residual-in_err-shown.ensures.1 in
    rw (p.1, p.2) (
    later_fault _ _ told (no_fault (λ n. in_two_words n) _ (ap (first_again latches) state ∙ c.in_ok-stored.ensures.once))
    (first_fault _ _ told (subst (λ (ws : Words). IsFault (as_fault (λ n. in_two_words n) (first_again outputs ws)) told) (sym output) c.in_err-shown.ensures.fault))
    )

pub check_all_marked-requires-clause-size : goal.check_all_marked-requires-clause-size
check_all_marked-requires-clause-size c =
    let latches = map (name_at c.args.names.now) c.args.latches.now in
    ap length c.deref-3.ensures.value ∙ (ap length c.in_ok-stored.ensures.marks ∙ (marks_length latches _ ∙ length-map c.args.latches.now (name_at c.args.names.now)))

pub check_all_marked-requires-2-clause-size : goal.check_all_marked-requires-2-clause-size
check_all_marked-requires-2-clause-size c =
    let outputs = map (name_at c.args.names.now) c.args.outputs.now in
    ap length c.deref-4.ensures.value ∙ (ap length c.in_ok-shown.ensures.marks ∙ (marks_length outputs _ ∙ length-map c.args.outputs.now (name_at c.args.names.now)))

pub returns-in_err-check_all_marked-clause-fault : goal.returns-in_err-check_all_marked-clause-fault
returns-in_err-check_all_marked-clause-fault c =
    let latches = map (name_at c.args.names.now) c.args.latches.now in
    let outputs = map (name_at c.args.names.now) c.args.outputs.now in
    let told = fault_of c.in_err-check_all_marked.field-0.0 in
    let state : c.args.l.now.state ≡ words_in c.deref.result.now = ap (λ (l : Layout). l.state) (sym c.l.view_is) ∙ ap words_in (sym c.deref.ensures.value) in
    let output : c.args.l.now.output ≡ words_in c.deref-2.result.now = ap (λ (l : Layout). l.output) (sym c.l.view_is) ∙ ap words_in (sym c.deref-2.ensures.value) in
    let p = err_from_is_err_and c.from_residual-in_err-check_all_marked.result c.from_residual-in_err-check_all_marked.ensures.1 in
    let listed = nets_at latches (all_numbers c.args.l.now.state) in
    let marks = c.deref-3.ensures.value ∙ (c.in_ok-stored.ensures.marks ∙ ap (λ (ws : Words). marks_of latches (nets_at latches (all_numbers ws))) (sym state)) in
    rw (p.1, p.2) (
    later_fault _ _ told (no_fault (λ n. in_two_words n) _ (ap (first_again latches) state ∙ c.in_ok-stored.ensures.once))
    (later_fault _ _ told (no_fault (λ n. in_two_words n) _ (ap (first_again outputs) output ∙ c.in_ok-shown.ensures.once))
    (first_fault _ _ told (c.in_err-check_all_marked.ensures.fault listed marks)))
    )

pub returns-in_err-check_all_marked-2-clause-fault : goal.returns-in_err-check_all_marked-2-clause-fault
returns-in_err-check_all_marked-2-clause-fault c =
    let latches = map (name_at c.args.names.now) c.args.latches.now in
    let outputs = map (name_at c.args.names.now) c.args.outputs.now in
    let told = fault_of c.in_err-check_all_marked-2.field-0.0 in
    let state : c.args.l.now.state ≡ words_in c.deref.result.now = ap (λ (l : Layout). l.state) (sym c.l.view_is) ∙ ap words_in (sym c.deref.ensures.value) in
    let output : c.args.l.now.output ≡ words_in c.deref-2.result.now = ap (λ (l : Layout). l.output) (sym c.l.view_is) ∙ ap words_in (sym c.deref-2.ensures.value) in
    let p = err_from_is_err_and c.from_residual-in_err-check_all_marked-2.result c.from_residual-in_err-check_all_marked-2.ensures.1 in
    let stored = c.deref-3.ensures.value ∙ (c.in_ok-stored.ensures.marks ∙ ap (λ (ws : Words). marks_of latches (nets_at latches (all_numbers ws))) (sym state)) in
    let shown = c.deref-4.ensures.value ∙ (c.in_ok-shown.ensures.marks ∙ ap (λ (ws : Words). marks_of outputs (nets_at outputs (all_numbers ws))) (sym output)) in
    rw (p.1, p.2) (
    later_fault _ _ told (no_fault (λ n. in_two_words n) _ (ap (first_again latches) state ∙ c.in_ok-stored.ensures.once))
    (later_fault _ _ told (no_fault (λ n. in_two_words n) _ (ap (first_again outputs) output ∙ c.in_ok-shown.ensures.once))
    (later_fault _ _ told (no_fault (λ n. not_in_a_word n) _ (c.in_ok-check_all_marked.ensures.ok (nets_at latches (all_numbers c.args.l.now.state)) stored))
    (c.in_err-check_all_marked-2.ensures.fault (nets_at outputs (all_numbers c.args.l.now.output)) shown)))
    )

pub returns-clause-once : goal.returns-clause-once
returns-clause-once c =
    let latches = map (name_at c.args.names.now) c.args.latches.now in
    let outputs = map (name_at c.args.names.now) c.args.outputs.now in
    let state : c.args.l.now.state ≡ words_in c.deref.result.now = ap (λ (l : Layout). l.state) (sym c.l.view_is) ∙ ap words_in (sym c.deref.ensures.value) in
    let output : c.args.l.now.output ≡ words_in c.deref-2.result.now = ap (λ (l : Layout). l.output) (sym c.l.view_is) ∙ ap words_in (sym c.deref-2.ensures.value) in
    let stored = c.deref-3.ensures.value ∙ (c.in_ok-stored.ensures.marks ∙ ap (λ (ws : Words). marks_of latches (nets_at latches (all_numbers ws))) (sym state)) in
    let shown = c.deref-4.ensures.value ∙ (c.in_ok-shown.ensures.marks ∙ ap (λ (ws : Words). marks_of outputs (nets_at outputs (all_numbers ws))) (sym output)) in
    record {
      state_again = ap (first_again latches) state ∙ c.in_ok-stored.ensures.once;
      output_again = ap (first_again outputs) output ∙ c.in_ok-shown.ensures.once;
      state_out = c.in_ok-check_all_marked.ensures.ok (nets_at latches (all_numbers c.args.l.now.state)) stored;
      output_out = c.in_ok-check_all_marked-2.ensures.ok (nets_at outputs (all_numbers c.args.l.now.output)) shown;
    }
