use Rattle.std.proofs.Common.{◌≡◌, subst, arith, ◌<◌, ℕ, List, length, map}
use Rattle.std.specs.List.{AllByRecursion}
use Rattle.std.proofs.lemmas.List.{length-map}
use Rattle.std.proofs.lemmas.Result.{err_from_is_err_and}
use Rattle.guard_spec.specs.Words.{Layout, Settings, all_numbers, layout_fault_over}
use Rattle.blif_read.specs.View.{name_at}
use Rattle.settings.specs.Types.{settings_in}
use Rattle.encode_state.specs.Faults.{IsFault, fault_of}
use Rattle.encode_state.specs.Types.{words_in}
use Rattle.encode_state.proofs.LayoutLemmas.{found_by, settled, told_of_rest, unknown_output, unknown_state}
use Rattle.encode_state.proofs.PartitionLemmas.{found_known, found_within}
use Rattle.encode_state.proofs.layouts.words_over.Goals as goal

pub found_words-requires-clause-places : goal.found_words-requires-clause-places
found_words-requires-clause-places c = let r = c.k-k.ensures.rows in let v = c.k-k.ensures.valid.rows.0 in omega arith

pub found_words-requires-2-clause-places : goal.found_words-requires-2-clause-places
found_words-requires-2-clause-places c = let r = c.k-k.ensures.rows in let v = c.k-k.ensures.valid.rows.0 in omega arith

pub returns-in_err-state-clause-fault : goal.returns-in_err-state-clause-fault
returns-in_err-state-clause-fault c =
    let latches = map (name_at c.args.names.now) c.args.latches.now in
    let outputs = map (name_at c.args.names.now) c.args.outputs.now in
    let told = fault_of c.in_err-state.field-0.0 in
    let p = err_from_is_err_and c.from_residual.result c.from_residual.ensures.1 in
    rw (p.1, p.2) (
    subst (λ (s : Settings). IsFault (layout_fault_over latches outputs s) told) c.s.view_is
    (unknown_state latches outputs (settings_in c.s.inside) told c.in_err-state.ensures.fault)
    )

pub returns-in_err-output-clause-fault : goal.returns-in_err-output-clause-fault
returns-in_err-output-clause-fault c =
    let latches = map (name_at c.args.names.now) c.args.latches.now in
    let outputs = map (name_at c.args.names.now) c.args.outputs.now in
    let s0 = settings_in c.s.inside in
    let told = fault_of c.in_err-output.field-0.0 in
    let known = found_known c.k-k.result latches s0.state_words (words_in c.in_ok-state.state.items) c.in_ok-state.ensures.ok in
    let p = err_from_is_err_and c.from_residual-in_err-output.result c.from_residual-in_err-output.ensures.1 in
    rw (p.1, p.2) (
    subst (λ (s : Settings). IsFault (layout_fault_over latches outputs s) told) c.s.view_is
    (unknown_output latches outputs s0 told known c.in_err-output.ensures.fault)
    )

pub check_words-requires-clause-state : goal.check_words-requires-clause-state
check_words-requires-clause-state c =
    let latches = map (name_at c.args.names.now) c.args.latches.now in
    let within = found_within c.k-k.result latches (settings_in c.s.inside).state_words (words_in c.in_ok-state.state.items) c.in_ok-state.ensures.ok in
    subst (λ (n : ℕ). AllByRecursion (λ i. i < n) (all_numbers (words_in c.in_ok-state.state.items))) (length-map c.args.latches.now (name_at c.args.names.now)) within

pub check_words-requires-clause-output : goal.check_words-requires-clause-output
check_words-requires-clause-output c =
    let outputs = map (name_at c.args.names.now) c.args.outputs.now in
    let within = found_within c.k-k.result outputs (settings_in c.s.inside).output_words (words_in c.in_ok-output.output.items) c.in_ok-output.ensures.ok in
    subst (λ (n : ℕ). AllByRecursion (λ i. i < n) (all_numbers (words_in c.in_ok-output.output.items))) (length-map c.args.outputs.now (name_at c.args.names.now)) within

pub returns-in_err-check_words-clause-fault : goal.returns-in_err-check_words-clause-fault
returns-in_err-check_words-clause-fault c =
    let latches = map (name_at c.args.names.now) c.args.latches.now in
    let outputs = map (name_at c.args.names.now) c.args.outputs.now in
    let s0 = settings_in c.s.inside in
    let l : Layout = record { state = words_in c.in_ok-state.state.items; output = words_in c.in_ok-output.output.items } in
    let f = found_by latches s0 s0.state_words l.state c.k-k.result c.k-k.ensures.rows c.in_ok-state.ensures.ok in
    let g = found_by outputs s0 s0.output_words l.output c.k-k.result c.k-k.ensures.rows c.in_ok-output.ensures.ok in
    let told = fault_of c.in_err-check_words.field-0.0 in
    let p = err_from_is_err_and c.from_residual-in_err-check_words.result c.from_residual-in_err-check_words.ensures.1 in
    rw (p.1, p.2) (
    subst (λ (s : Settings). IsFault (layout_fault_over latches outputs s) told) c.s.view_is
    (told_of_rest latches outputs s0 l c.requires.distinct_latches c.requires.distinct_outputs f g told c.in_err-check_words.ensures.fault)
    )

pub returns-clause-ok : goal.returns-clause-ok
returns-clause-ok c =
    let s0 = settings_in c.s.inside in
    let l : Layout = record { state = words_in c.in_ok-state.state.items; output = words_in c.in_ok-output.output.items } in
    (settled _ _ s0 l c.requires.distinct_latches c.requires.distinct_outputs c.k-k.result c.k-k.ensures.rows c.in_ok-state.ensures.ok c.in_ok-output.ensures.ok c.in_ok-check_words.ensures.once c.s.invariant c.args.s.now c.s.view_is).is_layout

pub returns-clause-state : goal.returns-clause-state
returns-clause-state c =
    let s0 = settings_in c.s.inside in
    let l : Layout = record { state = words_in c.in_ok-state.state.items; output = words_in c.in_ok-output.output.items } in
    (settled _ _ s0 l c.requires.distinct_latches c.requires.distinct_outputs c.k-k.result c.k-k.ensures.rows c.in_ok-state.ensures.ok c.in_ok-output.ensures.ok c.in_ok-check_words.ensures.once c.s.invariant c.args.s.now c.s.view_is).state

pub returns-clause-output : goal.returns-clause-output
returns-clause-output c =
    let s0 = settings_in c.s.inside in
    let l : Layout = record { state = words_in c.in_ok-state.state.items; output = words_in c.in_ok-output.output.items } in
    (settled _ _ s0 l c.requires.distinct_latches c.requires.distinct_outputs c.k-k.result c.k-k.ensures.rows c.in_ok-state.ensures.ok c.in_ok-output.ensures.ok c.in_ok-check_words.ensures.once c.s.invariant c.args.s.now c.s.view_is).output

pub returns-clause-no_fault : goal.returns-clause-no_fault
returns-clause-no_fault c =
    let s0 = settings_in c.s.inside in
    let l : Layout = record { state = words_in c.in_ok-state.state.items; output = words_in c.in_ok-output.output.items } in
    (settled _ _ s0 l c.requires.distinct_latches c.requires.distinct_outputs c.k-k.result c.k-k.ensures.rows c.in_ok-state.ensures.ok c.in_ok-output.ensures.ok c.in_ok-check_words.ensures.once c.s.invariant c.args.s.now c.s.view_is).no_fault
