use Rattle.std.proofs.Common.{◌≡◌, ◌∙◌, sym, ap, length, map, count_by, arith, rules}
use Rattle.std.proofs.lemmas.List.{length-map}
use Rattle.netlist_spec.specs.Models.{data_inputs, latches_of}
use Rattle.blif_read.specs.declared.file.Located.{Located}
use Rattle.blif_read.specs.View.{name_at, port_of, model_of}
use Rattle.main_check.specs.Counts.{is_latch}
use Rattle.main_check.proofs.CountLemmas.{latches_counted, same_counts}
use Rattle.main_check.proofs.counts.too_large.Goals as goal

pub returns : goal.returns
returns c = λ file library cut.
    let m = c.args.m.now in
    let M = model_of m in
    let given : c.len.result ≡ length c.in_ok-inputs.inputs.items = first_of (omega arith, search rules) in
    let shown : c.len-2.result ≡ length m.outputs.items = first_of (omega arith, search rules) in
    let inputs : c.len.result ≡ length (data_inputs M) = given ∙ (sym (length-map c.in_ok-inputs.inputs.items (name_at m.names)) ∙ ap length c.in_ok-inputs.ensures.names) in
    let outputs : c.len-2.result ≡ length M.outputs = shown ∙ sym (length-map m.outputs.items (port_of m.names)) in
    let latches : c.latch_count-latches.result ≡ length (latches_of M) = c.latch_count-latches.ensures ∙ (ap (count_by (λ (s : Located). is_latch s.what)) c.deref.ensures.value ∙ latches_counted m.names m.statements.items) in
    c.first_passed.ensures ∙ same_counts _ _ _ _ _ _ _ _ inputs outputs latches cut
