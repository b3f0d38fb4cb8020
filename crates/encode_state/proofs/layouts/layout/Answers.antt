use Rattle.std.proofs.Common.{◌≡◌, sym, ◌∙◌, ap, subst, arith, ◌<◌, ◌++◌, List, None, true, length, map, All}
use Rattle.std.specs.Prelude.{IfErr, IfOk, OnOk}
use Rattle.std.proofs.lemmas.List.{length-map}
use Rattle.netlist_spec.specs.Elaborated.{Elaborated}
use Rattle.netlist_spec.specs.Netlist.{Name, are_distinct}
use Rattle.netlist_spec.specs.Reads.{first_appearances}
use Rattle.guard_spec.specs.Codes.{data_places}
use Rattle.guard_spec.specs.Words.{IsLayoutOver, IsPartition, layout_fault_over}
use Rattle.imp_text.specs.declared.names.NameId.{NameId}
use Rattle.blif_read.specs.Ids.{IsIdOf}
use Rattle.blif_read.specs.View.{name_at}
use Rattle.elaborated.specs.Elaborated.{elaborated_of}
use Rattle.encode_state.specs.Faults.{IsFault, fault_of}
use Rattle.encode_state.proofs.LayoutLemmas.{distinct_back, over_names}
use Rattle.encode_state.proofs.layouts.layout.Goals as goal

pub words_over-requires-clause-latches : goal.words_over-requires-clause-latches
words_over-requires-clause-latches c = subst (λ (ns : List NameId). All (IsIdOf c.e.inside.names) ns) (sym c.deref.ensures.value) c.e.invariant.latch_names

pub words_over-requires-clause-outputs : goal.words_over-requires-clause-outputs
words_over-requires-clause-outputs c = subst (λ (ns : List NameId). All (IsIdOf c.e.inside.names) ns) (sym c.deref-2.ensures.value) c.e.invariant.output_names

pub words_over-requires-clause-distinct_latches : goal.words_over-requires-clause-distinct_latches
words_over-requires-clause-distinct_latches c =
    let e = elaborated_of c.e.inside in
    subst (λ (ns : List NameId). are_distinct (map (name_at c.e.inside.names) ns) ≡ true) (sym c.deref.ensures.value)
    (distinct_back (first_appearances (e.input_ports ++ e.clock_ports)) e.latch_names c.e.invariant.form.drivers)

pub words_over-requires-clause-distinct_outputs : goal.words_over-requires-clause-distinct_outputs
words_over-requires-clause-distinct_outputs c =
    subst (λ (ns : List NameId). are_distinct (map (name_at c.e.inside.names) ns) ≡ true) (sym c.deref-2.ensures.value) c.e.invariant.form.output_ports

pub words_over-requires-clause-few_latches : goal.words_over-requires-clause-few_latches
words_over-requires-clause-few_latches c =
    let v = ap length c.deref.ensures.value in
    let n = length-map c.e.inside.latch_names.items (name_at c.e.inside.names) in
    let f = c.e.invariant.form.few_latches in
    omega arith

pub words_over-requires-clause-few_outputs : goal.words_over-requires-clause-few_outputs
words_over-requires-clause-few_outputs c =
    let v = ap length c.deref-2.ensures.value in
    let n = length-map c.e.inside.output_names.items (name_at c.e.inside.names) in
    let f = c.e.invariant.form.few_outputs in
    omega arith

pub returns-clause-ok : goal.returns-clause-ok
returns-clause-ok c =
    let latches = ap (map (name_at c.e.inside.names)) c.deref.ensures.value ∙ ap (λ (e : Elaborated). e.latch_names) c.e.view_is in
    let outputs = ap (map (name_at c.e.inside.names)) c.deref-2.ensures.value ∙ ap (λ (e : Elaborated). e.output_names) c.e.view_is in
    over_names (λ (a b : List Name). IfOk c.words_over.result (λ l. IsLayoutOver a b c.args.s.now l)) latches outputs c.words_over.ensures.ok

pub returns-clause-state : goal.returns-clause-state
returns-clause-state c =
    let latches = ap (map (name_at c.e.inside.names)) c.deref.ensures.value ∙ ap (λ (e : Elaborated). e.latch_names) c.e.view_is in
    subst (λ (a : List Name). IfOk c.words_over.result (λ l. IsPartition (length a) (data_places c.args.s.now.code) l.state)) latches c.words_over.ensures.state

pub returns-clause-output : goal.returns-clause-output
returns-clause-output c =
    let outputs = ap (map (name_at c.e.inside.names)) c.deref-2.ensures.value ∙ ap (λ (e : Elaborated). e.output_names) c.e.view_is in
    subst (λ (b : List Name). IfOk c.words_over.result (λ l. IsPartition (length b) (data_places c.args.s.now.code) l.output)) outputs c.words_over.ensures.output

pub returns-clause-no_fault : goal.returns-clause-no_fault
returns-clause-no_fault c =
    let latches = ap (map (name_at c.e.inside.names)) c.deref.ensures.value ∙ ap (λ (e : Elaborated). e.latch_names) c.e.view_is in
    let outputs = ap (map (name_at c.e.inside.names)) c.deref-2.ensures.value ∙ ap (λ (e : Elaborated). e.output_names) c.e.view_is in
    over_names (λ (a b : List Name). OnOk c.words_over.result (layout_fault_over a b c.args.s.now ≡ None)) latches outputs c.words_over.ensures.no_fault

pub returns-clause-fault : goal.returns-clause-fault
returns-clause-fault c =
    let latches = ap (map (name_at c.e.inside.names)) c.deref.ensures.value ∙ ap (λ (e : Elaborated). e.latch_names) c.e.view_is in
    let outputs = ap (map (name_at c.e.inside.names)) c.deref-2.ensures.value ∙ ap (λ (e : Elaborated). e.output_names) c.e.view_is in
    over_names (λ (a b : List Name). IfErr c.words_over.result (λ fault. IsFault (layout_fault_over a b c.args.s.now) (fault_of fault))) latches outputs c.words_over.ensures.fault
