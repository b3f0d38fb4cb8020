use Rattle.std.proofs.Common.{◌≡◌, sym, ◌∙◌, ap, subst, arith, ◌<◌, List, None, true, length, map, All}
use Rattle.std.specs.Prelude.{IfErr, IfOk, OnOk}
use Rattle.std.proofs.lemmas.List.{length-map}
use Rattle.netlist_spec.specs.Netlist.{Name, are_distinct}
use Rattle.guard_spec.specs.Codes.{data_places}
use Rattle.guard_spec.specs.Words.{IsLayoutOver, IsPartition, layout_fault_over}
use Rattle.imp_text.specs.declared.names.NameId.{NameId}
use Rattle.blif_read.specs.Ids.{IsIdOf}
use Rattle.blif_read.specs.View.{name_at}
use Rattle.encode_state.specs.Faults.{IsFault, fault_of}
use Rattle.encode_state.proofs.LayoutLemmas.{over_names}
use Rattle.encode_state.proofs.layouts.layout_of.Goals as goal

pub words_over-requires-clause-latches : goal.words_over-requires-clause-latches
words_over-requires-clause-latches c = subst (λ (ns : List NameId). All (IsIdOf c.args.m.now.names) ns) (sym c.deref.ensures.value) c.in_ok-latches.ensures.within

pub words_over-requires-clause-outputs : goal.words_over-requires-clause-outputs
words_over-requires-clause-outputs c = subst (λ (ns : List NameId). All (IsIdOf c.args.m.now.names) ns) (sym c.deref-2.ensures.value) c.in_ok-outputs.ensures.within

pub words_over-requires-clause-distinct_latches : goal.words_over-requires-clause-distinct_latches
words_over-requires-clause-distinct_latches c =
    let latches = ap (map (name_at c.args.m.now.names)) c.deref.ensures.value ∙ c.in_ok-latches.ensures.names in
    subst (λ (ns : List Name). are_distinct ns ≡ true) (sym latches) c.requires.distinct_latches

pub words_over-requires-clause-distinct_outputs : goal.words_over-requires-clause-distinct_outputs
words_over-requires-clause-distinct_outputs c =
    let outputs = ap (map (name_at c.args.m.now.names)) c.deref-2.ensures.value ∙ c.in_ok-outputs.ensures.names in
    subst (λ (ns : List Name). are_distinct ns ≡ true) (sym outputs) c.requires.distinct_outputs

pub words_over-requires-clause-few_latches : goal.words_over-requires-clause-few_latches
words_over-requires-clause-few_latches c =
    let all = c.args.m.now.names in
    let v = ap length (ap (map (name_at all)) c.deref.ensures.value ∙ c.in_ok-latches.ensures.names) in
    let n = length-map c.deref.result.now (name_at all) in
    let f = c.requires.few_latches in
    omega arith

pub words_over-requires-clause-few_outputs : goal.words_over-requires-clause-few_outputs
words_over-requires-clause-few_outputs c =
    let all = c.args.m.now.names in
    let v = ap length (ap (map (name_at all)) c.deref-2.ensures.value ∙ c.in_ok-outputs.ensures.names) in
    let n = length-map c.deref-2.result.now (name_at all) in
    let f = c.requires.few_outputs in
    omega arith

pub returns-clause-ok : goal.returns-clause-ok
returns-clause-ok c =
    let latches = ap (map (name_at c.args.m.now.names)) c.deref.ensures.value ∙ c.in_ok-latches.ensures.names in
    let outputs = ap (map (name_at c.args.m.now.names)) c.deref-2.ensures.value ∙ c.in_ok-outputs.ensures.names in
    over_names (λ (a b : List Name). IfOk c.words_over.result (λ l. IsLayoutOver a b c.args.s.now l)) latches outputs c.words_over.ensures.ok

pub returns-clause-state : goal.returns-clause-state
returns-clause-state c =
    let latches = ap (map (name_at c.args.m.now.names)) c.deref.ensures.value ∙ c.in_ok-latches.ensures.names in
    subst (λ (a : List Name). IfOk c.words_over.result (λ l. IsPartition (length a) (data_places c.args.s.now.code) l.state)) latches c.words_over.ensures.state

pub returns-clause-output : goal.returns-clause-output
returns-clause-output c =
    let outputs = ap (map (name_at c.args.m.now.names)) c.deref-2.ensures.value ∙ c.in_ok-outputs.ensures.names in
    subst (λ (b : List Name). IfOk c.words_over.result (λ l. IsPartition (length b) (data_places c.args.s.now.code) l.output)) outputs c.words_over.ensures.output

pub returns-clause-no_fault : goal.returns-clause-no_fault
returns-clause-no_fault c =
    let latches = ap (map (name_at c.args.m.now.names)) c.deref.ensures.value ∙ c.in_ok-latches.ensures.names in
    let outputs = ap (map (name_at c.args.m.now.names)) c.deref-2.ensures.value ∙ c.in_ok-outputs.ensures.names in
    over_names (λ (a b : List Name). OnOk c.words_over.result (layout_fault_over a b c.args.s.now ≡ None)) latches outputs c.words_over.ensures.no_fault

pub returns-clause-fault : goal.returns-clause-fault
returns-clause-fault c =
    let latches = ap (map (name_at c.args.m.now.names)) c.deref.ensures.value ∙ c.in_ok-latches.ensures.names in
    let outputs = ap (map (name_at c.args.m.now.names)) c.deref-2.ensures.value ∙ c.in_ok-outputs.ensures.names in
    over_names (λ (a b : List Name). IfErr c.words_over.result (λ fault. IsFault (layout_fault_over a b c.args.s.now) (fault_of fault))) latches outputs c.words_over.ensures.fault
