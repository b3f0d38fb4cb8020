use Rattle.std.proofs.Common.{sym, ◌∙◌, ap, ◌≤◌, length, map, arith}
use Rattle.std.proofs.lemmas.List.{length-map}
use Rattle.netlist_spec.specs.Sound.{IsUsed}
use Rattle.netlist_spec.specs.SoundFaults.{bad_port_in}
use Rattle.blif_read.specs.View.{model_of}
use Rattle.source_nets.specs.Ports.{source_file, source_library}
use Rattle.source_nets.specs.Survey.{IsModelSurvey}
use Rattle.source_placements.proofs.UsedLemmas.{lines_at, model_at, survey_at, survey_within, none_at_all, none_more, first_found}
use Rattle.source_placements.proofs.ports.first_bad_port.Goals as goal
use Rattle.source_placements.proofs.ports.first_bad_port.Goals.{then-is_used+in_ok-found+in_default, else-is_used}

pub index-requires : goal.index-requires
index-requires c =
    let s = c.args.source.now in
    let within = survey_within s.file.now.models.items c.deref-m-items.result.now c.loop-i.i c.m-item.result c.deref-m-items.ensures.value c.loop-i-test.true c.m-item.is (IsModelSurvey (source_file s) (source_library s)) c.args.survey.now.models.items c.requires.survey.models in
    let long = c.args.survey.now.models.ok.0 in
    omega arith

pub bad_port-requires-clause-survey : goal.bad_port-requires-clause-survey
bad_port-requires-clause-survey c =
    let s = c.args.source.now in
    let is = survey_at s.file.now.models.items c.deref-m-items.result.now c.loop-i.i c.m-item.result c.deref-m-items.ensures.value c.loop-i-test.true c.m-item.is (IsModelSurvey (source_file s) (source_library s)) c.args.survey.now.models.items c.index.result.now c.requires.survey.models c.index.ensures in
    is

pub bad_port-requires-clause-by_line : goal.bad_port-requires-clause-by_line
bad_port-requires-clause-by_line c =
    let s = c.args.source.now in
    let at = model_at s.file.now.models.items c.deref-m-items.result.now c.loop-i.i c.m-item.result c.deref-m-items.ensures.value c.loop-i-test.true c.m-item.is in
    lines_at (map model_of s.file.now.models.items) c.loop-i.i (model_of c.m-item.result) c.requires.is_file.lines at

pub returns-in-Some : goal.returns-in-Some
returns-in-Some c =
    let s = c.args.source.now in
    let file = source_file s in
    let library = source_library s in
    let at = model_at s.file.now.models.items c.deref-m-items.result.now c.loop-i.i c.m-item.result c.deref-m-items.ensures.value c.loop-i-test.true c.m-item.is in
    let used : IsUsed file (model_of c.m-item.result) = (c.requires.used.marked c.loop-i.i (model_of c.m-item.result) at).0 c.if-is_used.true in
    record { exact = first_found file (bad_port_in file library) c.loop-i.i (model_of c.m-item.result) c.in-Some.found at used (sym c.in_ok-found.ensures ∙ c.in-Some.is) c.loop-i.invariant }

pub loop-i-preserved : goal.loop-i-preserved
loop-i-preserved c =
    let s = c.args.source.now in
    let file = source_file s in
    let library = source_library s in
    let m = model_of c.m-item.result in
    let at = model_at s.file.now.models.items c.deref-m-items.result.now c.loop-i.i c.m-item.result c.deref-m-items.ensures.value c.loop-i-test.true c.m-item.is in
    let marked = c.requires.used.marked c.loop-i.i m at in
    elim c.if-is_used.branch [
      | then-is_used+in_ok-found+in_default w ↦ none_more file (bad_port_in file library) c.loop-i.i m at (λ (u : IsUsed file m). sym w.in_ok-found.ensures ∙ w.in_default.is) c.loop-i.invariant
      | else-is_used w ↦ none_more file (bad_port_in file library) c.loop-i.i m at (λ (u : IsUsed file m). let is = marked.1 u in let not_so = w.if-is_used.false in cc (is, not_so)) c.loop-i.invariant
    ]

pub returns : goal.returns
returns c =
    let s = c.args.source.now in
    let items = ap length c.deref-m-items.ensures.value in
    let same = length-map s.file.now.models.items model_of in
    let past : length (map model_of s.file.now.models.items) ≤ c.loop-i.i = let end = c.loop-i-test.false in omega arith in
    record { exact = none_at_all (source_file s) (bad_port_in (source_file s) (source_library s)) c.loop-i.i past c.loop-i.invariant }
