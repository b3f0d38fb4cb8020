use Rattle.std.proofs.Common.{refl, sym, ◌∙◌, ap, length, Option, arith}
use Rattle.std.proofs.lemmas.List.{length-map}
use Rattle.netlist_spec.specs.FileOrder.{a_statement}
use Rattle.netlist_spec.specs.Netlist.{Name, Located as SpecLocated}
use Rattle.netlist_spec.specs.SoundFaults.{bad_port_at}
use Rattle.blif_read.specs.declared.file.Located.{Located}
use Rattle.blif_read.specs.View.{model_of, statement_of, located_of}
use Rattle.source_nets.specs.declared.types.Meaning.{Meaning}
use Rattle.source_nets.specs.Ports.{source_file, source_library}
use Rattle.source_nets.specs.Survey.{Means}
use Rattle.source_nets.proofs.SurveyLemmas.{zip_length}
use Rattle.source_placements.proofs.FirstLemmas.{first_read, statement_at, goes_on, is_found, none_left}
use Rattle.source_placements.proofs.ports.bad_port.Goals as goal

pub meaning-requires : goal.meaning-requires
meaning-requires c =
    let m = c.args.m.now in
    let s = c.args.source.now in
    let long = zip_length (λ (l : SpecLocated) (f : Meaning). Means (source_file s) (source_library s) l.what f) (model_of m).statements c.args.survey.now.meanings.items c.requires.survey.means in
    let same = length-map m.statements.items (located_of m.names) in
    let items = ap length c.deref-s-items.ensures.value in
    omega arith

pub bad_port_of_statement-requires-clause-meaning : goal.bad_port_of_statement-requires-clause-meaning
bad_port_of_statement-requires-clause-meaning c =
    let m = c.args.m.now in
    let x = c.s-item.result in
    (c.meaning.ensures (source_file c.args.source.now) (source_library c.args.source.now) (model_of m) (located_of m.names x) c.requires.survey
    (statement_at m c.deref-s-items.result.now c.loop-i.i x c.deref-s-items.ensures.value c.loop-i-test.true c.s-item.is)).1

pub returns-in-Some : goal.returns-in-Some
returns-in-Some c =
    let m = c.args.m.now in
    let file = source_file c.args.source.now in
    let library = source_library c.args.source.now in
    let ss = c.deref-s-items.result.now in
    let i = c.loop-i.i in
    let x = c.s-item.result in
    let f : Located → Option (Name × Name) = λ s. bad_port_at file library (a_statement (statement_of m.names s.what)) in
    let known = c.meaning.ensures file library (model_of m) (located_of m.names x) c.requires.survey (statement_at m ss i x c.deref-s-items.ensures.value c.loop-i-test.true c.s-item.is) in
    sym (first_read (bad_port_at file library) (λ n. refl) (λ n. refl) (λ n. refl) m ss c.requires.by_line c.deref-s-items.ensures.value
    ∙ sym c.loop-i.invariant
    ∙ is_found f ss i x c.in-Some.found c.loop-i-test.true c.s-item.is (sym (c.in_ok-found.ensures m.names known.0) ∙ c.in-Some.is))

pub loop-i-preserved : goal.loop-i-preserved
loop-i-preserved c =
    let m = c.args.m.now in
    let file = source_file c.args.source.now in
    let library = source_library c.args.source.now in
    let ss = c.deref-s-items.result.now in
    let i = c.loop-i.i in
    let x = c.s-item.result in
    let f : Located → Option (Name × Name) = λ s. bad_port_at file library (a_statement (statement_of m.names s.what)) in
    let known = c.meaning.ensures file library (model_of m) (located_of m.names x) c.requires.survey (statement_at m ss i x c.deref-s-items.ensures.value c.loop-i-test.true c.s-item.is) in
    goes_on f ss i x c.loop-i-test.true c.s-item.is (sym (c.in_ok-found.ensures m.names known.0) ∙ c.in_default.is)
    ∙ c.loop-i.invariant

pub returns : goal.returns
returns c =
    let m = c.args.m.now in
    let file = source_file c.args.source.now in
    let library = source_library c.args.source.now in
    let ss = c.deref-s-items.result.now in
    let f : Located → Option (Name × Name) = λ s. bad_port_at file library (a_statement (statement_of m.names s.what)) in
    sym (first_read (bad_port_at file library) (λ n. refl) (λ n. refl) (λ n. refl) m ss c.requires.by_line c.deref-s-items.ensures.value
    ∙ sym c.loop-i.invariant
    ∙ none_left f ss c.loop-i.i c.loop-i-test.false)
