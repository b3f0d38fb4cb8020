use Rattle.std.proofs.Common.{refl, sym, ◌∙◌, Option}
use Rattle.netlist_spec.specs.FileOrder.{a_statement}
use Rattle.netlist_spec.specs.Netlist.{Name}
use Rattle.netlist_spec.specs.SoundFaults.{no_such_model_at}
use Rattle.blif_read.specs.declared.file.Located.{Located}
use Rattle.blif_read.specs.View.{model_of, statement_of, located_of}
use Rattle.source_placements.proofs.FirstLemmas.{first_read, statement_at, goes_on, is_found, none_left}
use Rattle.source_placements.proofs.names.no_such_model.Goals as goal

pub returns-in-Some : goal.returns-in-Some
returns-in-Some c = λ file library is.
    let m = c.args.m.now in
    let ss = c.deref-s-items.result.now in
    let i = c.loop-i.i in
    let s = c.s-item.result in
    let f : Located → Option Name = λ s. no_such_model_at file library (a_statement (statement_of m.names s.what)) in
    let known = c.meaning.ensures file library (model_of m) (located_of m.names s) is (statement_at m ss i s c.deref-s-items.ensures.value c.loop-i-test.true c.s-item.is) in
    sym (first_read (no_such_model_at file library) (λ n. refl) (λ n. refl) (λ n. refl) m ss c.requires.by_line c.deref-s-items.ensures.value
    ∙ sym (c.loop-i.invariant file library is)
    ∙ is_found f ss i s c.in-Some.name c.loop-i-test.true c.s-item.is (sym (c.in_ok-name.ensures file library m.names known.0 known.1) ∙ c.in-Some.is))

pub loop-i-preserved : goal.loop-i-preserved
loop-i-preserved c = λ file library is.
    let m = c.args.m.now in
    let ss = c.deref-s-items.result.now in
    let i = c.loop-i.i in
    let s = c.s-item.result in
    let f : Located → Option Name = λ s. no_such_model_at file library (a_statement (statement_of m.names s.what)) in
    let known = c.meaning.ensures file library (model_of m) (located_of m.names s) is (statement_at m ss i s c.deref-s-items.ensures.value c.loop-i-test.true c.s-item.is) in
    goes_on f ss i s c.loop-i-test.true c.s-item.is (sym (c.in_ok-name.ensures file library m.names known.0 known.1) ∙ c.in_default.is)
    ∙ c.loop-i.invariant file library is

pub returns : goal.returns
returns c = λ file library is.
    let m = c.args.m.now in
    let ss = c.deref-s-items.result.now in
    let f : Located → Option Name = λ s. no_such_model_at file library (a_statement (statement_of m.names s.what)) in
    sym (first_read (no_such_model_at file library) (λ n. refl) (λ n. refl) (λ n. refl) m ss c.requires.by_line c.deref-s-items.ensures.value
    ∙ sym (c.loop-i.invariant file library is)
    ∙ none_left f ss c.loop-i.i c.loop-i-test.false)
