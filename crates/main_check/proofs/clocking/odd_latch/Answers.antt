use Rattle.std.proofs.Common.{◌≡◌, sym, ◌∙◌, ap, subst, ℕ, ◌<◌, List, length, Option, None, All, option_map}
use Rattle.netlist_spec.specs.Netlist.{Name}
use Rattle.imp_text.specs.declared.names.NameId.{NameId}
use Rattle.blif_read.specs.declared.file.Located.{Located}
use Rattle.blif_read.specs.Ids.{IsIdOf, ids_in}
use Rattle.blif_read.specs.View.{model_of, name_at, statement_of}
use Rattle.main_check.specs.Clocking.{IsClockedBy, odd_output}
use Rattle.main_check.proofs.Firsts.{first_some, item_goes_on, item_found, none_left, item_has}
use Rattle.main_check.proofs.ClockLemmas.{odd_is}
use Rattle.main_check.proofs.clocking.odd_latch.Goals as goal

pub loop-s-init : goal.loop-s-init
loop-s-init c =
    let m = c.args.m.now in
    ap (first_some (λ (s : Located). odd_output (model_of m) (statement_of m.names s.what))) c.deref-s-items.ensures.value ∙ odd_is (model_of m) m.names m.statements.items

pub odd_output-requires : goal.odd_output-requires
odd_output-requires c =
    let m = c.args.m.now in
    subst (λ (n : ℕ). All (λ (id : NameId). id.0 < n) (ids_in c.s-item.result.what)) (sym c.requires.declared.each_name)
    (item_has (λ (s : Located). All (IsIdOf m.names) (ids_in s.what)) m.statements.items c.deref-s-items.result.now c.loop-s.s-index c.s-item.result c.deref-s-items.ensures.value c.loop-s-test.true c.s-item.is c.requires.ids.statements)

pub loop-s-preserved : goal.loop-s-preserved
loop-s-preserved c =
    let m = c.args.m.now in
    let f : Located → Option Name = λ s. odd_output (model_of m) (statement_of m.names s.what) in
    let k : IsClockedBy (model_of m) c.first_clocking-first.result c.args.declared.now = record { declared = c.requires.declared; first = c.first_clocking-first.ensures.first; control = c.first_clocking-first.ensures.ids } in
    item_goes_on f c.deref-s-items.result.now c.loop-s.s-index c.s-item.result c.loop-s-test.true c.s-item.is
    (sym (c.odd_output.ensures.name (model_of m) k) ∙ ap (option_map (name_at m.names)) c.in_default.is)
    ∙ c.loop-s.invariant

pub returns-in-Some-clause-name : goal.returns-in-Some-clause-name
returns-in-Some-clause-name c =
    let m = c.args.m.now in
    let f : Located → Option Name = λ s. odd_output (model_of m) (statement_of m.names s.what) in
    let k : IsClockedBy (model_of m) c.first_clocking-first.result c.args.declared.now = record { declared = c.requires.declared; first = c.first_clocking-first.ensures.first; control = c.first_clocking-first.ensures.ids } in
    sym (item_found f c.deref-s-items.result.now c.loop-s.s-index c.s-item.result (name_at m.names c.in-Some.id) c.loop-s-test.true c.s-item.is
    (sym (c.in-Some.ensures.name (model_of m) k)))
    ∙ c.loop-s.invariant

pub returns-in-Some-clause-within : goal.returns-in-Some-clause-within
returns-in-Some-clause-within c = subst (λ (n : ℕ). c.in-Some.id.0 < n) c.requires.declared.each_name c.in-Some.ensures.within

pub returns-clause-name : goal.returns-clause-name
returns-clause-name c =
    let m = c.args.m.now in
    sym (none_left (λ (s : Located). odd_output (model_of m) (statement_of m.names s.what)) c.deref-s-items.result.now c.loop-s.s-index c.loop-s-test.false) ∙ c.loop-s.invariant
