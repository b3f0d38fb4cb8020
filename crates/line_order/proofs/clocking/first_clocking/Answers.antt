use Rattle.std.proofs.Common.{◌≡◌, refl, sym, ◌∙◌, ap, subst, arith, ℕ, suc, ◌+◌, ◌<◌, All, List, ◌∷◌, Option, length, map, filter_map, drop, get_or, add-one, drop-cons}
use Rattle.std.specs.List.{cons_option}
use Rattle.std.proofs.lemmas.List.{drop_all}
use Rattle.netlist_spec.specs.Netlist.{Name}
use Rattle.netlist_spec.specs.Models.{Latch as SpecLatch, as_latch, first_clocking}
use Rattle.imp_text.specs.declared.names.NameId.{NameId}
use Rattle.blif_read.specs.declared.file.Located.{Located}
use Rattle.blif_read.specs.declared.file.Clocking.{Clocking}
use Rattle.blif_read.specs.declared.file.Statement.{Statement}
use Rattle.blif_read.specs.declared.file.Statement.TheVariants.{Names, Latch, Subckt}
use Rattle.blif_read.specs.Ids.{IsIdOf, ids_in, control_ids}
use Rattle.blif_read.specs.View.{located_of, statement_of}
use Rattle.line_order.proofs.clocking.first_clocking.Goals as goal

opened : (all : List Name) (ss : List Located) (i : ℕ) (s : Located) → i < length ss → s ≡ get_or ss i s → filter_map (λ s. as_latch s.what) (map (located_of all) (drop i ss)) ≡ cons_option (as_latch (statement_of all s.what)) (filter_map (λ s. as_latch s.what) (map (located_of all) (drop (i + 1) ss)))
opened all ss i s h e =
    ap (λ xs. filter_map (λ s. as_latch s.what) (map (located_of all) xs)) (drop-cons ss i s h)
    ∙ (ap (λ x. cons_option (as_latch (statement_of all x.what)) (filter_map (λ s. as_latch s.what) (map (located_of all) (drop (suc i) ss)))) (sym e)
    ∙ ap (λ k. cons_option (as_latch (statement_of all s.what)) (filter_map (λ s. as_latch s.what) (map (located_of all) (drop k ss)))) (sym (add-one i)))

no_latch : (all : List Name) (s : Statement) → ((d q : NameId) (clocking : Clocking) (init : Option ℕ) → s ≡ Latch d q clocking init → ⊥) → (ls : List SpecLatch) → cons_option (as_latch (statement_of all s)) ls ≡ ls
no_latch all (Names ins out cover) none ls = refl
no_latch all (Latch d q clocking init) none ls = absurd (none d q clocking init refl)
no_latch all (Subckt model binds) none ls = refl

pub loop-s-init : goal.loop-s-init
loop-s-init c = ap (λ ss. filter_map (λ s. as_latch s.what) (map (located_of c.args.m.now.names) ss)) c.deref-s-items.ensures.value

pub loop-s-preserved : goal.loop-s-preserved
loop-s-preserved c =
    let all = c.args.m.now.names in
    sym (opened all c.deref-s-items.result.now c.loop-s.s-index c.s-item.result c.loop-s-test.true c.s-item.is ∙ no_latch all c.s-item.result.what c.in_default.not-Latch _) ∙ c.loop-s.invariant

pub returns-in-Latch-clause-first : goal.returns-in-Latch-clause-first
returns-in-Latch-clause-first c =
    let all = c.args.m.now.names in
    sym (ap first_clocking (sym c.loop-s.invariant ∙ (opened all c.deref-s-items.result.now c.loop-s.s-index c.s-item.result c.loop-s-test.true c.s-item.is
    ∙ ap (λ w. cons_option (as_latch (statement_of all w)) (filter_map (λ s. as_latch s.what) (map (located_of all) (drop (c.loop-s.s-index + 1) c.deref-s-items.result.now)))) c.in-Latch.is)))

pub returns-clause-first : goal.returns-clause-first
returns-clause-first c =
    let all = c.args.m.now.names in
    sym (ap first_clocking (sym c.loop-s.invariant ∙ ap (λ ss. filter_map (λ s. as_latch s.what) (map (located_of all) ss)) (drop_all c.loop-s.s-index c.deref-s-items.result.now c.loop-s-test.false)))

-- the control of a latch is among the names
control_within : (all : List Name) (ss ts : List Located) (i : ℕ) (s : Located) (d q : NameId) (clocking : Clocking) (init : Option ℕ) → ts ≡ ss → i < length ts → s ≡ get_or ts i s → s.what ≡ Latch d q clocking init
    → All (λ (x : Located). All (IsIdOf all) (ids_in x.what)) ss → All (IsIdOf all) (control_ids clocking)
control_within all ss ts i s d q clocking init same h is e ids =
    let here : All (IsIdOf all) (ids_in s.what) =
    subst (λ (x : Located). All (IsIdOf all) (ids_in x.what)) (sym is) (subst (λ (l : List Located). All (λ (x : Located). All (IsIdOf all) (ids_in x.what)) l) (sym same) ids i s h) in
    let own : All (IsIdOf all) (d ∷ q ∷ control_ids clocking) = subst (λ (w : Statement). All (IsIdOf all) (ids_in w)) e here in
    λ k x g. own (suc (suc k)) x (omega arith)

pub returns-in-Latch-clause-ids : goal.returns-in-Latch-clause-ids
returns-in-Latch-clause-ids c =
    control_within c.args.m.now.names c.args.m.now.statements.items c.deref-s-items.result.now c.loop-s.s-index c.s-item.result c.in-Latch.d c.in-Latch.q c.in-Latch.clocking c.in-Latch.init
    c.deref-s-items.ensures.value c.loop-s-test.true c.s-item.is c.in-Latch.is c.requires.statements
