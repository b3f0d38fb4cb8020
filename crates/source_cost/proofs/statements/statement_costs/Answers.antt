use Rattle.std.proofs.Common.{◌≡◌, ◌<◌, ◌∙◌, sym, ap, subst, ℕ, List, length, map, take, get_or, rules, arith}
use Rattle.std.proofs.lemmas.List.{length-map, take_all}
use Rattle.netlist_spec.specs.Netlist.{Located as SpecLocated}
use Rattle.netlist_spec.specs.Size.{cost_of}
use Rattle.blif_read.specs.declared.file.Located.{Located}
use Rattle.blif_read.specs.View.{located_of, statement_of}
use Rattle.source_nets.specs.declared.types.Meaning.{Meaning}
use Rattle.source_nets.specs.Ports.{source_file, source_library}
use Rattle.source_nets.specs.Survey.{IsMeaningIn, Means}
use Rattle.source_nets.proofs.SurveyLemmas.{mapped_twice, zip_length}
use Rattle.source_cost.specs.Costs.{IsCosted, cut}
use Rattle.source_cost.proofs.CostLemmas.{mapped_more, within_at, zip_mapped_at}
use Rattle.source_cost.proofs.statements.statement_costs.Goals as goal

pub index-meaning-requires : goal.index-meaning-requires
index-meaning-requires c =
    let same = zip_length _ _ _ c.requires.survey.means in
    let mapped = length-map c.args.m.now.statements.items (located_of c.args.m.now.names) in
    let i : c.loop-i.i < length c.args.survey.now.meanings.items = omega (arith, ap length c.deref-s-items.ensures.value) in
    search rules

pub statement_cost-requires-clause-meaning : goal.statement_cost-requires-clause-meaning
statement_cost-requires-clause-meaning c =
    let F = source_file c.args.source.now in
    let L = source_library c.args.source.now in
    let found = c.index-meaning.result.now in
    let same = zip_length _ _ _ c.requires.survey.means in
    let mapped = length-map c.args.m.now.statements.items (located_of c.args.m.now.names) in
    subst (IsMeaningIn F L) (sym c.index-meaning.ensures) (within_at (IsMeaningIn F L) c.args.survey.now.meanings.items c.loop-i.i found c.requires.survey.within (omega (arith, ap length c.deref-s-items.ensures.value)))

pub statement_cost-requires-clause-costed : goal.statement_cost-requires-clause-costed
statement_cost-requires-clause-costed c =
    let F = source_file c.args.source.now in
    let L = source_library c.args.source.now in
    let found = c.index-meaning.result.now in
    let same = zip_length _ _ _ c.requires.survey.means in
    let mapped = length-map c.args.m.now.statements.items (located_of c.args.m.now.names) in
    subst (IsCosted F L c.args.inner.now) (sym c.index-meaning.ensures) (c.requires.costed c.loop-i.i found (omega (arith, ap length c.deref-s-items.ensures.value)))

pub loop-i-preserved : goal.loop-i-preserved
loop-i-preserved c =
    let F = source_file c.args.source.now in
    let L = source_library c.args.source.now in
    let all = c.args.m.now.names in
    let f : Located → ℕ = λ s. cut (cost_of F L (statement_of all s.what)) in
    let ss = c.args.m.now.statements.items in
    let ms = c.args.survey.now.meanings.items in
    let i = c.loop-i.i in
    let s = c.s-item.result in
    let found = c.index-meaning.result.now in
    let is : s ≡ get_or ss i s = c.s-item.is ∙ ap (λ (zs : List Located). get_or zs i s) c.deref-s-items.ensures.value in
    let inside : i < length ss = omega (arith, ap length c.deref-s-items.ensures.value) in
    let means : Means F L (statement_of all s.what) found
    = zip_mapped_at (λ (l : SpecLocated) (f : Meaning). Means F L l.what f) (located_of all) ss ms i s found c.requires.survey.means inside is c.index-meaning.ensures in
    mapped_more f ss i s c.loop-i.costs.items c.push.new.self.items c.statement_cost.result inside is c.loop-i.invariant c.in_ok-push.ensures.items (c.statement_cost.ensures all means)

pub returns : goal.returns
returns c =
    let F = source_file c.args.source.now in
    let L = source_library c.args.source.now in
    let all = c.args.m.now.names in
    let f : Located → ℕ = λ s. cut (cost_of F L (statement_of all s.what)) in
    let full = ap (take c.loop-i.i) (sym c.deref-s-items.ensures.value) ∙ take_all c.loop-i.i c.deref-s-items.result.now c.loop-i-test.false ∙ c.deref-s-items.ensures.value in
    c.loop-i.invariant ∙ ap (map f) full ∙ mapped_twice (λ (l : SpecLocated). cut (cost_of F L l.what)) (located_of all) c.args.m.now.statements.items
