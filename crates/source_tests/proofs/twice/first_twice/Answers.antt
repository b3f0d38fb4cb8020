use Rattle.std.proofs.Common.{◌≡◌, ◌≤◌, ◌∙◌, sym, ap, subst, length, option_map, Some, None, arith}
use Rattle.std.proofs.lemmas.List.{length-map}
use Rattle.netlist_spec.specs.Netlist.{Model, Name}
use Rattle.netlist_spec.specs.SoundFaults.{twice_in, IsFirstUsed}
use Rattle.blif_read.specs.View.{model_of, name_at}
use Rattle.source_nets.specs.Ports.{source_file, source_library}
use Rattle.source_tests.proofs.FirstLemmas.{one_more, found_at, found_nowhere, no_answer}
use Rattle.source_tests.proofs.ModelLemmas.{stands_at, model_there, ids_there, lines_there, surveyed, survey_there, marked, used_there, unused_there}
use Rattle.source_tests.proofs.twice.first_twice.Goals as goal
use Rattle.source_tests.proofs.twice.first_twice.Goals.{then-used-k+in_ok-net+in_default, else-used-k}

pub loop-k-init : goal.loop-k-init
loop-k-init c = tt

pub bounds-used-k : goal.bounds-used-k
bounds-used-k c =
    let source = c.args.source.now in
    let at = stands_at source.file.now.models.items c.deref-m-items.result.now c.loop-k.k c.m-item.result c.deref-m-items.ensures.value c.loop-k-test.true c.m-item.is in
    marked source c.loop-k.k c.m-item.result at c.args.used.now c.requires.used

pub index-requires : goal.index-requires
index-requires c =
    let source = c.args.source.now in
    let at = stands_at source.file.now.models.items c.deref-m-items.result.now c.loop-k.k c.m-item.result c.deref-m-items.ensures.value c.loop-k-test.true c.m-item.is in
    let inside = surveyed source c.loop-k.k c.m-item.result at c.args.survey.now c.requires.survey in
    omega (arith, c.args.survey.now.models.ok)

pub twice_net-requires-clause-ids : goal.twice_net-requires-clause-ids
twice_net-requires-clause-ids c =
    let source = c.args.source.now in
    let at = stands_at source.file.now.models.items c.deref-m-items.result.now c.loop-k.k c.m-item.result c.deref-m-items.ensures.value c.loop-k-test.true c.m-item.is in
    ids_there source c.loop-k.k c.m-item.result at c.requires.source

pub twice_net-requires-clause-by_line : goal.twice_net-requires-clause-by_line
twice_net-requires-clause-by_line c =
    let source = c.args.source.now in
    let at = stands_at source.file.now.models.items c.deref-m-items.result.now c.loop-k.k c.m-item.result c.deref-m-items.ensures.value c.loop-k-test.true c.m-item.is in
    lines_there source c.loop-k.k c.m-item.result at c.requires.is_file

pub twice_net-requires-clause-survey : goal.twice_net-requires-clause-survey
twice_net-requires-clause-survey c =
    let source = c.args.source.now in
    let at = stands_at source.file.now.models.items c.deref-m-items.result.now c.loop-k.k c.m-item.result c.deref-m-items.ensures.value c.loop-k-test.true c.m-item.is in
    survey_there source c.loop-k.k c.m-item.result at c.args.survey.now c.requires.survey c.index.result.now c.index.ensures

pub returns-in-Some : goal.returns-in-Some
returns-in-Some c =
    let source = c.args.source.now in
    let F = source_file source in
    let L = source_library source in
    let m = c.m-item.result in
    let k = c.loop-k.k in
    let at = stands_at source.file.now.models.items c.deref-m-items.result.now k m c.deref-m-items.ensures.value c.loop-k-test.true c.m-item.is in
    let told : twice_in F L (model_of m) ≡ Some (name_at m.names c.in-Some.net) = sym c.in_ok-net.ensures.exact ∙ ap (option_map (name_at m.names)) c.in-Some.is in
    let finds : Model → Name → Type 0 = λ m a. twice_in F L m ≡ Some a in
    record {
      exact = subst (IsFirstUsed F finds) (sym c.in_ok-name_of.ensures)
          (found_at F finds k (model_of m) (name_at m.names c.in-Some.net) (model_there source k m at) c.loop-k.invariant (used_there source k m at c.args.used.now c.requires.used c.if-used-k.true) told);
    }

pub loop-k-preserved : goal.loop-k-preserved
loop-k-preserved c =
    let source = c.args.source.now in
    let F = source_file source in
    let L = source_library source in
    let m = c.m-item.result in
    let k = c.loop-k.k in
    let at = stands_at source.file.now.models.items c.deref-m-items.result.now k m c.deref-m-items.ensures.value c.loop-k-test.true c.m-item.is in
    let finds : Model → Name → Type 0 = λ m a. twice_in F L m ≡ Some a in
    one_more F finds k (model_of m) (model_there source k m at)
    (elim c.if-used-k.branch [
      | then-used-k+in_ok-net+in_default w ↦
          λ u a e. let none : twice_in F L (model_of m) ≡ None = sym w.in_ok-net.ensures.exact ∙ ap (option_map (name_at m.names)) w.in_default.is in cc (none, e)
      | else-used-k w ↦ λ u a e. unused_there source k m at c.args.used.now c.requires.used w.if-used-k.false u
    ])
    c.loop-k.invariant

pub returns : goal.returns
returns c =
    let source = c.args.source.now in
    let F = source_file source in
    let L = source_library source in
    let finds : Model → Name → Type 0 = λ m a. twice_in F L m ≡ Some a in
    let past : length F.models ≤ c.loop-k.k =
    omega (arith, length-map source.file.now.models.items model_of, c.deref-m-items.ensures.len, ap length c.deref-m-items.ensures.value) in
    record { exact = λ m u. no_answer (twice_in F L m) (found_nowhere F finds c.loop-k.k past c.loop-k.invariant m u) }
