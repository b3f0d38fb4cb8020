use Rattle.std.proofs.Common.{◌≡◌, ◌↔◌, sym, subst, Bool, false, get_or, IsTrue}
use Rattle.std.proofs.lemmas.Bool.{both_ways}
use Rattle.blif_read.specs.View.{model_of}
use Rattle.netlist_spec.specs.SoundFaults.{IsTooDeep}
use Rattle.netlist_spec.specs.Sound.{IsUsed}
use Rattle.source_nets.specs.Ports.{source_file, source_library}
use Rattle.source_nets.specs.Survey.{IsModelGraph}
use Rattle.source_models.proofs.ModelLemmas.{At, all_read, deep_mark, none_at_all, none_more, first_such, read_at}
use Rattle.source_models.proofs.models.first_too_deep.Goals as goal
use Rattle.source_models.proofs.models.first_too_deep.Goals.{else-used-k-via-then-used-k+else-index, else-used-k-via-else-used-k}

pub loop-k-preserved : goal.loop-k-preserved
loop-k-preserved c =
    let file = source_file c.args.source.now in
    let library = source_library c.args.source.now in
    let graph = c.in_ok-graph.graph in
    let deep = c.in_ok-deep.deep.items in
    let k = c.loop-k.k in
    let m = model_of c.m-item.result in
    let is : IsModelGraph file graph = subst (IsModelGraph file) (sym c.in_ok-graph.ensures) c.requires.survey.graph in
    let at : At file k m
    = read_at c.args.source.now.file.now.models.items c.deref-m-items.result.now k c.m-item.result c.deref-m-items.ensures.value c.loop-k-test.true c.m-item.is in
    let mark : (b : Bool) → b ≡ get_or deep k b → IsTrue b ↔ IsTooDeep file library m = λ b e. deep_mark file c.requires.is_file graph is library deep k m b c.in_ok-deep.ensures at e in
    let apart : IsUsed file m → IsTooDeep file library m → ⊥
    = elim c.else-used-k.branch [
      | else-used-k-via-then-used-k+else-index w ↦ λ used such. both_ways w.index.result.now w.if-index.false ((mark w.index.result.now w.index.ensures).1 such)
      | else-used-k-via-else-used-k w ↦ λ used such. both_ways (get_or c.args.used.now k false) w.if-used-k.false ((c.requires.used.marked k m at).1 used)
    ] in
    none_more file (IsTooDeep file library) k m at apart c.loop-k.invariant

pub returns : goal.returns
returns c =
    let file = source_file c.args.source.now in
    let items = c.args.source.now.file.now.models.items in
    record {
      exact =
          none_at_all file (IsTooDeep file (source_library c.args.source.now)) c.loop-k.k (all_read items c.deref-m-items.result.now c.loop-k.k c.deref-m-items.ensures.value c.loop-k-test.false)
          c.loop-k.invariant;
    }

pub returns-then-index : goal.returns-then-index
returns-then-index c =
    let file = source_file c.args.source.now in
    let library = source_library c.args.source.now in
    let m = model_of c.m-item.result in
    let k = c.loop-k.k in
    let is : IsModelGraph file c.in_ok-graph.graph = subst (IsModelGraph file) (sym c.in_ok-graph.ensures) c.requires.survey.graph in
    let at : At file k m
    = read_at c.args.source.now.file.now.models.items c.deref-m-items.result.now k c.m-item.result c.deref-m-items.ensures.value c.loop-k-test.true c.m-item.is in
    record {
      exact =
          first_such file (IsTooDeep file library) k m c.in_ok-name_of.field-0 at c.in_ok-name_of.ensures c.loop-k.invariant ((c.requires.used.marked k m at).0 c.if-used-k.true)
          ((deep_mark file c.requires.is_file c.in_ok-graph.graph is library c.in_ok-deep.deep.items k m c.index.result.now c.in_ok-deep.ensures at c.index.ensures).0 c.if-index.true);
    }
