use Rattle.std.proofs.Common.{refl, sym, subst, ◌<◌, length, arith}
use Rattle.std.proofs.lemmas.List.{length-map}
use Rattle.blif_read.specs.View.{model_of}
use Rattle.net_graph.proofs.MarkLemmas.{marked_within}
use Rattle.source_nets.specs.Ports.{source_file, source_library}
use Rattle.source_nets.specs.Survey.{IsModelGraph}
use Rattle.source_models.specs.Cycles.{IsEndsFirst, IsFirstOnCycle}
use Rattle.source_models.proofs.ModelLemmas.{first_recursion, no_recursion, placed_first, read_at, used_are_closed}
use Rattle.source_models.proofs.models.recursion.Goals as goal

pub sort-requires-clause-closed : goal.sort-requires-clause-closed
sort-requires-clause-closed c =
    let file = source_file c.args.source.now in
    used_are_closed file c.requires.is_file c.in_ok-graph.graph (subst (IsModelGraph file) (sym c.in_ok-graph.ensures) c.requires.survey.graph) c.args.used.now c.requires.used

pub returns-in-Order : goal.returns-in-Order
returns-in-Order c =
    let file = source_file c.args.source.now in
    let graph = c.in_ok-graph.graph in
    let is : IsModelGraph file graph = subst (IsModelGraph file) (sym c.in_ok-graph.ensures) c.requires.survey.graph in
    let sorted : IsEndsFirst graph c.args.used.now c.in-Order.order.items = rw c.in-Order.is at c.in_ok-sorted.ensures in (
      placed_first file c.requires.is_file graph is c.args.used.now c.requires.used c.in-Order.order.items sorted,
      no_recursion file c.requires.is_file graph is c.args.used.now c.requires.used c.in-Order.order.items sorted (source_library c.args.source.now),
    )

pub returns : goal.returns
returns c =
    let file = source_file c.args.source.now in
    let graph = c.in_ok-graph.graph in
    let items = c.args.source.now.file.now.models.items in
    let k = c.in-OnCycle.k in
    let is : IsModelGraph file graph = subst (IsModelGraph file) (sym c.in_ok-graph.ensures) c.requires.survey.graph in
    let first : IsFirstOnCycle graph c.args.used.now k = rw c.in-OnCycle.is at c.in_ok-sorted.ensures in
    let within : k < length items = omega (arith, marked_within c.args.used.now k first.marked, c.requires.used.each, length-map items model_of) in
    first_recursion file c.requires.is_file graph is c.args.used.now c.requires.used (source_library c.args.source.now) k (model_of c.index.result.now) c.in_ok-name-in-OnCycle.name
    (read_at items items k c.index.result.now refl within c.index.ensures) c.in_ok-name-in-OnCycle.ensures first
