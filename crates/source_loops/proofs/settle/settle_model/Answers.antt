use Rattle.std.proofs.Common.{◌∙◌, ◌==◌, sym, ap, subst, map, ℕ, ◌<◌, ◌≤◌, List, length, count_by, All, arith}
use Rattle.netlist_spec.specs.SoundFaults.{IsWalkedLoop}
use Rattle.blif_read.specs.Ids.{HasIds}
use Rattle.blif_read.specs.View.{model_of}
use Rattle.net_graph.specs.Chains.{IsMarked}
use Rattle.source_nets.specs.Ports.{source_file, source_library}
use Rattle.source_loops.specs.Nets.{name_of}
use Rattle.source_loops.specs.Orders.{IsModelOrder}
use Rattle.source_loops.proofs.NumberLemmas.{same_there}
use Rattle.source_loops.proofs.SettleLemmas.{model_there, survey_inside, surveyed, settles_as, walkable_as, walked_as, reads_are_nets, drives_are_nets, same_length, combine_length, settled_order, walkable, loop_within, loop_once, loop_told}
use Rattle.source_loops.proofs.settle.settle_model.Goals as goal

pub index-found-requires : goal.index-found-requires
index-found-requires c =
    omega (arith, survey_inside (source_file c.args.source.now) (source_library c.args.source.now) c.args.source.now.file.now.models.items c.args.survey.now.models.items c.args.place c.requires.survey.models c.requires.place, c.args.survey.now.models.ok.0)

pub nets_of-requires : goal.nets_of-requires
nets_of-requires c = subst HasIds (sym c.index-m.ensures) (c.requires.source.ids c.args.place c.index-m.result.now c.requires.place)

pub settle-requires : goal.settle-requires
settle-requires c =
    let F = source_file c.args.source.now in
    let L = source_library c.args.source.now in
    let models = c.args.source.now.file.now.models.items in
    let x = c.index-m.result.now in
    let m = model_of x in
    let is = surveyed F L models c.args.survey.now.models.items c.args.place x c.index-found.result.now c.requires.survey.models c.requires.place c.index-m.ensures c.index-found.ensures in
    let nets = c.in_ok-nets.nets in
    let are = c.in_ok-nets.ensures F L is in
    record {
      reads = reads_are_nets F L m nets are c.deref-2.result.now c.deref-2.ensures.value;
      drives = drives_are_nets F L m nets are c.deref-2.result.now c.deref-2.ensures.value;
      drivers = same_length F L m nets are;
      combines = combine_length F L m nets are c.deref.result.now c.deref.ensures.value;
    }

pub net_drivers-requires : goal.net_drivers-requires
net_drivers-requires c =
    let F = source_file c.args.source.now in
    let L = source_library c.args.source.now in
    let models = c.args.source.now.file.now.models.items in
    let x = c.index-m.result.now in
    let m = model_of x in
    let is = surveyed F L models c.args.survey.now.models.items c.args.place x c.index-found.result.now c.requires.survey.models c.requires.place c.index-m.ensures c.index-found.ensures in
    (F, L, is)

pub walk-requires : goal.walk-requires
walk-requires c =
    let F = source_file c.args.source.now in
    let L = source_library c.args.source.now in
    let models = c.args.source.now.file.now.models.items in
    let x = c.index-m.result.now in
    let m = model_of x in
    let is = surveyed F L models c.args.survey.now.models.items c.args.place x c.index-found.result.now c.requires.survey.models c.requires.place c.index-m.ensures c.index-found.ensures in
    let nets = c.in_ok-nets.nets in
    let are = c.in_ok-nets.ensures F L is in
    let there = model_there models c.args.place x c.requires.place c.index-m.ensures in
    let driven = c.requires.driven m there in
    let order = c.in_ok-settled.settled.order.items in
    let left = c.in_ok-settled.settled.left.items in
    let e = c.in_ok-settled.ensures in
    let s = settles_as nets.reads nets.drives _ nets.combines.items _ nets.given.items order left c.deref.ensures.value c.deref-2.ensures.value (record { ordered = e.order; size = e.size; over = e.left; waits = e.waits; others = e.others }) in
    let one = c.requires.drivers m there in
    let d = c.in_ok-drivers.ensures F L is one in
    let w = walkable_as nets.reads left c.deref-3.result.now c.in_ok-drivers.drivers.items c.deref-4.result.now c.deref-3.ensures.value c.deref-4.ensures.value (walkable F L m nets are driven order left s c.in_ok-drivers.drivers.items d) in
    record { nets = w.nets; drivers = w.size; items = w.items; goes_on = w.goes_on }

pub names_of-requires : goal.names_of-requires
names_of-requires c =
    let F = source_file c.args.source.now in
    let L = source_library c.args.source.now in
    let models = c.args.source.now.file.now.models.items in
    let x = c.index-m.result.now in
    let m = model_of x in
    let is = surveyed F L models c.args.survey.now.models.items c.args.place x c.index-found.result.now c.requires.survey.models c.requires.place c.index-m.ensures c.index-found.ensures in
    let nets = c.in_ok-nets.nets in
    let are = c.in_ok-nets.ensures F L is in
    let there = model_there models c.args.place x c.requires.place c.index-m.ensures in
    let driven = c.requires.driven m there in
    let order = c.in_ok-settled.settled.order.items in
    let left = c.in_ok-settled.settled.left.items in
    let e = c.in_ok-settled.ensures in
    let s = settles_as nets.reads nets.drives _ nets.combines.items _ nets.given.items order left c.deref.ensures.value c.deref-2.ensures.value (record { ordered = e.order; size = e.size; over = e.left; waits = e.waits; others = e.others }) in
    let one = c.requires.drivers m there in
    let d = c.in_ok-drivers.ensures F L is one in
    let w = walked_as nets.reads left c.deref-3.result.now c.in_ok-drivers.drivers.items c.deref-4.result.now c.in-Some.told.items c.deref-3.ensures.value c.deref-4.ensures.value (rw c.in-Some.is at c.in_ok-walk.ensures.told) in
    record {
      within = subst (All (λ k. k < length x.names)) (sym c.deref-in-Some.ensures.value) (loop_within F L m nets are driven order left s c.in_ok-drivers.drivers.items d c.in-Some.told.items w);
      once = subst (λ (l : List ℕ). (i : ℕ) → count_by (λ k. k == i) l ≤ 1) (sym c.deref-in-Some.ensures.value) (loop_once F L m nets are driven order left s c.in_ok-drivers.drivers.items d c.in-Some.told.items w);
    }

pub returns-in-None : goal.returns-in-None
returns-in-None c =
    let F = source_file c.args.source.now in
    let L = source_library c.args.source.now in
    let models = c.args.source.now.file.now.models.items in
    let x = c.index-m.result.now in
    let m = model_of x in
    let is = surveyed F L models c.args.survey.now.models.items c.args.place x c.index-found.result.now c.requires.survey.models c.requires.place c.index-m.ensures c.index-found.ensures in
    let nets = c.in_ok-nets.nets in
    let are = c.in_ok-nets.ensures F L is in
    let there = model_there models c.args.place x c.requires.place c.index-m.ensures in
    let driven = c.requires.driven m there in
    let order = c.in_ok-settled.settled.order.items in
    let left = c.in_ok-settled.settled.left.items in
    let e = c.in_ok-settled.ensures in
    let s = settles_as nets.reads nets.drives _ nets.combines.items _ nets.given.items order left c.deref.ensures.value c.deref-2.ensures.value (record { ordered = e.order; size = e.size; over = e.left; waits = e.waits; others = e.others }) in
    let none = rw c.in-None.is at c.in_ok-walk.ensures.none in
    λ other at.
    subst (λ z. IsModelOrder F L z order) (same_there (map model_of models) c.args.place m other there at)
    (settled_order F L m nets are driven order left s (λ n k. none n (subst (λ l. IsMarked l n) (sym c.deref-3.ensures.value) k)))

pub returns : goal.returns
returns c =
    let F = source_file c.args.source.now in
    let L = source_library c.args.source.now in
    let models = c.args.source.now.file.now.models.items in
    let x = c.index-m.result.now in
    let m = model_of x in
    let is = surveyed F L models c.args.survey.now.models.items c.args.place x c.index-found.result.now c.requires.survey.models c.requires.place c.index-m.ensures c.index-found.ensures in
    let nets = c.in_ok-nets.nets in
    let are = c.in_ok-nets.ensures F L is in
    let there = model_there models c.args.place x c.requires.place c.index-m.ensures in
    let driven = c.requires.driven m there in
    let order = c.in_ok-settled.settled.order.items in
    let left = c.in_ok-settled.settled.left.items in
    let e = c.in_ok-settled.ensures in
    let s = settles_as nets.reads nets.drives _ nets.combines.items _ nets.given.items order left c.deref.ensures.value c.deref-2.ensures.value (record { ordered = e.order; size = e.size; over = e.left; waits = e.waits; others = e.others }) in
    let one = c.requires.drivers m there in
    let d = c.in_ok-drivers.ensures F L is one in
    let w = walked_as nets.reads left c.deref-3.result.now c.in_ok-drivers.drivers.items c.deref-4.result.now c.in-Some.told.items c.deref-3.ensures.value c.deref-4.ensures.value (rw c.in-Some.is at c.in_ok-walk.ensures.told) in
    let names = c.in_ok-names_of-in-Some.ensures ∙ ap (map (name_of x.names)) c.deref-in-Some.ensures.value in
    λ other at.
    subst (λ z. IsWalkedLoop F L z c.in_ok-names_of-in-Some.field-0) (same_there (map model_of models) c.args.place m other there at)
    (subst (IsWalkedLoop F L m) (sym names) (loop_told F L m nets are driven order left s c.in_ok-drivers.drivers.items d one c.in-Some.told.items w))
