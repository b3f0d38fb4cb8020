use Rattle.std.proofs.Common.{◌≡◌, ◌∙◌, sym, ap, ap₂, ◌<◌, ◌≤◌, ℕ, List, [], length, get_or, arith}
use Rattle.std.specs.Prelude.{slice_range}
use Rattle.std.proofs.lemmas.List.{get_or_default}
use Rattle.net_graph.specs.Rows.{Rise, rows, start_at}
use Rattle.net_graph.proofs.RowLemmas.{length-rows, rise_at, rows-at}
use Rattle.net_graph.proofs.graph.Graph.row.Goals as goal

pub start-requires : goal.start-requires
start-requires c =
    omega (arith, c.requires, ap length c.deref-2.ensures.value, length-rows 0 c.self.inside.stops.items c.self.inside.ends.items, ap length c.self.view_is)

pub index-requires : goal.index-requires
index-requires c =
    omega (arith, c.requires, c.self.inside.stops.ok.0, length-rows 0 c.self.inside.stops.items c.self.inside.ends.items, ap length c.self.view_is)

within : (stops ends : List ℕ) (graph : List (List ℕ)) (node : ℕ) → rows 0 stops ends ≡ graph → node < length graph → node < length stops
within stops ends graph node is h = omega (arith, h, length-rows 0 stops ends, ap length is)

rises : (stops ends starts seen : List ℕ) (graph : List (List ℕ)) (node from to : ℕ) → rows 0 stops ends ≡ graph → Rise 0 stops (length ends) → node < length graph → starts ≡ stops → seen ≡ ends → from ≡ start_at 0 starts node → to ≡ get_or stops node to
    → (from ≤ to) × (to ≤ length seen)
rises stops ends starts seen graph node from to is rise h same all a b =
    let inside : node < length stops = within stops ends graph node is h in
    let at = rise_at 0 stops (length ends) rise node inside in
    let first : from ≡ start_at 0 stops node = a ∙ ap (λ l. start_at 0 l node) same in
    let last : to ≡ get_or stops node 0 = b ∙ get_or_default stops node to 0 inside in
    let size : length seen ≡ length ends = ap length all in
    (omega (arith, at.0), omega (arith, at.1))

part_is : (stops ends starts seen part : List ℕ) (graph : List (List ℕ)) (node from to : ℕ) → rows 0 stops ends ≡ graph → node < length graph → starts ≡ stops → seen ≡ ends → from ≡ start_at 0 starts node → to ≡ get_or stops node to → part ≡ slice_range seen from to
    → part ≡ get_or graph node []
part_is stops ends starts seen part graph node from to is h same all a b p =
    let inside : node < length stops = within stops ends graph node is h in
    p ∙ (ap (λ l. slice_range l from to) all ∙ (ap₂ (slice_range ends) (a ∙ ap (λ l. start_at 0 l node) same) (b ∙ get_or_default stops node to 0 inside)
    ∙ (sym (rows-at 0 stops ends node inside) ∙ ap (λ l. get_or l node []) is)))

pub part-requires-clause-rise : goal.part-requires-clause-rise
part-requires-clause-rise c =
    (rises c.self.inside.stops.items c.self.inside.ends.items c.deref-2.result.now c.deref.result.now c.args.self.now c.args.node c.start.result c.index.result.now
    c.self.view_is c.self.invariant c.requires c.deref-2.ensures.value c.deref.ensures.value c.start.ensures c.index.ensures).0

pub part-requires-clause-within : goal.part-requires-clause-within
part-requires-clause-within c =
    (rises c.self.inside.stops.items c.self.inside.ends.items c.deref-2.result.now c.deref.result.now c.args.self.now c.args.node c.start.result c.index.result.now
    c.self.view_is c.self.invariant c.requires c.deref-2.ensures.value c.deref.ensures.value c.start.ensures c.index.ensures).1

pub returns : goal.returns
returns c =
    part_is c.self.inside.stops.items c.self.inside.ends.items c.deref-2.result.now c.deref.result.now c.part.result.now c.args.self.now c.args.node c.start.result c.index.result.now
    c.self.view_is c.requires c.deref-2.ensures.value c.deref.ensures.value c.start.ensures c.index.ensures c.part.ensures
