use Rattle.std.proofs.Common.{◌≡◌, ◌<◌, ◌+◌, ◌++◌, [], sym, ◌∙◌, ap, subst, ℕ, List, Vec, length, map, replicate, All, Option, Some, arith}
use Rattle.std.specs.Prelude.{IsTrue}
use Rattle.std.specs.declared.alloc.Global.{Global}
use Rattle.std.proofs.lemmas.List.{length-map}
use Rattle.std.proofs.lemmas.List.Elements.{All-map}
use Rattle.netlist_spec.specs.Netlist.{Model, are_distinct}
use Rattle.netlist_spec.specs.Models.{latch_outputs}
use Rattle.netlist_spec.specs.Sound.{HasOneDriverEach}
use Rattle.guard_spec.specs.Words.{Words}
use Rattle.blif_read.specs.View.{model_of, name_at}
use Rattle.source_nets.specs.Survey.{IsModelSurvey}
use Rattle.plain_size.specs.Cones.{IsConeGraph, StandOnce, node_of}
use Rattle.plain_size.specs.Edges.{ends_in}
use Rattle.plain_size.specs.Nodes.{AreNodes, lead_of, node_at}
use Rattle.plain_size.proofs.GraphLemmas.{cone_graph, edges_within}
use Rattle.plain_size.proofs.cones.source_cones.Goals as goal

pub returns-clause-cones : goal.returns-clause-cones
returns-clause-cones c = λ p same words survey one once costs.
    let m = c.args.m.now in
    let all = map (λ (w : Vec ℕ Global). w.items) c.args.words.now in
    let (shown, shows, ids, are) = c.in_ok-nodes.ensures in
    let nodes = c.in_ok-nodes.nodes.items in
    let graph = c.in_ok-graph.graph in
    let many : length all ≡ length c.args.words.now = length-map c.args.words.now (λ (w : Vec ℕ Global). w.items) in
    let rows : graph ≡ map (ends_in nodes) c.args.survey.now.reads ++ replicate (length all) []
    = c.in_ok-graph.ensures
    ∙ (ap (λ (l : List (Option ℕ)). map (ends_in l) c.args.survey.now.reads ++ replicate (length c.args.words.now) []) c.deref.ensures.value ∙ ap (λ (k : ℕ). map (ends_in nodes) c.args.survey.now.reads ++ replicate k []) (sym many)) in
    let latches : length (latch_outputs (model_of m)) ≡ length shown = ap length (sym shows) ∙ length-map shown (name_at m.names) in
    let within : All (λ (w : List ℕ). All (λ i. i < length shown) w) all
    = All-map (λ (w : List ℕ). All (λ i. i < length shown) w) (λ (w : Vec ℕ Global). w.items) c.args.words.now (subst (λ (n : ℕ). All (λ (w : Vec ℕ Global). All (λ i. i < n) w.items) c.args.words.now) latches c.requires.latches) in
    let survey_is : IsModelSurvey p.file p.library (model_of m) c.args.survey.now = subst (λ (k : Model). IsModelSurvey p.file p.library k c.args.survey.now) same survey in
    let driver : HasOneDriverEach p.file p.library (model_of m) = subst (λ (k : Model). HasOneDriverEach p.file p.library k) same one in
    let count : length (latch_outputs p.m) ≡ length shown = ap (λ (k : Model). length (latch_outputs k)) same ∙ latches in
    let once_is : StandOnce (length shown) all = subst (λ (n : ℕ). StandOnce n all) count (subst (λ (ws : Words). StandOnce (length (latch_outputs p.m)) ws) words once) in
    let nodes_are = subst (λ (k : ℕ). AreNodes (length m.names) (length m.statements.items + k) (lead_of m c.args.survey.now shown all) nodes) (sym many) are in
    let is : IsConeGraph p.file p.library (model_of m) all (node_of m.names nodes) graph
    = cone_graph p.file p.library m c.args.survey.now survey_is shown all shows ids within driver once_is nodes nodes_are c.len-names.ensures.are_names.distinct graph rows c.requires.rows.reads in
    record {
      distinct = subst (λ (k : Model). IsTrue (are_distinct k.names)) (sym same) c.len-names.ensures.are_names.distinct;
      each_net = are.each ∙ ap (λ (k : Model). length k.names) (sym same);
      graph = subst (λ (ws : Words). IsConeGraph p.file p.library p.m ws (node_of p.m.names nodes) graph) (sym words) (subst (λ (k : Model). IsConeGraph p.file p.library k all (node_of k.names nodes) graph) (sym same) is);
      costs = costs;
    }

pub returns-clause-walk : goal.returns-clause-walk
returns-clause-walk c =
    let (shown, shows, ids, are) = c.in_ok-nodes.ensures in
    let nodes = c.in_ok-nodes.nodes.items in
    let reads = c.args.survey.now.reads in
    let graph = c.in_ok-graph.graph in
    let rows : graph ≡ map (ends_in nodes) reads ++ replicate (length c.args.words.now) []
    = c.in_ok-graph.ensures ∙ ap (λ (l : List (Option ℕ)). map (ends_in l) reads ++ replicate (length c.args.words.now) []) c.deref.ensures.value in
    let surveyed = c.requires.rows.reads in
    let small : (k j : ℕ) → node_at nodes k ≡ Some j → j < length reads + length c.args.words.now = λ k j e. (let (less, leads) = are.some k j e in omega arith) in
    let (size, is_graph) = edges_within nodes reads (length c.args.words.now) graph rows small in
    record { graph = is_graph; costs = (let s = c.requires.costs in omega arith); nodes = λ k j e. (let less = small k j e in omega arith) }
