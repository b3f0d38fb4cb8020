use Rattle.std.proofs.Common.{◌≡◌, ◌<◌, ◌≤◌, ◌++◌, refl, sym, ◌∙◌, ap, subst, ℕ, List, Vec, length, map, min, All}
use Rattle.std.specs.declared.alloc.Global.{Global}
use Rattle.std.specs.List.{AllZip}
use Rattle.netlist_spec.specs.Models.{latch_outputs}
use Rattle.netlist_spec.specs.Netlist.{Located, Statement}
use Rattle.netlist_spec.specs.Size.{cost_of}
use Rattle.guard_spec.specs.Codes.{Code, Mode, data_places}
use Rattle.guard_spec.specs.Words.{Settings, Words}
use Rattle.guard_spec.specs.Plain.{corrector_cost}
use Rattle.blif_read.specs.View.{model_of}
use Rattle.size_laws.specs.ConeMarks.{statements_of}
use Rattle.plain_size.specs.Cones.{AreNodeCosts, Source, cut, read_words}
use Rattle.plain_size.specs.Sizes.{source_of}
use Rattle.plain_size.proofs.PriceLemmas.{mapped_all}
use Rattle.plain_size.proofs.SizeLemmas.{zip_mapped, words_read, words_read_once, shown_count}
use Rattle.plain_size.proofs.size.model_cones.Goals as goal

pub node_costs-requires-clause-words : goal.node_costs-requires-clause-words
node_costs-requires-clause-words c =
    let items : Vec ℕ Global → List ℕ = λ w. w.items in
    let code : c.s.inside.code ≡ c.args.s.now.code = ap (λ (s : Settings). s.code) c.s.view_is in
    let mode = ap (λ (s : Settings). s.mode) c.s.view_is in
    let words : map (λ (w : Vec ℕ Global). w.items) c.read_words-words.result.now ≡ read_words c.args.s.now.mode c.args.l.now.state = c.read_words-words.ensures ∙ ap (λ (k : Mode). read_words k c.args.l.now.state) mode in
    let short = (words_read (model_of c.args.m.now) c.args.s.now.code c.args.l.now c.requires.layout c.args.s.now.mode).short in
    mapped_all (λ (w : List ℕ). length w ≤ data_places c.s.inside.code) (λ (w : Vec ℕ Global). w.items) c.read_words-words.result.now
    (subst (λ (ws : Words). All (λ w. length w ≤ data_places c.s.inside.code) ws) (sym words) (subst (λ (d : Code). All (λ w. length w ≤ data_places d) (read_words c.args.s.now.mode c.args.l.now.state)) (sym code) short))

pub source_cones-requires-clause-latches : goal.source_cones-requires-clause-latches
source_cones-requires-clause-latches c =
    let mode = ap (λ (s : Settings). s.mode) c.s.view_is in
    let words : map (λ (w : Vec ℕ Global). w.items) c.read_words-words.result.now ≡ read_words c.args.s.now.mode c.args.l.now.state = c.read_words-words.ensures ∙ ap (λ (k : Mode). read_words k c.args.l.now.state) mode in
    let within = (words_read (model_of c.args.m.now) c.args.s.now.code c.args.l.now c.requires.layout c.args.s.now.mode).within in
    let count = shown_count (model_of c.args.m.now) c.args.s.now.code c.args.l.now c.requires.layout in
    mapped_all (λ (w : List ℕ). All (λ i. i < length (latch_outputs (model_of c.args.m.now))) w) (λ (w : Vec ℕ Global). w.items) c.read_words-words.result.now
    (subst (λ (ws : Words). All (λ w. All (λ i. i < length (latch_outputs (model_of c.args.m.now))) w) ws) (sym words)
    (subst (λ (n : ℕ). All (λ w. All (λ i. i < n) w) (read_words c.args.s.now.mode c.args.l.now.state)) (sym count) within))

pub returns-clause-cones : goal.returns-clause-cones
returns-clause-cones c = λ file survey one costs.
    let m = model_of c.args.m.now in
    let s = c.args.s.now in
    let p : Source = source_of file m s c.args.l.now in
    let bound : c.s.inside.bound ≡ s.bound = ap (λ (s : Settings). s.bound) c.s.view_is in
    let code : c.s.inside.code ≡ s.code = ap (λ (s : Settings). s.code) c.s.view_is in
    let mode = ap (λ (s : Settings). s.mode) c.s.view_is in
    let vecs = c.read_words-words.result.now in
    let words : map (λ (w : Vec ℕ Global). w.items) vecs ≡ read_words s.mode c.args.l.now.state = c.read_words-words.ensures ∙ ap (λ (k : Mode). read_words k c.args.l.now.state) mode in
    let prices : List ℕ = map (λ (w : Vec ℕ Global). min (corrector_cost s.code s.bound (length w.items)) 1000001) vecs in
    let all : c.in_ok-all.all.items ≡ c.args.costs.now ++ prices
    = c.in_ok-all.ensures
    ∙ (ap (λ (d : Code). c.args.costs.now ++ map (λ (w : Vec ℕ Global). min (corrector_cost d c.s.inside.bound (length w.items)) 1000001) vecs) code
    ∙ ap (λ (t : ℕ). c.args.costs.now ++ map (λ (w : Vec ℕ Global). min (corrector_cost s.code t (length w.items)) 1000001) vecs) bound) in
    let are : AreNodeCosts p c.in_ok-all.all.items = record {
      statements = c.args.costs.now;
      words = prices;
      all = all;
      of_statements = subst (λ (cs : List ℕ). AllZip (λ t k. k ≡ cut (cost_of file s.library t)) (statements_of m) cs) (sym costs)
          (zip_mapped (λ (t : Statement) (k : ℕ). k ≡ cut (cost_of file s.library t)) (λ (t : Located). t.what) (λ (t : Located). min (cost_of file s.library t.what) 1000001) m.statements (λ t. refl));
      of_words = subst (λ (ws : Words). AllZip (λ w k. k ≡ cut (corrector_cost s.code s.bound (length w))) ws prices) words
          (zip_mapped (λ (w : List ℕ) (k : ℕ). k ≡ cut (corrector_cost s.code s.bound (length w))) (λ (w : Vec ℕ Global). w.items) (λ (w : Vec ℕ Global). min (corrector_cost s.code s.bound (length w.items)) 1000001) vecs (λ w. refl));
    } in
    c.source_cones.ensures.cones p refl (sym words) survey one (words_read_once m s.code c.args.l.now c.requires.layout s.mode) are
