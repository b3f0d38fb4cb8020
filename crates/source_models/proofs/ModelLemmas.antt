-- Models of a file by their places: chains of placed models are chains of places.
use Rattle.std.proofs.Common.{◌≡◌, ◌↔◌, ◌⊎◌, inl, inr, refl, sym, ◌∙◌, ap, subst, ℕ, zero, suc, ◌+◌, ◌<◌, ◌≤◌, Bool, true, false, cond, List, [], ◌∷◌, ◌++◌, length, get_or, map, take, drop, find, Some, slice_get, IsTrue, All, Contains, arith}
use Rattle.std.specs.List.{AllByRecursion}
use Rattle.std.proofs.lemmas.Bool.{cases_eq}
use Rattle.std.proofs.lemmas.List.{get_or_default, length-map}
use Rattle.std.proofs.lemmas.List.Elements.{All-contains, All-from_recursion}
use Rattle.std.proofs.lemmas.Option.{get_or_from_slice_get, slice_get-get_or, slice_get_read, slice_get_within}
use Rattle.netlist_spec.specs.Netlist.{Name, same_name, Model, File}
use Rattle.netlist_spec.specs.Covers.{Library}
use Rattle.netlist_spec.specs.Models.{first_model}
use Rattle.netlist_spec.specs.FileRules.{IsFile}
use Rattle.netlist_spec.specs.Sound.{Places, Chain as ModelChain, IsMain, IsUsed}
use Rattle.netlist_spec.specs.SoundFaults.{ContainsItself, IsFirstUsed, IsTooDeep}
use Rattle.imp_text.proofs.NamesLemmas.{one_place}
use Rattle.blif_read.specs.declared.file.Model.{Model as ReadModel}
use Rattle.blif_read.specs.View.{model_of}
use Rattle.net_graph.specs.Chains.{AreMarked, Chain, IsGraph, IsMarked, LeadsPast, LeadsTo, ends_of}
use Rattle.net_graph.proofs.MarkLemmas.{marked_within}
use Rattle.source_nets.specs.Survey.{AreUsedMarks, IsModelGraph}
use Rattle.source_nets.proofs.SurveyLemmas.{row_at}
use Rattle.net_cycles.specs.Cycles.{IsOnCycle}
use Rattle.source_models.specs.Cycles.{IsClosed, IsEndsFirst, IsFirstOnCycle}
use Rattle.source_models.specs.Order.{IsPlacedFirst}
use Rattle.source_models.proofs.CycleLemmas.{on_no_cycle}

-- the model at a place
abbrev pub At : File → ℕ → Model → Type 0
At file i m = slice_get file.models i ≡ Some m

-- ---- the main model, and models that are used

first_at : (ms : List Model) (m : Model) → first_model ms ≡ Some m → slice_get ms 0 ≡ Some m
first_at [] m e = cc e
first_at (k ∷ ms) m e = e

at_first : (ms : List Model) (m : Model) → slice_get ms 0 ≡ Some m → first_model ms ≡ Some m
at_first [] m e = cc e
at_first (k ∷ ms) m e = e

found_at : (test : Model → Bool) (ms : List Model) (m : Model) → find test ms ≡ Some m → (i : ℕ) × (slice_get ms i ≡ Some m)
found_at test [] m e = absurd (cc e)
found_at test (k ∷ ms) m e = by_case (test k) e (found_at test ms m)
  where
    by_case : (b : Bool) → cond b (Some k) (find test ms) ≡ Some m → (find test ms ≡ Some m → (i : ℕ) × (slice_get ms i ≡ Some m)) → (i : ℕ) × (slice_get (k ∷ ms) i ≡ Some m)
    by_case true e rest = (0, e)
    by_case false e rest = let r = rest e in (suc r.0, r.1)

module _ (file : File) where
  same_model : (i : ℕ) (m k : Model) → At file i m → At file i k → m ≡ k
  same_model i m k e f = let both : Some m ≡ Some k = sym e ∙ f in cc both

  -- a used model is one of the file
  pub used_at : (m : Model) → IsUsed file m → (i : ℕ) × At file i m
  used_at m (top, main, n, chain) = reached n m chain
    where
      reached : (n : ℕ) (m : Model) → ModelChain file n top m → (i : ℕ) × At file i m
      reached zero m e = (0, subst (At file 0) e (first_at file.models top main))
      reached (suc n) m (c, chain, p) = found_at (λ k. same_name k.name p.0) file.models m p.2

  place_step : (m k : Model) → IsUsed file m → Places file m k → IsUsed file k
  place_step m k (top, main, n, chain) p = (top, main, suc n, (m, chain, p))

  -- ---- the first used model that is such

  module _ (IsSuch : Model → Type 0) where
    -- no used model before a place is such
    abbrev pub NoneBefore : ℕ → Type 0
    NoneBefore i = (j : ℕ) (m : Model) → j < i → At file j m → IsUsed file m → IsSuch m → ⊥

    pub none_more : (i : ℕ) (m : Model) → At file i m → (IsUsed file m → IsSuch m → ⊥) → NoneBefore i → NoneBefore (i + 1)
    none_more i m here apart before j k h at used such = by_place (cases_eq j i)
      where
        by_place : (j ≡ i) ⊎ (j ≡ i → ⊥) → ⊥
        by_place (inl e) =
            let same : k ≡ m = same_model i k m (subst (λ (n : ℕ). At file n k) e at) here in
            apart (subst (IsUsed file) same used) (subst IsSuch same such)
        by_place (inr other) = before j k (omega (arith, other)) at used such

    pub none_at_all : (i : ℕ) → length file.models ≤ i → NoneBefore i → (m : Model) → IsUsed file m → IsSuch m → ⊥
    none_at_all i h before m used such = let a = used_at m used in before a.0 m (omega (arith, slice_get_within file.models a.0 m a.1)) a.1 used such

    pub first_such : (i : ℕ) (m : Model) (name : Name) → At file i m → name ≡ m.name → NoneBefore i → IsUsed file m → IsSuch m → IsFirstUsed file (λ m a. IsSuch m × (a ≡ m.name)) name
    first_such i m name at named before used such =
        record {
          before = take i file.models;
          model = m;
          after = drop (suc i) file.models;
          split = split_at file.models i at;
          used = used;
          here = (such, named);
          none_before = none_in file.models i (λ j k h at u a s. before j k h at u s.0);
        }
      where
        split_at : (ms : List Model) (i : ℕ) → slice_get ms i ≡ Some m → ms ≡ take i ms ++ m ∷ drop (suc i) ms
        split_at [] i e = cc e
        split_at (k ∷ ms) zero e = let same : k ≡ m = cc e in ap (λ j. j ∷ ms) same
        split_at (k ∷ ms) (suc i) e = ap (λ js. k ∷ js) (split_at ms i e)

        none_in : (ms : List Model) (i : ℕ) → ((j : ℕ) (k : Model) → j < i → slice_get ms j ≡ Some k → IsUsed file k → (a : Name) → IsSuch k × (a ≡ k.name) → ⊥)
            → AllByRecursion (λ k. IsUsed file k → (a : Name) → IsSuch k × (a ≡ k.name) → ⊥) (take i ms)
        none_in [] zero f = tt
        none_in [] (suc i) f = tt
        none_in (k ∷ ms) zero f = tt
        none_in (k ∷ ms) (suc i) f = (f 0 k (omega arith) refl, none_in ms i (λ j m h at. f (suc j) m (omega (arith, h)) at))

  -- ---- chains

  module _ (is_file : IsFile file) where
    pub one_at : (i j : ℕ) (m : Model) → At file i m → At file j m → i ≡ j
    one_at i j m e f = one_place (map (λ (m : Model). m.name) file.models) i j m.name is_file.distinct (row_at (λ (m : Model). m.name) file.models i m e) (row_at (λ (m : Model). m.name) file.models j m f)

    pub main_at : (top : Model) × At file 0 top × IsMain file top
    main_at = some file.models is_file.some_model
      where
        some : (ms : List Model) → 1 ≤ length ms → (top : Model) × (slice_get ms 0 ≡ Some top) × (first_model ms ≡ Some top)
        some [] h = absurd (omega arith)
        some (m ∷ ms) h = (m, refl, refl)

    is_main : (i : ℕ) (m : Model) → At file i m → IsMain file m ↔ (i ≡ 0)
    is_main i m at = (λ main. one_at i 0 m at (first_at file.models m main), λ e. at_first file.models m (subst (λ (j : ℕ). At file j m) e at))

    pub inner_above : (i : ℕ) (m : Model) → At file i m → (IsMain file m → ⊥) ↔ (0 < i)
    inner_above i m at = (
      λ other. above other (cases_eq i 0),
      λ (h : 0 < i) main. let first = (is_main i m at).0 main in omega (arith, h, first),
    )
      where
        above : (IsMain file m → ⊥) → (i ≡ 0) ⊎ (i ≡ 0 → ⊥) → 0 < i
        above other (inl e) = absurd (other ((is_main i m at).1 e))
        above other (inr e) = omega (arith, e)

    module _ (graph : List (List ℕ)) (is : IsModelGraph file graph) where
      pub is_graph : IsGraph graph
      is_graph = All-from_recursion (λ ends. All (λ k. k < length graph) ends) graph (each graph is.within)
        where
          each : (rows : List (List ℕ)) → AllByRecursion (AllByRecursion (λ k. k < length file.models)) rows → AllByRecursion (λ ends. All (λ k. k < length graph) ends) rows
          each [] a = tt
          each (row ∷ rows) a = (subst (λ (n : ℕ). All (λ k. k < n) row) (sym is.each) (All-from_recursion (λ k. k < length file.models) row a.0), each rows a.1)

      row_of : (i : ℕ) (m : Model) → At file i m → slice_get graph i ≡ Some (ends_of graph i)
      row_of i m at = slice_get-get_or graph i [] (omega (arith, slice_get_within file.models i m at, is.each))

      edge_to : (i j : ℕ) (m : Model) → At file i m → Contains (ends_of graph i) j → (k : Model) × At file j k × Places file m k
      edge_to i j m at c =
          let row = All-contains (λ ends. All (λ k. k < length graph) ends) graph (ends_of graph i) is_graph
          (i, omega (arith, slice_get_within file.models i m at, is.each), get_or_from_slice_get graph i (ends_of graph i) (ends_of graph i) (row_of i m at)) in
          let h : j < length graph = All-contains (λ k. k < length graph) (ends_of graph i) j row c in
          let there = slice_get-get_or file.models j m (omega (arith, is.each)) in
          (get_or file.models j m, there, (is.places i m (ends_of graph i) at (row_of i m at) (get_or file.models j m)).1 (j, c, there))

      edge_from : (i : ℕ) (m k : Model) → At file i m → Places file m k → (j : ℕ) × Contains (ends_of graph i) j × At file j k
      edge_from i m k at p = (is.places i m (ends_of graph i) at (row_of i m at) k).0 p

      chain_to : (n i j : ℕ) (m : Model) → At file i m → Chain graph n i j → (k : Model) × At file j k × ModelChain file n m k
      chain_to zero i j m at e = (m, subst (λ (x : ℕ). At file x m) e at, refl)
      chain_to (suc n) i j m at (c, chain, last) =
          let b = chain_to n i c m at chain in
          let d = edge_to c j b.0 b.1 last in
          (d.0, d.1, (b.0, b.2, d.2))

      chain_from : (n i : ℕ) (m k : Model) → At file i m → ModelChain file n m k → (j : ℕ) × At file j k × Chain graph n i j
      chain_from zero i m k at e = (i, subst (At file i) e at, refl)
      chain_from (suc n) i m k at (c, chain, p) =
          let b = chain_from n i m c at chain in
          let d = edge_from b.0 c k b.1 p in
          (d.0, d.2, (b.0, b.2, d.1))

      -- chains of places are chains of the models there
      pub chains_agree : (n i j : ℕ) (m k : Model) → At file i m → At file j k → Chain graph n i j ↔ ModelChain file n m k
      chains_agree n i j m k at_m at_k = (
        λ chain. let b = chain_to n i j m at_m chain in subst (ModelChain file n m) (same_model j b.0 k b.1 at_k) b.2,
        λ chain. let b = chain_from n i m k at_m chain in subst (λ (x : ℕ). Chain graph n i x) (one_at b.0 j k b.1 at_k) b.2,
      )

      pub reached_is_used : (i : ℕ) (m : Model) → At file i m → LeadsTo graph 0 i ↔ IsUsed file m
      reached_is_used i m at = (
        λ (w : LeadsTo graph 0 i). let top = main_at in (top.0, top.2, w.0, (chains_agree w.0 0 i top.0 m top.1 at).0 w.1),
        λ (u : IsUsed file m). (u.2, (chains_agree u.2 0 i u.0 m (first_at file.models u.0 u.1) at).1 u.3),
      )

      pub past_is_deep : (library : Library) (i : ℕ) (m : Model) → At file i m → LeadsPast graph 16 0 i ↔ IsTooDeep file library m
      past_is_deep library i m at = (
        λ (w : LeadsPast graph 16 0 i). let top = main_at in (top.0, top.2, w.0, w.1, (chains_agree w.0 0 i top.0 m top.1 at).0 w.2),
        λ (d : IsTooDeep file library m). (d.2, d.3, (chains_agree d.2 0 i d.0 m (first_at file.models d.0 d.1) at).1 d.4),
      )

      -- what stands at the place of the model
      pub deep_mark : (library : Library) (deep : List Bool) (i : ℕ) (m : Model) (b : Bool) → AreMarked (length graph) deep (LeadsPast graph 16 0) → At file i m → b ≡ get_or deep i b → IsTrue b ↔ IsTooDeep file library m
      deep_mark library deep i m b are at is_mark =
          let here : b ≡ get_or deep i false = is_mark ∙ get_or_default deep i b false (omega (arith, slice_get_within file.models i m at, is.each, are.each_node)) in (
            λ t. (past_is_deep library i m at).0 ((are.exact i).0 (sym here ∙ t)),
            λ d. here ∙ (are.exact i).1 ((past_is_deep library i m at).1 d),
          )

      pub cycle_is_recursion : (library : Library) (i : ℕ) (m : Model) → At file i m → IsOnCycle graph i ↔ ContainsItself file library m
      cycle_is_recursion library i m at = (
        λ (w : IsOnCycle graph i). (w.0, (chains_agree (suc w.0) i i m m at at).0 w.1),
        λ (c : ContainsItself file library m). (c.0, (chains_agree (suc c.0) i i m m at at).1 c.1),
      )

      pub reached_marks : (marks : List Bool) → AreMarked (length graph) marks (LeadsTo graph 0) → AreUsedMarks file marks
      reached_marks marks are =
          record {
            each = are.each_node ∙ is.each;
            marked = λ i m at. (λ t. (reached_is_used i m at).0 ((are.exact i).0 t), λ u. (are.exact i).1 ((reached_is_used i m at).1 u));
          }

      module _ (used : List Bool) (are : AreUsedMarks file used) where
        model_at : (i : ℕ) → IsMarked used i → (m : Model) × At file i m × IsUsed file m
        model_at i marked =
            let top = main_at in
            let h : i < length file.models = omega (arith, marked_within used i marked, are.each) in
            let at = slice_get-get_or file.models i top.0 h in
            (get_or file.models i top.0, at, (are.marked i (get_or file.models i top.0) at).0 marked)

        pub used_are_closed : IsClosed graph used
        used_are_closed i j marked c =
            let m = model_at i marked in
            let k = edge_to i j m.0 m.1 c in
            (are.marked j k.0 k.1).1 (place_step m.0 k.0 m.2 k.2)

        module _ (order : List ℕ) (sorted : IsEndsFirst graph used order) where
          pub placed_first : IsPlacedFirst file order
          placed_first =
              record {
                within = λ k d h. omega (arith, marked_within used (get_or order k d) ((sorted.items (get_or order k d)).0 (contained order k d h)), are.each);
                once = sorted.once;
                used = λ i m c at. (are.marked i m at).0 ((sorted.items i).0 c);
                each = λ i m at u. (sorted.items i).1 ((are.marked i m at).1 u);
                earlier = λ k i j m c at_k at_m at_c p.
                    let e = edge_from i m c at_m p in
                    sorted.earlier k i j at_k (subst (λ (x : ℕ). Contains (ends_of graph i) x) (one_at e.0 j c e.2 at_c) e.1);
              }
            where
              contained : (xs : List ℕ) (k d : ℕ) → k < length xs → Contains xs (get_or xs k d)
              contained xs k d h = (k, h, get_or_from_slice_get xs k (get_or xs k d) (get_or xs k d) (slice_get-get_or xs k d h))

          pub no_recursion : (library : Library) (m : Model) → IsUsed file m → ContainsItself file library m → ⊥
          no_recursion library m u c =
              let a = used_at m u in
              on_no_cycle graph order sorted.earlier sorted.once a.0 ((sorted.items a.0).1 ((are.marked a.0 m a.1).1 u)) ((cycle_is_recursion library a.0 m a.1).1 c)

        pub first_recursion : (library : Library) (i : ℕ) (m : Model) (name : Name) → At file i m → name ≡ m.name → IsFirstOnCycle graph used i → IsFirstUsed file (λ m a. ContainsItself file library m × (a ≡ m.name)) name
        first_recursion library i m name at named first =
            first_such (ContainsItself file library) i m name at named
            (λ j k h at_k u c. first.none_before j h ((are.marked j k at_k).1 u) ((cycle_is_recursion library j k at_k).1 c))
            ((are.marked i m at).0 first.marked) ((cycle_is_recursion library i m at).0 first.on_cycle)

-- ---- models as they were read

pub read_at : (read items : List ReadModel) (i : ℕ) (m : ReadModel) → items ≡ read → i < length items → m ≡ get_or items i m → slice_get (map model_of read) i ≡ Some (model_of m)
read_at read items i m e h is = ap (λ ms. slice_get (map model_of ms) i) (sym e) ∙ row_at model_of items i m (slice_get_read items (length items) i m refl h is)

pub all_read : (read items : List ReadModel) (i : ℕ) → items ≡ read → length items ≤ i → length (map model_of read) ≤ i
all_read read items i e h = omega (arith, h, ap length e, length-map read model_of)
