-- What placed models cost: their statements, at any depth.
use Rattle.std.proofs.Common.{◌≡◌, refl, sym, ◌∙◌, ap, subst, ℕ, zero, suc, ◌+◌, ◌<◌, ◌≤◌, List, [], ◌∷◌, length, map, Bool, true, false, cond, not, ◌&&◌, ◌⊎◌, inl, inr, Some, arith, Contains}
use Rattle.std.proofs.lemmas.List.Sums.{sum_by-cons}
use Rattle.std.specs.Prelude.{IsTrue, sum_by}
use Rattle.std.specs.List.{AllByRecursion}
use Rattle.std.specs.Cmp.Lexicographic.{bytes_decides}
use Rattle.netlist_spec.specs.Netlist.{Name, same_name, stands_in, are_distinct, Bind, Statement, names, latch, subckt, Model, File}
use Rattle.netlist_spec.specs.Covers.{Library}
use Rattle.netlist_spec.specs.Placed.{Placed, nothing, a_model, a_table, a_linear, placed, find_model}
use Rattle.netlist_spec.specs.Models.{first_model}
use Rattle.netlist_spec.specs.Size.{placed_cost, statement_cost, cost_to_depth, cost_of}
use Rattle.netlist_spec.specs.Sound.{Places, Chain, IsMain, IsUsed}
use Rattle.netlist_spec.specs.SoundFaults.{ContainsItself}
use Rattle.source_laws.specs.Costs.{statements_of}
use Rattle.source_laws.proofs.Lists.{Among, among, among_map, stands, standing}
use Rattle.source_laws.proofs.Order.{distinct_fit}
use Rattle.source_laws.proofs.Agree.{places}

-- ---- models by their names

-- a model that is found by its name
pub found_by_name : (models : List Model) (name : Name) (k : Model) → find_model models name ≡ Some k → (k.name ≡ name) × Among k models
found_by_name [] name k e = cc e
found_by_name (j ∷ models) name k e = by_case (same_name j.name name) refl e (found_by_name models name k)
  where
    by_case : (b : Bool) → same_name j.name name ≡ b → cond b (Some j) (find_model models name) ≡ Some k → (find_model models name ≡ Some k → (k.name ≡ name) × Among k models) → (k.name ≡ name) × ((j ≡ k) ⊎ Among k models)
    by_case true t e later = let same : j ≡ k = cc e in (ap (λ (x : Model). x.name) (sym same) ∙ (bytes_decides j.name name).0 t, inl same)
    by_case false t e later = let r = later e in (r.0, inr r.1)

abbrev pub IsFound : File → Model → Type 0
IsFound file k = find_model file.models k.name ≡ Some k

placed_is_found : (file : File) (m k : Model) → Places file m k → IsFound file k
placed_is_found file m k (name, in_names, e) = ap (find_model file.models) (found_by_name file.models name k e).0 ∙ e

pub first_is_found : (models : List Model) (top : Model) → first_model models ≡ Some top → (find_model models top.name ≡ Some top) × Among top models
first_is_found [] top e = cc e
first_is_found (m ∷ ms) top e =
    let same : m ≡ top = cc e in
    (ap (λ (b : Bool). cond b (Some m) (find_model ms top.name)) ((bytes_decides m.name top.name).1 (ap (λ (x : Model). x.name) same)) ∙ ap (λ (x : Model). Some x) same, inl same)

same_found : (file : File) (j k : Model) → IsFound file j → IsFound file k → j.name ≡ k.name → j ≡ k
same_found file j k f g e = let h : Some j ≡ Some k = sym f ∙ (ap (find_model file.models) e ∙ g) in cc h

module _ (file : File) (library : Library) (never : (k : Model) → IsUsed file k → ContainsItself file library k → ⊥) (top : Model) (main : IsMain file top) where
  -- the models on the way to one
  record Trail (n : ℕ) (k : Model) : Type 0 where
    seen : List Name
    count : length seen ≡ suc n
    distinct : are_distinct seen ≡ true
    in_file : AllByRecursion (λ x. IsTrue (stands_in x (map (λ (j : Model). j.name) file.models))) seen
    lead : (x : Name) → Among x seen → (j : Model) × (i : ℕ) × (j.name ≡ x) × IsFound file j × Chain file i j k
    found : IsFound file k

  named_in_file : (k : Model) → IsFound file k → IsTrue (stands_in k.name (map (λ (j : Model). j.name) file.models))
  named_in_file k f = stands k.name (map (λ (j : Model). j.name) file.models) (among_map (λ (j : Model). j.name) file.models k (found_by_name file.models k.name k f).1)

  trail : (n : ℕ) (k : Model) → Chain file n top k → Trail n k
  trail zero k chain =
      let top_found = (first_is_found file.models top main).0 in
      let k_found : IsFound file k = subst (IsFound file) chain top_found in
      record {
        seen = k.name ∷ [];
        count = refl;
        distinct = refl;
        in_file = (named_in_file k k_found, tt);
        lead = λ x h. (k, 0, elim h [ inl e ↦ e | inr y ↦ absurd y ], k_found, refl);
        found = k_found;
      }
  trail (suc n) k (c, chain, p) =
      let before = trail n c chain in
      let k_found = placed_is_found file c k p in
      record {
        seen = k.name ∷ before.seen;
        count = ap suc before.count;
        distinct = is_new (trail n c chain) (stands_in k.name before.seen) refl before.distinct k_found;
        in_file = (named_in_file k k_found, before.in_file);
        lead = λ x h. elim h [
          | inl e ↦ (k, 0, e, k_found, refl)
          | inr y ↦ let (j, i, j_name, j_found, to_c) = before.lead x y in (j, suc i, j_name, j_found, (c, to_c, p))
        ];
        found = k_found;
      }
    where
      is_new : (before : Trail n c) (b : Bool) → stands_in k.name before.seen ≡ b → are_distinct before.seen ≡ true → IsFound file k → (not (stands_in k.name before.seen) && are_distinct before.seen) ≡ true
      is_new before false e d f = ap (λ (b : Bool). not b && are_distinct before.seen) e ∙ d
      is_new before true e d f =
          let (j, i, j_name, j_found, to_c) = before.lead k.name (standing k.name before.seen e) in
          let same : j ≡ k = same_found file j k j_found f j_name in
          absurd (never k (top, main, suc n, (c, chain, p)) (i, (c, subst (λ (x : Model). Chain file i x c) same to_c, p)))

  -- a chain is shorter than the file has models
  pub chain_is_short : (n : ℕ) (k : Model) → Chain file n top k → n < length file.models
  chain_is_short n k chain =
      let t = trail n k chain in
      let fit = distinct_fit t.seen (map (λ (j : Model). j.name) file.models) t.distinct t.in_file in
      let count = t.count in
      let all = names_count file.models in
      omega arith
    where
      names_count : (ms : List Model) → length (map (λ (j : Model). j.name) ms) ≡ length ms
      names_count [] = refl
      names_count (m ∷ ms) = ap suc (names_count ms)

  same_sums : (f g : Statement → ℕ) (ss : List Statement) → ((s : Statement) → Among s ss → f s ≡ g s) → sum_by f ss ≡ sum_by g ss
  same_sums f g [] e = refl
  same_sums f g (s ∷ ss) e =
      let a = sum_by-cons f s ss in
      let b = sum_by-cons g s ss in
      let c = e s (inl refl) in
      let d = same_sums f g ss (λ t h. e t (inr h)) in
      omega arith

  module _ (n : ℕ) (k : Model) (chain : Chain file n top k) (inside deeper : List Statement → ℕ) (same : (j : Model) → Chain file (suc n) top j → inside (statements_of j) ≡ deeper (statements_of j)) where
    same_placed : (name : Name) (binds : List Bind) → Among (subckt name binds) (statements_of k) → (p : Placed) → placed file library name ≡ p → placed_cost inside p binds ≡ placed_cost deeper p binds
    same_placed name binds h nothing e = refl
    same_placed name binds h (a_table t) e = refl
    same_placed name binds h (a_linear l) e = refl
    same_placed name binds h (a_model j) e = ap (λ c. 1 + length binds + c) (same j (k, chain, places file library k j name (subckt name binds) h (inl refl) e))

    same_cost : (s : Statement) → Among s (statements_of k) → statement_cost file library inside s ≡ statement_cost file library deeper s
    same_cost (names ins out cover) h = refl
    same_cost (latch d q clocking init) h = refl
    same_cost (subckt name binds) h = same_placed name binds h (placed file library name) refl

  -- at the depth of the file's models, one level more changes nothing
  deep_enough : (d n : ℕ) (k : Model) → length file.models ≤ n + d → Chain file n top k → cost_to_depth file library d (statements_of k) ≡ cost_to_depth file library (suc d) (statements_of k)
  deep_enough zero n k h chain = absurd (let short = chain_is_short n k chain in omega arith)
  deep_enough (suc d) n k h chain =
      same_sums (statement_cost file library (cost_to_depth file library d)) (statement_cost file library (cost_to_depth file library (suc d))) (statements_of k)
      (same_cost n k chain (cost_to_depth file library d) (cost_to_depth file library (suc d)) (λ j to_j. deep_enough d (suc n) j (omega arith) to_j))

pub placed_model_costs : (file : File) (library : Library) (m : Model) (name : Name) (binds : List Bind) (k : Model) → ((j : Model) → IsUsed file j → ContainsItself file library j → ⊥) → IsUsed file m → Contains (statements_of m) (subckt name binds) → placed file library name ≡ a_model k
    → cost_of file library (subckt name binds) ≡ 1 + length binds + sum_by (cost_of file library) (statements_of k)
placed_model_costs file library m name binds k never (top, main, n, chain) in_m e =
    let to_k : Chain file (suc n) top k = (m, chain, places file library m k name (subckt name binds) (among (statements_of m) (subckt name binds) in_m) (inl refl) e) in
    ap (λ p. placed_cost (cost_to_depth file library (length file.models)) p binds) e
    ∙ ap (λ c. 1 + length binds + c) (deep_enough file library never top main (length file.models) (suc n) k (omega arith) to_k)
