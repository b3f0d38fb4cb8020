-- Which models a model places.
use Rattle.std.proofs.Common.{◌≡◌, ◌+◌, take, get_or, refl, sym, ◌∙◌, ap, subst, ℕ, zero, suc, ◌<◌, List, [], ◌∷◌, length, ◌++◌, map, filter_map, Bool, true, false, ◌||◌, Option, Some, None, slice_get, Contains, ◌⊎◌, inl, inr, arith}
use Rattle.std.specs.Prelude.{find, option_to_list}
use Rattle.std.specs.List.{AllZip, AllByRecursion, flat_map, cons_option}
use Rattle.netlist_spec.specs.Netlist.{Name, same_name, stands_in, Statement, names, latch, subckt, Located, Model, File}
use Rattle.netlist_spec.specs.Covers.{Library, NamedTable, NamedLinear}
use Rattle.netlist_spec.specs.Placed.{Placed, nothing, a_model, placed, model_or, table_or, linear_or_nothing, find_model}
use Rattle.netlist_spec.specs.Sound.{placed_names, Places}
use Rattle.imp_text.proofs.NamesLemmas.{same_name_self, same_name-true}
use Rattle.source_nets.specs.declared.types.Meaning.{Meaning}
use Rattle.source_nets.specs.declared.types.Meaning.TheVariants.{Cell, Nothing, Model as ModelAt, Table as TableAt, Linear as LinearAt}
use Rattle.source_nets.specs.Graph.{model_place}
use Rattle.source_nets.specs.Survey.{Means, placed_at, IsMeaningIn, IsModelSurvey, IsModelGraph}
use Rattle.source_nets.specs.declared.types.ModelSurvey.{ModelSurvey}
use Rattle.source_nets.proofs.SurveyLemmas.{zip_length, zip_right, same_at, row_at}
use Rattle.std.proofs.lemmas.List.{take_more, length-map}
use Rattle.std.proofs.lemmas.List.Elements.{filter_map-append}

pub contains_head : {X : Type 0} (x : X) (xs : List X) → Contains (x ∷ xs) x
contains_head x xs = (0, omega arith, refl)

pub contains_tail : {X : Type 0} (y x : X) (xs : List X) → Contains xs x → Contains (y ∷ xs) x
contains_tail y x xs c = (suc c.0, let h = c.1 in omega arith, c.2)

pub contains_cases : {X : Type 0} (y x : X) (xs : List X) → Contains (y ∷ xs) x → (y ≡ x) ⊎ Contains xs x
contains_cases y x xs (zero, h, e) = inl e
contains_cases y x xs (suc k, h, e) = inr (k, omega arith, e)

-- what is a model, by its place
model_only : (o : Option Model) (k : Model) → model_or o nothing ≡ a_model k → o ≡ Some k
model_only None k e = cc e
model_only (Some m) k e = let same : m ≡ k = cc e in ap (λ z. Some z) same

no_table : (o : Option NamedTable) (k : Model) → table_or o nothing ≡ a_model k → ⊥
no_table None k e = cc e
no_table (Some t) k e = cc e

no_linear : (o : Option NamedLinear) (k : Model) → linear_or_nothing o ≡ a_model k → ⊥
no_linear None k e = cc e
no_linear (Some l) k e = cc e

others_no_model : (o : Option NamedTable) (p : Option NamedLinear) (k : Model) → table_or o (linear_or_nothing p) ≡ a_model k → ⊥
others_no_model None p k e = no_linear p k e
others_no_model (Some t) p k e = cc e

named_model : (o : Option Model) (t : Option NamedTable) (l : Option NamedLinear) (k : Model) → model_or o (table_or t (linear_or_nothing l)) ≡ a_model k → o ≡ Some k
named_model None t l k e = absurd (others_no_model t l k e)
named_model (Some m) t l k e = let same : m ≡ k = cc e in ap (λ z. Some z) same

module _ (file : File) (library : Library) where
  -- the places of the models that are told
  abbrev At : List Meaning → Model → Type 0
  At ms k = (j : ℕ) × Contains (filter_map model_place ms) j × (slice_get file.models j ≡ Some k)

  abbrev Named : List Located → Model → Type 0
  Named ss k = (name : Name) × (stands_in name (flat_map (λ s. placed_names s.what) ss) ≡ true) × (find_model file.models name ≡ Some k)

  later : (found : Meaning) (ms : List Meaning) (k : Model) → At ms k → At (found ∷ ms) k
  later found ms k a = (a.0, push (model_place found), a.2)
    where
      push : (o : Option ℕ) → Contains (cons_option o (filter_map model_place ms)) a.0
      push None = a.1
      push (Some i) = contains_tail i a.0 (filter_map model_place ms) a.1

  here : (found : Meaning) (ms : List Meaning) (k : Model) → placed_at file library found ≡ a_model k → At (found ∷ ms) k
  here Cell ms k e = cc e
  here Nothing ms k e = cc e
  here (ModelAt j) ms k e = (j, contains_head j (filter_map model_place ms), model_only (slice_get file.models j) k e)
  here (TableAt j) ms k e = absurd (no_table (slice_get library.tables j) k e)
  here (LinearAt j) ms k e = absurd (no_linear (slice_get library.linears j) k e)

  is_placed : (name : Name) (k : Model) → find_model file.models name ≡ Some k → placed file library name ≡ a_model k
  is_placed name k e =
      ap (λ o. model_or o (table_or (find (λ t. same_name t.name name) library.tables) (linear_or_nothing (find (λ l. same_name l.name name) library.linears)))) e

  pub told : (ss : List Located) (ms : List Meaning) (k : Model) → AllZip (λ s found. Means file library s.what found) ss ms → Named ss k → At ms k
  told [] [] k all n = let h = n.1 in cc h
  told [] (found ∷ ms) k all n = absurd all
  told (s ∷ ss) [] k all n = absurd all
  told (s ∷ ss) (found ∷ ms) k all n = at s.what (told ss ms k all.1) all.0 n.1
    where
      at : (w : Statement) → (Named ss k → At ms k) → Means file library w found → stands_in n.0 (placed_names w ++ flat_map (λ s. placed_names s.what) ss) ≡ true → At (found ∷ ms) k
      at (names ins out cover) rest h t = later found ms k (rest (n.0, t, n.2))
      at (latch d q clocking init) rest h t = later found ms k (rest (n.0, t, n.2))
      at (subckt name binds) rest h t = go (same_name n.0 name) refl t
        where
          go : (b : Bool) → same_name n.0 name ≡ b → (b || stands_in n.0 (flat_map (λ s. placed_names s.what) ss)) ≡ true → At (found ∷ ms) k
          go true same u =
              let is : n.0 ≡ name = same_name-true n.0 name same in
              here found ms k (h.0 ∙ is_placed name k (ap (find_model file.models) (sym is) ∙ n.2))
          go false same u = later found ms k (rest (n.0, u, n.2))

  -- what is told is named
  deeper : (w : Statement) (ss : List Located) (k : Model) → Named ss k → (name : Name) × (stands_in name (placed_names w ++ flat_map (λ s. placed_names s.what) ss) ≡ true) × (find_model file.models name ≡ Some k)
  deeper (names ins out cover) ss k n = n
  deeper (latch d q clocking init) ss k n = n
  deeper (subckt name binds) ss k n = (n.0, or_last (same_name n.0 name) n.1, n.2)
    where
      or_last : (b : Bool) → stands_in n.0 (flat_map (λ s. placed_names s.what) ss) ≡ true → (b || stands_in n.0 (flat_map (λ s. placed_names s.what) ss)) ≡ true
      or_last true e = refl
      or_last false e = e

  at_model : (w : Statement) (found : Meaning) (ss : List Located) (j : ℕ) (k : Model) → Means file library w found → found ≡ ModelAt j → slice_get file.models j ≡ Some k
      → (name : Name) × (stands_in name (placed_names w ++ flat_map (λ s. placed_names s.what) ss) ≡ true) × (find_model file.models name ≡ Some k)
  at_model (names ins out cover) found ss j k h is e = cc (h, is)
  at_model (latch d q clocking init) found ss j k h is e = cc (h, is)
  at_model (subckt name binds) found ss j k h is e =
      let there : placed_at file library found ≡ a_model k = ap (placed_at file library) is ∙ ap (λ o. model_or o nothing) e in (
        name,
        ap (λ b. b || stands_in name (flat_map (λ s. placed_names s.what) ss)) (same_name_self name),
        named_model (find_model file.models name) (find (λ t. same_name t.name name) library.tables) (find (λ l. same_name l.name name) library.linears) k (sym h.0 ∙ there),
      )

  pub named : (ss : List Located) (ms : List Meaning) (k : Model) → AllZip (λ s found. Means file library s.what found) ss ms → At ms k → Named ss k
  named [] [] k all a = absurd (let h = a.1.1 in omega arith)
  named [] (found ∷ ms) k all a = absurd all
  named (s ∷ ss) [] k all a = absurd all
  named (s ∷ ss) (found ∷ ms) k all a = at found (named ss ms k all.1) refl a.1
    where
      behind : (At ms k → Named ss k) → Contains (filter_map model_place ms) a.0 → Named (s ∷ ss) k
      behind rest c = deeper s.what ss k (rest (a.0, c, a.2))

      at : (f : Meaning) → (At ms k → Named ss k) → found ≡ f → Contains (cons_option (model_place f) (filter_map model_place ms)) a.0 → Named (s ∷ ss) k
      at Cell rest is c = behind rest c
      at Nothing rest is c = behind rest c
      at (TableAt j) rest is c = behind rest c
      at (LinearAt j) rest is c = behind rest c
      at (ModelAt j) rest is c = elim (contains_cases j a.0 (filter_map model_place ms) c) [
        | inl e ↦ at_model s.what found ss a.0 k all.0 (is ∙ ap (λ i. ModelAt i) e) a.2
        | inr d ↦ behind rest d
      ]

  -- the places are those of models
  pub places_within : (ms : List Meaning) → AllByRecursion (IsMeaningIn file library) ms → AllByRecursion (λ j. j < length file.models) (filter_map model_place ms)
  places_within [] a = tt
  places_within (Cell ∷ ms) a = places_within ms a.1
  places_within (Nothing ∷ ms) a = places_within ms a.1
  places_within (ModelAt j ∷ ms) a = (a.0, places_within ms a.1)
  places_within (TableAt j ∷ ms) a = places_within ms a.1
  places_within (LinearAt j ∷ ms) a = places_within ms a.1

pub places_more : (xs : List Meaning) (i : ℕ) (d : Meaning) → i < length xs → filter_map model_place (take (i + 1) xs) ≡ filter_map model_place (take i xs) ++ option_to_list (model_place (get_or xs i d))
places_more xs i d h =
    ap (filter_map model_place) (take_more xs i d h) ∙ filter_map-append model_place (take i xs) (get_or xs i d ∷ [])
    ∙ ap (λ ys. filter_map model_place (take i xs) ++ ys) (one (model_place (get_or xs i d)))
  where
    one : (o : Option ℕ) → cons_option o [] ≡ option_to_list o
    one None = refl
    one (Some k) = refl

rows_within : (file : File) (library : Library) (ms : List Model) (surveys : List ModelSurvey) → AllZip (IsModelSurvey file library) ms surveys
    → AllByRecursion (AllByRecursion (λ k. k < length file.models)) (map (λ (s : ModelSurvey). filter_map model_place s.meanings.items) surveys)
rows_within file library [] [] all = tt
rows_within file library [] (s ∷ ss) all = absurd all
rows_within file library (m ∷ ms) [] all = absurd all
rows_within file library (m ∷ ms) (s ∷ ss) all = (places_within file library s.meanings.items all.0.within, rows_within file library ms ss all.1)

-- the rows of the places are the graph
pub graph_is : (file : File) (library : Library) (surveys : List ModelSurvey) (graph : List (List ℕ)) → AllZip (IsModelSurvey file library) file.models surveys
    → graph ≡ map (λ (s : ModelSurvey). filter_map model_place s.meanings.items) surveys → IsModelGraph file graph
graph_is file library surveys graph all e =
    record {
      each = ap length e ∙ length-map surveys (λ (s : ModelSurvey). filter_map model_place s.meanings.items) ∙ sym (zip_length (IsModelSurvey file library) file.models surveys all);
      within = subst (AllByRecursion (AllByRecursion (λ k. k < length file.models))) (sym e) (rows_within file library file.models surveys all);
      places = λ i m row at_m at_row k.
          let one = zip_right (IsModelSurvey file library) file.models surveys i m all at_m in
          let s = one.0 in
          let is : row ≡ filter_map model_place s.meanings.items
          = same_at graph (map (λ (s : ModelSurvey). filter_map model_place s.meanings.items) surveys) i row (filter_map model_place s.meanings.items) e at_row (row_at (λ (s : ModelSurvey). filter_map model_place s.meanings.items) surveys i s one.1) in (
            λ placed. let a = told file library m.statements s.meanings.items k one.2.means placed in (a.0, subst (λ (r : List ℕ). Contains r a.0) (sym is) a.1, a.2),
            λ there. named file library m.statements s.meanings.items k one.2.means (there.0, subst (λ (r : List ℕ). Contains r there.0) is there.1, there.2),
          );
    }
