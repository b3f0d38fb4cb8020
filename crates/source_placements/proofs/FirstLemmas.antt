-- The first answer along the lines of a model, where only statements have answers.
use Rattle.std.proofs.Common.{◌≡◌, refl, sym, ◌∙◌, ap, ℕ, ◌+◌, ◌<◌, ◌≤◌, List, [], ◌∷◌, ◌++◌, length, map, get_or, drop, Bool, true, false, cond, Option, Some, None, slice_get, nat_le, arith, add-one, drop-cons}
use Rattle.std.specs.List.{AllByRecursion}
use Rattle.std.specs.Option.{option_or}
use Rattle.std.proofs.lemmas.List.{drop_all}
use Rattle.std.proofs.lemmas.Option.{slice_get_read}
use Rattle.netlist_spec.specs.Netlist.{Name, Port, Located, Model}
use Rattle.netlist_spec.specs.FileOrder.{Declared, an_input, an_output, a_clock, a_statement, Item, port_items, statement_items, port_items_of, place_item, by_line, items_of, first_answer}
use Rattle.netlist_spec.proofs.OneValue.{All_append}
use Rattle.blif_read.specs.declared.file.Located.{Located as ReadLocated}
use Rattle.blif_read.specs.declared.file.Model.{Model as ReadModel}
use Rattle.blif_read.specs.View.{statement_of, located_of, model_of}
use Rattle.line_order.specs.Merge.{Rise, AreByLine}
use Rattle.source_nets.proofs.SurveyLemmas.{row_at}

-- ---- along a list

abbrev pub first_some : {A B : Type 0} → (A → Option B) → List A → Option B
first_some f [] = None
first_some f (x ∷ xs) = option_or (f x) (first_some f xs)

module _ {A B : Type 0} (f : A → Option B) (xs : List A) (i : ℕ) where
  one_step : (d : A) → i < length xs → first_some f (drop i xs) ≡ option_or (f (get_or xs i d)) (first_some f (drop (i + 1) xs))
  one_step d h =
      ap (first_some f) (drop-cons xs i d h) ∙ ap (λ (k : ℕ). option_or (f (get_or xs i d)) (first_some f (drop k xs))) (sym (add-one i))

  pub goes_on_at : (d : A) → i < length xs → f (get_or xs i d) ≡ None → first_some f (drop (i + 1) xs) ≡ first_some f (drop i xs)
  goes_on_at d h none = sym (one_step d h ∙ ap (λ o. option_or o (first_some f (drop (i + 1) xs))) none)

  pub is_found_at : (d : A) (b : B) → i < length xs → f (get_or xs i d) ≡ Some b → first_some f (drop i xs) ≡ Some b
  is_found_at d b h some = one_step d h ∙ ap (λ o. option_or o (first_some f (drop (i + 1) xs))) some

  pub goes_on : (x : A) → i < length xs → x ≡ get_or xs i x → f x ≡ None → first_some f (drop (i + 1) xs) ≡ first_some f (drop i xs)
  goes_on x h is none = goes_on_at x h (ap f (sym is) ∙ none)

  pub is_found : (x : A) (b : B) → i < length xs → x ≡ get_or xs i x → f x ≡ Some b → first_some f (drop i xs) ≡ Some b
  is_found x b h is some = is_found_at x b h (ap f (sym is) ∙ some)

  pub none_left : length xs ≤ i → first_some f (drop i xs) ≡ None
  none_left h = ap (first_some f) (drop_all i xs h)

pub first_mapped : {A B C : Type 0} (f : B → Option C) (g : A → B) (xs : List A) → first_some f (map g xs) ≡ first_some (λ x. f (g x)) xs
first_mapped f g [] = refl
first_mapped f g (x ∷ xs) = ap (option_or (f (g x))) (first_mapped f g xs)

-- ---- along the lines of a model

module _ {A : Type 0} (answer : Declared → Option A) where
  abbrev at_item : Item → Option A
  at_item i = answer i.what

  answer_along : (earlier xs : List Item) → first_answer (λ earlier i. answer i.what) earlier xs ≡ first_some at_item xs
  answer_along earlier [] = refl
  answer_along earlier (x ∷ xs) = ap (option_or (answer x.what)) (answer_along (earlier ++ x ∷ []) xs)

  passed_over : (x : Item) (ys : List Item) → answer x.what ≡ None → first_some at_item (place_item x ys) ≡ first_some at_item ys
  passed_over x [] h = ap (λ o. option_or o None) h
  passed_over x (y ∷ ys) h = go (nat_le x.line y.line) (passed_over x ys h)
    where
      go : (t : Bool) → first_some at_item (place_item x ys) ≡ first_some at_item ys → first_some at_item (cond t (x ∷ y ∷ ys) (y ∷ place_item x ys)) ≡ first_some at_item (y ∷ ys)
      go true rest = ap (λ o. option_or o (first_some at_item (y ∷ ys))) h
      go false rest = ap (option_or (answer y.what)) rest

  all_passed_over : (xs ys : List Item) → AllByRecursion (λ (x : Item). answer x.what ≡ None) xs → first_some at_item (by_line (xs ++ ys)) ≡ first_some at_item (by_line ys)
  all_passed_over [] ys h = refl
  all_passed_over (x ∷ xs) ys h = passed_over x (by_line (xs ++ ys)) h.0 ∙ all_passed_over xs ys h.1

  no_ports : (kind : Name → Declared) → ((n : Name) → answer (kind n) ≡ None) → (ps : List Port) → AllByRecursion (λ (x : Item). answer x.what ≡ None) (port_items kind ps)
  no_ports kind none [] = tt
  no_ports kind none (p ∷ ps) = (none p.name, no_ports kind none ps)

  of_statements : (ss : List Located) → first_some at_item (statement_items ss) ≡ first_some (λ (s : Located). answer (a_statement s.what)) ss
  of_statements [] = refl
  of_statements (s ∷ ss) = ap (option_or (answer (a_statement s.what))) (of_statements ss)

  -- The first answer over the items of a model is the first over its statements, where ports have none.
  pub first_statement : ((n : Name) → answer (an_input n) ≡ None) → ((n : Name) → answer (an_output n) ≡ None) → ((n : Name) → answer (a_clock n) ≡ None) → (m : Model) → AreByLine m
      → first_answer (λ earlier i. answer i.what) [] (items_of m) ≡ first_some (λ (s : Located). answer (a_statement s.what)) m.statements
  first_statement input output clock m lines =
      let none : Item → Type 0 = λ x. answer x.what ≡ None in
      let inputs = port_items (λ n. an_input n) m.inputs in
      let outputs = port_items (λ n. an_output n) m.outputs in
      let clocks = port_items (λ n. a_clock n) m.clocks in
      let ports : AllByRecursion none (port_items_of m) =
      All_append none (inputs ++ outputs) clocks (All_append none inputs outputs (no_ports (λ n. an_input n) input m.inputs) (no_ports (λ n. an_output n) output m.outputs)) (no_ports (λ n. a_clock n) clock m.clocks) in
      answer_along [] (items_of m)
      ∙ all_passed_over (port_items_of m) (statement_items m.statements) ports
      ∙ ap (first_some at_item) (in_order m.statements lines.statements)
      ∙ of_statements m.statements
    where
      placed_first : (s : Located) (ss : List Located) → AllByRecursion (λ k. s.line ≤ k) (map (λ (x : Located). x.line) ss)
          → place_item (record { line = s.line; what = a_statement s.what }) (statement_items ss) ≡ statement_items (s ∷ ss)
      placed_first s [] h = refl
      placed_first s (k ∷ ss) h = ap (λ (t : Bool). cond t (statement_items (s ∷ k ∷ ss)) (record { line = k.line; what = a_statement k.what } ∷ place_item (record { line = s.line; what = a_statement s.what }) (statement_items ss))) (at_most s.line k.line h.0)
        where
          at_most : (a b : ℕ) → a ≤ b → nat_le a b ≡ true
          at_most a b l = grind arith

      in_order : (ss : List Located) → Rise (map (λ (s : Located). s.line) ss) → by_line (statement_items ss) ≡ statement_items ss
      in_order [] r = refl
      in_order (s ∷ ss) r = ap (place_item (record { line = s.line; what = a_statement s.what })) (in_order ss r.1) ∙ placed_first s ss r.0

  -- likewise over the statements that were read
  pub first_read : ((n : Name) → answer (an_input n) ≡ None) → ((n : Name) → answer (an_output n) ≡ None) → ((n : Name) → answer (a_clock n) ≡ None) → (m : ReadModel) (ss : List ReadLocated) → AreByLine (model_of m) → ss ≡ m.statements.items
      → first_answer (λ earlier i. answer i.what) [] (items_of (model_of m)) ≡ first_some (λ (s : ReadLocated). answer (a_statement (statement_of m.names s.what))) ss
  first_read input output clock m ss lines same =
      first_statement input output clock (model_of m) lines
      ∙ first_mapped (λ (s : Located). answer (a_statement s.what)) (located_of m.names) m.statements.items
      ∙ ap (first_some (λ (s : ReadLocated). answer (a_statement (statement_of m.names s.what)))) (sym same)

-- a statement that was read, at its place
pub statement_at : (m : ReadModel) (ss : List ReadLocated) (i : ℕ) (s : ReadLocated) → ss ≡ m.statements.items → i < length ss → s ≡ get_or ss i s → slice_get (model_of m).statements i ≡ Some (located_of m.names s)
statement_at m ss i s same h is =
    row_at (located_of m.names) m.statements.items i s (ap (λ xs. slice_get xs i) (sym same) ∙ slice_get_read ss (length ss) i s refl h is)
