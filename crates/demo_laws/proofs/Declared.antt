-- What the lines of the demo design declare, and that each may follow the one before it.
use Rattle.std.proofs.Common.{◌≡◌, refl, sym, ◌∙◌, ap, ap₂, ℕ, zero, suc, ◌+◌, ◌*◌, List, [], ◌∷◌, ◌++◌, map, codes, true, false, Some, None, arith}
use Rattle.std.specs.List.{AllByRecursion, flat_map, range_with_len, enumerate_from}
use Rattle.std.proofs.lemmas.List.{append-nil}
use Rattle.netlist_spec.specs.Netlist.{Name, Port, Located, names, Model}
use Rattle.netlist_spec.specs.Statements.{Said, model_line, inputs_line, outputs_line, clock_line, names_line, row_line, latch_line, subckt_line, end_line, EachMayFollow}
use Rattle.netlist_spec.specs.Reads.{Numbered, rows_at, cover_of, inputs_in, outputs_in, clocks_in, statements_in, statement_nets, nets_in, model_of, models_of, ports_at, first_appearances}
use Rattle.program_spec.specs.Demo.{state_bits, moved_to}
use Rattle.demo_laws.specs.DemoFile.{loaded, shown, stored, next, substituted, load, state_latch, box, choice, copy, boxes, demo_statements, on_line, demo_located, input_names, output_names, demo_model}
use Rattle.demo_laws.specs.DemoLaws.{IsDemoSize}
use Rattle.demo_laws.proofs.Ranges.{flat_append, flat_mapped}
use Rattle.demo_laws.proofs.Parts.{flat_statements}
use Rattle.demo_laws.proofs.Lines.{latch_said, box_said, choices, copies, body, inner_lines, IsInner, body_inner}
use Rattle.netlist_spec.proofs.FollowingLines.{IsInModel, IsOpen, IsFree, free_follow, MayComeNext, end_next, body_all, no_models}

-- ---- which line may follow which

lines_next : (f : ℕ → Said) → ((i : ℕ) → IsOpen (f i) × IsFree (f i)) → (is : List ℕ) (rest : List Said) → MayComeNext rest → MayComeNext (map f is ++ rest)
lines_next f h [] rest r a o = r a o
lines_next f h (i ∷ is) rest r a o = (free_follow a (f i) o (h i).1, lines_next f h is rest r (f i) (h i).0)

choices_next : (n : ℕ) (is : List ℕ) (rest : List Said) → MayComeNext rest → MayComeNext (choices n is ++ rest)
choices_next n [] rest r a o = r a o
choices_next n (i ∷ is) rest r a o =
    let head : Said = names_line (load ∷ loaded (moved_to n i) ∷ substituted i ∷ []) (next (moved_to n i)) in
    (free_follow a head o tt, (refl, ((refl, refl), choices_next n is rest r (row_line (Some false ∷ None ∷ Some true ∷ []) true) tt)))

copies_next : (is : List ℕ) (rest : List Said) → MayComeNext rest → MayComeNext (copies is ++ rest)
copies_next [] rest r a o = r a o
copies_next (i ∷ is) rest r a o =
    (free_follow a (names_line (stored i ∷ []) (shown i)) o tt, (refl, copies_next is rest r (row_line (Some true ∷ []) true) tt))

body_next : (n : ℕ) → MayComeNext (body n)
body_next n =
    lines_next latch_said (λ i. (tt, tt)) (state_bits n) (map box_said (boxes n) ++ (choices n (state_bits n) ++ (copies (state_bits n) ++ end_line ∷ [])))
    (lines_next box_said (λ j. (tt, tt)) (boxes n) (choices n (state_bits n) ++ (copies (state_bits n) ++ end_line ∷ []))
    (choices_next n (state_bits n) (copies (state_bits n) ++ end_line ∷ []) (copies_next (state_bits n) (end_line ∷ []) end_next)))

pub demo_follows : (n : ℕ) → EachMayFollow (model_line (codes "demo") ∷ inner_lines n)
demo_follows n = (tt, (tt, body_next n (outputs_line (output_names n)) tt))

-- ---- one model

in_model : (ls : List Said) → AllByRecursion IsInner ls → AllByRecursion IsInModel ls
in_model [] h = tt
in_model (l ∷ ls) h = (h.0.in_model, in_model ls h.1)

-- ---- ports

none_in : (g : Numbered → List Port) (P : Said → Type 0) → ((said : Said) → P said → (k : ℕ) → g (k, said) ≡ []) → (k : ℕ) (ls : List Said) → AllByRecursion P ls → flat_map g (enumerate_from k ls) ≡ []
none_in g P none k [] h = refl
none_in g P none k (l ∷ ls) h = ap₂ (λ a b. a ++ b) (none l h.0 k) (none_in g P none (k + 1) ls h.1)

-- ---- nets

abbrev said_nets : Said → List Name
said_nets said = nets_in (0, said)

nets_by_line : (k : ℕ) (said : Said) → nets_in (k, said) ≡ said_nets said
nets_by_line k (model_line name) = refl
nets_by_line k (inputs_line ports) = refl
nets_by_line k (outputs_line ports) = refl
nets_by_line k (clock_line ports) = refl
nets_by_line k (names_line ins out) = refl
nets_by_line k (row_line cells last) = refl
nets_by_line k (latch_line d q clocking init) = refl
nets_by_line k (subckt_line model binds) = refl
nets_by_line k end_line = refl

nets_unnumbered : (k : ℕ) (ls : List Said) → flat_map nets_in (enumerate_from k ls) ≡ flat_map said_nets ls
nets_unnumbered k [] = refl
nets_unnumbered k (l ∷ ls) = ap₂ (λ a b. a ++ b) (nets_by_line k l) (nets_unnumbered (k + 1) ls)

choice_nets : (n : ℕ) (is : List ℕ) → flat_map said_nets (choices n is) ≡ flat_map (λ i. statement_nets (choice n i)) is
choice_nets n [] = refl
choice_nets n (i ∷ is) = ap (λ l. statement_nets (choice n i) ++ l) (choice_nets n is)

copy_nets : (is : List ℕ) → flat_map said_nets (copies is) ≡ flat_map (λ i. statement_nets (copy i)) is
copy_nets [] = refl
copy_nets (i ∷ is) = ap (λ l. statement_nets (copy i) ++ l) (copy_nets is)

latch_nets : (is : List ℕ) → flat_map said_nets (map latch_said is) ≡ flat_map (λ i. statement_nets (state_latch i)) is
latch_nets is = flat_mapped said_nets latch_said is

box_nets : (is : List ℕ) → flat_map said_nets (map box_said is) ≡ flat_map (λ i. statement_nets (box i)) is
box_nets is = flat_mapped said_nets box_said is

end_nets : flat_map said_nets (end_line ∷ []) ≡ []
end_nets = refl

body_nets : (n : ℕ) → flat_map said_nets (body n) ≡ flat_map statement_nets (demo_statements n)
body_nets n =
    flat_append said_nets (map latch_said (state_bits n)) (map box_said (boxes n) ++ (choices n (state_bits n) ++ (copies (state_bits n) ++ end_line ∷ [])))
    ∙ ap₂ (λ a b. a ++ b) (latch_nets (state_bits n))
    (flat_append said_nets (map box_said (boxes n)) (choices n (state_bits n) ++ (copies (state_bits n) ++ end_line ∷ []))
    ∙ ap₂ (λ a b. a ++ b) (box_nets (boxes n))
    (flat_append said_nets (choices n (state_bits n)) (copies (state_bits n) ++ end_line ∷ [])
    ∙ ap₂ (λ a b. a ++ b) (choice_nets n (state_bits n))
    (flat_append said_nets (copies (state_bits n)) (end_line ∷ []) ∙ ap₂ (λ a b. a ++ b) (copy_nets (state_bits n)) end_nets ∙ append-nil (flat_map (λ i. statement_nets (copy i)) (state_bits n)))))
    ∙ sym (flat_statements n statement_nets)

inner_nets : (n k : ℕ) → flat_map nets_in (enumerate_from k (inner_lines n)) ≡ input_names n ++ (output_names n ++ flat_map statement_nets (demo_statements n))
inner_nets n k = ap (λ l. input_names n ++ (output_names n ++ l)) (nets_unnumbered (k + 1 + 1) (body n) ∙ body_nets n)

-- ---- statements

latches_declared : (a m k c : ℕ) (ys : List Said) → k ≡ c + a
    → statements_in (enumerate_from k (map latch_said (range_with_len a m) ++ ys)) ≡ map (λ i. on_line (c + i) (state_latch i)) (range_with_len a m) ++ statements_in (enumerate_from (k + m) ys)
latches_declared a zero k c ys e = ap (λ j. statements_in (enumerate_from j ys)) (omega arith)
latches_declared a (suc m) k c ys e =
    ap₂ (λ (j : ℕ) (l : List Located). on_line j (state_latch a) ∷ l) e
    (latches_declared (a + 1) m (k + 1) c ys (omega arith) ∙ ap (λ j. map (λ i. on_line (c + i) (state_latch i)) (range_with_len (a + 1) m) ++ statements_in (enumerate_from j ys)) (omega arith))

boxes_declared : (a m k c : ℕ) (ys : List Said) → k ≡ c + a
    → statements_in (enumerate_from k (map box_said (range_with_len a m) ++ ys)) ≡ map (λ j. on_line (c + j) (box j)) (range_with_len a m) ++ statements_in (enumerate_from (k + m) ys)
boxes_declared a zero k c ys e = ap (λ j. statements_in (enumerate_from j ys)) (omega arith)
boxes_declared a (suc m) k c ys e =
    ap₂ (λ (j : ℕ) (l : List Located). on_line j (box a) ∷ l) e
    (boxes_declared (a + 1) m (k + 1) c ys (omega arith) ∙ ap (λ j. map (λ i. on_line (c + i) (box i)) (range_with_len (a + 1) m) ++ statements_in (enumerate_from j ys)) (omega arith))

abbrev HasNoRowsAtFront : List Said → Type 0
HasNoRowsAtFront ys = (k : ℕ) → rows_at (enumerate_from k ys) ≡ []

choices_front : (n : ℕ) (is : List ℕ) (ys : List Said) → HasNoRowsAtFront ys → HasNoRowsAtFront (choices n is ++ ys)
choices_front n [] ys h k = h k
choices_front n (i ∷ is) ys h k = refl

copies_front : (is : List ℕ) (ys : List Said) → HasNoRowsAtFront ys → HasNoRowsAtFront (copies is ++ ys)
copies_front [] ys h k = h k
copies_front (i ∷ is) ys h k = refl

choices_declared : (n a m k c : ℕ) (ys : List Said) → HasNoRowsAtFront ys → k ≡ c + 3 * a
    → statements_in (enumerate_from k (choices n (range_with_len a m) ++ ys)) ≡ map (λ i. on_line (c + 3 * i) (choice n i)) (range_with_len a m) ++ statements_in (enumerate_from (k + 3 * m) ys)
choices_declared n a zero k c ys h e = ap (λ j. statements_in (enumerate_from j ys)) (omega arith)
choices_declared n a (suc m) k c ys h e =
    let behind : List Said = choices n (range_with_len (a + 1) m) ++ ys in
    let none = choices_front n (range_with_len (a + 1) m) ys h (k + 1 + 1 + 1) in
    let later = choices_declared n (a + 1) m (k + 1 + 1 + 1) c ys h (omega arith) in
    let last : k + 1 + 1 + 1 + 3 * m ≡ k + 3 * suc m = omega arith in
    ap₂ (λ (j : ℕ) (l : List Located). on_line j (names (load ∷ loaded (moved_to n a) ∷ substituted a ∷ []) (next (moved_to n a)) (cover_of (((Some true ∷ Some true ∷ None ∷ []), true) ∷ ((Some false ∷ None ∷ Some true ∷ []), true) ∷ rows_at (enumerate_from (k + 1 + 1 + 1) behind)))) ∷ l) e
    (later ∙ ap (λ j. map (λ i. on_line (c + 3 * i) (choice n i)) (range_with_len (a + 1) m) ++ statements_in (enumerate_from j ys)) last)
    ∙ ap (λ rows. on_line (c + 3 * a) (names (load ∷ loaded (moved_to n a) ∷ substituted a ∷ []) (next (moved_to n a)) (cover_of (((Some true ∷ Some true ∷ None ∷ []), true) ∷ ((Some false ∷ None ∷ Some true ∷ []), true) ∷ rows)))
    ∷ (map (λ i. on_line (c + 3 * i) (choice n i)) (range_with_len (a + 1) m) ++ statements_in (enumerate_from (k + 3 * suc m) ys))) none

copies_declared : (a m k c : ℕ) (ys : List Said) → HasNoRowsAtFront ys → k ≡ c + 2 * a
    → statements_in (enumerate_from k (copies (range_with_len a m) ++ ys)) ≡ map (λ i. on_line (c + 2 * i) (copy i)) (range_with_len a m) ++ statements_in (enumerate_from (k + 2 * m) ys)
copies_declared a zero k c ys h e = ap (λ j. statements_in (enumerate_from j ys)) (omega arith)
copies_declared a (suc m) k c ys h e =
    let behind : List Said = copies (range_with_len (a + 1) m) ++ ys in
    let none = copies_front (range_with_len (a + 1) m) ys h (k + 1 + 1) in
    let later = copies_declared (a + 1) m (k + 1 + 1) c ys h (omega arith) in
    let last : k + 1 + 1 + 2 * m ≡ k + 2 * suc m = omega arith in
    ap₂ (λ (j : ℕ) (l : List Located). on_line j (names (stored a ∷ []) (shown a) (cover_of (((Some true ∷ []), true) ∷ rows_at (enumerate_from (k + 1 + 1) behind)))) ∷ l) e
    (later ∙ ap (λ j. map (λ i. on_line (c + 2 * i) (copy i)) (range_with_len (a + 1) m) ++ statements_in (enumerate_from j ys)) last)
    ∙ ap (λ rows. on_line (c + 2 * a) (names (stored a ∷ []) (shown a) (cover_of (((Some true ∷ []), true) ∷ rows)))
    ∷ (map (λ i. on_line (c + 2 * i) (copy i)) (range_with_len (a + 1) m) ++ statements_in (enumerate_from (k + 2 * suc m) ys))) none

pub statements_declared : (n : ℕ) → statements_in (enumerate_from 4 (body n)) ≡ demo_located n
statements_declared n =
    let b : ℕ = 4 * n in
    let ending : List Said = end_line ∷ [] in
    let copied : List Said = copies (state_bits n) ++ ending in
    let chosen : List Said = choices n (state_bits n) ++ copied in
    let no_end : HasNoRowsAtFront ending = λ k. refl in
    latches_declared 0 (4 * n) 4 4 (map box_said (boxes n) ++ chosen) refl
    ∙ ap (λ l. map (λ i. on_line (4 + i) (state_latch i)) (state_bits n) ++ l)
    (boxes_declared 0 n (4 + 4 * n) (4 + 4 * n) chosen (omega arith)
    ∙ ap (λ l. map (λ j. on_line (4 + 4 * n + j) (box j)) (boxes n) ++ l)
    (choices_declared n 0 (4 * n) (4 + 4 * n + n) (4 + 5 * n) copied (copies_front (state_bits n) ending no_end) (omega arith)
    ∙ ap (λ l. map (λ i. on_line (4 + 5 * n + 3 * i) (choice n i)) (state_bits n) ++ l)
    (copies_declared 0 (4 * n) (4 + 4 * n + n + 3 * (4 * n)) (4 + 17 * n) ending no_end (omega arith)
    ∙ append-nil (map (λ i. on_line (4 + 17 * n + 2 * i) (copy i)) (state_bits n)))))

-- ---- the model

module _ (n : ℕ) (size : IsDemoSize n) where
  all_in_model : AllByRecursion IsInModel (inner_lines n)
  all_in_model = (tt, (tt, in_model (body n) (body_inner n size)))

  abbrev numbered_lines : List Numbered
  numbered_lines = enumerate_from 2 (inner_lines n)

  inputs_declared : flat_map inputs_in numbered_lines ≡ ports_at 2 (input_names n)
  inputs_declared =
      ap (λ l. ports_at 2 (input_names n) ++ l) (none_in inputs_in IsInner (λ said h. h.no_inputs) 4 (body n) (body_inner n size)) ∙ append-nil (ports_at 2 (input_names n))

  outputs_declared : flat_map outputs_in numbered_lines ≡ ports_at 3 (output_names n)
  outputs_declared =
      ap (λ l. ports_at 3 (output_names n) ++ l) (none_in outputs_in IsInner (λ said h. h.no_outputs) 4 (body n) (body_inner n size)) ∙ append-nil (ports_at 3 (output_names n))

  clocks_declared : flat_map clocks_in numbered_lines ≡ []
  clocks_declared = none_in clocks_in IsInner (λ said h. h.no_clocks) 4 (body n) (body_inner n size)

  made : (nets : List Name) (inputs outputs clocks : List Port) (ss : List Located) → nets ≡ input_names n ++ (output_names n ++ flat_map statement_nets (demo_statements n))
      → inputs ≡ ports_at 2 (input_names n) → outputs ≡ ports_at 3 (output_names n) → clocks ≡ [] → ss ≡ demo_located n
      → record { name = codes "demo"; line = 1; names = first_appearances nets; inputs = inputs; outputs = outputs; clocks = clocks; statements = ss } ≡ demo_model n
  made nets inputs outputs clocks ss a b c d e = λ i. record { name = codes "demo"; line = 1; names = first_appearances (a i); inputs = b i; outputs = c i; clocks = d i; statements = e i }

  model_declared : model_of 1 (codes "demo") numbered_lines ≡ demo_model n
  model_declared = made (flat_map nets_in numbered_lines) (flat_map inputs_in numbered_lines) (flat_map outputs_in numbered_lines) (flat_map clocks_in numbered_lines) (statements_in numbered_lines) (inner_nets n 2) inputs_declared outputs_declared clocks_declared (statements_declared n)

  pub models_declared : models_of (enumerate_from 1 (model_line (codes "demo") ∷ inner_lines n)) ≡ demo_model n ∷ []
  models_declared =
      ap₂ (λ (lines : List Numbered) (more : List Model). model_of 1 (codes "demo") lines ∷ more) (body_all 2 (inner_lines n) all_in_model) (no_models 2 (inner_lines n) all_in_model)
      ∙ ap (λ m. m ∷ []) model_declared
