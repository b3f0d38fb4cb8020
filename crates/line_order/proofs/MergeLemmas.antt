-- The first of four lists that are merged by their lines.
use Rattle.std.proofs.Common.{◌≡◌, refl, sym, ◌∙◌, ap, subst, ℕ, zero, suc, ◌+◌, ◌<◌, ◌≤◌, List, [], ◌∷◌, ◌++◌, map, length, drop, get_or, Bool, true, false, cond, Option, nat_le, arith, append_assoc, add-one, drop-cons}
use Rattle.std.specs.List.{AllByRecursion}
use Rattle.netlist_spec.specs.Netlist.{Name, Port, Located, Model}
use Rattle.netlist_spec.specs.FileOrder.{Declared, an_input, an_output, a_clock, a_statement, Item, port_items, statement_items, place_item, by_line, items_of}
use Rattle.netlist_spec.specs.FileRules.{NeverFall, HasLines}
use Rattle.netlist_spec.proofs.OneValue.{All_append, All_by_line}
use Rattle.blif_read.specs.declared.file.Port.{Port as ReadPort}
use Rattle.blif_read.specs.declared.file.Located.{Located as ReadLocated}
use Rattle.blif_read.specs.declared.file.Model.{Model as ReadModel}
use Rattle.blif_read.specs.View.{name_at, statement_of, port_of, located_of, model_of}
use Rattle.line_order.specs.declared.merge.Place.TheVariants.{Input, Output, Clock, Statement as AStatement}
use Rattle.line_order.specs.declared.merge.Passed.{Passed}
use Rattle.line_order.specs.Merge.{no_item, item_at, items_left, inputs_in, outputs_in, clocks_in, statements_in, Rise, AreByLine}

abbrev pub lines : List Item → List ℕ
lines xs = map (λ (x : Item). x.line) xs

-- behind each line
abbrev pub end : ℕ
end = 4294967296

placed_least : (b : Item) (ys : List Item) → AllByRecursion (λ (y : Item). b.line ≤ y.line) ys → place_item b ys ≡ b ∷ ys
placed_least b [] h = refl
placed_least b (y ∷ ys) h = ap (λ (t : Bool). cond t (b ∷ y ∷ ys) (y ∷ place_item b ys)) (at_most b.line y.line h.0)
  where
    at_most : (m n : ℕ) → m ≤ n → nat_le m n ≡ true
    at_most m n k = grind arith

-- An item that stands on a line before those in front of it and on no later line than those behind it comes first.
least_first : (xs : List Item) (b : Item) (ys : List Item) → AllByRecursion (λ (x : Item). b.line < x.line) xs → AllByRecursion (λ (y : Item). b.line ≤ y.line) ys
    → by_line (xs ++ b ∷ ys) ≡ b ∷ by_line (xs ++ ys)
least_first [] b ys h k = placed_least b (by_line ys) (All_by_line (λ (y : Item). b.line ≤ y.line) ys k)
least_first (x ∷ xs) b ys h k =
    ap (place_item x) (least_first xs b ys h.1 k)
    ∙ ap (λ (t : Bool). cond t (x ∷ b ∷ by_line (xs ++ ys)) (b ∷ place_item x (by_line (xs ++ ys)))) (above x.line b.line h.0)
  where
    above : (m n : ℕ) → n < m → nat_le m n ≡ false
    above m n k = grind arith

weaker : (P Q : Item → Type 0) → ((x : Item) → P x → Q x) → (xs : List Item) → AllByRecursion P xs → AllByRecursion Q xs
weaker P Q f [] a = tt
weaker P Q f (x ∷ xs) a = (f x a.0, weaker P Q f xs a.1)

from_lines : (n : ℕ) (xs : List Item) → AllByRecursion (λ k. n ≤ k) (lines xs) → AllByRecursion (λ (x : Item). n ≤ x.line) xs
from_lines n [] a = tt
from_lines n (x ∷ xs) a = (a.0, from_lines n xs a.1)

-- the items from a place on, where their lines rise
bound : (xs : List Item) (i : ℕ) → Rise (lines xs) → AllByRecursion (λ (x : Item). get_or (lines xs) i end ≤ x.line) (drop i xs)
bound [] zero r = tt
bound [] (suc i) r = tt
bound (x ∷ xs) zero r = (omega arith, from_lines x.line xs r.0)
bound (x ∷ xs) (suc i) r = bound xs i r.1

line_of_place : (xs : List Item) (i : ℕ) → i < length xs → get_or (lines xs) i end ≡ (get_or xs i no_item).line
line_of_place [] i h = absurd (omega arith)
line_of_place (x ∷ xs) zero h = refl
line_of_place (x ∷ xs) (suc i) h = line_of_place xs i (omega arith)

opened : (xs : List Item) (i : ℕ) → i < length xs → drop i xs ≡ get_or xs i no_item ∷ drop (i + 1) xs
opened xs i h = drop-cons xs i no_item h ∙ ap (λ k. get_or xs i no_item ∷ drop k xs) (sym (add-one i))

module _ (A B C D : List Item) (i o k s : ℕ) (ra : Rise (lines A)) (rb : Rise (lines B)) (rc : Rise (lines C)) (rd : Rise (lines D)) where
  abbrev la : ℕ
  la = get_or (lines A) i end

  abbrev lb : ℕ
  lb = get_or (lines B) o end

  abbrev lc : ℕ
  lc = get_or (lines C) k end

  abbrev ld : ℕ
  ld = get_or (lines D) s end

  raised : (n low : ℕ) → n ≤ low → (xs : List Item) → AllByRecursion (λ (x : Item). low ≤ x.line) xs → AllByRecursion (λ (x : Item). n ≤ x.line) xs
  raised n low h xs a = weaker (λ (x : Item). low ≤ x.line) (λ (x : Item). n ≤ x.line) (λ x l. omega arith) xs a

  behind : (n low : ℕ) → n < low → (xs : List Item) → AllByRecursion (λ (x : Item). low ≤ x.line) xs → AllByRecursion (λ (x : Item). n < x.line) xs
  behind n low h xs a = weaker (λ (x : Item). low ≤ x.line) (λ (x : Item). n < x.line) (λ x l. omega arith) xs a

  tail_of : (xs : List Item) (j : ℕ) → Rise (lines xs) → j < length xs → AllByRecursion (λ (x : Item). (get_or xs j no_item).line ≤ x.line) (drop (j + 1) xs)
  tail_of xs j r h =
      subst (λ n. AllByRecursion (λ (x : Item). n ≤ x.line) (drop (j + 1) xs)) (line_of_place xs j h)
      (subst (λ ys. AllByRecursion (λ (x : Item). get_or (lines xs) j end ≤ x.line) ys) (opened xs j h) (bound xs j r)).1

  pub first_list : i < length A → la ≤ lb → la ≤ lc → la ≤ ld
      → by_line (drop i A ++ (drop o B ++ (drop k C ++ drop s D))) ≡ get_or A i no_item ∷ by_line (drop (i + 1) A ++ (drop o B ++ (drop k C ++ drop s D)))
  first_list h eb ec ed =
      let a = get_or A i no_item in
      let e : la ≡ a.line = line_of_place A i h in
      ap (λ xs. by_line (xs ++ (drop o B ++ (drop k C ++ drop s D)))) (opened A i h)
      ∙ least_first [] a (drop (i + 1) A ++ (drop o B ++ (drop k C ++ drop s D))) tt
      (All_append (λ (x : Item). a.line ≤ x.line) (drop (i + 1) A) _ (tail_of A i ra h)
      (All_append (λ (x : Item). a.line ≤ x.line) (drop o B) _ (raised a.line lb (omega arith) (drop o B) (bound B o rb))
      (All_append (λ (x : Item). a.line ≤ x.line) (drop k C) _ (raised a.line lc (omega arith) (drop k C) (bound C k rc))
      (raised a.line ld (omega arith) (drop s D) (bound D s rd)))))

  pub second_list : o < length B → lb < la → lb ≤ lc → lb ≤ ld
      → by_line (drop i A ++ (drop o B ++ (drop k C ++ drop s D))) ≡ get_or B o no_item ∷ by_line (drop i A ++ (drop (o + 1) B ++ (drop k C ++ drop s D)))
  second_list h ea ec ed =
      let b = get_or B o no_item in
      let e : lb ≡ b.line = line_of_place B o h in
      ap (λ xs. by_line (drop i A ++ (xs ++ (drop k C ++ drop s D)))) (opened B o h)
      ∙ least_first (drop i A) b (drop (o + 1) B ++ (drop k C ++ drop s D)) (behind b.line la (omega arith) (drop i A) (bound A i ra))
      (All_append (λ (x : Item). b.line ≤ x.line) (drop (o + 1) B) _ (tail_of B o rb h)
      (All_append (λ (x : Item). b.line ≤ x.line) (drop k C) _ (raised b.line lc (omega arith) (drop k C) (bound C k rc))
      (raised b.line ld (omega arith) (drop s D) (bound D s rd))))

  pub third_list : k < length C → lc < la → lc < lb → lc ≤ ld
      → by_line (drop i A ++ (drop o B ++ (drop k C ++ drop s D))) ≡ get_or C k no_item ∷ by_line (drop i A ++ (drop o B ++ (drop (k + 1) C ++ drop s D)))
  third_list h ea eb ed =
      let c = get_or C k no_item in
      let e : lc ≡ c.line = line_of_place C k h in
      ap (λ xs. by_line (drop i A ++ (drop o B ++ (xs ++ drop s D)))) (opened C k h)
      ∙ (ap by_line (sym (append_assoc (drop i A) (drop o B) (c ∷ (drop (k + 1) C ++ drop s D))))
      ∙ (least_first (drop i A ++ drop o B) c (drop (k + 1) C ++ drop s D)
      (All_append (λ (x : Item). c.line < x.line) (drop i A) _ (behind c.line la (omega arith) (drop i A) (bound A i ra)) (behind c.line lb (omega arith) (drop o B) (bound B o rb)))
      (All_append (λ (x : Item). c.line ≤ x.line) (drop (k + 1) C) _ (tail_of C k rc h) (raised c.line ld (omega arith) (drop s D) (bound D s rd)))
      ∙ ap (λ xs. c ∷ by_line xs) (append_assoc (drop i A) (drop o B) (drop (k + 1) C ++ drop s D))))

  pub fourth_list : s < length D → ld < la → ld < lb → ld < lc
      → by_line (drop i A ++ (drop o B ++ (drop k C ++ drop s D))) ≡ get_or D s no_item ∷ by_line (drop i A ++ (drop o B ++ (drop k C ++ drop (s + 1) D)))
  fourth_list h ea eb ec =
      let d = get_or D s no_item in
      let e : ld ≡ d.line = line_of_place D s h in
      let front = drop i A ++ (drop o B ++ drop k C) in
      let joined : (rest : List Item) → drop i A ++ (drop o B ++ (drop k C ++ rest)) ≡ front ++ rest =
      λ rest. ap (λ xs. drop i A ++ xs) (sym (append_assoc (drop o B) (drop k C) rest)) ∙ sym (append_assoc (drop i A) (drop o B ++ drop k C) rest) in
      ap (λ xs. by_line (drop i A ++ (drop o B ++ (drop k C ++ xs)))) (opened D s h)
      ∙ (ap by_line (joined (d ∷ drop (s + 1) D))
      ∙ (least_first front d (drop (s + 1) D)
      (All_append (λ (x : Item). d.line < x.line) (drop i A) _ (behind d.line la (omega arith) (drop i A) (bound A i ra))
      (All_append (λ (x : Item). d.line < x.line) (drop o B) _ (behind d.line lb (omega arith) (drop o B) (bound B o rb)) (behind d.line lc (omega arith) (drop k C) (bound C k rc))))
      (tail_of D s rd h)
      ∙ ap (λ xs. d ∷ by_line xs) (sym (joined (drop (s + 1) D)))))

-- lines in place of items
pub port_lines : (kind : Name → Declared) (all : List Name) (ps : List ReadPort) → lines (port_items kind (map (port_of all) ps)) ≡ map (λ (p : ReadPort). p.line) ps
port_lines kind all [] = refl
port_lines kind all (p ∷ ps) = ap (λ ns. p.line ∷ ns) (port_lines kind all ps)

pub statement_lines : (all : List Name) (ss : List ReadLocated) → lines (statement_items (map (located_of all) ss)) ≡ map (λ (s : ReadLocated). s.line) ss
statement_lines all [] = refl
statement_lines all (s ∷ ss) = ap (λ ns. s.line ∷ ns) (statement_lines all ss)

pub port_count : (kind : Name → Declared) (all : List Name) (ps : List ReadPort) → length (port_items kind (map (port_of all) ps)) ≡ length ps
port_count kind all [] = refl
port_count kind all (p ∷ ps) = ap suc (port_count kind all ps)

pub statement_count : (all : List Name) (ss : List ReadLocated) → length (statement_items (map (located_of all) ss)) ≡ length ss
statement_count all [] = refl
statement_count all (s ∷ ss) = ap suc (statement_count all ss)

own_port_lines : (kind : Name → Declared) (ps : List Port) → lines (port_items kind ps) ≡ map (λ (p : Port). p.line) ps
own_port_lines kind [] = refl
own_port_lines kind (p ∷ ps) = ap (λ ns. p.line ∷ ns) (own_port_lines kind ps)

own_statement_lines : (ss : List Located) → lines (statement_items ss) ≡ map (λ (s : Located). s.line) ss
own_statement_lines [] = refl
own_statement_lines (s ∷ ss) = ap (λ ns. s.line ∷ ns) (own_statement_lines ss)

pub rise_inputs : (m : Model) → AreByLine m → Rise (lines (inputs_in m))
rise_inputs m b = subst Rise (sym (own_port_lines _ m.inputs)) b.inputs

pub rise_outputs : (m : Model) → AreByLine m → Rise (lines (outputs_in m))
rise_outputs m b = subst Rise (sym (own_port_lines _ m.outputs)) b.outputs

pub rise_clocks : (m : Model) → AreByLine m → Rise (lines (clocks_in m))
rise_clocks m b = subst Rise (sym (own_port_lines _ m.clocks)) b.clocks

pub rise_statements : (m : Model) → AreByLine m → Rise (lines (statements_in m))
rise_statements m b = subst Rise (sym (own_statement_lines m.statements)) b.statements

-- nothing is left where all lists have been passed
pub all_passed : {X : Type 0} (xs : List X) (i : ℕ) → length xs ≤ i → drop i xs ≡ []
all_passed [] zero h = refl
all_passed [] (suc i) h = refl
all_passed (x ∷ xs) zero h = absurd (omega arith)
all_passed (x ∷ xs) (suc i) h = all_passed xs i (omega arith)

-- all items are left at first
pub all_left : (m : Model) → items_left m (record { inputs = 0; outputs = 0; clocks = 0; statements = 0 }) ≡ items_of m
all_left m =
    ap by_line (sym (append_assoc (inputs_in m ++ outputs_in m) (clocks_in m) (statements_in m) ∙ append_assoc (inputs_in m) (outputs_in m) (clocks_in m ++ statements_in m)))

-- lines that never fall rise
not_below : (low k : ℕ) (high : Option ℕ) (ns : List ℕ) → k ≤ low → NeverFall low high ns → AllByRecursion (λ n. k ≤ n) ns
not_below low k high [] h f = tt
not_below low k high (n ∷ ns) h f = let a : low ≤ n = f.0 in (omega arith, not_below n k high ns (omega arith) f.2)

never_fall_rise : (low : ℕ) (high : Option ℕ) (ns : List ℕ) → NeverFall low high ns → Rise ns
never_fall_rise low high [] f = tt
never_fall_rise low high (n ∷ ns) f = (not_below n n high ns (omega arith) f.2, never_fall_rise n high ns f.2)

pub by_line_of : (next : Option ℕ) (m : Model) → HasLines next m → AreByLine m
by_line_of next m h =
    record {
      inputs = never_fall_rise m.line next _ h.inputs;
      outputs = never_fall_rise m.line next _ h.outputs;
      clocks = never_fall_rise m.line next _ h.clocks;
      statements = never_fall_rise m.line next _ h.statements;
    }

-- The next item of a model, by the lines of the next items of its four lists.
module _ (m : ReadModel) (p : Passed) (r : AreByLine (model_of m)) (a b k s : ℕ)
    (ea : a ≡ get_or (map (λ (x : ReadPort). x.line) m.inputs.items) p.inputs end) (eb : b ≡ get_or (map (λ (x : ReadPort). x.line) m.outputs.items) p.outputs end)
    (ek : k ≡ get_or (map (λ (x : ReadPort). x.line) m.clocks.items) p.clocks end) (es : s ≡ get_or (map (λ (x : ReadLocated). x.line) m.statements.items) p.statements end) where
  abbrev M : Model
  M = model_of m

  in_a : get_or (lines (inputs_in M)) p.inputs end ≡ a
  in_a = ap (λ ns. get_or ns p.inputs end) (port_lines _ m.names m.inputs.items) ∙ sym ea

  in_b : get_or (lines (outputs_in M)) p.outputs end ≡ b
  in_b = ap (λ ns. get_or ns p.outputs end) (port_lines _ m.names m.outputs.items) ∙ sym eb

  in_k : get_or (lines (clocks_in M)) p.clocks end ≡ k
  in_k = ap (λ ns. get_or ns p.clocks end) (port_lines _ m.names m.clocks.items) ∙ sym ek

  in_s : get_or (lines (statements_in M)) p.statements end ≡ s
  in_s = ap (λ ns. get_or ns p.statements end) (statement_lines m.names m.statements.items) ∙ sym es

  pub input_next : p.inputs < length m.inputs.items → a ≤ b → a ≤ k → a ≤ s → items_left M p ≡ item_at M (Input p.inputs) ∷ items_left M (record p { inputs = p.inputs + 1 })
  input_next h x y z =
      let n = port_count (λ n. an_input n) m.names m.inputs.items in
      first_list (inputs_in M) (outputs_in M) (clocks_in M) (statements_in M) p.inputs p.outputs p.clocks p.statements (rise_inputs M r) (rise_outputs M r) (rise_clocks M r) (rise_statements M r)
      (omega arith) (omega (arith, in_a, in_b)) (omega (arith, in_a, in_k)) (omega (arith, in_a, in_s))

  pub output_next : p.outputs < length m.outputs.items → b < a → b ≤ k → b ≤ s → items_left M p ≡ item_at M (Output p.outputs) ∷ items_left M (record p { outputs = p.outputs + 1 })
  output_next h x y z =
      let n = port_count (λ n. an_output n) m.names m.outputs.items in
      second_list (inputs_in M) (outputs_in M) (clocks_in M) (statements_in M) p.inputs p.outputs p.clocks p.statements (rise_inputs M r) (rise_outputs M r) (rise_clocks M r) (rise_statements M r)
      (omega arith) (omega (arith, in_a, in_b)) (omega (arith, in_b, in_k)) (omega (arith, in_b, in_s))

  pub clock_next : p.clocks < length m.clocks.items → k < a → k < b → k ≤ s → items_left M p ≡ item_at M (Clock p.clocks) ∷ items_left M (record p { clocks = p.clocks + 1 })
  clock_next h x y z =
      let n = port_count (λ n. a_clock n) m.names m.clocks.items in
      third_list (inputs_in M) (outputs_in M) (clocks_in M) (statements_in M) p.inputs p.outputs p.clocks p.statements (rise_inputs M r) (rise_outputs M r) (rise_clocks M r) (rise_statements M r)
      (omega arith) (omega (arith, in_a, in_k)) (omega (arith, in_b, in_k)) (omega (arith, in_k, in_s))

  pub statement_next : p.statements < length m.statements.items → s < a → s < b → s < k → items_left M p ≡ item_at M (AStatement p.statements) ∷ items_left M (record p { statements = p.statements + 1 })
  statement_next h x y z =
      let n = statement_count m.names m.statements.items in
      fourth_list (inputs_in M) (outputs_in M) (clocks_in M) (statements_in M) p.inputs p.outputs p.clocks p.statements (rise_inputs M r) (rise_outputs M r) (rise_clocks M r) (rise_statements M r)
      (omega arith) (omega (arith, in_a, in_s)) (omega (arith, in_b, in_s)) (omega (arith, in_k, in_s))

-- the item at a place of a list
pub port_at : (kind : Name → Declared) (all : List Name) (ps : List ReadPort) (i : ℕ) (p : ReadPort) → i < length ps → p ≡ get_or ps i p → get_or (port_items kind (map (port_of all) ps)) i no_item ≡ record { line = p.line; what = kind (name_at all p.name) }
port_at kind all [] i p h e = absurd (omega arith)
port_at kind all (q ∷ ps) zero p h e = ap (λ (r : ReadPort). record { line = r.line; what = kind (name_at all r.name) }) (sym e)
port_at kind all (q ∷ ps) (suc i) p h e = port_at kind all ps i p (omega arith) e

pub statement_at : (all : List Name) (ss : List ReadLocated) (i : ℕ) (s : ReadLocated) → i < length ss → s ≡ get_or ss i s → get_or (statement_items (map (located_of all) ss)) i no_item ≡ record { line = s.line; what = a_statement (statement_of all s.what) }
statement_at all [] i s h e = absurd (omega arith)
statement_at all (q ∷ ss) zero s h e = ap (λ (r : ReadLocated). record { line = r.line; what = a_statement (statement_of all r.what) }) (sym e)
statement_at all (q ∷ ss) (suc i) s h e = statement_at all ss i s (omega arith) e
