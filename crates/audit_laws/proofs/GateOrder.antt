-- The `.names` of an ordered file are in order.
use Rattle.std.proofs.Common.{◌≡◌, refl, sym, ◌∙◌, ap, subst, ℕ, ◌<◌, ◌≤◌, List, [], ◌∷◌, ◌++◌, map, Bool, true, false, ◌||◌, not, cond, ◌⊎◌, inl, inr, Option, Some, None, nat_le, arith, append_assoc}
use Rattle.std.specs.Prelude.{IsTrue, filter_map}
use Rattle.std.specs.List.{AllByRecursion, cons_option, list_all}
use Rattle.netlist_spec.specs.Netlist.{Name, stands_in, names, latch, subckt, Port, Located, Model, File}
use Rattle.netlist_spec.specs.Placed.{port_names}
use Rattle.netlist_spec.specs.Models.{Gate, as_gate, gates_of, data_inputs, latch_outputs, clock_nets}
use Rattle.netlist_spec.specs.FileRules.{NeverFall}
use Rattle.netlist_spec.specs.FileOrder.{Declared, an_input, an_output, a_clock, a_statement, Item, port_items, statement_items, place_item, by_line, port_items_of, items_of, first_answer}
use Rattle.netlist_spec.specs.Ordered.{OrderFault, item_fault, declared_gate, gates_among, may_read, IsOrdered, fault_of_models, is_subckt}
use Rattle.netlist_spec.proofs.OneValue.{passes_one, passes_both, none_both, not_false, reads_earlier, All_from_line, All_back}
use Rattle.netlist_spec.proofs.SomeValue.{once, no_occ, filter_occ}
use Rattle.netlist_spec.proofs.Occurrences.{occ, stands_occ, occ_flat}
use Rattle.audit_laws.specs.Along.{AreInOrder}

-- ---- the gates among some items

abbrev pub put : Declared → List Gate → List Gate
put (a_statement s) gs = cons_option (as_gate s) gs
put _ gs = gs

abbrev pub gates_at : List Item → List Gate
gates_at [] = []
gates_at (i ∷ items) = put i.what (gates_at items)

abbrev PutsNothing : Declared → Type 0
PutsNothing what = (gs : List Gate) → put what gs ≡ gs

abbrev Above : ℕ → List Item → Type 0
Above k items = AllByRecursion (λ i. PutsNothing i.what ⊎ (k ≤ i.line)) items

at_most : (a b : ℕ) → nat_le a b ≡ false → b < a
at_most a b h = grind arith

swapped : (x y : Declared) (gs : List Gate) → PutsNothing x ⊎ PutsNothing y → put y (put x gs) ≡ put x (put y gs)
swapped x y gs (inl f) = ap (put y) (f gs) ∙ sym (f (put y gs))
swapped x y gs (inr f) = f (put x gs) ∙ ap (put x) (sym (f gs))

placed_gates : (x : Item) (ys : List Item) → PutsNothing x.what ⊎ Above x.line ys → gates_at (place_item x ys) ≡ put x.what (gates_at ys)
placed_gates x [] h = refl
placed_gates x (y ∷ ys) h = by_case (nat_le x.line y.line) refl h (placed_gates x ys)
  where
    by_case : (b : Bool) → nat_le x.line y.line ≡ b → PutsNothing x.what ⊎ Above x.line (y ∷ ys) → (PutsNothing x.what ⊎ Above x.line ys → gates_at (place_item x ys) ≡ put x.what (gates_at ys)) → gates_at (cond b (x ∷ y ∷ ys) (y ∷ place_item x ys)) ≡ put x.what (put y.what (gates_at ys))
    by_case true e h r = refl
    by_case false e (inl f) r = ap (put y.what) (r (inl f)) ∙ swapped x.what y.what (gates_at ys) (inl f)
    by_case false e (inr (inl f, a)) r = ap (put y.what) (r (inr a)) ∙ swapped x.what y.what (gates_at ys) (inr f)
    by_case false e (inr (inr l, a)) r = absurd (let s = at_most x.line y.line e in omega arith)

above_place : (k : ℕ) (x : Item) (ys : List Item) → PutsNothing x.what ⊎ (k ≤ x.line) → Above k ys → Above k (place_item x ys)
above_place k x [] p a = (p, tt)
above_place k x (y ∷ ys) p a = by_case (nat_le x.line y.line) (above_place k x ys p a.1)
  where
    by_case : (b : Bool) → Above k (place_item x ys) → Above k (cond b (x ∷ y ∷ ys) (y ∷ place_item x ys))
    by_case true r = (p, a)
    by_case false r = (a.0, r)

above_by_line : (k : ℕ) (xs : List Item) → Above k xs → Above k (by_line xs)
above_by_line k [] a = tt
above_by_line k (x ∷ xs) a = above_place k x (by_line xs) a.0 (above_by_line k xs a.1)

never_below : (k low : ℕ) (high : Option ℕ) (ss : List Located) → k ≤ low → NeverFall low high (map (λ s. s.line) ss) → Above k (statement_items ss)
never_below k low high [] h f = tt
never_below k low high (s ∷ ss) h f = let a : low ≤ s.line = f.0 in (inr (omega arith), never_below k s.line high ss (omega arith) f.2)

statement_gates : (low : ℕ) (high : Option ℕ) (ss : List Located) → NeverFall low high (map (λ s. s.line) ss) → gates_at (by_line (statement_items ss)) ≡ filter_map (λ s. as_gate s.what) ss
statement_gates low high [] f = refl
statement_gates low high (s ∷ ss) f =
    placed_gates (record { line = s.line; what = a_statement s.what }) (by_line (statement_items ss)) (inr (above_by_line s.line (statement_items ss) (never_below s.line s.line high ss (omega arith) f.2)))
    ∙ ap (cons_option (as_gate s.what)) (statement_gates s.line high ss f.2)

port_gates : (kind : Name → Declared) → ((n : Name) → PutsNothing (kind n)) → (ps : List Port) (rest : List Item) → gates_at (by_line (port_items kind ps ++ rest)) ≡ gates_at (by_line rest)
port_gates kind f [] rest = refl
port_gates kind f (p ∷ ps) rest =
    placed_gates (record { line = p.line; what = kind p.name }) (by_line (port_items kind ps ++ rest)) (inl (f p.name))
    ∙ (f p.name (gates_at (by_line (port_items kind ps ++ rest))) ∙ port_gates kind f ps rest)

pub gates_in_lines : (m : Model) (low : ℕ) (high : Option ℕ) → NeverFall low high (map (λ s. s.line) m.statements) → gates_at (items_of m) ≡ gates_of m
gates_in_lines m low high f =
    let ins = port_items (λ n. an_input n) m.inputs in
    let outs = port_items (λ n. an_output n) m.outputs in
    let clocks = port_items (λ n. a_clock n) m.clocks in
    let rest = statement_items m.statements in
    let joined : (ins ++ outs ++ clocks) ++ rest ≡ ins ++ (outs ++ (clocks ++ rest)) = append_assoc (ins ++ outs) clocks rest ∙ append_assoc ins outs (clocks ++ rest) in
    ap (λ items. gates_at (by_line items)) joined
    ∙ (port_gates (λ n. an_input n) (λ n gs. refl) m.inputs (outs ++ (clocks ++ rest))
    ∙ (port_gates (λ n. an_output n) (λ n gs. refl) m.outputs (clocks ++ rest)
    ∙ (port_gates (λ n. a_clock n) (λ n gs. refl) m.clocks rest ∙ statement_gates low high m.statements f)))

-- ---- what they drive

first_fails : (b : Bool) (x : OrderFault) (o : Option OrderFault) → cond b (Some x) o ≡ None → b ≡ false
first_fails true x o e = cc e
first_fails false x o e = refl

put_outs : (what : Declared) (gs : List Gate) (ns : List Name) → map (λ h. h.out) gs ≡ ns → map (λ h. h.out) (put what gs) ≡ declared_gate what ++ ns
put_outs (an_input n) gs ns e = e
put_outs (an_output n) gs ns e = e
put_outs (a_clock n) gs ns e = e
put_outs (a_statement (names ins out cover)) gs ns e = ap (λ ks. out ∷ ks) e
put_outs (a_statement (latch d q clocking init)) gs ns e = e
put_outs (a_statement (subckt model binds)) gs ns e = e

outs_of : (items : List Item) → map (λ h. h.out) (gates_at items) ≡ gates_among items
outs_of [] = refl
outs_of (i ∷ items) = put_outs i.what (gates_at items) (gates_among items) (outs_of items)

module _ (m : Model) (ordered : first_answer (item_fault m) [] (items_of m) ≡ None) where
  -- what is read is driven by no later `.names`
  read_is_not_later : (earlier rest : List Item) → items_of m ≡ earlier ++ rest → (n : Name) → may_read m earlier n ≡ true → occ n (gates_among rest) ≡ 0
  read_is_not_later earlier rest e n h =
      let one = once m ordered n in
      let split = occ_flat (λ i. declared_gate i.what) n earlier rest in
      let all : occ n (gates_among (items_of m)) ≡ occ n (gates_among (earlier ++ rest)) = ap (λ items. occ n (gates_among items)) e in
      elim (passes_one (stands_in n (data_inputs m) || stands_in n (latch_outputs m)) (stands_in n (gates_among earlier)) h) [
        | inl a ↦ elim (passes_one (stands_in n (data_inputs m)) (stands_in n (latch_outputs m)) a) [
          | inl x ↦ (let b : 1 ≤ occ n (data_inputs m) = stands_occ n (data_inputs m) x in let c : occ n (data_inputs m) ≤ occ n (port_names m.inputs) = filter_occ n (λ k. not (stands_in k (clock_nets m))) (port_names m.inputs) in omega arith)
          | inr y ↦ (let b = stands_occ n (latch_outputs m) y in omega arith)
        ]
        | inr z ↦ (let b = stands_occ n (gates_among earlier) z in omega arith)
      ]

  reads_are_not_later : (earlier rest : List Item) → items_of m ≡ earlier ++ rest → (outs : List Name) → outs ≡ gates_among rest → (ns : List Name) → list_all (may_read m earlier) ns ≡ true → AllByRecursion (λ n. IsTrue (not (stands_in n outs))) ns
  reads_are_not_later earlier rest e outs f [] h = tt
  reads_are_not_later earlier rest e outs f (n ∷ ns) h =
      let parts = passes_both _ _ h in
      (ap not (no_occ n outs (ap (occ n) f ∙ read_is_not_later earlier rest e n parts.0)), reads_are_not_later earlier rest e outs f ns parts.1)

  one_item : (earlier : List Item) (line : ℕ) (what : Declared) (rest : List Item) → items_of m ≡ earlier ++ record { line = line; what = what } ∷ rest → item_fault m earlier (record { line = line; what = what }) ≡ None
      → AreInOrder (gates_at rest) → AreInOrder (put what (gates_at rest))
  one_item earlier line (an_input n) rest e none o = o
  one_item earlier line (an_output n) rest e none o = o
  one_item earlier line (a_clock n) rest e none o = o
  one_item earlier line (a_statement (names ins out cover)) rest e none o = (
    reads_are_not_later earlier (record { line = line; what = a_statement (names ins out cover) } ∷ rest) e (out ∷ map (λ h. h.out) (gates_at rest)) (ap (λ ks. out ∷ ks) (outs_of rest)) ins
        (not_false _ (reads_earlier m earlier (record { line = line; what = a_statement (names ins out cover) }) none)),
    o,
  )
  one_item earlier line (a_statement (latch d q clocking init)) rest e none o = o
  one_item earlier line (a_statement (subckt model binds)) rest e none o = o

  along_items : (earlier rest : List Item) → items_of m ≡ earlier ++ rest → first_answer (item_fault m) earlier rest ≡ None → AreInOrder (gates_at rest)
  along_items earlier [] e none = tt
  along_items earlier (i ∷ rest) e none =
      let parts = none_both (item_fault m earlier i) _ none in
      one_item earlier i.line i.what rest e parts.0 (along_items (earlier ++ i ∷ []) rest (e ∙ sym (append_assoc earlier (i ∷ []) rest)) parts.1)

  pub model_in_order : (low : ℕ) (high : Option ℕ) → NeverFall low high (map (λ s. s.line) m.statements) → AreInOrder (gates_of m)
  model_in_order low high f = subst AreInOrder (gates_in_lines m low high f) (along_items [] (items_of m) refl ordered)

  -- no statement is a `.subckt`
  no_subckt_at : (earlier : List Item) (i : Item) → item_fault m earlier i ≡ None → is_subckt i.what ≡ false
  no_subckt_at earlier i e = first_fails (is_subckt i.what) _ _ e

  none_subckt : (earlier rest : List Item) → first_answer (item_fault m) earlier rest ≡ None → AllByRecursion (λ i. is_subckt i.what ≡ false) rest
  none_subckt earlier [] e = tt
  none_subckt earlier (i ∷ rest) e = let parts = none_both (item_fault m earlier i) _ e in (no_subckt_at earlier i parts.0, none_subckt (earlier ++ i ∷ []) rest parts.1)

  of_cells : (ss : List Located) → AllByRecursion (λ i. is_subckt i.what ≡ false) (statement_items ss) → AllByRecursion (λ s. is_subckt (a_statement s) ≡ false) (map (λ s. s.what) ss)
  of_cells [] a = tt
  of_cells (s ∷ ss) a = (a.0, of_cells ss a.1)

  pub cells_are_no_subckt : AllByRecursion (λ s. is_subckt (a_statement s) ≡ false) (map (λ s. s.what) m.statements)
  cells_are_no_subckt =
      of_cells m.statements
      (All_back (λ i. is_subckt i.what ≡ false) (port_items_of m) (statement_items m.statements)
      (All_from_line (λ i. is_subckt i.what ≡ false) (port_items_of m ++ statement_items m.statements) (none_subckt [] (items_of m) ordered)))

pub no_fault_of : (file : File) (o : IsOrdered file) → first_answer (item_fault o.model) [] (items_of o.model) ≡ None
no_fault_of file o = (none_both _ _ (ap fault_of_models (sym o.one_model) ∙ o.no_fault)).0
