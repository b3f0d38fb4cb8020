-- In a file that is in order each gate reads known nets, and what is shown and stored is known.
use Rattle.std.proofs.Common.{◌≡◌, refl, sym, ◌∙◌, ap, ap₂, subst, ℕ, ◌+◌, ◌≤◌, List, [], ◌∷◌, ◌++◌, map, Bool, true, false, ◌||◌, ◌&&◌, not, Option, None, append_assoc, append-nil, arith}
use Rattle.std.specs.Prelude.{filter_map}
use Rattle.std.specs.List.{AllByRecursion, cons_option, flat_map, list_all}
use Rattle.netlist_spec.specs.Netlist.{Name, same_name, stands_in, are_distinct, Statement, names, latch, subckt, Located, Model, File}
use Rattle.netlist_spec.specs.FileRules.{NeverFall, IsFile, HaveLines}
use Rattle.netlist_spec.specs.Models.{Latch, Gate, as_latch, as_gate, gates_of, data_inputs, latch_outputs}
use Rattle.netlist_spec.specs.FileOrder.{Declared, an_input, an_output, a_clock, a_statement, Item, port_items, statement_items, items_of, first_answer}
use Rattle.netlist_spec.specs.Ordered.{item_fault, declared_gate, gates_among, driven_by, cell_nets, may_read, reads_later, is_source, IsOrdered}
use Rattle.netlist_spec.proofs.OneValue.{passes_both, not_false, none_both, reads_earlier}
use Rattle.netlist_spec.proofs.SomeValue.{itself, ports_none, in_lists, no_occ, once}
use Rattle.netlist_spec.proofs.Occurrences.{one_if, occ, occ_append}
use Rattle.imp_text.proofs.NamesLemmas.{stands_in-append}
use Rattle.line_order.proofs.TableLemmas.{among_more}
use Rattle.audit_laws.proofs.GateOrder.{put, gates_at, gates_in_lines}
use Rattle.fault_sim.proofs.RowLemmas.{ReadsKnown}

module _ (m : Model) where
  -- what is known when some lines have been passed
  abbrev known_after : List Item → List Name
  known_after earlier = (data_inputs m ++ latch_outputs m) ++ gates_among earlier

  all_known : (earlier : List Item) (ns : List Name) → list_all (may_read m earlier) ns ≡ true → AllByRecursion (λ n. stands_in n (known_after earlier) ≡ true) ns
  all_known earlier [] h = tt
  all_known earlier (n ∷ ns) h =
      let parts = passes_both _ _ h in (
        stands_in-append n (data_inputs m ++ latch_outputs m) (gates_among earlier) ∙ (ap (λ (b : Bool). b || stands_in n (gates_among earlier)) (stands_in-append n (data_inputs m) (latch_outputs m)) ∙ parts.0),
        all_known earlier ns parts.1,
      )

  one_line : (earlier : List Item) (what : Declared) (gs : List Gate) → reads_later m earlier what ≡ false → ReadsKnown (known_after earlier ++ declared_gate what) gs → ReadsKnown (known_after earlier) (put what gs)
  one_line earlier (an_input n) gs h r = subst (λ k. ReadsKnown k gs) (append-nil (known_after earlier)) r
  one_line earlier (an_output n) gs h r = subst (λ k. ReadsKnown k gs) (append-nil (known_after earlier)) r
  one_line earlier (a_clock n) gs h r = subst (λ k. ReadsKnown k gs) (append-nil (known_after earlier)) r
  one_line earlier (a_statement (names ins out cover)) gs h r = (all_known earlier ins (not_false _ h), r)
  one_line earlier (a_statement (latch d q clocking init)) gs h r = subst (λ k. ReadsKnown k gs) (append-nil (known_after earlier)) r
  one_line earlier (a_statement (subckt model binds)) gs h r = subst (λ k. ReadsKnown k gs) (append-nil (known_after earlier)) r

  along : (earlier rest : List Item) → first_answer (item_fault m) earlier rest ≡ None → ReadsKnown (known_after earlier) (gates_at rest)
  along earlier [] e = tt
  along earlier (i ∷ rest) e =
      let parts = none_both (item_fault m earlier i) _ e in
      let step : known_after (earlier ++ i ∷ []) ≡ known_after earlier ++ declared_gate i.what =
      ap (λ ns. (data_inputs m ++ latch_outputs m) ++ ns) (among_more declared_gate earlier i) ∙ sym (append_assoc (data_inputs m ++ latch_outputs m) (gates_among earlier) (declared_gate i.what)) in
      one_line earlier i.what (gates_at rest) (reads_earlier m earlier i parts.0) (subst (λ k. ReadsKnown k (gates_at rest)) step (along (earlier ++ i ∷ []) rest parts.1))

  pub reads_known : (low : ℕ) (high : Option ℕ) → NeverFall low high (map (λ s. s.line) m.statements) → first_answer (item_fault m) [] (items_of m) ≡ None → ReadsKnown (data_inputs m ++ latch_outputs m) (gates_of m)
  reads_known low high f ordered =
      subst (λ k. ReadsKnown k (gates_of m)) (append-nil (data_inputs m ++ latch_outputs m)) (subst (ReadsKnown (known_after [])) (gates_in_lines m low high f) (along [] (items_of m) ordered))

-- the cells of a model are its latches and its gates
one_cell_stands : (n : Name) (s : Statement) (ls : List Latch) (gs : List Gate) (cells : List Name) → stands_in n cells ≡ (stands_in n (map (λ l. l.q) ls) || stands_in n (map (λ g. g.out) gs))
    → stands_in n (driven_by s ++ cells) ≡ (stands_in n (map (λ l. l.q) (cons_option (as_latch s) ls)) || stands_in n (map (λ g. g.out) (cons_option (as_gate s) gs)))
one_cell_stands n (names ins out cover) ls gs cells h = ap (λ b. same_name n out || b) h ∙ arrange (same_name n out) (stands_in n (map (λ l. l.q) ls)) (stands_in n (map (λ g. g.out) gs))
  where
    arrange : (a b c : Bool) → (a || (b || c)) ≡ (b || (a || c))
    arrange true true c = refl
    arrange true false c = refl
    arrange false b c = refl
one_cell_stands n (latch d q clocking init) ls gs cells h = ap (λ b. same_name n q || b) h ∙ arrange (same_name n q) (stands_in n (map (λ l. l.q) ls)) (stands_in n (map (λ g. g.out) gs))
  where
    arrange : (a b c : Bool) → (a || (b || c)) ≡ ((a || b) || c)
    arrange true b c = refl
    arrange false b c = refl
one_cell_stands n (subckt model binds) ls gs cells h = h

cells_stand : (n : Name) (ss : List Located) → stands_in n (flat_map (λ s. driven_by s.what) ss) ≡ (stands_in n (map (λ l. l.q) (filter_map (λ s. as_latch s.what) ss)) || stands_in n (map (λ g. g.out) (filter_map (λ s. as_gate s.what) ss)))
cells_stand n [] = refl
cells_stand n (s ∷ ss) = one_cell_stands n s.what (filter_map (λ s. as_latch s.what) ss) (filter_map (λ s. as_gate s.what) ss) (flat_map (λ s. driven_by s.what) ss) (cells_stand n ss)

module _ (m : Model) where
  abbrev pub all_known_nets : List Name
  all_known_nets = (data_inputs m ++ latch_outputs m) ++ map (λ g. g.out) (gates_of m)

  source_known : (n : Name) → is_source m n ≡ true → stands_in n all_known_nets ≡ true
  source_known n h =
      stands_in-append n (data_inputs m ++ latch_outputs m) (map (λ g. g.out) (gates_of m))
      ∙ (ap (λ (b : Bool). b || stands_in n (map (λ g. g.out) (gates_of m))) (stands_in-append n (data_inputs m) (latch_outputs m))
      ∙ (assoc (stands_in n (data_inputs m)) (stands_in n (latch_outputs m)) (stands_in n (map (λ g. g.out) (gates_of m)))
      ∙ (ap (λ (b : Bool). stands_in n (data_inputs m) || b) (sym (cells_stand n m.statements)) ∙ h)))
    where
      assoc : (a b c : Bool) → ((a || b) || c) ≡ (a || (b || c))
      assoc true b c = refl
      assoc false b c = refl

  pub sources_known : (ns : List Name) → AllByRecursion (λ n. is_source m n ≡ true) ns → AllByRecursion (λ n. stands_in n all_known_nets ≡ true) ns
  sources_known [] a = tt
  sources_known (n ∷ ns) a = (source_known n a.0, sources_known ns a.1)

-- the statements of a file that is in order stand by their lines
pub statement_lines : (file : File) → IsFile file → (o : IsOrdered file) → (high : Option ℕ) × NeverFall o.model.line high (map (λ s. s.line) o.model.statements)
statement_lines file is_file o = let l = subst HaveLines o.one_model is_file.lines in (None, l.0.statements)

-- ---- the cells of a file that is in order are distinct

one_cell_once : (n : Name) (s : Statement) (cells : ℕ) (ls : List Latch) (gs : List Gate) → cells ≡ occ n (map (λ l. l.q) ls) + occ n (map (λ g. g.out) gs)
    → occ n (driven_by s) + cells ≡ occ n (map (λ l. l.q) (cons_option (as_latch s) ls)) + occ n (map (λ g. g.out) (cons_option (as_gate s) gs))
one_cell_once n (names ins out cover) cells ls gs h = omega arith
one_cell_once n (latch d q clocking init) cells ls gs h = omega arith
one_cell_once n (subckt model binds) cells ls gs h = omega arith

cells_once : (n : Name) (ss : List Located) → occ n (flat_map (λ s. driven_by s.what) ss) ≡ occ n (map (λ l. l.q) (filter_map (λ s. as_latch s.what) ss)) + occ n (map (λ g. g.out) (filter_map (λ s. as_gate s.what) ss))
cells_once n [] = omega arith
cells_once n (s ∷ ss) =
    occ_append n (driven_by s.what) (flat_map (λ s. driven_by s.what) ss)
    ∙ one_cell_once n s.what (occ n (flat_map (λ s. driven_by s.what) ss)) (filter_map (λ s. as_latch s.what) ss) (filter_map (λ s. as_gate s.what) ss) (cells_once n ss)

one_gate_out : (s : Statement) (rest : List Gate) → declared_gate (a_statement s) ++ map (λ g. g.out) rest ≡ map (λ g. g.out) (cons_option (as_gate s) rest)
one_gate_out (names ins out cover) rest = refl
one_gate_out (latch d q clocking init) rest = refl
one_gate_out (subckt model binds) rest = refl

gate_outs : (ss : List Located) → flat_map (λ i. declared_gate i.what) (statement_items ss) ≡ map (λ g. g.out) (filter_map (λ s. as_gate s.what) ss)
gate_outs [] = refl
gate_outs (s ∷ ss) = ap (λ ns. declared_gate (a_statement s.what) ++ ns) (gate_outs ss) ∙ one_gate_out s.what (filter_map (λ s. as_gate s.what) ss)

gates_total : (m : Model) (n : Name) → occ n (gates_among (items_of m)) ≡ occ n (map (λ g. g.out) (gates_of m))
gates_total m n =
    let a = in_lists declared_gate m n in
    let b = ap (occ n) (gate_outs m.statements) in
    let c : occ n (flat_map (λ i. declared_gate i.what) (port_items (λ k. an_input k) m.inputs)) ≡ 0 = ap (occ n) (ports_none declared_gate (λ k. an_input k) (λ k. refl) m.inputs) in
    let d : occ n (flat_map (λ i. declared_gate i.what) (port_items (λ k. an_output k) m.outputs)) ≡ 0 = ap (occ n) (ports_none declared_gate (λ k. an_output k) (λ k. refl) m.outputs) in
    let e : occ n (flat_map (λ i. declared_gate i.what) (port_items (λ k. a_clock k) m.clocks)) ≡ 0 = ap (occ n) (ports_none declared_gate (λ k. a_clock k) (λ k. refl) m.clocks) in
    omega arith

distinct_once : (ns : List Name) → ((n : Name) → occ n ns ≤ 1) → are_distinct ns ≡ true
distinct_once [] h = refl
distinct_once (n ∷ ns) h =
    let none : stands_in n ns ≡ false = no_occ n ns (let a = h n in let b : one_if (same_name n n) ≡ 1 = ap one_if (itself n) in omega arith) in
    ap₂ (λ (a b : Bool). not a && b) none (distinct_once ns (λ k. let a = h k in omega arith))

pub cells_distinct : (m : Model) → first_answer (item_fault m) [] (items_of m) ≡ None → are_distinct (cell_nets m) ≡ true
cells_distinct m ordered =
    distinct_once (cell_nets m) (λ n. let a = once m ordered n in let b = gates_total m n in let c = cells_once n m.statements in omega arith)
