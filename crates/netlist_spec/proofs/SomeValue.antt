-- On an ordered file some valuation meets the values of a cycle: the cells take their values in file order.
use Rattle.std.proofs.Common.{suc, ◌≡◌, refl, sym, ◌∙◌, ap, ap₂, subst, ℕ, ◌+◌, ◌≤◌, List, [], ◌∷◌, ◌++◌, map, filter, length, zip, Bool, true, false, ◌||◌, not, cond, None, inl, inr, arith, append_assoc}
use Rattle.std.specs.Prelude.{filter_map}
use Rattle.std.specs.List.{AllByRecursion, AllZip, cons_option, flat_map, list_all}
use Rattle.std.specs.Cmp.Lexicographic.{bytes_decides}
use Rattle.netlist_spec.specs.Netlist.{Name, same_name, stands_in, Statement, names, latch, subckt, Port, Located, Model}
use Rattle.netlist_spec.specs.Covers.{cover_value}
use Rattle.netlist_spec.specs.Placed.{port_names}
use Rattle.netlist_spec.specs.Models.{Latch, Gate, as_latch, clock_nets, data_inputs, latch_outputs}
use Rattle.netlist_spec.specs.Fits.{Valuation}
use Rattle.netlist_spec.specs.SourceRun.{Bits}
use Rattle.netlist_spec.specs.FileOrder.{Declared, an_input, an_output, a_clock, a_statement, Item, port_items, statement_items, port_items_of, items_of, first_answer}
use Rattle.netlist_spec.specs.Ordered.{item_fault, declared_cell, declared_gate, cells_among, gates_among, is_at_fault, is_subckt, is_driven_again, reads_later, may_read}
use Rattle.netlist_spec.specs.FileOrder.{declared_input, inputs_among}
use Rattle.netlist_spec.specs.Values.{Forced, shown, Values}
use Rattle.netlist_spec.proofs.OneValue.{passes_one, fails_first, passes_both, not_false, none_both, no_fault_cases, reads_earlier, OnItem, from_lines}
use Rattle.netlist_spec.proofs.Occurrences.{one_if, occ, occ_append, stands_occ, occ_stands, absent_occ, occ_by_line, occ_flat}

-- ---- values so far, as pairs; the first pair of a name counts

abbrev pub Pairs : Type 0
Pairs = List (Name × Bool)

abbrev pub looked : Pairs → Valuation
looked [] n = false
looked (e ∷ es) n = cond (same_name n e.0) e.1 (looked es n)

abbrev keys : Pairs → List Name
keys es = map (λ (e : Name × Bool). e.0) es

keys_append : (es fs : Pairs) → keys (es ++ fs) ≡ keys es ++ keys fs
keys_append [] fs = refl
keys_append (e ∷ es) fs = λ i. e.0 ∷ keys_append es fs i

stable_case : (b c : Bool) (x : Bool) (y z : Bool) → (c ≡ true → y ≡ z) → (b || c) ≡ true → cond b x y ≡ cond b x z
stable_case true c x y z f h = refl
stable_case false c x y z f h = f h

-- a value that is there stays
stable : (es fs : Pairs) (n : Name) → stands_in n (keys es) ≡ true → looked (es ++ fs) n ≡ looked es n
stable [] fs n h = cc h
stable (e ∷ es) fs n h = stable_case (same_name n e.0) (stands_in n (keys es)) e.1 _ _ (stable es fs n) h

fresh_case : (b c : Bool) (x y z : Bool) → (c ≡ false → y ≡ z) → (b || c) ≡ false → cond b x y ≡ z
fresh_case true c x y z f h = cc h
fresh_case false c x y z f h = f h

pub itself : (n : Name) → same_name n n ≡ true
itself n = (bytes_decides n n).1 refl

-- a value that is added for a new name is that of the name
fresh : (es : Pairs) (n : Name) (b : Bool) → stands_in n (keys es) ≡ false → looked (es ++ (n, b) ∷ []) n ≡ b
fresh [] n b h = ap (λ c. cond c b false) (itself n)
fresh (e ∷ es) n b h = fresh_case (same_name n e.0) (stands_in n (keys es)) e.1 _ b (fresh es n b) h

-- ---- each name is driven once

abbrev driven_here : Declared → List Name
driven_here what = declared_input what ++ declared_cell what

abbrev driven_of : Item → List Name
driven_of i = driven_here i.what

driven_split : (n : Name) (items : List Item) → occ n (flat_map driven_of items) ≡ occ n (inputs_among items) + occ n (cells_among items)
driven_split n [] = omega arith
driven_split n (i ∷ items) =
    let a : occ n (driven_of i ++ flat_map driven_of items) ≡ occ n (driven_of i) + occ n (flat_map driven_of items) = occ_append n (driven_of i) (flat_map driven_of items) in
    let b = occ_append n (declared_input i.what) (declared_cell i.what) in
    let c : occ n (declared_input i.what ++ inputs_among items) ≡ occ n (declared_input i.what) + occ n (inputs_among items) = occ_append n (declared_input i.what) (inputs_among items) in
    let d : occ n (declared_cell i.what ++ cells_among items) ≡ occ n (declared_cell i.what) + occ n (cells_among items) = occ_append n (declared_cell i.what) (cells_among items) in
    let e = driven_split n items in
    omega arith

-- what a line that is not at fault drives is driven by no earlier line
once_case : (n k : Name) (earlier : List Item) (b : Bool) → same_name n k ≡ b → stands_in k (inputs_among earlier) ≡ false → stands_in k (cells_among earlier) ≡ false → occ n (inputs_among earlier) + occ n (cells_among earlier) ≤ 1
    → (occ n (inputs_among earlier) + occ n (cells_among earlier)) + one_if b ≤ 1
once_case n k earlier false e h g r = omega arith
once_case n k earlier true e h g r =
    let same : k ≡ n = sym ((bytes_decides n k).0 e) in
    let a : occ n (inputs_among earlier) ≡ 0 = absent_occ n (inputs_among earlier) (subst (λ x. stands_in x (inputs_among earlier) ≡ false) same h) in
    let b : occ n (cells_among earlier) ≡ 0 = absent_occ n (cells_among earlier) (subst (λ x. stands_in x (cells_among earlier) ≡ false) same g) in
    omega arith

once_more : (n : Name) (earlier : List Item) (what : Declared) → is_driven_again earlier what ≡ false → occ n (flat_map driven_of earlier) ≤ 1 → occ n (flat_map driven_of earlier) + occ n (driven_here what) ≤ 1
once_more n earlier (an_input k) h r =
    let s = driven_split n earlier in
    let f = fails_first _ _ h in
    let o = once_case n k earlier (same_name n k) refl f.0 f.1 (omega arith) in
    omega arith
once_more n earlier (an_output k) h r = omega arith
once_more n earlier (a_clock k) h r = omega arith
once_more n earlier (a_statement (names ins out cover)) h r =
    let s = driven_split n earlier in
    let f = fails_first _ _ (fails_first _ _ h).0 in
    let o = once_case n out earlier (same_name n out) refl (fails_first _ _ f.0).0 f.1 (omega arith) in
    omega arith
once_more n earlier (a_statement (latch d q clocking init)) h r =
    let s = driven_split n earlier in
    let f = fails_first _ _ (fails_first _ _ h).0 in
    let o = once_case n q earlier (same_name n q) refl (fails_first _ _ f.0).0 f.1 (omega arith) in
    omega arith
once_more n earlier (a_statement (subckt model binds)) h r = omega arith

pub drives_once : (m : Model) (earlier : List Item) (i : Item) → item_fault m earlier i ≡ None → is_driven_again earlier i.what ≡ false
drives_once m earlier i e =
    let sound = no_fault_cases (is_subckt i.what) (is_at_fault m earlier i.what) i.line e in
    (fails_first _ _ (fails_first _ _ (fails_first _ _ sound).0).0).0

once_along : (m : Model) (n : Name) (earlier rest : List Item) → first_answer (item_fault m) earlier rest ≡ None → occ n (flat_map driven_of earlier) ≤ 1 → occ n (flat_map driven_of (earlier ++ rest)) ≤ 1
once_along m n earlier [] e h =
    let a = occ_flat driven_of n earlier [] in
    omega arith
once_along m n earlier (i ∷ rest) e h =
    let parts = none_both (item_fault m earlier i) _ e in
    let one = once_more n earlier i.what (drives_once m earlier i parts.0) h in
    let a = occ_flat driven_of n earlier (i ∷ []) in
    let b : occ n (driven_of i ++ []) ≡ occ n (driven_of i) + 0 = occ_append n (driven_of i) [] in
    let c : occ n (flat_map driven_of (earlier ++ i ∷ [])) ≤ 1 = omega arith in
    subst (λ items. occ n (flat_map driven_of items) ≤ 1) (append_assoc earlier (i ∷ []) rest) (once_along m n (earlier ++ i ∷ []) rest parts.1 c)

-- ---- the totals of inputs, latches and gates

abbrev declared_latch : Declared → List Name
declared_latch (a_statement (latch d q clocking init)) = q ∷ []
declared_latch _ = []

abbrev latches_among : List Item → List Name
latches_among items = flat_map (λ i. declared_latch i.what) items

cell_kinds : (n : Name) (what : Declared) → occ n (declared_cell what) ≡ occ n (declared_latch what) + occ n (declared_gate what)
cell_kinds n (an_input k) = omega arith
cell_kinds n (an_output k) = omega arith
cell_kinds n (a_clock k) = omega arith
cell_kinds n (a_statement (names ins out cover)) = omega arith
cell_kinds n (a_statement (latch d q clocking init)) = omega arith
cell_kinds n (a_statement (subckt model binds)) = omega arith

cells_split : (n : Name) (items : List Item) → occ n (cells_among items) ≡ occ n (latches_among items) + occ n (gates_among items)
cells_split n [] = omega arith
cells_split n (i ∷ items) =
    let a = cell_kinds n i.what in
    let b : occ n (declared_cell i.what ++ cells_among items) ≡ occ n (declared_cell i.what) + occ n (cells_among items) = occ_append n (declared_cell i.what) (cells_among items) in
    let c : occ n (declared_latch i.what ++ latches_among items) ≡ occ n (declared_latch i.what) + occ n (latches_among items) = occ_append n (declared_latch i.what) (latches_among items) in
    let d : occ n (declared_gate i.what ++ gates_among items) ≡ occ n (declared_gate i.what) + occ n (gates_among items) = occ_append n (declared_gate i.what) (gates_among items) in
    let e = cells_split n items in
    omega arith

pub ports_give : (g : Declared → List Name) (kind : Name → Declared) → ((k : Name) → g (kind k) ≡ k ∷ []) → (ps : List Port) → flat_map (λ i. g i.what) (port_items kind ps) ≡ port_names ps
ports_give g kind e [] = refl
ports_give g kind e (p ∷ ps) = ap (λ ns. ns ++ flat_map (λ i. g i.what) (port_items kind ps)) (e p.name) ∙ ap (λ ns. p.name ∷ ns) (ports_give g kind e ps)

pub ports_none : (g : Declared → List Name) (kind : Name → Declared) → ((k : Name) → g (kind k) ≡ []) → (ps : List Port) → flat_map (λ i. g i.what) (port_items kind ps) ≡ []
ports_none g kind e [] = refl
ports_none g kind e (p ∷ ps) = ap (λ ns. ns ++ flat_map (λ i. g i.what) (port_items kind ps)) (e p.name) ∙ ports_none g kind e ps

pub statements_none : (g : Declared → List Name) → ((s : Statement) → g (a_statement s) ≡ []) → (ss : List Located) → flat_map (λ i. g i.what) (statement_items ss) ≡ []
statements_none g e [] = refl
statements_none g e (s ∷ ss) = ap (λ ns. ns ++ flat_map (λ i. g i.what) (statement_items ss)) (e s.what) ∙ statements_none g e ss

one_latch : (s : Statement) (rest : List Latch) → declared_latch (a_statement s) ++ map (λ l. l.q) rest ≡ map (λ l. l.q) (cons_option (as_latch s) rest)
one_latch (names ins out cover) rest = refl
one_latch (latch d q clocking init) rest = refl
one_latch (subckt model binds) rest = refl

statement_latches : (ss : List Located) → flat_map (λ i. declared_latch i.what) (statement_items ss) ≡ map (λ l. l.q) (filter_map (λ s. as_latch s.what) ss)
statement_latches [] = refl
statement_latches (s ∷ ss) = ap (λ ns. declared_latch (a_statement s.what) ++ ns) (statement_latches ss) ∙ one_latch s.what (filter_map (λ s. as_latch s.what) ss)

pub in_lists : (g : Declared → List Name) (m : Model) (n : Name) → occ n (flat_map (λ i. g i.what) (items_of m)) ≡ occ n (flat_map (λ i. g i.what) (port_items (λ k. an_input k) m.inputs)) + occ n (flat_map (λ i. g i.what) (port_items (λ k. an_output k) m.outputs))
    + occ n (flat_map (λ i. g i.what) (port_items (λ k. a_clock k) m.clocks)) + occ n (flat_map (λ i. g i.what) (statement_items m.statements))
in_lists g m n =
    let f : Item → List Name = λ i. g i.what in
    let a = occ_by_line f n (port_items_of m ++ statement_items m.statements) in
    let b = occ_flat f n (port_items_of m) (statement_items m.statements) in
    let c = occ_flat f n (port_items (λ k. an_input k) m.inputs ++ port_items (λ k. an_output k) m.outputs) (port_items (λ k. a_clock k) m.clocks) in
    let d = occ_flat f n (port_items (λ k. an_input k) m.inputs) (port_items (λ k. an_output k) m.outputs) in
    omega arith

inputs_total : (m : Model) (n : Name) → occ n (inputs_among (items_of m)) ≡ occ n (port_names m.inputs)
inputs_total m n =
    let a = in_lists declared_input m n in
    let b = ap (occ n) (ports_give declared_input (λ k. an_input k) (λ k. refl) m.inputs) in
    let c : occ n (flat_map (λ i. declared_input i.what) (port_items (λ k. an_output k) m.outputs)) ≡ 0 = ap (occ n) (ports_none declared_input (λ k. an_output k) (λ k. refl) m.outputs) in
    let d : occ n (flat_map (λ i. declared_input i.what) (port_items (λ k. a_clock k) m.clocks)) ≡ 0 = ap (occ n) (ports_none declared_input (λ k. a_clock k) (λ k. refl) m.clocks) in
    let e : occ n (flat_map (λ i. declared_input i.what) (statement_items m.statements)) ≡ 0 = ap (occ n) (statements_none declared_input (λ s. refl) m.statements) in
    omega arith

latches_total : (m : Model) (n : Name) → occ n (latches_among (items_of m)) ≡ occ n (latch_outputs m)
latches_total m n =
    let a = in_lists declared_latch m n in
    let b = ap (occ n) (statement_latches m.statements) in
    let c : occ n (flat_map (λ i. declared_latch i.what) (port_items (λ k. an_input k) m.inputs)) ≡ 0 = ap (occ n) (ports_none declared_latch (λ k. an_input k) (λ k. refl) m.inputs) in
    let d : occ n (flat_map (λ i. declared_latch i.what) (port_items (λ k. an_output k) m.outputs)) ≡ 0 = ap (occ n) (ports_none declared_latch (λ k. an_output k) (λ k. refl) m.outputs) in
    let e : occ n (flat_map (λ i. declared_latch i.what) (port_items (λ k. a_clock k) m.clocks)) ≡ 0 = ap (occ n) (ports_none declared_latch (λ k. a_clock k) (λ k. refl) m.clocks) in
    omega arith

pub filter_occ : (n : Name) (p : Name → Bool) (ns : List Name) → occ n (filter p ns) ≤ occ n ns
filter_occ n p [] = omega arith
filter_occ n p (k ∷ ks) = go (p k) (filter_occ n p ks)
  where
    go : (b : Bool) → occ n (filter p ks) ≤ occ n ks → occ n (cond b (k ∷ filter p ks) (filter p ks)) ≤ one_if (same_name n k) + occ n ks
    go true h = omega arith
    go false h = omega arith

pub no_occ : (n : Name) (ns : List Name) → occ n ns ≡ 0 → stands_in n ns ≡ false
no_occ n ns h = go (stands_in n ns) refl
  where
    go : (b : Bool) → stands_in n ns ≡ b → b ≡ false
    go true e = let one = stands_occ n ns e in absurd (omega arith)
    go false e = refl

module _ (m : Model) (ordered : first_answer (item_fault m) [] (items_of m) ≡ None) where
  -- inputs, latches and gates drive a name once in all
  pub once : (n : Name) → (occ n (port_names m.inputs) + occ n (latch_outputs m)) + occ n (gates_among (items_of m)) ≤ 1
  once n =
      let t : occ n (flat_map driven_of (items_of m)) ≤ 1 = once_along m n [] (items_of m) ordered (omega arith) in
      let a = driven_split n (items_of m) in
      let b = cells_split n (items_of m) in
      let c = inputs_total m n in
      let d = latches_total m n in
      omega arith

  once_known : (n : Name) → occ n (data_inputs m) + occ n (latch_outputs m) ≤ 1
  once_known n =
      let a = once n in
      let b : occ n (data_inputs m) ≤ occ n (port_names m.inputs) = filter_occ n (λ k. not (stands_in k (clock_nets m))) (port_names m.inputs) in
      omega arith

  -- the names that have values before a gate
  abbrev known : List Item → List Name
  known earlier = (data_inputs m ++ latch_outputs m) ++ gates_among earlier

  new_gate : (before : List Item) (i : Item) (after : List Item) → items_of m ≡ before ++ i ∷ after → (out : Name) → declared_gate i.what ≡ out ∷ [] → stands_in out (known before) ≡ false
  new_gate before i after e out g =
      let a = once out in
      let b : occ out (data_inputs m) ≤ occ out (port_names m.inputs) = filter_occ out (λ k. not (stands_in k (clock_nets m))) (port_names m.inputs) in
      let c : occ out (gates_among (items_of m)) ≡ occ out (gates_among (before ++ i ∷ after)) = ap (λ items. occ out (gates_among items)) e in
      let d = occ_flat (λ i. declared_gate i.what) out before (i ∷ after) in
      let f : occ out (declared_gate i.what ++ gates_among after) ≡ occ out (declared_gate i.what) + occ out (gates_among after) = occ_append out (declared_gate i.what) (gates_among after) in
      let h : occ out (declared_gate i.what) ≡ occ out (out ∷ []) = ap (occ out) g in
      let k : one_if (same_name out out) ≡ 1 = ap one_if (itself out) in
      let x = occ_append out (data_inputs m ++ latch_outputs m) (gates_among before) in
      let y = occ_append out (data_inputs m) (latch_outputs m) in
      no_occ out (known before) (omega arith)

-- ---- the values of inputs and latches

zip_keys : (ns : List Name) (bs : Bits) → length ns ≡ length bs → keys (zip ns bs) ≡ ns
zip_keys [] bs h = refl
zip_keys (n ∷ ns) [] h = absurd (omega arith)
zip_keys (n ∷ ns) (b ∷ bs) h = λ i. n ∷ zip_keys ns bs (omega arith) i

pass_case : (b : Bool) (x y z : Bool) → b ≡ false → y ≡ z → cond b x y ≡ z
pass_case true x y z h e = cc h
pass_case false x y z h e = e

-- names that are not among the first pairs are looked up behind them
behind : (es fs : Pairs) (n : Name) → stands_in n (keys es) ≡ false → looked (es ++ fs) n ≡ looked fs n
behind [] fs n h = refl
behind (e ∷ es) fs n h = let parts = fails_first _ _ h in pass_case (same_name n e.0) e.1 _ _ parts.0 (behind es fs n parts.1)

all_behind : (es fs : Pairs) (ns : List Name) → ((n : Name) → occ n (keys es) + occ n ns ≤ 1) → map (looked (es ++ fs)) ns ≡ map (looked fs) ns
all_behind es fs [] h = refl
all_behind es fs (n ∷ ns) h =
    let none : stands_in n (keys es) ≡ false = let a = h n in let b : one_if (same_name n n) ≡ 1 = ap one_if (itself n) in no_occ n (keys es) (omega arith) in
    λ i. behind es fs n none i ∷ all_behind es fs ns (λ k. let a = h k in omega arith) i

zip_reads : (ns : List Name) (bs : Bits) (more : Pairs) → ((n : Name) → occ n ns ≤ 1) → length ns ≡ length bs → map (looked (zip ns bs ++ more)) ns ≡ bs
zip_reads [] [] more h e = refl
zip_reads [] (b ∷ bs) more h e = absurd (omega arith)
zip_reads (n ∷ ns) [] more h e = absurd (omega arith)
zip_reads (n ∷ ns) (b ∷ bs) more h e =
    let rest : map (looked ((n, b) ∷ (zip ns bs ++ more))) ns ≡ map (looked (zip ns bs ++ more)) ns = all_behind ((n, b) ∷ []) (zip ns bs ++ more) ns (λ k. let a = h k in omega arith) in
    let tail = rest ∙ zip_reads ns bs more (λ k. let a = h k in omega arith) (omega arith) in
    λ i. ap (λ c. cond c b (looked (zip ns bs ++ more) n)) (itself n) i ∷ tail i

abbrev pub latch_bits : Forced → List Name → Bits → Bits
latch_bits faults [] bits = []
latch_bits faults (q ∷ qs) [] = []
latch_bits faults (q ∷ qs) (b ∷ bits) = shown faults q b ∷ latch_bits faults qs bits

latch_bits_long : (faults : Forced) (qs : List Name) (bits : Bits) → length qs ≡ length bits → length qs ≡ length (latch_bits faults qs bits)
latch_bits_long faults [] bits h = refl
latch_bits_long faults (q ∷ qs) [] h = absurd (omega arith)
latch_bits_long faults (q ∷ qs) (b ∷ bits) h = ap suc (latch_bits_long faults qs bits (omega arith))

latches_agree : (faults : Forced) (v : Valuation) (qs : List Name) (bits : Bits) → length qs ≡ length bits → map v qs ≡ latch_bits faults qs bits → AllZip (λ q bit. v q ≡ shown faults q bit) qs bits
latches_agree faults v [] [] h e = tt
latches_agree faults v [] (b ∷ bits) h e = absurd (omega arith)
latches_agree faults v (q ∷ qs) [] h e = absurd (omega arith)
latches_agree faults v (q ∷ qs) (b ∷ bits) h e = (cc e, latches_agree faults v qs bits (omega arith) (cc e))

-- ---- the values of the gates, in file order

abbrev pub new_value : Forced → Pairs → Declared → Pairs
new_value faults env (a_statement (names ins out cover)) = (out, shown faults out (cover_value cover (map (looked env) ins))) ∷ []
new_value faults env _ = []

abbrev pub values_along : Forced → Pairs → List Item → Pairs
values_along faults env [] = env
values_along faults env (i ∷ rest) = values_along faults (env ++ new_value faults env i.what) rest

append_none : (es : Pairs) → es ++ [] ≡ es
append_none [] = refl
append_none (e ∷ es) = λ i. e ∷ append_none es i

grows : (faults : Forced) (env : Pairs) (rest : List Item) → (more : Pairs) × (values_along faults env rest ≡ env ++ more)
grows faults env [] = ([], sym (append_none env))
grows faults env (i ∷ rest) =
    let r = grows faults (env ++ new_value faults env i.what) rest in
    (new_value faults env i.what ++ r.0, r.1 ∙ append_assoc env (new_value faults env i.what) r.0)

flat_snoc : (g : Declared → List Name) (xs : List Item) (x : Item) → flat_map (λ i. g i.what) (xs ++ x ∷ []) ≡ flat_map (λ i. g i.what) xs ++ g x.what
flat_snoc g [] x = names_none (g x.what)
  where
    names_none : (ns : List Name) → ns ++ [] ≡ ns
    names_none [] = refl
    names_none (n ∷ ns) = λ i. n ∷ names_none ns i
flat_snoc g (y ∷ ys) x = ap (λ ns. g y.what ++ ns) (flat_snoc g ys x) ∙ sym (append_assoc (g y.what) (flat_map (λ i. g i.what) ys) (g x.what))

stands_left : (n : Name) (xs ys : List Name) → stands_in n xs ≡ true → stands_in n (xs ++ ys) ≡ true
stands_left n xs ys h = occ_stands n (xs ++ ys) (let a = stands_occ n xs h in let b = occ_append n xs ys in omega arith)

stands_right : (n : Name) (xs ys : List Name) → stands_in n ys ≡ true → stands_in n (xs ++ ys) ≡ true
stands_right n xs ys h = occ_stands n (xs ++ ys) (let a = stands_occ n ys h in let b = occ_append n xs ys in omega arith)

module _ (m : Model) (ordered : first_answer (item_fault m) [] (items_of m) ≡ None) (faults : Forced) where
  abbrev Holds : Valuation → Gate → Type 0
  Holds v g = v g.out ≡ shown faults g.out (cover_value g.cover (map v g.ins))

  new_keys : (env : Pairs) (what : Declared) → keys (new_value faults env what) ≡ declared_gate what
  new_keys env (an_input k) = refl
  new_keys env (an_output k) = refl
  new_keys env (a_clock k) = refl
  new_keys env (a_statement (names ins out cover)) = refl
  new_keys env (a_statement (latch d q clocking init)) = refl
  new_keys env (a_statement (subckt model binds)) = refl

  known_read : (earlier : List Item) (n : Name) → may_read m earlier n ≡ true → stands_in n (known m ordered earlier) ≡ true
  known_read earlier n h =
      elim (passes_one _ _ h) [
        | inl a ↦ stands_left n (data_inputs m ++ latch_outputs m) (gates_among earlier)
            (elim (passes_one _ _ a) [ inl x ↦ stands_left n (data_inputs m) (latch_outputs m) x | inr y ↦ stands_right n (data_inputs m) (latch_outputs m) y ])
        | inr b ↦ stands_right n (data_inputs m ++ latch_outputs m) (gates_among earlier) b
      ]

  -- what a gate reads keeps its value
  reads_stay : (earlier : List Item) (env more : Pairs) → keys env ≡ known m ordered earlier → (ns : List Name) → list_all (may_read m earlier) ns ≡ true → map (looked (env ++ more)) ns ≡ map (looked env) ns
  reads_stay earlier env more e [] h = refl
  reads_stay earlier env more e (n ∷ ns) h =
      let parts = passes_both _ _ h in
      let here : looked (env ++ more) n ≡ looked env n = stable env more n (ap (stands_in n) e ∙ known_read earlier n parts.0) in
      λ i. here i ∷ reads_stay earlier env more e ns parts.1 i

  gate_holds : (earlier : List Item) (env more : Pairs) (line : ℕ) (what : Declared) (after : List Item) → items_of m ≡ earlier ++ record { line = line; what = what } ∷ after → keys env ≡ known m ordered earlier
      → reads_later m earlier what ≡ false → OnItem (Holds (looked ((env ++ new_value faults env what) ++ more))) what
  gate_holds earlier env more line (an_input k) after e known_keys h = tt
  gate_holds earlier env more line (an_output k) after e known_keys h = tt
  gate_holds earlier env more line (a_clock k) after e known_keys h = tt
  gate_holds earlier env more line (a_statement (latch d q clocking init)) after e known_keys h = tt
  gate_holds earlier env more line (a_statement (subckt model binds)) after e known_keys h = tt
  gate_holds earlier env more line (a_statement (names ins out cover)) after e known_keys h =
      let value = shown faults out (cover_value cover (map (looked env) ins)) in
      let new : stands_in out (keys env) ≡ false = ap (stands_in out) known_keys ∙ new_gate m ordered earlier (record { line = line; what = a_statement (names ins out cover) }) after e out refl in
      let there : stands_in out (keys (env ++ (out, value) ∷ [])) ≡ true = ap (stands_in out) (keys_append env ((out, value) ∷ [])) ∙ stands_right out (keys env) (out ∷ []) (ap (λ b. b || false) (itself out)) in
      let own : looked ((env ++ (out, value) ∷ []) ++ more) out ≡ value = stable (env ++ (out, value) ∷ []) more out there ∙ fresh env out value new in
      let same : map (looked ((env ++ (out, value) ∷ []) ++ more)) ins ≡ map (looked env) ins =
      ap (λ es. map (looked es) ins) (append_assoc env ((out, value) ∷ []) more) ∙ reads_stay earlier env ((out, value) ∷ [] ++ more) known_keys ins (not_false _ h) in
      own ∙ ap (λ bits. shown faults out (cover_value cover bits)) (sym same)

  all_hold : (earlier rest : List Item) (env : Pairs) → items_of m ≡ earlier ++ rest → keys env ≡ known m ordered earlier → first_answer (item_fault m) earlier rest ≡ None
      → AllByRecursion (λ i. OnItem (Holds (looked (values_along faults env rest))) i.what) rest
  all_hold earlier [] env e k h = tt
  all_hold earlier (i ∷ rest) env e k h =
      let parts = none_both (item_fault m earlier i) _ h in
      let next = env ++ new_value faults env i.what in
      let g = grows faults next rest in
      let here = gate_holds earlier env g.0 i.line i.what rest e k (reads_earlier m earlier i parts.0) in
      let next_keys : keys next ≡ known m ordered (earlier ++ i ∷ []) =
      keys_append env (new_value faults env i.what) ∙ (ap₂ (λ xs ys. xs ++ ys) k (new_keys env i.what)
      ∙ (append_assoc (data_inputs m ++ latch_outputs m) (gates_among earlier) (declared_gate i.what) ∙ ap (λ ns. (data_inputs m ++ latch_outputs m) ++ ns) (sym (flat_snoc declared_gate earlier i)))) in (
        subst (λ es. OnItem (Holds (looked es)) i.what) (sym g.1) here,
        all_hold (earlier ++ i ∷ []) rest next (e ∙ sym (append_assoc earlier (i ∷ []) rest)) next_keys parts.1,
      )

  -- the values of a cycle
  abbrev pub first_values : Bits → Bits → Pairs
  first_values x stored = zip (data_inputs m) x ++ zip (latch_outputs m) (latch_bits faults (latch_outputs m) stored)

  abbrev pub cycle_values : Bits → Bits → Valuation
  cycle_values x stored = looked (values_along faults (first_values x stored) (items_of m))

  -- On an ordered file some valuation meets the values of a cycle with as many inputs and stored bits as there are.
  pub some_values : (x stored : Bits) → length (data_inputs m) ≡ length x → length (latch_outputs m) ≡ length stored → Values m stored x faults (cycle_values x stored)
  some_values x stored hx hs =
      let ins = zip (data_inputs m) x in
      let qs = zip (latch_outputs m) (latch_bits faults (latch_outputs m) stored) in
      let long = latch_bits_long faults (latch_outputs m) stored hs in
      let ins_keys : keys ins ≡ data_inputs m = zip_keys (data_inputs m) x hx in
      let qs_keys : keys qs ≡ latch_outputs m = zip_keys (latch_outputs m) (latch_bits faults (latch_outputs m) stored) long in
      let first_keys : keys (ins ++ qs) ≡ known m ordered [] =
      keys_append ins qs ∙ (ap₂ (λ xs ys. xs ++ ys) ins_keys qs_keys ∙ names_none (data_inputs m ++ latch_outputs m)) in
      let g = grows faults (ins ++ qs) (items_of m) in
      let all : values_along faults (ins ++ qs) (items_of m) ≡ ins ++ (qs ++ g.0) = g.1 ∙ append_assoc ins qs g.0 in
      record {
        inputs = ap (λ es. map (looked es) (data_inputs m)) all ∙ zip_reads (data_inputs m) x (qs ++ g.0) (λ n. let a = once_known m ordered n in omega arith) hx;
        latches = latches_agree faults (cycle_values x stored) (latch_outputs m) stored hs
            (ap (λ es. map (looked es) (latch_outputs m)) all
            ∙ (all_behind ins (qs ++ g.0) (latch_outputs m) (λ n. let a = once_known m ordered n in let b = ap (occ n) ins_keys in omega arith)
            ∙ zip_reads (latch_outputs m) (latch_bits faults (latch_outputs m) stored) g.0 (λ n. let a = once_known m ordered n in omega arith) long));
        gates = from_lines (Holds (cycle_values x stored)) m (all_hold [] (items_of m) (ins ++ qs) refl first_keys ordered);
      }
    where
      names_none : (ns : List Name) → ns ≡ ns ++ []
      names_none [] = refl
      names_none (n ∷ ns) = λ i. n ∷ names_none ns i
