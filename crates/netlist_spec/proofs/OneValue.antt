-- On an ordered file one valuation of the data inputs and the cells meets the values of a cycle.
use Rattle.std.proofs.Common.{◌≡◌, refl, sym, ◌∙◌, ap, subst, ℕ, List, [], ◌∷◌, ◌++◌, map, Bool, true, false, ◌||◌, ◌&&◌, not, ◌⊎◌, inl, inr, Option, Some, None, nat_le, cond}
use Rattle.std.specs.Prelude.{IsTrue, filter_map}
use Rattle.std.specs.List.{AllByRecursion, AllZip, cons_option, list_all}
use Rattle.std.specs.Option.{option_or}
use Rattle.std.specs.Cmp.Lexicographic.{bytes_decides}
use Rattle.netlist_spec.specs.Netlist.{Name, stands_in, Statement, names, latch, subckt, Port, Located, Model}
use Rattle.netlist_spec.specs.Covers.{cover_value}
use Rattle.netlist_spec.specs.Models.{as_gate, gates_of, data_inputs, latch_outputs, Gate}
use Rattle.netlist_spec.specs.Fits.{Valuation}
use Rattle.netlist_spec.specs.SourceRun.{Bits}
use Rattle.netlist_spec.specs.FileOrder.{Declared, an_input, an_output, a_clock, a_statement, Item, port_items, statement_items, place_item, by_line, port_items_of, items_of, first_answer}
use Rattle.netlist_spec.specs.Ordered.{has_subckt, unordered, item_fault, gates_among, declared_gate, may_read, is_at_fault, is_subckt, reads_later}
use Rattle.netlist_spec.specs.Values.{Forced, shown, Values}

-- one of two tests passes
pub passes_one : (a b : Bool) → (a || b) ≡ true → (a ≡ true) ⊎ (b ≡ true)
passes_one true b h = inl refl
passes_one false b h = inr h

pub fails_first : (a b : Bool) → (a || b) ≡ false → (a ≡ false) × (b ≡ false)
fails_first true b h = cc h
fails_first false b h = (refl, h)

pub passes_both : (a b : Bool) → (a && b) ≡ true → (a ≡ true) × (b ≡ true)
passes_both true b h = (refl, h)
passes_both false b h = cc h

pub not_false : (a : Bool) → not a ≡ false → a ≡ true
not_false true h = refl
not_false false h = cc h

-- what holds of each name of a list holds of a name that stands in it
pub at_name : (P : Name → Type 0) (n : Name) (ns : List Name) → AllByRecursion P ns → IsTrue (stands_in n ns) → P n
at_name P n [] a h = cc h
at_name P n (k ∷ ns) a h =
    elim (passes_one _ _ h) [ inl e ↦ subst P (sym ((bytes_decides n k).0 e)) a.0 | inr r ↦ at_name P n ns a.1 r ]

pub All_append : {A : Type 0} (P : A → Type 0) (xs ys : List A) → AllByRecursion P xs → AllByRecursion P ys → AllByRecursion P (xs ++ ys)
All_append P [] ys a b = b
All_append P (x ∷ xs) ys a b = (a.0, All_append P xs ys a.1 b)

pub All_front : {A : Type 0} (P : A → Type 0) (xs ys : List A) → AllByRecursion P (xs ++ ys) → AllByRecursion P xs
All_front P [] ys a = tt
All_front P (x ∷ xs) ys a = (a.0, All_front P xs ys a.1)

pub All_back : {A : Type 0} (P : A → Type 0) (xs ys : List A) → AllByRecursion P (xs ++ ys) → AllByRecursion P ys
All_back P [] ys a = a
All_back P (x ∷ xs) ys a = All_back P xs ys a.1

-- file order has the items of the lists and no others
All_place : (P : Item → Type 0) (x : Item) (ys : List Item) → P x → AllByRecursion P ys → AllByRecursion P (place_item x ys)
All_place P x [] p a = (p, tt)
All_place P x (y ∷ ys) p a =
    elim (nat_le x.line y.line) as (λ b. AllByRecursion P (cond b (x ∷ y ∷ ys) (y ∷ place_item x ys))) [ true ↦ (p, a) | false ↦ (a.0, All_place P x ys p a.1) ]

pub All_by_line : (P : Item → Type 0) (xs : List Item) → AllByRecursion P xs → AllByRecursion P (by_line xs)
All_by_line P [] a = tt
All_by_line P (x ∷ xs) a = All_place P x (by_line xs) a.0 (All_by_line P xs a.1)

placed_cases : (P : Item → Type 0) (x y : Item) (ys : List Item) (b : Bool) → (AllByRecursion P (place_item x ys) → P x × AllByRecursion P ys) → AllByRecursion P (cond b (x ∷ y ∷ ys) (y ∷ place_item x ys)) → P x × AllByRecursion P (y ∷ ys)
placed_cases P x y ys true rest a = (a.0, a.1)
placed_cases P x y ys false rest a = let r = rest a.1 in (r.0, (a.0, r.1))

All_placed : (P : Item → Type 0) (x : Item) (ys : List Item) → AllByRecursion P (place_item x ys) → P x × AllByRecursion P ys
All_placed P x [] a = (a.0, tt)
All_placed P x (y ∷ ys) a = placed_cases P x y ys (nat_le x.line y.line) (All_placed P x ys) a

pub All_from_line : (P : Item → Type 0) (xs : List Item) → AllByRecursion P (by_line xs) → AllByRecursion P xs
All_from_line P [] a = tt
All_from_line P (x ∷ xs) a =
    let parts = All_placed P x (by_line xs) a in
    (parts.0, All_from_line P xs parts.1)

-- P of the gate of a statement, and of an item, where it is one
abbrev pub OnGate : (Gate → Type 0) → Statement → Type 0
OnGate P (names ins out cover) = P (record { ins = ins; out = out; cover = cover })
OnGate P _ = Unit {0}

abbrev pub OnItem : (Gate → Type 0) → Declared → Type 0
OnItem P (a_statement s) = OnGate P s
OnItem P _ = Unit {0}

split_gate : (P : Gate → Type 0) (s : Statement) (rest : List Gate) → AllByRecursion P (cons_option (as_gate s) rest) → OnGate P s × AllByRecursion P rest
split_gate P (names ins out cover) rest a = (a.0, a.1)
split_gate P (latch d q clocking init) rest a = (tt, a)
split_gate P (subckt model binds) rest a = (tt, a)

join_gate : (P : Gate → Type 0) (s : Statement) (rest : List Gate) → OnGate P s → AllByRecursion P rest → AllByRecursion P (cons_option (as_gate s) rest)
join_gate P (names ins out cover) rest p a = (p, a)
join_gate P (latch d q clocking init) rest p a = a
join_gate P (subckt model binds) rest p a = a

items_from_gates : (P : Gate → Type 0) (ss : List Located) → AllByRecursion P (filter_map (λ s. as_gate s.what) ss) → AllByRecursion (λ i. OnItem P i.what) (statement_items ss)
items_from_gates P [] a = tt
items_from_gates P (s ∷ ss) a =
    let parts = split_gate P s.what (filter_map (λ s. as_gate s.what) ss) a in
    (parts.0, items_from_gates P ss parts.1)

gates_from_items : (P : Gate → Type 0) (ss : List Located) → AllByRecursion (λ i. OnItem P i.what) (statement_items ss) → AllByRecursion P (filter_map (λ s. as_gate s.what) ss)
gates_from_items P [] a = tt
gates_from_items P (s ∷ ss) a = join_gate P s.what _ a.0 (gates_from_items P ss a.1)

pub ports_are_none : (P : Gate → Type 0) (kind : Name → Declared) (ps : List Port) → ((n : Name) → OnItem P (kind n)) → AllByRecursion (λ i. OnItem P i.what) (port_items kind ps)
ports_are_none P kind [] h = tt
ports_are_none P kind (p ∷ ps) h = (h p.name, ports_are_none P kind ps h)

-- what holds of each gate of a model holds along its lines, and the other way round
pub along_lines : (P : Gate → Type 0) (m : Model) → AllByRecursion P (gates_of m) → AllByRecursion (λ i. OnItem P i.what) (items_of m)
along_lines P m a =
    All_by_line (λ i. OnItem P i.what) (port_items_of m ++ statement_items m.statements)
    (All_append _ _ (statement_items m.statements)
    (All_append _ _ _ (All_append _ _ _ (ports_are_none P (λ n. an_input n) m.inputs (λ n. tt)) (ports_are_none P (λ n. an_output n) m.outputs (λ n. tt))) (ports_are_none P (λ n. a_clock n) m.clocks (λ n. tt)))
    (items_from_gates P m.statements a))

pub from_lines : (P : Gate → Type 0) (m : Model) → AllByRecursion (λ i. OnItem P i.what) (items_of m) → AllByRecursion P (gates_of m)
from_lines P m a =
    gates_from_items P m.statements
    (All_back (λ i. OnItem P i.what) (port_items_of m) (statement_items m.statements)
    (All_from_line (λ i. OnItem P i.what) (port_items_of m ++ statement_items m.statements) a))

pub none_both : {A : Type 0} (a b : Option A) → option_or a b ≡ None → (a ≡ None) × (b ≡ None)
none_both None b e = (refl, e)
none_both (Some x) b e = cc e

pub no_fault_cases : (b c : Bool) (line : ℕ) → cond b (Some (has_subckt line)) (cond c (Some (unordered line)) None) ≡ None → c ≡ false
no_fault_cases true c line e = cc e
no_fault_cases false true line e = cc e
no_fault_cases false false line e = refl

-- a line that is not at fault reads no later cell
pub reads_earlier : (m : Model) (earlier : List Item) (i : Item) → item_fault m earlier i ≡ None → reads_later m earlier i.what ≡ false
reads_earlier m earlier i e =
    let sound = no_fault_cases (is_subckt i.what) (is_at_fault m earlier i.what) i.line e in
    (fails_second _ _ (fails_first _ _ (fails_first _ _ sound).0).0)
  where
    fails_second : (a b : Bool) → (a || b) ≡ false → b ≡ false
    fails_second a b h = (fails_first a b h).1

module _ (m : Model) (x stored : Bits) (faults : Forced) (v w : Valuation) (is_v : Values m stored x faults v) (is_w : Values m stored x faults w) where
  abbrev Agree : Name → Type 0
  Agree n = v n ≡ w n

  abbrev AgreeOut : Gate → Type 0
  AgreeOut g = v g.out ≡ w g.out

  abbrev Both : Gate → Type 0
  Both g =
      (v g.out ≡ shown faults g.out (cover_value g.cover (map v g.ins)))
      × (w g.out ≡ shown faults g.out (cover_value g.cover (map w g.ins)))

  pairs : (gs : List Gate) → AllByRecursion (λ g. v g.out ≡ shown faults g.out (cover_value g.cover (map v g.ins))) gs → AllByRecursion (λ g. w g.out ≡ shown faults g.out (cover_value g.cover (map w g.ins))) gs → AllByRecursion Both gs
  pairs [] a b = tt
  pairs (g ∷ gs) a b = ((a.0, b.0), pairs gs a.1 b.1)

  listed : (ns : List Name) → map v ns ≡ map w ns → AllByRecursion Agree ns
  listed [] e = tt
  listed (n ∷ ns) e = (cc e, listed ns (cc e))

  zipped : (qs : List Name) (bits : Bits) → AllZip (λ q bit. v q ≡ shown faults q bit) qs bits → AllZip (λ q bit. w q ≡ shown faults q bit) qs bits → AllByRecursion Agree qs
  zipped [] [] a b = tt
  zipped [] (bit ∷ bits) a b = tt
  zipped (q ∷ qs) [] a b = absurd a
  zipped (q ∷ qs) (bit ∷ bits) a b = (a.0 ∙ sym b.0, zipped qs bits a.1 b.1)

  pub agree_inputs : AllByRecursion Agree (data_inputs m)
  agree_inputs = listed (data_inputs m) (is_v.inputs ∙ sym is_w.inputs)

  pub agree_latches : AllByRecursion Agree (latch_outputs m)
  agree_latches = zipped (latch_outputs m) stored is_v.latches is_w.latches

  mapped : (ns : List Name) → AllByRecursion Agree ns → map v ns ≡ map w ns
  mapped [] a = refl
  mapped (n ∷ ns) a = λ i. a.0 i ∷ mapped ns a.1 i

  gates_of_item : (what : Declared) → OnItem AgreeOut what → AllByRecursion Agree (declared_gate what)
  gates_of_item (an_input n) a = tt
  gates_of_item (an_output n) a = tt
  gates_of_item (a_clock n) a = tt
  gates_of_item (a_statement (names ins out cover)) a = (a, tt)
  gates_of_item (a_statement (latch d q clocking init)) a = tt
  gates_of_item (a_statement (subckt model binds)) a = tt

  agree_earlier : (items : List Item) → AllByRecursion (λ i. OnItem AgreeOut i.what) items → AllByRecursion Agree (gates_among items)
  agree_earlier [] a = tt
  agree_earlier (i ∷ items) a = All_append Agree (declared_gate i.what) (gates_among items) (gates_of_item i.what a.0) (agree_earlier items a.1)

  agree_read : (earlier : List Item) → AllByRecursion Agree (gates_among earlier) → (n : Name) → may_read m earlier n ≡ true → v n ≡ w n
  agree_read earlier a n h =
      elim (passes_one _ _ h) [
        | inl e ↦ elim (passes_one _ _ e) [ inl i ↦ at_name Agree n (data_inputs m) agree_inputs i | inr q ↦ at_name Agree n (latch_outputs m) agree_latches q ]
        | inr g ↦ at_name Agree n (gates_among earlier) a g
      ]

  all_read : (earlier : List Item) → AllByRecursion Agree (gates_among earlier) → (ns : List Name) → list_all (may_read m earlier) ns ≡ true → AllByRecursion Agree ns
  all_read earlier a [] h = tt
  all_read earlier a (n ∷ ns) h = let parts = passes_both _ _ h in (agree_read earlier a n parts.0, all_read earlier a ns parts.1)

  one_item : (earlier : List Item) → AllByRecursion Agree (gates_among earlier) → (what : Declared) → OnItem Both what → reads_later m earlier what ≡ false → OnItem AgreeOut what
  one_item earlier a (an_input n) b h = tt
  one_item earlier a (an_output n) b h = tt
  one_item earlier a (a_clock n) b h = tt
  one_item earlier a (a_statement (latch d q clocking init)) b h = tt
  one_item earlier a (a_statement (subckt model binds)) b h = tt
  one_item earlier a (a_statement (names ins out cover)) b h =
      b.0 ∙ (ap (λ bits. shown faults out (cover_value cover bits)) (mapped ins (all_read earlier a ins (not_false _ h))) ∙ sym b.1)

  along : (earlier rest : List Item) → AllByRecursion (λ i. OnItem Both i.what) rest → first_answer (item_fault m) earlier rest ≡ None → AllByRecursion (λ i. OnItem AgreeOut i.what) earlier → AllByRecursion (λ i. OnItem AgreeOut i.what) rest
  along earlier [] b e a = tt
  along earlier (i ∷ rest) b e a =
      let parts = none_both (item_fault m earlier i) _ e in
      let here = one_item earlier (agree_earlier earlier a) i.what b.0 (reads_earlier m earlier i parts.0) in
      (here, along (earlier ++ i ∷ []) rest b.1 parts.1 (All_append (λ i. OnItem AgreeOut i.what) earlier (i ∷ []) a (here, tt)))

  -- the outputs of all gates agree, where no line is at fault
  pub agree_gates : first_answer (item_fault m) [] (items_of m) ≡ None → AllByRecursion AgreeOut (gates_of m)
  agree_gates e =
      from_lines AgreeOut m (along [] (items_of m) (along_lines Both m (pairs (gates_of m) is_v.gates is_w.gates)) e tt)
