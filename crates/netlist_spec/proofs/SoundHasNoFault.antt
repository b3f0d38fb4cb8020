-- A sound file is refused with nothing.
use Rattle.std.proofs.Common.{◌≡◌, ◌≢◌, refl, sym, ◌∙◌, ap, subst, ℕ, ◌+◌, ◌≤◌, List, [], ◌∷◌, ◌++◌, map, filter, find, length, Bool, true, false, ◌||◌, not, cond, Option, Some, None, inl, inr, nat_lt, arith, append_assoc}
use Rattle.std.specs.Prelude.{IsTrue}
use Rattle.std.specs.Bool.{then_some}
use Rattle.std.specs.List.{AllByRecursion, flat_map}
use Rattle.std.specs.Option.{option_or, option_map}
use Rattle.netlist_spec.specs.Lines.{is_empty, ends_with_backslash}
use Rattle.netlist_spec.specs.Netlist.{is_reserved, Name, same_name, stands_in, are_distinct, Bind, Statement, names, latch, subckt, Port, Located, Model, File, Quantity}
use Rattle.netlist_spec.specs.Reads.{first_appearances, control_nets}
use Rattle.netlist_spec.specs.Covers.{Library}
use Rattle.netlist_spec.specs.Placed.{Placed, nothing, a_model, a_table, a_linear, placed, port_names, input_ports, output_ports}
use Rattle.netlist_spec.specs.Models.{latches_of, clock_nets, data_inputs}
use Rattle.netlist_spec.specs.FileOrder.{Declared, an_input, an_output, a_clock, a_statement, Item, port_items, statement_items, port_items_of, items_of, first_answer}
use Rattle.netlist_spec.specs.FileOrder.{declared_input, declared_output, declared_clock, inputs_among, outputs_among, clocks_among}
use Rattle.netlist_spec.specs.Size.{whole_cost}
use Rattle.netlist_spec.specs.Sound.{drives, reads, driven_nets, read_nets, ReadsFor, LeadsBack, is_clocked, written_names, HasOneDriverEach, PlacesWell, IsSoundModel, IsSoundMain, IsSound}
use Rattle.netlist_spec.specs.SoundFaults.{SoundFault, twice, no_such_model, bad_port, recursion, latch_inside, too_deep, undriven, bad_clocking, loop, reserved, too_large, first_repeated, driven_at, driven_among, twice_at, twice_in, unnamed_if, no_such_model_at, no_such_model_in, bad_formal, missing_port, with_model, bad_port_of, bad_port_at, bad_port_in, item_reads, undriven_in, clocking_in, WalksTo, WalksAlong, IsWalkedLoop, reserved_in, too_large_in, Finds}
use Rattle.std.specs.Cmp.Lexicographic.{bytes_decides}
use Rattle.netlist_spec.proofs.NoFault.{other_way}
use Rattle.netlist_spec.proofs.OneValue.{passes_one, passes_both, All_append, All_front, All_back, All_by_line, at_name}
use Rattle.netlist_spec.proofs.Occurrences.{one_if, occ, occ_append, stands_occ, occ_stands, distinct_occ, first_stands, occ_by_line, occ_flat, turn}

-- where a first answer is, the item stands in the list
record FoundAt {A : Type 0} (answer : List Item → Item → Option A) (items : List Item) (a : A) : Type 0 where
  before : List Item
  item : Item
  after : List Item
  split : items ≡ before ++ item ∷ after
  answers : answer before item ≡ Some a

found_case : {A : Type 0} (answer : List Item → Item → Option A) (a : A) (earlier : List Item) (x : Item) (xs : List Item) (o : Option A) → answer earlier x ≡ o
    → (first_answer answer (earlier ++ x ∷ []) xs ≡ Some a → FoundAt answer ((earlier ++ x ∷ []) ++ xs) a)
    → option_or o (first_answer answer (earlier ++ x ∷ []) xs) ≡ Some a → FoundAt answer (earlier ++ x ∷ xs) a
found_case answer a earlier x xs (Some b) e f h = record { before = earlier; item = x; after = xs; split = refl; answers = e ∙ h }
found_case answer a earlier x xs None e f h =
    subst (λ items. FoundAt answer items a) (append_assoc earlier (x ∷ []) xs) (f h)

found_in : {A : Type 0} (answer : List Item → Item → Option A) (a : A) (earlier rest : List Item) → first_answer answer earlier rest ≡ Some a → FoundAt answer (earlier ++ rest) a
found_in answer a earlier [] h = cc h
found_in answer a earlier (x ∷ xs) h = found_case answer a earlier x xs (answer earlier x) refl (found_in answer a (earlier ++ x ∷ []) xs) h

-- ---- what holds of each declaration

abbrev OnStatement : (Statement → Type 0) → Declared → Type 0
OnStatement P (a_statement s) = P s
OnStatement P _ = Unit {0}

statements_hold : (P : Declared → Type 0) (ss : List Located) → AllByRecursion (λ s. P (a_statement s.what)) ss → AllByRecursion (λ i. P i.what) (statement_items ss)
statements_hold P [] a = tt
statements_hold P (s ∷ ss) a = (a.0, statements_hold P ss a.1)

ports_hold : (P : Declared → Type 0) (kind : Name → Declared) (ps : List Port) → AllByRecursion (λ n. P (kind n)) (port_names ps) → AllByRecursion (λ i. P i.what) (port_items kind ps)
ports_hold P kind [] a = tt
ports_hold P kind (p ∷ ps) a = (a.0, ports_hold P kind ps a.1)

items_hold : (P : Declared → Type 0) (m : Model) → AllByRecursion (λ n. P (an_input n)) (port_names m.inputs) → AllByRecursion (λ n. P (an_output n)) (port_names m.outputs) → AllByRecursion (λ n. P (a_clock n)) (port_names m.clocks)
    → AllByRecursion (λ s. P (a_statement s.what)) m.statements → AllByRecursion (λ i. P i.what) (items_of m)
items_hold P m a b c d =
    All_by_line (λ i. P i.what) (port_items_of m ++ statement_items m.statements)
    (All_append (λ i. P i.what) (port_items_of m) (statement_items m.statements)
    (All_append (λ i. P i.what) (port_items (λ n. an_input n) m.inputs ++ port_items (λ n. an_output n) m.outputs) (port_items (λ n. a_clock n) m.clocks)
    (All_append (λ i. P i.what) (port_items (λ n. an_input n) m.inputs) (port_items (λ n. an_output n) m.outputs) (ports_hold P (λ n. an_input n) m.inputs a) (ports_hold P (λ n. an_output n) m.outputs b))
    (ports_hold P (λ n. a_clock n) m.clocks c))
    (statements_hold P m.statements d))

all_unit : {A : Type 0} (xs : List A) → AllByRecursion (λ x. Unit {0}) xs
all_unit [] = tt
all_unit (x ∷ xs) = (tt, all_unit xs)

at_item : {A : Type 0} (answer : List Item → Item → Option A) (a : A) (m : Model) (P : Declared → Type 0) → AllByRecursion (λ i. P i.what) (items_of m) → (f : FoundAt answer (items_of m) a) → P f.item.what
at_item answer a m P all f = (All_back (λ i. P i.what) f.before (f.item ∷ f.after) (subst (AllByRecursion (λ i. P i.what)) f.split all)).0

-- ---- names and models of `.subckt`

module _ (file : File) (library : Library) where
  no_model_found : (m : Model) → IsSoundModel file library m → (n : Name) → no_such_model_in file library m ≡ Some n → ⊥
  no_model_found m s n h =
      let f = found_in (λ earlier i. no_such_model_at file library i.what) n [] (items_of m) h in
      named f.item.what (at_item (λ earlier i. no_such_model_at file library i.what) n m (OnStatement (PlacesWell file library)) (items_hold (OnStatement (PlacesWell file library)) m (all_unit _) (all_unit _) (all_unit _) s.placements) f) f.answers
    where
      unnamed : (p : Placed) (name : Name) → p ≢ nothing → unnamed_if p name ≡ Some n → ⊥
      unnamed nothing name h e = h refl
      unnamed (a_model k) name h e = cc e
      unnamed (a_table t) name h e = cc e
      unnamed (a_linear l) name h e = cc e

      named : (what : Declared) → OnStatement (PlacesWell file library) what → no_such_model_at file library what ≡ Some n → ⊥
      named (an_input k) p e = cc e
      named (an_output k) p e = cc e
      named (a_clock k) p e = cc e
      named (a_statement (names ins out cover)) p e = cc e
      named (a_statement (latch d q clocking init)) p e = cc e
      named (a_statement (subckt name binds)) p e = unnamed (placed file library name) name p.meaning e

  -- ---- ports

  fault_none : (b : Bool) (n : Name) → b ≡ false → then_some b n ≡ None
  fault_none true n h = cc h
  fault_none false n h = refl

  none_of_two : (a b : Option Name) → a ≡ None → b ≡ None → option_or a b ≡ None
  none_of_two None b h k = k
  none_of_two (Some x) b h k = cc h

  both_no : (a b : Bool) → a ≡ false → b ≡ false → (a || b) ≡ false
  both_no true b h k = cc h
  both_no false b h k = k

  first_no : (a b : Bool) → (a || b) ≡ false → (a ≡ false) × (b ≡ false)
  first_no true b h = cc h
  first_no false b h = (refl, h)

  -- the formals that follow are not among those before
  abbrev Fresh : List Name → List Bind → Type 0
  Fresh earlier binds = AllByRecursion (λ b. stands_in b.formal earlier ≡ false) binds

  grown : (f : Name) (earlier : List Name) (binds : List Bind) → stands_in f (map (λ b. b.formal) binds) ≡ false → Fresh earlier binds → Fresh (f ∷ earlier) binds
  grown f earlier [] h a = tt
  grown f earlier (b ∷ binds) h a =
      let parts = first_no (same_name f b.formal) _ h in
      (both_no _ _ (other_way f b.formal parts.0) a.0, grown f earlier binds parts.1 a.1)

  formals_good : (ports earlier : List Name) (binds : List Bind) → AllByRecursion (λ b. IsTrue (stands_in b.formal ports)) binds → are_distinct (map (λ b. b.formal) binds) ≡ true → Fresh earlier binds → bad_formal ports earlier binds ≡ None
  formals_good ports earlier [] a d f = refl
  formals_good ports earlier (b ∷ binds) a d f =
      let parts = passes_both _ _ d in
      none_of_two _ _ (fault_none _ b.formal (both_no _ _ (ap not a.0) f.0))
      (formals_good ports (b.formal ∷ earlier) binds a.1 parts.1 (grown b.formal earlier binds (turn _ parts.0) f.1))

  no_find : (test : Name → Bool) (ns : List Name) → AllByRecursion (λ n. test n ≡ false) ns → find test ns ≡ None
  no_find test [] a = refl
  no_find test (n ∷ ns) a = ap (λ b. cond b (Some n) (find test ns)) a.0 ∙ no_find test ns a.1

  given_all : (formals ns : List Name) → AllByRecursion (λ p. IsTrue (stands_in p formals)) ns → AllByRecursion (λ p. not (stands_in p formals) ≡ false) ns
  given_all formals [] a = tt
  given_all formals (n ∷ ns) a = (ap not a.0, given_all formals ns a.1)

  none_fresh : (binds : List Bind) → Fresh [] binds
  none_fresh [] = tt
  none_fresh (b ∷ binds) = (refl, none_fresh binds)

  ports_good : (p : Placed) (name : Name) (binds : List Bind) → IsTrue (are_distinct (map (λ b. b.formal) binds))
      → AllByRecursion (λ b. IsTrue (stands_in b.formal (input_ports p ++ output_ports p))) binds
      → AllByRecursion (λ q. IsTrue (stands_in q (map (λ b. b.formal) binds))) (input_ports p) → bad_port_of file library p name binds ≡ None
  ports_good p name binds once known given =
      go p (none_of_two _ _ (formals_good (input_ports p ++ output_ports p) [] binds known once (none_fresh binds)) (no_find (λ q. not (stands_in q (map (λ b. b.formal) binds))) (input_ports p) (given_all (map (λ b. b.formal) binds) (input_ports p) given)))
    where
      go : (p : Placed) → option_or (bad_formal (input_ports p ++ output_ports p) [] binds) (missing_port (input_ports p) binds) ≡ None → bad_port_of file library p name binds ≡ None
      go nothing e = refl
      go (a_model k) e = ap (with_model name) e
      go (a_table t) e = ap (with_model name) e
      go (a_linear l) e = ap (with_model name) e

  no_bad_port : (m : Model) → IsSoundModel file library m → (a : Name × Name) → bad_port_in file library m ≡ Some a → ⊥
  no_bad_port m s a h =
      let f = found_in (λ earlier i. bad_port_at file library i.what) a [] (items_of m) h in
      port f.item.what (at_item (λ earlier i. bad_port_at file library i.what) a m (OnStatement (PlacesWell file library)) (items_hold (OnStatement (PlacesWell file library)) m (all_unit _) (all_unit _) (all_unit _) s.placements) f) f.answers
    where
      none_some : (o : Option (Name × Name)) → o ≡ None → o ≡ Some a → ⊥
      none_some None h e = cc e
      none_some (Some b) h e = cc h

      port : (what : Declared) → OnStatement (PlacesWell file library) what → bad_port_at file library what ≡ Some a → ⊥
      port (an_input k) p e = cc e
      port (an_output k) p e = cc e
      port (a_clock k) p e = cc e
      port (a_statement (names ins out cover)) p e = cc e
      port (a_statement (latch d q clocking init)) p e = cc e
      port (a_statement (subckt name binds)) p e = none_some _ (ports_good (placed file library name) name binds p.once p.ports p.given) e

  -- ---- nets that are read

  abbrev Driven : Model → Name → Type 0
  Driven m n = IsTrue (stands_in n (driven_nets file library m))

  read_statements : (P : Name → Type 0) (ss : List Located) → AllByRecursion P (flat_map (λ s. reads file library s.what) ss) → AllByRecursion (λ s. AllByRecursion P (item_reads file library (a_statement s.what))) ss
  read_statements P [] a = tt
  read_statements P (s ∷ ss) a =
      (All_front P (reads file library s.what) (flat_map (λ s. reads file library s.what) ss) a, read_statements P ss (All_back P (reads file library s.what) (flat_map (λ s. reads file library s.what) ss) a))

  read_outputs : (P : Name → Type 0) (ns : List Name) → AllByRecursion P ns → AllByRecursion (λ n. AllByRecursion P (item_reads file library (an_output n))) ns
  read_outputs P [] a = tt
  read_outputs P (n ∷ ns) a = ((a.0, tt), read_outputs P ns a.1)

  no_undriven : (m : Model) → IsSoundModel file library m → (n : Name) → undriven_in file library m ≡ Some n → ⊥
  no_undriven m s n h =
      let answer : List Item → Item → Option Name = λ earlier i. find (λ k. not (stands_in k (driven_nets file library m))) (item_reads file library i.what) in
      let f = found_in answer n [] (items_of m) h in
      let all = items_hold (λ what. AllByRecursion (Driven m) (item_reads file library what)) m (all_unit _)
      (read_outputs (Driven m) (port_names m.outputs) (All_back (Driven m) (flat_map (λ s. reads file library s.what) m.statements) (port_names m.outputs) s.driven))
      (all_unit _)
      (read_statements (Driven m) m.statements (All_front (Driven m) (flat_map (λ s. reads file library s.what) m.statements) (port_names m.outputs) s.driven)) in
      let here = at_item answer n m (λ what. AllByRecursion (Driven m) (item_reads file library what)) all f in
      none_some _ (no_find (λ k. not (stands_in k (driven_nets file library m))) (item_reads file library f.item.what) (given_all (driven_nets file library m) (item_reads file library f.item.what) here)) f.answers
    where
      none_some : (o : Option Name) → o ≡ None → o ≡ Some n → ⊥
      none_some None h e = cc e
      none_some (Some b) h e = cc h

  -- ---- loops

  walk_reads : (m : Model) (n k : Name) → WalksTo file library m n k → ReadsFor file library m n k
  walk_reads m n k w = (w.driver, w.stands, w.reads_on, w.of_net, stands_at w.next.split)
    where
      here : (before after : List Name) → stands_in k (before ++ k ∷ after) ≡ true
      here [] after = ap (λ b. b || stands_in k after) ((bytes_decides k k).1 refl)
      here (x ∷ before) after = ap (λ b. same_name k x || b) (here before after) ∙ or_last (same_name k x)
        where
          or_last : (b : Bool) → (b || true) ≡ true
          or_last true = refl
          or_last false = refl

      stands_at : reads file library w.driver ≡ w.next.before ++ k ∷ w.next.after → stands_in k (reads file library w.driver) ≡ true
      stands_at e = ap (stands_in k) e ∙ here w.next.before w.next.after

  pub walk_leads : (m : Model) (first : Name) (ns : List Name) → WalksAlong file library m ns first → LeadsBack file library m first ns
  walk_leads m first [] w = w
  walk_leads m first (n ∷ []) w = walk_reads m n first w
  walk_leads m first (n ∷ k ∷ ns) w = (walk_reads m n k w.0, walk_leads m first (k ∷ ns) w.1)

  pub along_back : (m : Model) (first : Name) (front : List Name) (n : Name) (ns : List Name) → WalksAlong file library m (front ++ n ∷ ns) first → WalksAlong file library m (n ∷ ns) first
  along_back m first [] n ns w = w
  along_back m first (x ∷ []) n ns w = w.1
  along_back m first (x ∷ y ∷ front) n ns w = along_back m first (y ∷ front) n ns w.1

  no_walked_loop : (m : Model) → IsSoundModel file library m → (ns : List Name) → IsWalkedLoop file library m ns → ⊥
  no_walked_loop m s ns w =
      s.no_loop (w.first ∷ w.others)
      (walk_leads m w.first (w.first ∷ w.others)
      (along_back m w.first w.front w.first w.others (subst (λ ks. WalksAlong file library m (w.front ++ ks) w.first) w.cycle w.walks)))

  -- ---- second drivers

  ports_give : (g : Declared → List Name) (kind : Name → Declared) → ((k : Name) → g (kind k) ≡ k ∷ []) → (ps : List Port) → flat_map (λ i. g i.what) (port_items kind ps) ≡ port_names ps
  ports_give g kind e [] = refl
  ports_give g kind e (p ∷ ps) = ap (λ ns. ns ++ flat_map (λ i. g i.what) (port_items kind ps)) (e p.name) ∙ ap (λ ns. p.name ∷ ns) (ports_give g kind e ps)

  ports_give_none : (g : Declared → List Name) (kind : Name → Declared) → ((k : Name) → g (kind k) ≡ []) → (ps : List Port) → flat_map (λ i. g i.what) (port_items kind ps) ≡ []
  ports_give_none g kind e [] = refl
  ports_give_none g kind e (p ∷ ps) = ap (λ ns. ns ++ flat_map (λ i. g i.what) (port_items kind ps)) (e p.name) ∙ ports_give_none g kind e ps

  statements_give_none : (g : Declared → List Name) → ((s : Statement) → g (a_statement s) ≡ []) → (ss : List Located) → flat_map (λ i. g i.what) (statement_items ss) ≡ []
  statements_give_none g e [] = refl
  statements_give_none g e (s ∷ ss) = ap (λ ns. ns ++ flat_map (λ i. g i.what) (statement_items ss)) (e s.what) ∙ statements_give_none g e ss

  statements_drive : (ss : List Located) → flat_map (λ i. driven_at file library i.what) (statement_items ss) ≡ flat_map (λ s. drives file library s.what) ss
  statements_drive [] = refl
  statements_drive (s ∷ ss) = ap (λ ns. drives file library s.what ++ ns) (statements_drive ss)

  module _ (m : Model) (n : Name) where
    abbrev total : (Declared → List Name) → ℕ
    total g = occ n (flat_map (λ i. g i.what) (items_of m))

    in_lists : (g : Declared → List Name) → total g ≡ occ n (flat_map (λ i. g i.what) (port_items (λ k. an_input k) m.inputs)) + occ n (flat_map (λ i. g i.what) (port_items (λ k. an_output k) m.outputs))
        + occ n (flat_map (λ i. g i.what) (port_items (λ k. a_clock k) m.clocks)) + occ n (flat_map (λ i. g i.what) (statement_items m.statements))
    in_lists g =
        let f : Item → List Name = λ i. g i.what in
        let a = occ_by_line f n (port_items_of m ++ statement_items m.statements) in
        let b = occ_flat f n (port_items_of m) (statement_items m.statements) in
        let c = occ_flat f n (port_items (λ k. an_input k) m.inputs ++ port_items (λ k. an_output k) m.outputs) (port_items (λ k. a_clock k) m.clocks) in
        let d = occ_flat f n (port_items (λ k. an_input k) m.inputs) (port_items (λ k. an_output k) m.outputs) in
        omega arith

    pub inputs_total : total declared_input ≡ occ n (port_names m.inputs)
    inputs_total =
        let a = in_lists declared_input in
        let b = ap (occ n) (ports_give declared_input (λ k. an_input k) (λ k. refl) m.inputs) in
        let c : occ n (flat_map (λ i. declared_input i.what) (port_items (λ k. an_output k) m.outputs)) ≡ 0 = ap (occ n) (ports_give_none declared_input (λ k. an_output k) (λ k. refl) m.outputs) in
        let d : occ n (flat_map (λ i. declared_input i.what) (port_items (λ k. a_clock k) m.clocks)) ≡ 0 = ap (occ n) (ports_give_none declared_input (λ k. a_clock k) (λ k. refl) m.clocks) in
        let e : occ n (flat_map (λ i. declared_input i.what) (statement_items m.statements)) ≡ 0 = ap (occ n) (statements_give_none declared_input (λ s. refl) m.statements) in
        omega arith

    pub outputs_total : total declared_output ≡ occ n (port_names m.outputs)
    outputs_total =
        let a = in_lists declared_output in
        let b = ap (occ n) (ports_give declared_output (λ k. an_output k) (λ k. refl) m.outputs) in
        let c : occ n (flat_map (λ i. declared_output i.what) (port_items (λ k. an_input k) m.inputs)) ≡ 0 = ap (occ n) (ports_give_none declared_output (λ k. an_input k) (λ k. refl) m.inputs) in
        let d : occ n (flat_map (λ i. declared_output i.what) (port_items (λ k. a_clock k) m.clocks)) ≡ 0 = ap (occ n) (ports_give_none declared_output (λ k. a_clock k) (λ k. refl) m.clocks) in
        let e : occ n (flat_map (λ i. declared_output i.what) (statement_items m.statements)) ≡ 0 = ap (occ n) (statements_give_none declared_output (λ s. refl) m.statements) in
        omega arith

    pub clocks_total : total declared_clock ≡ occ n (port_names m.clocks)
    clocks_total =
        let a = in_lists declared_clock in
        let b = ap (occ n) (ports_give declared_clock (λ k. a_clock k) (λ k. refl) m.clocks) in
        let c : occ n (flat_map (λ i. declared_clock i.what) (port_items (λ k. an_input k) m.inputs)) ≡ 0 = ap (occ n) (ports_give_none declared_clock (λ k. an_input k) (λ k. refl) m.inputs) in
        let d : occ n (flat_map (λ i. declared_clock i.what) (port_items (λ k. an_output k) m.outputs)) ≡ 0 = ap (occ n) (ports_give_none declared_clock (λ k. an_output k) (λ k. refl) m.outputs) in
        let e : occ n (flat_map (λ i. declared_clock i.what) (statement_items m.statements)) ≡ 0 = ap (occ n) (statements_give_none declared_clock (λ s. refl) m.statements) in
        omega arith

    pub driven_total : total (driven_at file library) ≡ occ n (flat_map (λ s. drives file library s.what) m.statements)
    driven_total =
        let a = in_lists (driven_at file library) in
        let b : occ n (flat_map (λ i. driven_at file library i.what) (port_items (λ k. an_input k) m.inputs)) ≡ 0 = ap (occ n) (ports_give_none (driven_at file library) (λ k. an_input k) (λ k. refl) m.inputs) in
        let c : occ n (flat_map (λ i. driven_at file library i.what) (port_items (λ k. an_output k) m.outputs)) ≡ 0 = ap (occ n) (ports_give_none (driven_at file library) (λ k. an_output k) (λ k. refl) m.outputs) in
        let d : occ n (flat_map (λ i. driven_at file library i.what) (port_items (λ k. a_clock k) m.clocks)) ≡ 0 = ap (occ n) (ports_give_none (driven_at file library) (λ k. a_clock k) (λ k. refl) m.clocks) in
        let e = ap (occ n) (statements_drive m.statements) in
        omega arith

    -- the declarations before an item and its own are among all
    parts_of_total : (g : Declared → List Name) (before : List Item) (item : Item) (after : List Item) → items_of m ≡ before ++ item ∷ after
        → total g ≡ occ n (flat_map (λ i. g i.what) before) + (occ n (g item.what) + occ n (flat_map (λ i. g i.what) after))
    parts_of_total g before item after e =
        let a : total g ≡ occ n (flat_map (λ i. g i.what) (before ++ item ∷ after)) = ap (λ items. occ n (flat_map (λ i. g i.what) items)) e in
        let b = occ_flat (λ i. g i.what) n before (item ∷ after) in
        let c : occ n (g item.what ++ flat_map (λ i. g i.what) after) ≡ occ n (g item.what) + occ n (flat_map (λ i. g i.what) after) = occ_append n (g item.what) (flat_map (λ i. g i.what) after) in
        omega arith

    -- a port is driven once at most, and no statement drives it besides
    one_driver : HasOneDriverEach file library m → (1 ≤ occ n (port_names m.inputs) + occ n (port_names m.clocks)) → 1 ≤ occ n (flat_map (λ s. drives file library s.what) m.statements) → ⊥
    one_driver d h k =
        let ports = port_names m.inputs ++ port_names m.clocks in
        let a : occ n ports ≡ occ n (port_names m.inputs) + occ n (port_names m.clocks) = occ_append n (port_names m.inputs) (port_names m.clocks) in
        let b : 1 ≤ occ n (first_appearances ports) = stands_occ n (first_appearances ports) (first_stands n ports (occ_stands n ports (omega arith))) in
        let c : occ n (driven_nets file library m) ≡ occ n (first_appearances ports) + occ n (flat_map (λ s. drives file library s.what) m.statements) = occ_append n (first_appearances ports) (flat_map (λ s. drives file library s.what) m.statements) in
        let e = distinct_occ n (driven_nets file library m) d.drivers in
        omega arith

    one_statement : HasOneDriverEach file library m → occ n (flat_map (λ s. drives file library s.what) m.statements) ≤ 1
    one_statement d =
        let ports = port_names m.inputs ++ port_names m.clocks in
        let c : occ n (driven_nets file library m) ≡ occ n (first_appearances ports) + occ n (flat_map (λ s. drives file library s.what) m.statements) = occ_append n (first_appearances ports) (flat_map (λ s. drives file library s.what) m.statements) in
        let e = distinct_occ n (driven_nets file library m) d.drivers in
        omega arith

  one_self : (k : Name) → occ k (k ∷ []) ≡ 1
  one_self k = let e : one_if (same_name k k) ≡ 1 = ap one_if ((bytes_decides k k).1 refl) in omega arith

  fault_some : (b : Bool) (k n : Name) → then_some b k ≡ Some n → (b ≡ true) × (k ≡ n)
  fault_some true k n h = (refl, cc h)
  fault_some false k n h = cc h

  repeated_case : (others : List Name) (n k : Name) (ks : List Name) (b : Bool) → stands_in k others ≡ b → (first_repeated (k ∷ others) ks ≡ Some n → (1 ≤ occ n ks) × (2 ≤ occ n (k ∷ others) + occ n ks))
      → option_or (then_some b k) (first_repeated (k ∷ others) ks) ≡ Some n → (1 ≤ occ n (k ∷ ks)) × (2 ≤ occ n others + occ n (k ∷ ks))
  repeated_case others n k ks false e f h =
      let r = f h in
      let a = r.0 in
      let b = r.1 in
      (omega arith, omega arith)
  repeated_case others n k ks true e f h =
      let same : k ≡ n = cc h in
      let one : one_if (same_name n k) ≡ 1 = ap one_if ((bytes_decides n k).1 (sym same)) in
      let seen : 1 ≤ occ n others = stands_occ n others (subst (λ x. stands_in x others ≡ true) same e) in
      (omega arith, omega arith)

  repeated_twice : (others : List Name) (n : Name) (ns : List Name) → first_repeated others ns ≡ Some n → (1 ≤ occ n ns) × (2 ≤ occ n others + occ n ns)
  repeated_twice others n [] h = cc h
  repeated_twice others n (k ∷ ks) h = repeated_case others n k ks (stands_in k others) refl (repeated_twice (k ∷ others) n ks) h

  twice_of : (m : Model) (n : Name) → HasOneDriverEach file library m → (before : List Item) (line : ℕ) (what : Declared) (after : List Item) → items_of m ≡ before ++ record { line = line; what = what } ∷ after → twice_at file library before what ≡ Some n → ⊥
  twice_of m n d before line (an_input k) after e h =
      let found = fault_some _ k n h in
      let one = one_self k in
      let all = inputs_total m k in
      let parts = parts_of_total m k declared_input before (record { line = line; what = an_input k }) after e in
      elim (passes_one _ _ found.0) [
        | inl a ↦ (let x = stands_occ k (inputs_among before) a in let y = distinct_occ k (port_names m.inputs) d.inputs in omega arith)
        | inr b ↦ (let x = stands_occ k (driven_among file library before) b in
            let y = parts_of_total m k (driven_at file library) before (record { line = line; what = an_input k }) after e in
            let z = driven_total m k in
            one_driver m k d (omega arith) (omega arith))
      ]
  twice_of m n d before line (a_clock k) after e h =
      let found = fault_some _ k n h in
      let one = one_self k in
      let all = clocks_total m k in
      let parts = parts_of_total m k declared_clock before (record { line = line; what = a_clock k }) after e in
      elim (passes_one _ _ found.0) [
        | inl a ↦ (let x = stands_occ k (clocks_among before) a in let y = distinct_occ k (port_names m.clocks) d.clocks in omega arith)
        | inr b ↦ (let x = stands_occ k (driven_among file library before) b in
            let y = parts_of_total m k (driven_at file library) before (record { line = line; what = a_clock k }) after e in
            let z = driven_total m k in
            one_driver m k d (omega arith) (omega arith))
      ]
  twice_of m n d before line (an_output k) after e h =
      let found = fault_some _ k n h in
      let one = one_self k in
      let all = outputs_total m k in
      let parts = parts_of_total m k declared_output before (record { line = line; what = an_output k }) after e in
      let x = stands_occ k (outputs_among before) found.0 in
      let y = distinct_occ k (port_names m.outputs) d.outputs in
      omega arith
  twice_of m n d before line (a_statement s) after e h =
      let two = repeated_twice (inputs_among before ++ clocks_among before ++ driven_among file library before) n (drives file library s) h in
      let a = occ_append n (inputs_among before ++ clocks_among before) (driven_among file library before) in
      let b = occ_append n (inputs_among before) (clocks_among before) in
      let i = parts_of_total m n declared_input before (record { line = line; what = a_statement s }) after e in
      let c = parts_of_total m n declared_clock before (record { line = line; what = a_statement s }) after e in
      let t = parts_of_total m n (driven_at file library) before (record { line = line; what = a_statement s }) after e in
      let it = inputs_total m n in
      let ct = clocks_total m n in
      let dt = driven_total m n in
      let most = one_statement m n d in
      let one = two.0 in
      let both = two.1 in
      one_driver m n d (omega arith) (omega arith)

  no_twice : (m : Model) → IsSoundModel file library m → (n : Name) → twice_in file library m ≡ Some n → ⊥
  no_twice m s n h =
      let f = found_in (λ earlier i. twice_at file library earlier i.what) n [] (items_of m) h in
      twice_of m n s.drivers f.before f.item.line f.item.what f.after f.split f.answers

  -- ---- the main model

  none_some : {A : Type 0} (o : Option A) (a : A) → o ≡ None → o ≡ Some a → ⊥
  none_some None a h e = cc e
  none_some (Some b) a h e = cc h

  none_found : {A : Type 0} (test : A → Bool) (xs : List A) → AllByRecursion (λ x. test x ≡ false) xs → find test xs ≡ None
  none_found test [] a = refl
  none_found test (x ∷ xs) a = ap (λ b. cond b (Some x) (find test xs)) a.0 ∙ none_found test xs a.1

  turned : {A : Type 0} (test : A → Bool) (xs : List A) → AllByRecursion (λ x. IsTrue (test x)) xs → AllByRecursion (λ x. not (test x) ≡ false) xs
  turned test [] a = tt
  turned test (x ∷ xs) a = (ap not a.0, turned test xs a.1)

  turned_back : {A : Type 0} (test : A → Bool) (xs : List A) → AllByRecursion (λ x. IsTrue (not (test x))) xs → AllByRecursion (λ x. test x ≡ false) xs
  turned_back test [] a = tt
  turned_back test (x ∷ xs) a = (turn _ a.0, turned_back test xs a.1)

  filter_case : (P : Name → Type 0) (n : Name) (rest among : List Name) → AllByRecursion P among → AllByRecursion P rest → (b : Bool) → stands_in n among ≡ b → AllByRecursion P (cond b (n ∷ rest) rest)
  filter_case P n rest among a r true e = (at_name P n among a e, r)
  filter_case P n rest among a r false e = r

  filtered : (P : Name → Type 0) (ns among : List Name) → AllByRecursion P among → AllByRecursion P (filter (λ n. stands_in n among) ns)
  filtered P [] among a = tt
  filtered P (n ∷ ns) among a = filter_case P n (filter (λ n. stands_in n among) ns) among a (filtered P ns among a) (stands_in n among) refl

  none_of : {A : Type 0} (a b : Option A) → a ≡ None → b ≡ None → option_or a b ≡ None
  none_of None b h k = k
  none_of (Some x) b h k = cc h

  no_clocking : (m : Model) → IsSoundMain file library m → clocking_in file library m ≡ None
  no_clocking m s =
      none_of _ _
      (ap (option_map (λ l. l.q)) (none_found (λ l. not (is_clocked m l)) (latches_of m) (turned (is_clocked m) (latches_of m) s.clocking)))
      (none_found (λ n. stands_in n (read_nets file library m)) (filter (λ n. stands_in n (clock_nets m)) (port_names m.inputs) ++ port_names m.clocks)
      (All_append (λ n. stands_in n (read_nets file library m) ≡ false) (filter (λ n. stands_in n (clock_nets m)) (port_names m.inputs)) (port_names m.clocks)
      (filtered (λ n. stands_in n (read_nets file library m) ≡ false) (port_names m.inputs) (clock_nets m) unread)
      (All_front (λ n. stands_in n (read_nets file library m) ≡ false) (port_names m.clocks) (flat_map (λ l. control_nets l.clocking) (latches_of m)) unread)))
    where
      unread : AllByRecursion (λ n. stands_in n (read_nets file library m) ≡ false) (clock_nets m)
      unread = turned_back (λ n. stands_in n (read_nets file library m)) (clock_nets m) s.clocks_unread

  no_reserved : (m : Model) → IsSoundMain file library m → reserved_in file library m ≡ None
  no_reserved m s =
      none_of _ _ (fault_none (ends_with_backslash m.name) m.name (turn _ s.name))
      (none_found (is_reserved) (written_names m) (turned_back (is_reserved) (written_names m) s.names))

  within : (most n : ℕ) → n ≤ most → nat_lt most n ≡ false
  within most n h = grind arith

  none_large : (a b c d : Bool) → a ≡ false → b ≡ false → c ≡ false → d ≡ false → cond a (Some Quantity.model_inputs) (cond b (Some Quantity.model_outputs) (cond c (Some Quantity.model_latches) (cond d (Some Quantity.source_cost) None))) ≡ None
  none_large false false false false ha hb hc hd = refl
  none_large true b c d ha hb hc hd = cc ha
  none_large false true c d ha hb hc hd = cc hb
  none_large false false true d ha hb hc hd = cc hc
  none_large false false false true ha hb hc hd = cc hd

  no_large : (m : Model) → IsSoundMain file library m → too_large_in file library m ≡ None
  no_large m s =
      none_large _ _ _ _ (within 4096 (length (data_inputs m)) s.inputs) (within 4096 (length m.outputs) s.outputs) (within 4096 (length (latches_of m)) s.latches) (within 1000000 (whole_cost file library) s.cost)

  -- ---- all of them

  -- A sound file is refused with nothing.
  pub sound_no_fault : IsSound file library → (fault : SoundFault) → Finds file library fault → ⊥
  sound_no_fault s (twice n) f = no_twice f.model (s.used f.model f.used) n f.here
  sound_no_fault s (no_such_model n) f = no_model_found f.model (s.used f.model f.used) n f.here
  sound_no_fault s (bad_port n p) f = no_bad_port f.model (s.used f.model f.used) (n, p) f.here
  sound_no_fault s (recursion n) f = (s.used f.model f.used).no_recursion f.here.0.0 f.here.0.1
  sound_no_fault s (latch_inside n) f =
      no_true (sym (ap (λ ls. not (is_empty ls)) ((s.used f.model f.used).latches f.here.0.0)) ∙ f.here.0.1)
    where
      no_true : false ≡ true → ⊥
      no_true e = cc e
  sound_no_fault s (too_deep n) f =
      let few = (s.main f.here.0.0 f.here.0.1).shallow f.model f.here.0.2 f.here.0.4 in
      let many = f.here.0.3 in
      omega arith
  sound_no_fault s (undriven n) f = no_undriven f.model (s.used f.model f.used) n f.here
  sound_no_fault s (bad_clocking n) f = none_some (clocking_in file library f.0) n (no_clocking f.0 (s.main f.0 f.1)) f.2
  sound_no_fault s (loop ns) f = no_walked_loop f.model (s.used f.model f.used) ns f.here
  sound_no_fault s (reserved n) f = none_some (reserved_in file library f.0) n (no_reserved f.0 (s.main f.0 f.1)) f.2
  sound_no_fault s (too_large what) f = none_some (too_large_in file library f.0) what (no_large f.0 (s.main f.0 f.1)) f.2
