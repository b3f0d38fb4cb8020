-- What passes all tests of soundness is sound.
use Rattle.std.proofs.Common.{◌≡◌, ◌≢◌, refl, sym, ◌∙◌, ap, subst, ℕ, zero, suc, ◌+◌, ◌<◌, ◌≤◌, List, [], ◌∷◌, ◌++◌, map, filter, find, length, Bool, true, false, ◌||◌, ◌&&◌, not, cond, ◌⊎◌, inl, inr, Option, Some, None, nat_lt, arith, append_assoc}
use Rattle.std.proofs.lemmas.List.{append-nil}
use Rattle.std.specs.Prelude.{IsTrue}
use Rattle.std.specs.Bool.{then_some}
use Rattle.std.specs.List.{AllByRecursion, flat_map}
use Rattle.std.specs.Option.{option_or, option_map}
use Rattle.std.specs.Cmp.Lexicographic.{bytes_decides}
use Rattle.netlist_spec.specs.Lines.{is_empty, ends_with_backslash}
use Rattle.netlist_spec.specs.Netlist.{is_reserved, Name, same_name, stands_in, are_distinct, Clocking, plain, edge, Bind, Statement, names, latch, subckt, Port, Located, Model, File, Quantity, model_inputs, model_outputs, model_latches, source_cost}
use Rattle.netlist_spec.specs.Reads.{first_appearances, control_nets}
use Rattle.netlist_spec.specs.Covers.{Library}
use Rattle.netlist_spec.specs.Placed.{Placed, nothing, a_model, a_table, a_linear, placed, port_names, input_ports, output_ports}
use Rattle.netlist_spec.specs.Models.{Latch, latches_of, first_clocking, same_clocking, is_declared, clock_nets, data_inputs}
use Rattle.netlist_spec.specs.FileOrder.{Declared, an_input, an_output, a_clock, a_statement, Item, port_items, statement_items, port_items_of, items_of, first_answer, declared_input, declared_output, declared_clock, inputs_among, outputs_among, clocks_among}
use Rattle.netlist_spec.specs.Size.{whole_cost}
use Rattle.netlist_spec.specs.Sound.{Chain, IsMain, IsUsed, drives, reads, driven_nets, read_nets, is_clocked, written_names, HasOneDriverEach, IsDrivenWhereRead, IsPlacement, PlacesWell, IsLoop, IsSoundModel, IsSoundMain, IsSound}
use Rattle.netlist_spec.specs.SoundFaults.{SoundFault, twice, no_such_model, bad_port, recursion, latch_inside, too_deep, undriven, bad_clocking, loop, reserved, too_large, rank, first_repeated, driven_at, driven_among, twice_at, twice_in, unnamed_if, no_such_model_at, no_such_model_in, bad_formal, missing_port, with_model, bad_port_of, bad_port_at, bad_port_in, item_reads, undriven_in, odd_latch, read_clock, clocking_in, WalksAlong, IsWalkedLoop, reserved_in, too_large_in, Finds, IsRefusedWith}
use Rattle.netlist_spec.proofs.OneValue.{All_front, All_back, All_from_line, none_both, fails_first, not_false}
use Rattle.netlist_spec.proofs.Occurrences.{one_if, occ, occ_append, occ_flat, stands_occ, occ_stands, absent_occ}
use Rattle.netlist_spec.proofs.SoundHasNoFault.{inputs_total, outputs_total, clocks_total, driven_total, walk_leads, along_back}
use Rattle.source_laws.specs.Tests.{Passes}
use Rattle.source_laws.proofs.Lists.{Among, all_among, among_all, map_among, among_front, among_back, among_either, flat_among, among_filter, stands, standing}
use Rattle.source_laws.proofs.Agree.{among_first}
use Rattle.source_laws.proofs.SomeValuation.{once_distinct}

-- ---- answers that are none

none_some : {A : Type 0} (o : Option A) (a : A) → o ≡ None → o ≡ Some a → ⊥
none_some None a h e = cc e
none_some (Some b) a h e = cc h

no_test : (b : Bool) (n : Name) → then_some b n ≡ None → b ≡ false
no_test true n e = cc e
no_test false n e = refl

none_found : {A : Type 0} (test : A → Bool) (xs : List A) → find test xs ≡ None → AllByRecursion (λ x. test x ≡ false) xs
none_found test [] e = tt
none_found test (x ∷ xs) e = by_case (test x) refl e (none_found test xs)
  where
    by_case : (b : Bool) → test x ≡ b → cond b (Some x) (find test xs) ≡ None → (find test xs ≡ None → AllByRecursion (λ x. test x ≡ false) xs) → (test x ≡ false) × AllByRecursion (λ x. test x ≡ false) xs
    by_case true t e later = cc e
    by_case false t e later = (t, later e)

-- an answer that rests on the item alone
none_each : {A : Type 0} (answer : Item → Option A) (earlier rest : List Item) → first_answer (λ earlier i. answer i) earlier rest ≡ None → AllByRecursion (λ i. answer i ≡ None) rest
none_each answer earlier [] e = tt
none_each answer earlier (x ∷ rest) e = let parts = none_both (answer x) _ e in (parts.0, none_each answer (earlier ++ x ∷ []) rest parts.1)

of_statements : (P : Declared → Type 0) (ss : List Located) → AllByRecursion (λ i. P i.what) (statement_items ss) → AllByRecursion (λ s. P (a_statement s.what)) ss
of_statements P [] a = tt
of_statements P (s ∷ ss) a = (a.0, of_statements P ss a.1)

of_ports : (P : Declared → Type 0) (kind : Name → Declared) (ps : List Port) → AllByRecursion (λ i. P i.what) (port_items kind ps) → AllByRecursion (λ n. P (kind n)) (port_names ps)
of_ports P kind [] a = tt
of_ports P kind (p ∷ ps) a = (a.0, of_ports P kind ps a.1)

module _ {A : Type 0} (answer : Declared → Option A) (m : Model) (none : first_answer (λ earlier i. answer i.what) [] (items_of m) ≡ None) where
  at_items : AllByRecursion (λ i. answer i.what ≡ None) (port_items_of m ++ statement_items m.statements)
  at_items = All_from_line (λ i. answer i.what ≡ None) (port_items_of m ++ statement_items m.statements) (none_each (λ i. answer i.what) [] (items_of m) none)

  none_at_statements : AllByRecursion (λ s. answer (a_statement s.what) ≡ None) m.statements
  none_at_statements = of_statements (λ d. answer d ≡ None) m.statements (All_back (λ i. answer i.what ≡ None) (port_items_of m) (statement_items m.statements) at_items)

  none_at_outputs : AllByRecursion (λ n. answer (an_output n) ≡ None) (port_names m.outputs)
  none_at_outputs =
      of_ports (λ d. answer d ≡ None) (λ n. an_output n) m.outputs
      (All_back (λ i. answer i.what ≡ None) (port_items (λ n. an_input n) m.inputs) (port_items (λ n. an_output n) m.outputs)
      (All_front (λ i. answer i.what ≡ None) (port_items (λ n. an_input n) m.inputs ++ port_items (λ n. an_output n) m.outputs) (port_items (λ n. a_clock n) m.clocks)
      (All_front (λ i. answer i.what ≡ None) (port_items_of m) (statement_items m.statements) at_items)))

-- ---- placements

formals_are : (ports earlier : List Name) (binds : List Bind) → bad_formal ports earlier binds ≡ None
    → AllByRecursion (λ b. IsTrue (stands_in b.formal ports)) binds × (are_distinct (map (λ b. b.formal) binds) ≡ true) × AllByRecursion (λ b. stands_in b.formal earlier ≡ false) binds
formals_are ports earlier [] e = (tt, refl, tt)
formals_are ports earlier (b ∷ binds) e =
    let parts = none_both (then_some (not (stands_in b.formal ports) || stands_in b.formal earlier) b.formal) _ e in
    let here = fails_first (not (stands_in b.formal ports)) (stands_in b.formal earlier) (no_test _ b.formal parts.0) in
    let rest = formals_are ports (b.formal ∷ earlier) binds parts.1 in
    let fresh : stands_in b.formal (map (λ b. b.formal) binds) ≡ false = absent (stands_in b.formal (map (λ b. b.formal) binds)) refl rest.2 in (
      (not_false (stands_in b.formal ports) here.0, rest.0),
      ap (λ (t : Bool). not t && are_distinct (map (λ b. b.formal) binds)) fresh ∙ rest.1,
      (here.1, among_all (λ (c : Bind). stands_in c.formal earlier ≡ false) binds (λ c h. (fails_first (same_name c.formal b.formal) (stands_in c.formal earlier) (all_among (λ (c : Bind). stands_in c.formal (b.formal ∷ earlier) ≡ false) binds rest.2 c h)).1)),
    )
  where
    absent : (t : Bool) → stands_in b.formal (map (λ b. b.formal) binds) ≡ t → AllByRecursion (λ c. stands_in c.formal (b.formal ∷ earlier) ≡ false) binds → t ≡ false
    absent false e a = refl
    absent true e a =
        let (c, in_binds, same) = map_among (λ (b : Bind). b.formal) binds b.formal (standing b.formal (map (λ b. b.formal) binds) e) in
        let off = (fails_first (same_name c.formal b.formal) (stands_in c.formal earlier) (all_among (λ (c : Bind). stands_in c.formal (b.formal ∷ earlier) ≡ false) binds a c in_binds)).0 in
        let on : same_name c.formal b.formal ≡ true = (bytes_decides c.formal b.formal).1 same in
        cc (on, off)

module _ (file : File) (library : Library) where
  placement : (name : Name) (binds : List Bind) → unnamed_if (placed file library name) name ≡ None → bad_port_of file library (placed file library name) name binds ≡ None → IsPlacement file library name binds
  placement name binds known good =
      let meaning : placed file library name ≢ nothing = λ e. none_some (unnamed_if (placed file library name) name) name known (ap (λ p. unnamed_if p name) e) in
      let none = port_answers (placed file library name) meaning good in
      let parts = none_both (bad_formal (input_ports (placed file library name) ++ output_ports (placed file library name)) [] binds) (missing_port (input_ports (placed file library name)) binds) none in
      let formals = formals_are (input_ports (placed file library name) ++ output_ports (placed file library name)) [] binds parts.0 in
      let given = none_found (λ p. not (stands_in p (map (λ (b : Bind). b.formal) binds))) (input_ports (placed file library name)) parts.1 in
      record {
        meaning = meaning;
        once = formals.1;
        ports = formals.0;
        given = among_all (λ p. IsTrue (stands_in p (map (λ (b : Bind). b.formal) binds))) (input_ports (placed file library name)) (λ p h. not_false (stands_in p (map (λ (b : Bind). b.formal) binds)) (all_among (λ p. not (stands_in p (map (λ (b : Bind). b.formal) binds)) ≡ false) (input_ports (placed file library name)) given p h));
      }
    where
      no_model : (o : Option Name) → with_model name o ≡ None → o ≡ None
      no_model None e = refl
      no_model (Some f) e = cc e

      port_answers : (p : Placed) → p ≢ nothing → bad_port_of file library p name binds ≡ None → option_or (bad_formal (input_ports p ++ output_ports p) [] binds) (missing_port (input_ports p) binds) ≡ None
      port_answers nothing h e = absurd (h refl)
      port_answers (a_model k) h e = no_model _ e
      port_answers (a_table t) h e = no_model _ e
      port_answers (a_linear l) h e = no_model _ e

  pub placements : (m : Model) → no_such_model_in file library m ≡ None → bad_port_in file library m ≡ None → AllByRecursion (λ s. PlacesWell file library s.what) m.statements
  placements m known good =
      among_all (λ (s : Located). PlacesWell file library s.what) m.statements (λ s h.
      at s.what
      (all_among (λ (s : Located). no_such_model_at file library (a_statement s.what) ≡ None) m.statements (none_at_statements (no_such_model_at file library) m known) s h)
      (all_among (λ (s : Located). bad_port_at file library (a_statement s.what) ≡ None) m.statements (none_at_statements (bad_port_at file library) m good) s h))
    where
      at : (s : Statement) → no_such_model_at file library (a_statement s) ≡ None → bad_port_at file library (a_statement s) ≡ None → PlacesWell file library s
      at (names ins out cover) e f = tt
      at (latch d q clocking init) e f = tt
      at (subckt name binds) e f = placement name binds e f

  -- ---- nets that are read

  abbrev undriven_at : Model → Declared → Option Name
  undriven_at m d = find (λ n. not (stands_in n (driven_nets file library m))) (item_reads file library d)

  pub all_driven : (m : Model) → undriven_in file library m ≡ None → IsDrivenWhereRead file library m
  all_driven m none =
      among_all (λ n. IsTrue (stands_in n (driven_nets file library m))) (read_nets file library m) (λ n h.
      elim (among_either (flat_map (λ s. reads file library s.what) m.statements) (port_names m.outputs) n h) [
        | inl r ↦
            let (s, in_s, read) = flat_among (λ (s : Located). reads file library s.what) m.statements n r in
            driven (reads file library s.what) n (all_among (λ (s : Located). undriven_at m (a_statement s.what) ≡ None) m.statements (none_at_statements (undriven_at m) m none) s in_s) read
        | inr o ↦ driven (n ∷ []) n (all_among (λ n. undriven_at m (an_output n) ≡ None) (port_names m.outputs) (none_at_outputs (undriven_at m) m none) n o) (inl refl)
      ])
    where
      driven : (ns : List Name) (n : Name) → find (λ n. not (stands_in n (driven_nets file library m))) ns ≡ None → Among n ns → IsTrue (stands_in n (driven_nets file library m))
      driven ns n e h = not_false (stands_in n (driven_nets file library m)) (all_among (λ n. not (stands_in n (driven_nets file library m)) ≡ false) ns (none_found (λ n. not (stands_in n (driven_nets file library m))) ns e) n h)

  -- ---- second drivers

  -- what the items so far declare of one name
  record Once (n : Name) (items : List Item) : Type 0 where
    outputs : occ n (outputs_among items) ≤ 1
    inputs : occ n (inputs_among items) + occ n (driven_among file library items) ≤ 1
    clocks : occ n (clocks_among items) + occ n (driven_among file library items) ≤ 1

  repeated_no : (others ns : List Name) → first_repeated others ns ≡ None → (n : Name) → (occ n ns ≤ 1) × (1 ≤ occ n ns → occ n others ≡ 0)
  repeated_no others [] e n = (omega arith, λ h. absurd (omega arith))
  repeated_no others (k ∷ ns) e n =
      let parts = none_both (then_some (stands_in k others) k) (first_repeated (k ∷ others) ns) e in
      by_case (same_name n k) refl (no_test (stands_in k others) k parts.0) (repeated_no (k ∷ others) ns parts.1 n)
    where
      by_case : (b : Bool) → same_name n k ≡ b → stands_in k others ≡ false → (occ n ns ≤ 1) × (1 ≤ occ n ns → one_if (same_name n k) + occ n others ≡ 0) → (one_if b + occ n ns ≤ 1) × (1 ≤ one_if b + occ n ns → occ n others ≡ 0)
      by_case true t absent rest =
          let none : occ n others ≡ 0 = absent_occ n others (subst (λ x. stands_in x others ≡ false) (sym ((bytes_decides n k).0 t)) absent) in
          let one : one_if (same_name n k) ≡ 1 = ap one_if t in
          (few (occ n ns) (rest.1) one, λ h. none)
        where
          few : (i : ℕ) → (1 ≤ i → one_if (same_name n k) + occ n others ≡ 0) → one_if (same_name n k) ≡ 1 → 1 + i ≤ 1
          few zero f one = omega arith
          few (suc i) f one = let e = f (omega arith) in absurd (omega arith)
      by_case false t absent rest =
          let zero_is : one_if (same_name n k) ≡ 0 = ap one_if t in
          let few = rest.0 in
          (omega arith, λ h. let e = rest.1 (omega arith) in omega arith)

  one_more : (f : Declared → List Name) (n : Name) (items : List Item) (x : Item) → occ n (flat_map (λ i. f i.what) (items ++ x ∷ [])) ≡ occ n (flat_map (λ i. f i.what) items) + occ n (f x.what)
  one_more f n items x =
      let a = occ_flat (λ i. f i.what) n items (x ∷ []) in
      let b : occ n (f x.what ++ []) ≡ occ n (f x.what) + 0 = occ_append n (f x.what) [] in
      omega arith

  -- the name of one more port
  port_case : (n k : Name) (names_before driven : List Name) → stands_in k names_before ≡ false → stands_in k driven ≡ false → occ n names_before + occ n driven ≤ 1 → (occ n names_before + occ n (k ∷ [])) + occ n driven ≤ 1
  port_case n k before driven a b h = by_case (same_name n k) refl
    where
      by_case : (t : Bool) → same_name n k ≡ t → (occ n before + (one_if t + 0)) + occ n driven ≤ 1
      by_case true t =
          let same : n ≡ k = (bytes_decides n k).0 t in
          let x : occ n before ≡ 0 = absent_occ n before (subst (λ y. stands_in y before ≡ false) (sym same) a) in
          let y : occ n driven ≡ 0 = absent_occ n driven (subst (λ y. stands_in y driven ≡ false) (sym same) b) in
          omega arith
      by_case false t = omega arith

  step : (n : Name) (items : List Item) (line : ℕ) (what : Declared) → twice_at file library items what ≡ None → Once n items → Once n (items ++ record { line = line; what = what } ∷ [])
  step n items line (an_input k) e once =
      let test = fails_first (stands_in k (inputs_among items)) (stands_in k (driven_among file library items)) (no_test _ k e) in
      let i = one_more declared_input n items (record { line = line; what = an_input k }) in
      let o = one_more declared_output n items (record { line = line; what = an_input k }) in
      let c = one_more declared_clock n items (record { line = line; what = an_input k }) in
      let d = one_more (driven_at file library) n items (record { line = line; what = an_input k }) in
      let here = port_case n k (inputs_among items) (driven_among file library items) test.0 test.1 once.inputs in
      let x = once.outputs in
      let y = once.clocks in
      record { outputs = omega arith; inputs = omega arith; clocks = omega arith }
  step n items line (a_clock k) e once =
      let test = fails_first (stands_in k (clocks_among items)) (stands_in k (driven_among file library items)) (no_test _ k e) in
      let i = one_more declared_input n items (record { line = line; what = a_clock k }) in
      let o = one_more declared_output n items (record { line = line; what = a_clock k }) in
      let c = one_more declared_clock n items (record { line = line; what = a_clock k }) in
      let d = one_more (driven_at file library) n items (record { line = line; what = a_clock k }) in
      let here = port_case n k (clocks_among items) (driven_among file library items) test.0 test.1 once.clocks in
      let x = once.outputs in
      let y = once.inputs in
      record { outputs = omega arith; inputs = omega arith; clocks = omega arith }
  step n items line (an_output k) e once =
      let test = no_test (stands_in k (outputs_among items)) k e in
      let i = one_more declared_input n items (record { line = line; what = an_output k }) in
      let o = one_more declared_output n items (record { line = line; what = an_output k }) in
      let c = one_more declared_clock n items (record { line = line; what = an_output k }) in
      let d = one_more (driven_at file library) n items (record { line = line; what = an_output k }) in
      let all = once.outputs in
      let here = port_case n k (outputs_among items) [] test refl (omega arith) in
      let x = once.inputs in
      let y = once.clocks in
      record { outputs = omega arith; inputs = omega arith; clocks = omega arith }
  step n items line (a_statement s) e once =
      let rest = repeated_no ((inputs_among items ++ clocks_among items) ++ driven_among file library items) (drives file library s) e n in
      let a = occ_append n (inputs_among items ++ clocks_among items) (driven_among file library items) in
      let b = occ_append n (inputs_among items) (clocks_among items) in
      let i = one_more declared_input n items (record { line = line; what = a_statement s }) in
      let o = one_more declared_output n items (record { line = line; what = a_statement s }) in
      let c = one_more declared_clock n items (record { line = line; what = a_statement s }) in
      let d = one_more (driven_at file library) n items (record { line = line; what = a_statement s }) in
      let few = rest.0 in
      let x = once.outputs in
      let y = once.inputs in
      let z = once.clocks in
      let i_few = sum_case (occ n (inputs_among items)) (occ n (driven_among file library items)) (occ n (drives file library s)) y few (λ h. let none = rest.1 h in omega arith) in
      let c_few = sum_case (occ n (clocks_among items)) (occ n (driven_among file library items)) (occ n (drives file library s)) z few (λ h. let none = rest.1 h in omega arith) in
      record { outputs = omega arith; inputs = omega arith; clocks = omega arith }
    where
      sum_case : (p d k : ℕ) → p + d ≤ 1 → k ≤ 1 → (1 ≤ k → p + d ≡ 0) → p + (d + k) ≤ 1
      sum_case p d zero h few f = omega arith
      sum_case p d (suc k) h few f = let e = f (omega arith) in omega arith

  once_from : (n : Name) (earlier rest : List Item) → first_answer (λ earlier i. twice_at file library earlier i.what) earlier rest ≡ None → Once n earlier → Once n (earlier ++ rest)
  once_from n earlier [] e once = subst (Once n) (sym (append-nil earlier)) once
  once_from n earlier (x ∷ rest) e once =
      let parts = none_both (twice_at file library earlier x.what) _ e in
      subst (Once n) (append_assoc earlier (x ∷ []) rest) (once_from n (earlier ++ x ∷ []) rest parts.1 (step n earlier x.line x.what parts.0 once))

  filtered_none : (n k : Name) (ns : List Name) → same_name k n ≡ true → occ n (filter (λ m. not (same_name k m)) ns) ≡ 0
  filtered_none n k [] t = refl
  filtered_none n k (x ∷ ns) t = by_case (same_name k x) refl (filtered_none n k ns t)
    where
      by_case : (b : Bool) → same_name k x ≡ b → occ n (filter (λ m. not (same_name k m)) ns) ≡ 0 → occ n (cond (not b) (x ∷ filter (λ m. not (same_name k m)) ns) (filter (λ m. not (same_name k m)) ns)) ≡ 0
      by_case true e later = later
      by_case false e later = other (same_name n x) refl
        where
          other : (c : Bool) → same_name n x ≡ c → one_if c + occ n (filter (λ m. not (same_name k m)) ns) ≡ 0
          other true d = let same : n ≡ x = (bytes_decides n x).0 d in let on : same_name k x ≡ true = ap (same_name k) (sym same) ∙ t in cc (on, e)
          other false d = omega arith

  filtered_few : (n k : Name) (ns : List Name) → occ n (filter (λ m. not (same_name k m)) ns) ≤ occ n ns
  filtered_few n k [] = omega arith
  filtered_few n k (x ∷ ns) = by_case (same_name k x) (filtered_few n k ns)
    where
      by_case : (b : Bool) → occ n (filter (λ m. not (same_name k m)) ns) ≤ occ n ns → occ n (cond (not b) (x ∷ filter (λ m. not (same_name k m)) ns) (filter (λ m. not (same_name k m)) ns)) ≤ occ n (x ∷ ns)
      by_case true h = omega arith
      by_case false h = omega arith

  pub first_once : (n : Name) (ns : List Name) → occ n (first_appearances ns) ≤ 1
  first_once n [] = omega arith
  first_once n (k ∷ ns) = by_case (same_name n k) refl (first_once n ns) (filtered_few n k (first_appearances ns))
    where
      by_case : (b : Bool) → same_name n k ≡ b → occ n (first_appearances ns) ≤ 1 → occ n (filter (λ m. not (same_name k m)) (first_appearances ns)) ≤ occ n (first_appearances ns) → one_if b + occ n (filter (λ m. not (same_name k m)) (first_appearances ns)) ≤ 1
      by_case true t h few = let none = filtered_none n k (first_appearances ns) ((bytes_decides k n).1 (sym ((bytes_decides n k).0 t))) in omega arith
      by_case false t h few = omega arith

  pub one_driver_each : (m : Model) → twice_in file library m ≡ None → HasOneDriverEach file library m
  one_driver_each m none =
      let at : (n : Name) → Once n (items_of m) = λ n. once_from n [] (items_of m) none (record { outputs = omega arith; inputs = omega arith; clocks = omega arith }) in
      record {
        inputs = once_distinct (port_names m.inputs) (λ n. let a = (at n).inputs in let b = inputs_total file library m n in omega arith);
        outputs = once_distinct (port_names m.outputs) (λ n. let a = (at n).outputs in let b = outputs_total file library m n in omega arith);
        clocks = once_distinct (port_names m.clocks) (λ n. let a = (at n).clocks in let b = clocks_total file library m n in omega arith);
        drivers = once_distinct (driven_nets file library m) (λ n.
            let a = (at n).inputs in
            let b = (at n).clocks in
            let i = inputs_total file library m n in
            let c = clocks_total file library m n in
            let d = driven_total file library m n in
            let all = occ_append n (first_appearances (port_names m.inputs ++ port_names m.clocks)) (flat_map (λ s. drives file library s.what) m.statements) in
            let first = first_once n (port_names m.inputs ++ port_names m.clocks) in
            let ports = occ_append n (port_names m.inputs) (port_names m.clocks) in
            by_case (occ n (first_appearances (port_names m.inputs ++ port_names m.clocks))) (occ n (flat_map (λ s. drives file library s.what) m.statements)) (occ n (port_names m.inputs ++ port_names m.clocks))
            all first (omega arith) (λ h. from_first n (port_names m.inputs ++ port_names m.clocks) h) (omega_ports (occ n (port_names m.inputs)) (occ n (port_names m.clocks)) (occ n (flat_map (λ s. drives file library s.what) m.statements)) (occ n (port_names m.inputs ++ port_names m.clocks)) ports (omega arith) (omega arith)));
      }
    where
      from_first : (n : Name) (ns : List Name) → 1 ≤ occ n (first_appearances ns) → 1 ≤ occ n ns
      from_first n ns h = stands_occ n ns (stands n ns (among_first n ns (standing n (first_appearances ns) (occ_stands n (first_appearances ns) h))))

      omega_ports : (i c d p : ℕ) → p ≡ i + c → i + d ≤ 1 → c + d ≤ 1 → 1 ≤ p → d ≡ 0
      omega_ports zero zero d p e a b h = absurd (omega arith)
      omega_ports (suc i) c d p e a b h = omega arith
      omega_ports zero (suc c) d p e a b h = omega arith

      by_case : {whole : ℕ} (f d p : ℕ) → whole ≡ f + d → f ≤ 1 → d ≤ 1 → (1 ≤ f → 1 ≤ p) → (1 ≤ p → d ≡ 0) → whole ≤ 1
      by_case zero d p e few d_few g h = omega arith
      by_case (suc f) d p e few d_few g h = let none = h (g (omega arith)) in omega arith

  -- ---- the main model

  clocking_is : (m : Model) → clocking_in file library m ≡ None → AllByRecursion (λ l. IsTrue (is_clocked m l)) (latches_of m) × AllByRecursion (λ n. IsTrue (not (stands_in n (read_nets file library m)))) (clock_nets m)
  clocking_is m none =
      let parts = none_both (odd_latch file library m) (read_clock file library m) none in
      let latches = none_found (λ l. not (is_clocked m l)) (latches_of m) (no_option (find (λ l. not (is_clocked m l)) (latches_of m)) parts.0) in
      let clocks = none_found (λ n. stands_in n (read_nets file library m)) (filter (λ n. stands_in n (clock_nets m)) (port_names m.inputs) ++ port_names m.clocks) parts.1 in
      let clocked : AllByRecursion (λ l. IsTrue (is_clocked m l)) (latches_of m) = among_all (λ (l : Latch). IsTrue (is_clocked m l)) (latches_of m) (λ l h. not_false (is_clocked m l) (all_among (λ (l : Latch). not (is_clocked m l) ≡ false) (latches_of m) latches l h)) in (
        clocked,
        among_all (λ n. IsTrue (not (stands_in n (read_nets file library m)))) (clock_nets m) (λ n h.
            ap not (all_among (λ n. stands_in n (read_nets file library m) ≡ false) (filter (λ n. stands_in n (clock_nets m)) (port_names m.inputs) ++ port_names m.clocks) clocks n (as_told n h (port_of n clocked h)))),
      )
    where
      no_option : (o : Option Latch) → option_map (λ (l : Latch). l.q) o ≡ None → o ≡ None
      no_option None e = refl
      no_option (Some l) e = cc e

      second : (a b : Bool) → (a && b) ≡ true → b ≡ true
      second true b h = h
      second false b h = cc h

      by_test : (k : Name) (a b : Bool) → stands_in k (port_names m.inputs) ≡ a → stands_in k (port_names m.clocks) ≡ b → (a || b) ≡ true → Among k (port_names m.inputs) ⊎ Among k (port_names m.clocks)
      by_test k true b e f t = inl (standing k (port_names m.inputs) e)
      by_test k false true e f t = inr (standing k (port_names m.clocks) f)
      by_test k false false e f t = cc t

      declared : (n : Name) (clocking : Clocking) → is_declared m clocking ≡ true → Among n (control_nets clocking) → Among n (port_names m.inputs) ⊎ Among n (port_names m.clocks)
      declared n plain d h = absurd h
      declared n (edge rising None) d h = absurd h
      declared n (edge rising (Some k)) d h =
          elim h [ inl e ↦ subst (λ x. Among x (port_names m.inputs) ⊎ Among x (port_names m.clocks)) e (by_test k (stands_in k (port_names m.inputs)) (stands_in k (port_names m.clocks)) refl refl d) | inr x ↦ absurd x ]

      port_of : (n : Name) → AllByRecursion (λ l. IsTrue (is_clocked m l)) (latches_of m) → Among n (clock_nets m) → Among n (port_names m.inputs) ⊎ Among n (port_names m.clocks)
      port_of n clocked h =
          elim (among_either (port_names m.clocks) (flat_map (λ l. control_nets l.clocking) (latches_of m)) n h) [
            | inl c ↦ inr c
            | inr f ↦
                let (l, in_latches, control) = flat_among (λ (l : Latch). control_nets l.clocking) (latches_of m) n f in
                declared n l.clocking (second (same_clocking l.clocking (first_clocking (latches_of m))) (is_declared m l.clocking) (all_among (λ (l : Latch). IsTrue (is_clocked m l)) (latches_of m) clocked l in_latches)) control
          ]

      as_told : (n : Name) → Among n (clock_nets m) → Among n (port_names m.inputs) ⊎ Among n (port_names m.clocks) → Among n (filter (λ n. stands_in n (clock_nets m)) (port_names m.inputs) ++ port_names m.clocks)
      as_told n h (inl i) = among_front (filter (λ n. stands_in n (clock_nets m)) (port_names m.inputs)) (port_names m.clocks) n (among_filter (λ n. stands_in n (clock_nets m)) (port_names m.inputs) n i (stands n (clock_nets m) h))
      as_told n h (inr c) = among_back (filter (λ n. stands_in n (clock_nets m)) (port_names m.inputs)) (port_names m.clocks) n c

  none_reserved : (m : Model) → reserved_in file library m ≡ None → IsTrue (not (ends_with_backslash m.name)) × AllByRecursion (λ n. IsTrue (not (is_reserved n))) (written_names m)
  none_reserved m none =
      let parts = none_both (then_some (ends_with_backslash m.name) m.name) (find is_reserved (written_names m)) none in
      let all = none_found is_reserved (written_names m) parts.1 in
      (ap not (no_test (ends_with_backslash m.name) m.name parts.0), among_all (λ n. IsTrue (not (is_reserved n))) (written_names m) (λ n h. ap not (all_among (λ n. is_reserved n ≡ false) (written_names m) all n h)))

  at_most : (most n : ℕ) → nat_lt most n ≡ false → n ≤ most
  at_most most n h = grind arith

  not_past : (b : Bool) (q : Quantity) (o : Option Quantity) → cond b (Some q) o ≡ None → (b ≡ false) × (o ≡ None)
  not_past true q o e = cc e
  not_past false q o e = (refl, e)

  record Small (m : Model) : Type 0 where
    inputs : length (data_inputs m) ≤ 4096
    outputs : length m.outputs ≤ 4096
    latches : length (latches_of m) ≤ 4096
    cost : whole_cost file library ≤ 1000000

  is_small : (m : Model) → too_large_in file library m ≡ None → Small m
  is_small m none =
      let a = not_past (nat_lt 4096 (length (data_inputs m))) model_inputs _ none in
      let b = not_past (nat_lt 4096 (length m.outputs)) model_outputs _ a.1 in
      let c = not_past (nat_lt 4096 (length (latches_of m))) model_latches _ b.1 in
      let d = not_past (nat_lt 1000000 (whole_cost file library)) source_cost None c.1 in
      record { inputs = at_most 4096 (length (data_inputs m)) a.0; outputs = at_most 4096 (length m.outputs) b.0; latches = at_most 4096 (length (latches_of m)) c.0; cost = at_most 1000000 (whole_cost file library) d.0 }

  -- ---- all tests

  no_latches : (ls : List Latch) → (IsTrue (not (is_empty ls)) → ⊥) → ls ≡ []
  no_latches [] f = refl
  no_latches (l ∷ ls) f = absurd (f refl)

  sound_model : ((fault : SoundFault) → Passes file library fault) → (m : Model) → IsUsed file m → IsSoundModel file library m
  sound_model all m used =
      record {
        drivers = one_driver_each m (all (twice []) m used);
        driven = all_driven m (all (undriven []) m used);
        placements = placements m (all (no_such_model []) m used) (all (bad_port [] []) m used);
        no_recursion = λ n chain. all (recursion []) m used (n, chain);
        latches = λ other. no_latches (latches_of m) (λ some. all (latch_inside []) m used (other, some));
        no_loop = all (loop []) m used;
      }

  sound_main : ((fault : SoundFault) → Passes file library fault) → (m : Model) → IsMain file m → IsSoundMain file library m
  sound_main all m main =
      let clocking = clocking_is m (all (bad_clocking []) m main) in
      let free = none_reserved m (all (reserved []) m main) in
      let small = is_small m (all (too_large model_inputs) m main) in
      record {
        clocking = clocking.0;
        clocks_unread = clocking.1;
        shallow = λ k n chain. within k n chain (order n);
        name = free.0;
        names = free.1;
        inputs = small.inputs;
        outputs = small.outputs;
        latches = small.latches;
        cost = small.cost;
      }
    where
      order : (n : ℕ) → (n ≤ 16) ⊎ (16 < n)
      order n = grind arith

      within : (k : Model) (n : ℕ) → Chain file n m k → (n ≤ 16) ⊎ (16 < n) → n ≤ 16
      within k n chain (inl h) = h
      within k n chain (inr h) = absurd (all (too_deep []) k (m, main, n, chain) (m, main, n, h, chain))

  pub passed_is_sound : ((fault : SoundFault) → Passes file library fault) → IsSound file library
  passed_is_sound all = record { used = sound_model all; main = sound_main all }

  -- ---- nothing is found by a test that is passed

  walked_is_loop : (m : Model) (nets : List Name) → IsWalkedLoop file library m nets → IsLoop file library m nets
  walked_is_loop m nets w =
      subst (IsLoop file library m) (sym w.cycle)
      (walk_leads file library m w.first (w.first ∷ w.others)
      (along_back file library m w.first w.front w.first w.others (subst (λ ks. WalksAlong file library m (w.front ++ ks) w.first) w.cycle w.walks)))

  pub finds_nothing : (fault : SoundFault) → Passes file library fault → Finds file library fault → ⊥
  finds_nothing (twice n) p f = none_some _ n (p f.model f.used) f.here
  finds_nothing (no_such_model n) p f = none_some _ n (p f.model f.used) f.here
  finds_nothing (bad_port n k) p f = none_some _ (n, k) (p f.model f.used) f.here
  finds_nothing (recursion n) p f = p f.model f.used f.here.0
  finds_nothing (latch_inside n) p f = p f.model f.used f.here.0
  finds_nothing (too_deep n) p f = p f.model f.used f.here.0
  finds_nothing (undriven n) p f = none_some _ n (p f.model f.used) f.here
  finds_nothing (bad_clocking n) p f = none_some _ n (p f.0 f.1) f.2
  finds_nothing (loop ns) p f = p f.model f.used ns (walked_is_loop f.model ns f.here)
  finds_nothing (reserved n) p f = none_some _ n (p f.0 f.1) f.2
  finds_nothing (too_large what) p f = none_some _ what (p f.0 f.1) f.2

  pub first_is_told : (fault : SoundFault) → Finds file library fault → ((other : SoundFault) → rank other < rank fault → Passes file library other) → IsRefusedWith file library fault
  first_is_told fault found earlier = record { found = found; first = λ other before f. finds_nothing other (earlier other before) f }
