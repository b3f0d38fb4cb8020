-- The names of a sound source have the form that every elaborated source has.
use Rattle.std.proofs.Common.{◌≡◌, refl, sym, ◌∙◌, ap, subst, ℕ, List, [], ◌∷◌, ◌++◌, length, map, filter, Bool, true, false, ◌||◌, ◌&&◌, not, cond, inl, inr, Some, None, arith}
use Rattle.std.proofs.lemmas.List.{length-map}
use Rattle.std.specs.Prelude.{IsTrue, slice_get, filter_map}
use Rattle.std.specs.Bool.{beq}
use Rattle.std.specs.List.{AllByRecursion, AllZip, cons_option, flat_map}
use Rattle.std.specs.Cmp.Lexicographic.{bytes_decides}
use Rattle.netlist_spec.specs.Lines.{ends_with_backslash}
use Rattle.netlist_spec.specs.Netlist.{Name, IsWordName, is_reserved, HasControlAmong, same_name, stands_in, are_distinct, Clocking, plain, edge, Statement, names, latch, subckt, Port, Located, Model, File}
use Rattle.netlist_spec.specs.Reads.{control_nets, first_appearances, statement_nets, IsWithinModelLimits}
use Rattle.netlist_spec.specs.FileRules.{HasControl, IsDeclarable, nets_of, IsFileModel, IsFile}
use Rattle.netlist_spec.specs.Covers.{Library}
use Rattle.netlist_spec.specs.Placed.{port_names}
use Rattle.netlist_spec.specs.Models.{Latch, as_latch, latches_of, first_clocking, same_clocking, is_declared, clock_nets, data_inputs, latch_outputs, output_nets}
use Rattle.netlist_spec.specs.Sound.{drives, read_nets, driven_nets, written_names, is_clocked, IsMain, IsSoundModel, IsSoundMain, IsSound}
use Rattle.netlist_spec.specs.Elaborated.{Elaborated, HasElaboratedForm, IsElaborated, leaf_names, elaborated_clocks, IsLeafWhereNamed}
use Rattle.netlist_spec.proofs.Occurrences.{occ_append, distinct_occ}
use Rattle.source_laws.specs.Nets.{Nets}
use Rattle.source_laws.specs.Numbered.{IsNumbered, HasNamesOf}
use Rattle.source_laws.proofs.Lists.{Among, all_among, among_all, among_front, among_back, among_either, flat_among, stands, standing}
use Rattle.source_laws.proofs.PlacedCosts.{first_is_found}
use Rattle.source_laws.proofs.SomeValuation.{once_distinct}
use Rattle.source_laws.proofs.SomeCycle.{few_latches}
use Rattle.source_laws.proofs.Numbered.{zip_named, numbered_machine, output_leaf, output_is_read, input_count, latch_count}

-- ---- clockings

second : (a b : Bool) → (a && b) ≡ true → b ≡ true
second true b h = h
second false b h = cc h

first : (a b : Bool) → (a && b) ≡ true → a ≡ true
first true b h = refl
first false b h = cc h

-- the same control is the same net
same_nets : (a b : Clocking) → same_clocking a b ≡ true → (n : Name) → Among n (control_nets a) → Among n (control_nets b)
same_nets plain b e n h = absurd h
same_nets (edge r None) b e n h = absurd h
same_nets (edge r (Some k)) plain e n h = cc e
same_nets (edge r (Some k)) (edge s None) e n h = absurd (clash (beq r s) e)
  where
    clash : (b : Bool) → (b && false) ≡ true → ⊥
    clash true e = cc e
    clash false e = cc e
same_nets (edge r (Some k)) (edge s (Some j)) e n h =
    let same : k ≡ j = (bytes_decides k j).0 (second (beq r s) (same_name k j) e) in
    elim h [ inl q ↦ inl (sym same ∙ q) | inr x ↦ absurd x ]

module _ (m : Model) (clocked : AllByRecursion (λ l. IsTrue (is_clocked m l)) (latches_of m)) where
  abbrev pub told_clocks : List Name
  told_clocks = port_names m.clocks ++ control_nets (first_clocking (latches_of m))

  to_first : (n : Name) → Among n (flat_map (λ l. control_nets l.clocking) (latches_of m)) → Among n (control_nets (first_clocking (latches_of m)))
  to_first n h =
      let (l, in_latches, control) = flat_among (λ (l : Latch). control_nets l.clocking) (latches_of m) n h in
      same_nets l.clocking (first_clocking (latches_of m)) (first (same_clocking l.clocking (first_clocking (latches_of m))) (is_declared m l.clocking) (all_among (λ (l : Latch). IsTrue (is_clocked m l)) (latches_of m) clocked l in_latches)) n control

  from_first : (n : Name) (ls : List Latch) → Among n (control_nets (first_clocking ls)) → Among n (flat_map (λ l. control_nets l.clocking) ls)
  from_first n [] h = absurd h
  from_first n (l ∷ ls) h = among_front (control_nets l.clocking) (flat_map (λ l. control_nets l.clocking) ls) n h

  pub clocks_told : (n : Name) → Among n (clock_nets m) → Among n told_clocks
  clocks_told n h =
      elim (among_either (port_names m.clocks) (flat_map (λ l. control_nets l.clocking) (latches_of m)) n h) [
        | inl c ↦ among_front (port_names m.clocks) (control_nets (first_clocking (latches_of m))) n c
        | inr f ↦ among_back (port_names m.clocks) (control_nets (first_clocking (latches_of m))) n (to_first n f)
      ]

  pub told_are_clocks : (n : Name) → Among n told_clocks → Among n (clock_nets m)
  told_are_clocks n h =
      elim (among_either (port_names m.clocks) (control_nets (first_clocking (latches_of m))) n h) [
        | inl c ↦ among_front (port_names m.clocks) (flat_map (λ l. control_nets l.clocking) (latches_of m)) n c
        | inr f ↦ among_back (port_names m.clocks) (flat_map (λ l. control_nets l.clocking) (latches_of m)) n (from_first n (latches_of m) f)
      ]

  same_stands : (n : Name) → stands_in n (clock_nets m) ≡ stands_in n told_clocks
  same_stands n = by_case (stands_in n (clock_nets m)) (stands_in n told_clocks) refl refl
    where
      by_case : (a b : Bool) → stands_in n (clock_nets m) ≡ a → stands_in n told_clocks ≡ b → a ≡ b
      by_case true true e f = refl
      by_case false false e f = refl
      by_case true false e f = let g = stands n told_clocks (clocks_told n (standing n (clock_nets m) e)) in cc (g, f)
      by_case false true e f = let g = stands n (clock_nets m) (told_are_clocks n (standing n told_clocks f)) in cc (g, e)

  same_filter : (ns : List Name) → filter (λ n. not (stands_in n (clock_nets m))) ns ≡ filter (λ n. not (stands_in n told_clocks)) ns
  same_filter [] = refl
  same_filter (n ∷ ns) =
      ap (λ (b : Bool). cond (not b) (n ∷ filter (λ n. not (stands_in n (clock_nets m))) ns) (filter (λ n. not (stands_in n (clock_nets m))) ns)) (same_stands n)
      ∙ ap (λ (ks : List Name). cond (not (stands_in n told_clocks)) (n ∷ ks) ks) (same_filter ns)

-- ---- words

module _ (m : Model) (is : IsFileModel m) where
  word_of : (n : Name) → Among n (nets_of m) → IsWordName n
  word_of n h = all_among IsWordName m.names is.word_names n (standing n m.names (all_among (λ n. IsTrue (stands_in n m.names)) (nets_of m) is.named n h))

  -- the controls of latches aren't named `NIL`
  controls : (ss : List Located) → AllByRecursion (λ s. IsDeclarable s.what) ss → AllByRecursion (λ (l : Latch). HasControl l.clocking) (filter_map (λ s. as_latch s.what) ss)
  controls [] a = tt
  controls (s ∷ ss) a = here s.what a.0 (controls ss a.1)
    where
      here : (t : Statement) → IsDeclarable t → AllByRecursion (λ (l : Latch). HasControl l.clocking) (filter_map (λ s. as_latch s.what) ss) → AllByRecursion (λ (l : Latch). HasControl l.clocking) (cons_option (as_latch t) (filter_map (λ s. as_latch s.what) ss))
      here (names ins out cover) d a = a
      here (latch e q clocking init) d a = (d.0, a)
      here (subckt name binds) d a = a

  shown : (ss : List Located) (n : Name) → Among n (map (λ l. l.q) (filter_map (λ s. as_latch s.what) ss)) → Among n (flat_map (λ s. statement_nets s.what) ss)
  shown [] n h = absurd h
  shown (s ∷ ss) n h = here s.what h (shown ss n)
    where
      here : (t : Statement) → Among n (map (λ l. l.q) (cons_option (as_latch t) (filter_map (λ s. as_latch s.what) ss))) → (Among n (map (λ l. l.q) (filter_map (λ s. as_latch s.what) ss)) → Among n (flat_map (λ s. statement_nets s.what) ss))
          → Among n (statement_nets t ++ flat_map (λ s. statement_nets s.what) ss)
      here (names ins out cover) h f = among_back (ins ++ out ∷ []) (flat_map (λ s. statement_nets s.what) ss) n (f h)
      here (latch d q clocking init) (inl e) f = inr (inl e)
      here (latch d q clocking init) (inr h) f = among_back (d ∷ q ∷ control_nets clocking) (flat_map (λ s. statement_nets s.what) ss) n (f h)
      here (subckt name binds) h f = among_back (map (λ b. b.actual) binds) (flat_map (λ s. statement_nets s.what) ss) n (f h)

  words : AllByRecursion IsWordName (written_names m)
  words =
      among_all IsWordName (written_names m) (λ n h.
      elim (among_either (port_names m.inputs ++ port_names m.clocks ++ port_names m.outputs) (latch_outputs m) n h) [
        | inl ports ↦ elim (among_either (port_names m.inputs ++ port_names m.clocks) (port_names m.outputs) n ports) [
          | inl p ↦ elim (among_either (port_names m.inputs) (port_names m.clocks) n p) [
            | inl i ↦ word_of n (in_ports n (among_front (port_names m.inputs ++ port_names m.outputs) (port_names m.clocks) n (among_front (port_names m.inputs) (port_names m.outputs) n i)))
            | inr c ↦ word_of n (in_ports n (among_back (port_names m.inputs ++ port_names m.outputs) (port_names m.clocks) n c))
          ]
          | inr o ↦ word_of n (in_ports n (among_front (port_names m.inputs ++ port_names m.outputs) (port_names m.clocks) n (among_back (port_names m.inputs) (port_names m.outputs) n o)))
        ]
        | inr q ↦ word_of n (among_back (port_names m.inputs ++ port_names m.outputs ++ port_names m.clocks) (flat_map (λ s. statement_nets s.what) m.statements) n (shown m.statements n q))
      ])
    where
      in_ports : (n : Name) → Among n (port_names m.inputs ++ port_names m.outputs ++ port_names m.clocks) → Among n (nets_of m)
      in_ports n h = among_front (port_names m.inputs ++ port_names m.outputs ++ port_names m.clocks) (flat_map (λ s. statement_nets s.what) m.statements) n h

module _ (file : File) (library : Library) (m : Model) (e : Elaborated) (owners : List ℕ) (nets : Nets) (is_file : IsFile file) (sound : IsSound file library) (main : IsMain file m) (is : IsNumbered file library m e.machine owners nets) (has : HasNamesOf m e) where
  model_is : IsSoundModel file library m
  model_is = sound.used m (m, main, 0, refl)

  main_is : IsSoundMain file library m
  main_is = sound.main m main

  file_model : IsFileModel m
  file_model = all_among IsFileModel file.models is_file.models m (first_is_found file.models m main).1

  limits : IsWithinModelLimits m
  limits = all_among IsWithinModelLimits file.models is_file.limits.models m (first_is_found file.models m main).1

  clocks_are : elaborated_clocks e ≡ told_clocks m main_is.clocking
  clocks_are = λ i. has.clock_ports i ++ control_nets (has.clocking i)

  leaves_are : leaf_names e ≡ data_inputs m ++ latch_outputs m
  leaves_are = λ i. has.data_names i ++ has.latch_names i

  written : e.input_ports ++ e.clock_ports ++ e.output_names ++ e.latch_names ≡ written_names m
  written = λ i. has.input_ports i ++ has.clock_ports i ++ has.output_names i ++ has.latch_names i

  leaf_where_named : AllZip (IsLeafWhereNamed e) e.output_names e.machine.outputs
  leaf_where_named =
      subst (λ (ns : List Name). AllZip (IsLeafWhereNamed e) ns e.machine.outputs) (sym has.output_names)
      (zip_named (IsLeafWhereNamed e) nets (output_nets m) e.machine.outputs is.outputs (λ x h i below.
      let both = output_leaf file library m e.machine owners nets sound main is x h i below in (
        (λ f. ap (λ (ns : List Name). slice_get ns i) leaves_are ∙ both.0 f),
        λ g. both.1 (ap (λ (ns : List Name). slice_get ns i) (sym leaves_are) ∙ g),
      )))

  control_among : (c : Clocking) → HasControl c → is_declared m c ≡ true → HasControlAmong (port_names m.inputs ++ port_names m.clocks) c
  control_among plain h d = tt
  control_among (edge r None) h d = tt
  control_among (edge r (Some n)) h d = (stands n (port_names m.inputs ++ port_names m.clocks) (by_test (stands_in n (port_names m.inputs)) (stands_in n (port_names m.clocks)) refl refl d), h)
    where
      by_test : (a b : Bool) → stands_in n (port_names m.inputs) ≡ a → stands_in n (port_names m.clocks) ≡ b → (a || b) ≡ true → Among n (port_names m.inputs ++ port_names m.clocks)
      by_test true b f g t = among_front (port_names m.inputs) (port_names m.clocks) n (standing n (port_names m.inputs) f)
      by_test false true f g t = among_back (port_names m.inputs) (port_names m.clocks) n (standing n (port_names m.clocks) g)
      by_test false false f g t = cc t

  first_control : (ls : List Latch) → AllByRecursion (λ l. IsTrue (is_clocked m l)) ls → AllByRecursion (λ (l : Latch). HasControl l.clocking) ls → HasControlAmong (port_names m.inputs ++ port_names m.clocks) (first_clocking ls)
  first_control [] a b = tt
  first_control (l ∷ ls) a b = control_among l.clocking b.0 (second (same_clocking l.clocking (first_clocking (latches_of m))) (is_declared m l.clocking) a.0)

  no_latch_is_plain : (ls : List Latch) → map (λ l. l.q) ls ≡ [] → first_clocking ls ≡ plain
  no_latch_is_plain [] f = refl
  no_latch_is_plain (l ∷ ls) f = cc f

  drivers_apart : are_distinct (first_appearances (port_names m.inputs ++ port_names m.clocks) ++ latch_outputs m) ≡ true
  drivers_apart =
      once_distinct (first_appearances (port_names m.inputs ++ port_names m.clocks) ++ latch_outputs m) (λ n.
      let a = occ_append n (first_appearances (port_names m.inputs ++ port_names m.clocks)) (latch_outputs m) in
      let b = few_latches file library n m.statements in
      let c = occ_append n (first_appearances (port_names m.inputs ++ port_names m.clocks)) (flat_map (λ s. drives file library s.what) m.statements) in
      let d = distinct_occ n (driven_nets file library m) model_is.drivers.drivers in
      omega arith)

  outputs_unclocked : AllByRecursion (λ n. IsTrue (not (stands_in n (told_clocks m main_is.clocking)))) (output_nets m)
  outputs_unclocked =
      among_all (λ n. IsTrue (not (stands_in n (told_clocks m main_is.clocking)))) (output_nets m) (λ n h. by_case n h (stands_in n (told_clocks m main_is.clocking)) refl)
    where
      by_case : (n : Name) → Among n (output_nets m) → (b : Bool) → stands_in n (told_clocks m main_is.clocking) ≡ b → not b ≡ true
      by_case n h false f = refl
      by_case n h true f =
          let clock = told_are_clocks m main_is.clocking n (standing n (told_clocks m main_is.clocking) f) in
          let off = all_among (λ n. IsTrue (not (stands_in n (read_nets file library m)))) (clock_nets m) main_is.clocks_unread n clock in
          let on = stands n (read_nets file library m) (output_is_read file library m e.machine owners nets sound main is n h) in
          absurd (clash (stands_in n (read_nets file library m)) on off)
        where
          clash : (b : Bool) → b ≡ true → not b ≡ true → ⊥
          clash true f g = cc g
          clash false f g = cc f

  form : HasElaboratedForm e
  form =
      let machine = numbered_machine file library m e.machine owners nets sound main is in
      let data_names = ap length has.data_names in
      let latch_names = ap length has.latch_names in
      let output_names = ap length has.output_names in
      let input_ports = ap length has.input_ports in
      let clock_ports = ap length has.clock_ports in
      let inputs_long = length-map m.inputs (λ (p : Port). p.name) in
      let clocks_long = length-map m.clocks (λ (p : Port). p.name) in
      let outputs_long = length-map m.outputs (λ (p : Port). p.name) in
      let latches_long = length-map (latches_of m) (λ (l : Latch). l.q) in
      let inputs = input_count file library m e.machine owners nets sound main is in
      let latches = latch_count file library m e.machine owners nets sound main is in
      let outputs = machine.outputs in
      record {
        well_formed = is.well_formed;
        inputs = omega arith;
        outputs = omega arith;
        latches = omega arith;
        data_inputs =
            has.data_names
            ∙ (same_filter m main_is.clocking (port_names m.inputs) ∙ (λ i. filter (λ n. not (stands_in n (sym clocks_are i))) (sym has.input_ports i)));
        leaves = leaf_where_named;
        control = subst (HasControlAmong (e.input_ports ++ e.clock_ports)) (sym has.clocking) (subst (λ (ns : List Name). HasControlAmong ns (first_clocking (latches_of m))) (λ i. sym has.input_ports i ++ sym has.clock_ports i) (first_control (latches_of m) main_is.clocking (controls m file_model m.statements file_model.statements)));
        clocking = λ none. has.clocking ∙ no_latch_is_plain (latches_of m) (sym has.latch_names ∙ none);
        words = subst (AllByRecursion IsWordName) (sym written) (words m file_model);
        free = subst (AllByRecursion (λ n. IsTrue (not (is_reserved n)))) (sym written) main_is.names;
        model = subst (λ (n : Name). IsWordName n × IsTrue (not (ends_with_backslash n))) (sym has.model) (file_model.name, main_is.name);
        drivers = ap are_distinct (λ i. first_appearances (has.input_ports i ++ has.clock_ports i) ++ has.latch_names i) ∙ drivers_apart;
        input_ports = ap are_distinct has.input_ports ∙ model_is.drivers.inputs;
        clock_ports = ap are_distinct has.clock_ports ∙ model_is.drivers.clocks;
        output_ports = ap are_distinct has.output_names ∙ model_is.drivers.outputs;
        clocks_unread = subst (λ (cs : List Name). AllByRecursion (λ n. IsTrue (not (stands_in n cs))) e.output_names) (sym clocks_are) (subst (λ (ns : List Name). AllByRecursion (λ n. IsTrue (not (stands_in n (told_clocks m main_is.clocking)))) ns) (sym has.output_names) outputs_unclocked);
        few_inputs = (let a = main_is.inputs in omega arith, let a = limits.inputs in omega arith, let a = limits.clocks in omega arith);
        few_outputs = let a = main_is.outputs in omega arith;
        few_latches = let a = main_is.latches in omega arith;
        few_gates = let a = machine.size in let b = main_is.cost in omega arith;
      }

  pub source_is_elaborated : IsElaborated file library m e
  source_is_elaborated =
      record {
        machine = numbered_machine file library m e.machine owners nets sound main is;
        model = has.model;
        input_ports = has.input_ports;
        clock_ports = has.clock_ports;
        data_names = has.data_names;
        output_names = has.output_names;
        latch_names = has.latch_names;
        clocking = has.clocking;
        unknown_inits = has.unknown_inits;
        form = form;
      }
