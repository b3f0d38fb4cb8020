-- A model that a statement places, from the tables around the call to the statement.
use Rattle.std.proofs.Common.{◌≡◌, refl, sym, ◌∙◌, ap, subst, ℕ, suc, ◌+◌, ◌-◌, ◌<◌, ◌≤◌, Bool, true, false, List, ◌++◌, length, map, filter, Some, slice_get, IsTrue, Contains, arith, inl, inr, ◌⊎◌}
use Rattle.std.specs.Prelude.{sum_by}
use Rattle.std.specs.List.{AllByRecursion, flat_map}
use Rattle.netlist_spec.specs.Netlist.{Name, stands_in, are_distinct, Bind, Statement, subckt, Located, Model, File}
use Rattle.netlist_spec.specs.Reads.{statement_nets, first_appearances}
use Rattle.netlist_spec.specs.Covers.{Library}
use Rattle.netlist_spec.specs.FileRules.{nets_of as declared_nets}
use Rattle.netlist_spec.specs.Placed.{Placed, a_model, placed, port_names, input_ports, output_ports, actuals_among}
use Rattle.netlist_spec.specs.Size.{cost_of}
use Rattle.netlist_spec.specs.Sound.{drives as driven_by, reads as read_by, Places, IsMain, IsUsed, IsPlacement}
use Rattle.netlist_spec.specs.Gates.{GateList}
use Rattle.gate_net.specs.GateNet.{net_count}
use Rattle.reduction.specs.Appended.{IsAppended, ReadsInputsAlone}
use Rattle.source_laws.specs.Costs.{statements_of}
use Rattle.source_laws.specs.Nets.{no_statement, nets_of_model}
use Rattle.source_laws.proofs.Agree.{among_first, places, not_main, driven_where_read}
use Rattle.source_laws.proofs.Lists.{Among, among, contained, all_among, among_all, among_map, map_among, among_front, among_back, among_either, among_flat, flat_among, among_filter, filter_among, stands, standing}
use Rattle.source_laws.proofs.ModelGraph.{begins_with_step}
use Rattle.source_laws.proofs.PlacedCosts.{placed_model_costs}
use Rattle.source_nets.specs.declared.types.Source.{Source}
use Rattle.source_nets.specs.Ports.{source_file, source_library}
use Rattle.source_check.specs.declared.types.Checked.{Checked}
use Rattle.lowering.specs.Nets.{net_in}
use Rattle.lowering.specs.Lowers.{Lowers}
use Rattle.model_lowering.specs.Binds.{given_inside, answered_outside}
use Rattle.model_lowering.specs.Inside.{IsReady, IsShallow, CanLowerAll, CanLowerModel, LowersModel}
use Rattle.model_lowering.proofs.Bound.{formals, given_size, given_each, answered_size, answered_other, answered_each}
use Rattle.model_lowering.proofs.Known.{sound_model, file_model}

module _ (source : Source) (checked : Checked) (ready : IsReady source checked) (k : ℕ) (m : Model) (at_m : slice_get (source_file source).models k ≡ Some m)
    (place : ℕ) (c : Model) (at_c : slice_get (source_file source).models place ≡ Some c) (name : Name) (binds : List Bind) (fuel : ℕ) (old : GateList) (table : List ℕ)
    (in_m : Among (subckt name binds) (statements_of m)) (is_placed : placed (source_file source) (source_library source) name ≡ a_model c)
    (can : CanLowerAll (source_file source) (source_library source) m (subckt name binds) fuel old table) where
  abbrev F : File
  F = source_file source

  abbrev L : Library
  L = source_library source

  abbrev s : Statement
  s = subckt name binds

  abbrev ins : List Name
  ins = input_ports (a_model c)

  abbrev outs : List Name
  outs = output_ports (a_model c)

  -- ---- the placed model

  is_place : Places F m c
  is_place = places F L m c name s in_m (inl refl) is_placed

  pub has_step : 1 ≤ fuel
  has_step = can.shallow c 1 (m, refl, is_place)

  used_place : IsUsed F c
  used_place = let (top, main, n, chain) = can.used in (top, main, suc n, (m, chain, is_place))

  inside_place : IsMain F c → ⊥
  inside_place = let (top, main, n, chain) = can.used in not_main F L ready.sound top main n c (m, chain, is_place)

  shallow_place : IsShallow F c (fuel - 1)
  shallow_place d n chain = let longer = can.shallow d (suc n) ((begins_with_step F m d n).1 (c, is_place, chain)) in omega arith

  place_costs : cost_of F L s ≡ 1 + length binds + sum_by (cost_of F L) (statements_of c)
  place_costs = placed_model_costs F L m name binds c (λ j used (n, chain). (ready.sound.used j used).no_recursion n chain) can.used (contained (statements_of m) s in_m) is_placed

  -- ---- its ports

  placement : IsPlacement F L name binds
  placement = can.can.places

  placed_ports : AllByRecursion (λ b. IsTrue (stands_in b.formal (ins ++ outs))) binds
  placed_ports = subst (λ (p : Placed). AllByRecursion (λ b. IsTrue (stands_in b.formal (input_ports p ++ output_ports p))) binds) is_placed placement.ports

  placed_given : AllByRecursion (λ p. IsTrue (stands_in p (formals binds))) ins
  placed_given = subst (λ (p : Placed). AllByRecursion (λ n. IsTrue (stands_in n (formals binds))) (input_ports p)) is_placed placement.given

  read_is : read_by F L s ≡ actuals_among ins binds
  read_is = ap (λ (p : Placed). actuals_among (input_ports p) binds) is_placed

  driven_is : driven_by F L s ≡ actuals_among outs binds
  driven_is = ap (λ (p : Placed). actuals_among (output_ports p) binds) is_placed

  actual_of_port : (ports : List Name) (b : Bind) → Among b binds → stands_in b.formal ports ≡ true → Among b.actual (actuals_among ports binds)
  actual_of_port ports b h t = among_map (λ (b : Bind). b.actual) (filter (λ b. stands_in b.formal ports) binds) b (among_filter (λ (b : Bind). stands_in b.formal ports) binds b h t)

  is_read : (b : Bind) → Among b binds → Among b.formal ins → Among b.actual (read_by F L s)
  is_read b h i = subst (Among b.actual) (sym read_is) (actual_of_port ins b h (stands b.formal ins i))

  is_driven : (b : Bind) → Among b binds → stands_in b.formal outs ≡ true → Among b.actual (driven_by F L s)
  is_driven b h t = subst (Among b.actual) (sym driven_is) (actual_of_port outs b h t)

  -- what is read isn't driven
  apart : (n : Name) → Among n (read_by F L s) → stands_in n (driven_by F L s) ≡ false
  apart n h = all_among (λ n. stands_in n (driven_by F L s) ≡ false) (read_by F L s) can.can.apart n h

  bind_of_port : (p : Name) → Among p ins → (b : Bind) × Among b binds × (b.formal ≡ p)
  bind_of_port p h = map_among (λ (b : Bind). b.formal) binds p (standing p (formals binds) (all_among (λ p. IsTrue (stands_in p (formals binds))) ins placed_given p h))

  -- ---- names of ports and nets

  formal_named : AllByRecursion (λ b. Among b.formal c.names) binds
  formal_named = among_all (λ (b : Bind). Among b.formal c.names) binds (λ b h. named b.formal (among_either ins outs b.formal (standing b.formal (ins ++ outs) (all_among (λ (b : Bind). IsTrue (stands_in b.formal (ins ++ outs))) binds placed_ports b h))))
    where
      inputs : List Name
      inputs = port_names c.inputs

      is_named : (n : Name) → Among n (declared_nets c) → Among n c.names
      is_named n h = standing n c.names (all_among (λ n. IsTrue (stands_in n c.names)) (declared_nets c) (file_model source checked ready place c at_c).named n h)

      named : (n : Name) → Among n ins ⊎ Among n outs → Among n c.names
      named n (inl i) =
          elim (among_either (port_names c.inputs) (port_names c.clocks) n (among_first n (port_names c.inputs ++ port_names c.clocks) i)) [
            | inl a ↦ is_named n (among_front (port_names c.inputs ++ port_names c.outputs ++ port_names c.clocks) (flat_map (λ s. statement_nets s.what) c.statements) n (among_front (port_names c.inputs ++ port_names c.outputs) (port_names c.clocks) n (among_front (port_names c.inputs) (port_names c.outputs) n a)))
            | inr b ↦ is_named n (among_front (port_names c.inputs ++ port_names c.outputs ++ port_names c.clocks) (flat_map (λ s. statement_nets s.what) c.statements) n (among_back (port_names c.inputs ++ port_names c.outputs) (port_names c.clocks) n b))
          ]
      named n (inr o) = is_named n (among_front (port_names c.inputs ++ port_names c.outputs ++ port_names c.clocks) (flat_map (λ s. statement_nets s.what) c.statements) n (among_front (port_names c.inputs ++ port_names c.outputs) (port_names c.clocks) n (among_back (port_names c.inputs) (port_names c.outputs) n o)))

  actual_named : AllByRecursion (λ b. Among b.actual m.names) binds
  actual_named = among_all (λ (b : Bind). Among b.actual m.names) binds (λ b h.
      let (l, in_l, e) = map_among (λ (l : Located). l.what) m.statements s in_m in
      let there : Among b.actual (statement_nets l.what) = subst (λ (t : Statement). Among b.actual (statement_nets t)) (sym e) (among_map (λ (b : Bind). b.actual) binds b h) in
      let all : Among b.actual (declared_nets m) = among_back (port_names m.inputs ++ port_names m.outputs ++ port_names m.clocks) (flat_map (λ s. statement_nets s.what) m.statements) b.actual (among_flat (λ (l : Located). statement_nets l.what) m.statements l b.actual in_l there) in
      standing b.actual m.names (all_among (λ n. IsTrue (stands_in n m.names)) (declared_nets m) (file_model source checked ready k m at_m).named b.actual all))

  -- ---- the call

  module _ (inside : List ℕ) (size : length inside ≡ length c.names) where
    abbrev pub begun : List ℕ
    begun = given_inside m.names c.names table binds inside

    begun_each : AllByRecursion (λ b. net_in c.names begun b.formal ≡ net_in m.names table b.actual) binds
    begun_each = given_each m.names c.names table binds inside size formal_named placement.once

    -- the net of an input port is that of a net that the statement reads
    port_net : (p : Name) → Among p ins → (n : Name) × Among n (read_by F L s) × (net_in c.names begun p ≡ net_in m.names table n)
    port_net p h =
        let (b, in_binds, e) = bind_of_port p h in (
          b.actual,
          is_read b in_binds (subst (λ n. Among n ins) (sym e) h),
          ap (net_in c.names begun) (sym e) ∙ all_among (λ (b : Bind). net_in c.names begun b.formal ≡ net_in m.names table b.actual) binds begun_each b in_binds,
        )

    pub place_can : CanLowerModel F L c (fuel - 1) old begun
    place_can = record {
      used = used_place;
      inside = inside_place;
      shallow = shallow_place;
      size = given_size m.names c.names table binds inside ∙ size;
      known = among_all (λ p. net_in c.names begun p < net_count old) ins (λ p h.
          let (n, in_reads, e) = port_net p h in
          let low = all_among (λ n. net_in m.names table n < net_count old) (read_by F L s) can.can.known n in_reads in
          omega arith);
      room = let a = can.can.room in let b = place_costs in omega arith;
    }

    module _ (new : GateList) (noted : List ℕ) (done : LowersModel F L c old begun new noted) where
      abbrev pub after : List ℕ
      after = answered_outside m.names c.names outs noted binds table

      others : (n : Name) → stands_in n (driven_by F L s) ≡ false → net_in m.names after n ≡ net_in m.names table n
      others n h = answered_other m.names c.names outs noted binds table n actual_named (ap (stands_in n) (sym driven_is) ∙ h)

      after_each : AllByRecursion (λ b. IsTrue (stands_in b.formal outs) → net_in m.names after b.actual ≡ net_in c.names noted b.formal) binds
      after_each = answered_each m.names c.names outs noted binds table can.can.size actual_named (ap are_distinct (sym driven_is) ∙ can.can.once)

      bound : AllByRecursion (λ b. net_in c.names noted b.formal ≡ net_in m.names after b.actual) binds
      bound = among_all (λ (b : Bind). net_in c.names noted b.formal ≡ net_in m.names after b.actual) binds (λ b h. by b h (stands_in b.formal outs) refl (among_either ins outs b.formal (standing b.formal (ins ++ outs) (all_among (λ (b : Bind). IsTrue (stands_in b.formal (ins ++ outs))) binds placed_ports b h))))
        where
          by : (b : Bind) → Among b binds → (t : Bool) → stands_in b.formal outs ≡ t → Among b.formal ins ⊎ Among b.formal outs → net_in c.names noted b.formal ≡ net_in m.names after b.actual
          by b h true e io = sym (all_among (λ (b : Bind). IsTrue (stands_in b.formal outs) → net_in m.names after b.actual ≡ net_in c.names noted b.formal) binds after_each b h e)
          by b h false e (inl i) =
              all_among (λ n. net_in c.names noted n ≡ net_in c.names begun n) ins done.inputs b.formal i
              ∙ (all_among (λ (b : Bind). net_in c.names begun b.formal ≡ net_in m.names table b.actual) binds begun_each b h ∙ sym (others b.actual (apart b.actual (is_read b h i))))
          by b h false e (inr o) = let t = stands b.formal outs o in cc (t, e)

      -- an output port is driven by a statement of the model
      out_appended : (b : Bind) → Among b binds → stands_in b.formal outs ≡ true → IsAppended old new (net_in c.names noted b.formal)
      out_appended b h t = by (among_either (first_appearances (port_names c.inputs ++ port_names c.clocks)) (flat_map (λ s. driven_by F L s.what) c.statements) b.formal (driven_where_read F L c (sound_model source checked ready c used_place) b.formal
          (among_back (flat_map (λ s. read_by F L s.what) c.statements) outs b.formal (standing b.formal outs t))))
        where
          by : Among b.formal ins ⊎ Among b.formal (flat_map (λ s. driven_by F L s.what) c.statements) → IsAppended old new (net_in c.names noted b.formal)
          by (inl i) = let free = apart b.actual (is_read b h i) in let there = stands b.actual (driven_by F L s) (is_driven b h t) in cc (free, there)
          by (inr d) =
              let (l, in_l, in_d) = flat_among (λ (l : Located). driven_by F L l.what) c.statements b.formal d in
              all_among (λ n. IsAppended old new (net_in c.names noted n)) (flat_map (driven_by F L) (statements_of c)) done.driven b.formal
              (among_flat (driven_by F L) (statements_of c) l.what b.formal (among_map (λ (l : Located). l.what) c.statements l in_l) in_d)

      driven_appended : (n : Name) → Among n (driven_by F L s) → IsAppended old new (net_in m.names after n)
      driven_appended n h =
          let (b, in_filter, e) = map_among (λ (b : Bind). b.actual) (filter (λ b. stands_in b.formal outs) binds) n (subst (Among n) driven_is h) in
          let f = filter_among (λ (b : Bind). stands_in b.formal outs) binds b in_filter in
          let net = all_among (λ (b : Bind). IsTrue (stands_in b.formal outs) → net_in m.names after b.actual ≡ net_in c.names noted b.formal) binds after_each b f.0 f.1 in
          subst (λ x. IsAppended old new (net_in m.names after x)) e (subst (IsAppended old new) (sym net) (out_appended b f.0 f.1))

      reads_actuals : ReadsInputsAlone old new (map (net_in m.names table) (read_by F L s))
      reads_actuals n j low r = by (done.reads n j low r)
        where
          by : Contains (map (net_in c.names begun) ins) j ⊎ (net_count old ≤ j) → Contains (map (net_in m.names table) (read_by F L s)) j ⊎ (net_count old ≤ j)
          by (inl h) =
              let (p, in_ins, e) = map_among (net_in c.names begun) ins j (among (map (net_in c.names begun) ins) j h) in
              let (x, in_reads, net) = port_net p in_ins in
              inl (contained (map (net_in m.names table) (read_by F L s)) j (subst (λ i. Among i (map (net_in m.names table) (read_by F L s))) (sym net ∙ e) (among_map (net_in m.names table) (read_by F L s) x in_reads)))
          by (inr h) = inr h

      pub place_lowers : Lowers F L m.names s old table new after
      place_lowers = record {
        extends = done.extends;
        cost = let a = done.cost in let b = place_costs in omega arith;
        reads = reads_actuals;
        size = answered_size m.names c.names outs noted binds table;
        others = others;
        driven = among_all (λ n. IsAppended old new (net_in m.names after n)) (driven_by F L s) driven_appended;
        holds = nets_of_model c (net_in c.names noted) is_placed done.fits bound no_statement;
      }
