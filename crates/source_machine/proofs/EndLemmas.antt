-- The machine at the end.
use Rattle.std.proofs.Common.{◌≡◌, refl, sym, ◌∙◌, ap, subst, ℕ, suc, ◌+◌, ◌<◌, ◌⊎◌, inl, inr, List, [], ◌∷◌, map, length, Some, slice_get, IsTrue, arith}
use Rattle.std.proofs.lemmas.List.{length-map, length-append}
use Rattle.std.proofs.lemmas.Option.{slice_get_within}
use Rattle.std.specs.List.{flat_map, range_with_len}
use Rattle.netlist_spec.specs.Netlist.{Name, Statement, Model, File}
use Rattle.netlist_spec.specs.Covers.{Library}
use Rattle.netlist_spec.specs.Placed.{port_names}
use Rattle.netlist_spec.specs.Models.{data_inputs, latch_inputs, latch_outputs, latches_of, init_bits, output_nets}
use Rattle.netlist_spec.specs.Sound.{combines, drives, reads, read_nets, IsMain, IsSound}
use Rattle.netlist_spec.specs.Gates.{GateList, IsGateList, LatchRow, Machine, IsMachine}
use Rattle.gate_net.specs.GateNet.{net_count}
use Rattle.source_laws.specs.Costs.{statements_of}
use Rattle.source_laws.specs.Nets.{Nets}
use Rattle.source_laws.specs.Numbered.{IsNumbered}
use Rattle.source_laws.specs.Settling.{given_nets}
use Rattle.source_laws.proofs.Agree.{given_or_combined, driven_where_read}
use Rattle.source_laws.proofs.Lists.{Among, contained, among_all, among_map, map_among, among_front, among_back, stands}
use Rattle.source_laws.proofs.Nets.{read_off_clocks}
use Rattle.source_laws.proofs.Numbered.{place_of as leaf_at}
use Rattle.source_laws.proofs.OneOutcome.{stored_is_read}
use Rattle.source_laws.proofs.Tallies.{get_front, get_back}
use Rattle.lowering.specs.Nets.{net_in}
use Rattle.source_machine.specs.Leaves.{leaf_names}
use Rattle.source_machine.specs.Gates.{HasGates}
use Rattle.source_machine.proofs.Built.{count_owners, given_leaf, is}

numbered_range : (nets : Nets) (ns : List Name) (a : ℕ) → ((i : ℕ) (x : Name) → slice_get ns i ≡ Some x → nets x ≡ a + i) → map nets ns ≡ range_with_len a (length ns)
numbered_range nets [] a each = refl
numbered_range nets (n ∷ ns) a each =
    let first : nets n ≡ a = each 0 n refl ∙ (let z : a + 0 ≡ a = omega arith in z) in
    let rest : map nets ns ≡ range_with_len (a + 1) (length ns) = numbered_range nets ns (a + 1) (λ i x at. each (suc i) x at ∙ (let z : a + suc i ≡ (a + 1) + i = omega arith in z)) in
    ap (λ (k : ℕ). k ∷ map nets ns) first ∙ ap (λ (ks : List ℕ). a ∷ ks) rest

module _ (file : File) (library : Library) (m : Model) (sound : IsSound file library) (main : IsMain file m) (net : GateList) (table : List ℕ) (g : HasGates file library m net table) where
  abbrev nets : Nets
  nets = net_in m.names table

  -- a net that is read is below the end
  below : (x : Name) → Among x (read_nets file library m) → nets x < net_count net
  below x h = by_case (given_or_combined file library m x (driven_where_read file library m (is file library m sound main) x h))
    where
      by_case : Among x (given_nets m) ⊎ ((s : Statement) × Among s (map (λ l. l.what) m.statements) × IsTrue (combines s) × Among x (drives file library s)) → nets x < net_count net
      by_case (inl given) =
          let none : Machine = record { net = record { leaves = 0; gates = [] }; inputs = 0; latches = []; outputs = [] } in
          let leaf = given_leaf file library m sound main x (λ c. read_off_clocks file library m none nets sound main x h c) given in
          let (k, e) = leaf_at (leaf_names m) x leaf in
          let number = g.each x k e in
          let within = slice_get_within (leaf_names m) k x e in
          let count = length-append (data_inputs m) (latch_outputs m) in
          let leaves = g.leaves in
          omega arith
      by_case (inr d) =
          let (s, in_s, c, r) = d in
          let gate = g.driven x s (record { stands = contained (statements_of m) s in_s; combines = c; drives = stands x (drives file library s) r }) in
          let number = gate.number in
          let within = slice_get_within g.owners gate.place gate.owner gate.owns in
          let count = count_owners g.gates in
          omega arith

  output_is_read : (x : Name) → Among x (output_nets m) → Among x (read_nets file library m)
  output_is_read x h = among_back (flat_map (λ s. reads file library s.what) m.statements) (port_names m.outputs) x h

  store_is_read : (x : Name) → Among x (latch_inputs m) → Among x (read_nets file library m)
  store_is_read x h = among_front (flat_map (λ s. reads file library s.what) m.statements) (port_names m.outputs) x (stored_is_read file library m.statements x h)

  module _ (inputs : ℕ) (rows : List LatchRow) (outs : List ℕ) (is_list : IsGateList net) (input_count : inputs ≡ length (data_inputs m))
      (stored : map nets (latch_inputs m) ≡ map (λ r. r.d) rows) (inits : map (λ r. r.init) rows ≡ init_bits m) (out_nets : map nets (output_nets m) ≡ outs) where
    latch_count : length rows ≡ length (latch_outputs m)
    latch_count =
        let a = ap length stored in
        let b = length-map rows (λ (r : LatchRow). r.d) in
        let c = length-map (latch_inputs m) nets in
        let d = length-map (latches_of m) (λ l. l.d) in
        let e = length-map (latches_of m) (λ l. l.q) in
        omega arith

    stored_below : (r : LatchRow) → Among r rows → r.d < net_count net
    stored_below r h =
        let d : Among r.d (map nets (latch_inputs m)) = subst (λ (ks : List ℕ). Among r.d ks) (sym stored) (among_map (λ (r : LatchRow). r.d) rows r h) in
        let (x, in_x, e) = map_among nets (latch_inputs m) r.d d in
        let b = below x (store_is_read x in_x) in
        omega arith

    output_below : (k : ℕ) → Among k outs → k < net_count net
    output_below k h =
        let d : Among k (map nets (output_nets m)) = subst (λ (ks : List ℕ). Among k ks) (sym out_nets) h in
        let (x, in_x, e) = map_among nets (output_nets m) k d in
        let b = below x (output_is_read x in_x) in
        omega arith

    pub machine_is : IsMachine (record { net = net; inputs = inputs; latches = rows; outputs = outs })
    machine_is = record {
      gates = is_list;
      leaves = let a = g.leaves in let b = latch_count in omega arith;
      stores = among_all (λ (r : LatchRow). r.d < net_count net) rows stored_below;
      outputs = among_all (λ (k : ℕ). k < net_count net) outs output_below;
    }

    pub is_numbered : IsNumbered file library m (record { net = net; inputs = inputs; latches = rows; outputs = outs }) g.owners nets
    is_numbered = record {
      well_formed = machine_is;
      inits = inits;
      inputs = numbered_range nets (data_inputs m) 0 (λ i x at. g.each x i (get_front (data_inputs m) (latch_outputs m) i x at) ∙ (let z : i ≡ 0 + i = omega arith in z)) ∙ ap (range_with_len 0) (sym input_count);
      state =
          numbered_range nets (latch_outputs m) inputs (λ i x at.
          g.each x (length (data_inputs m) + i) (get_back (data_inputs m) (latch_outputs m) i ∙ at) ∙ (let z : length (data_inputs m) + i ≡ inputs + i = omega (arith, input_count) in z))
          ∙ ap (range_with_len inputs) (sym latch_count);
      driven = g.driven;
      gates = g.gates;
      fit = g.fit;
      outputs = out_nets;
      stores = stored;
    }
