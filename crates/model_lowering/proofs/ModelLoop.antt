-- What the loop over the order of a model owes to each call, and what it has at its end.
use Rattle.std.proofs.Common.{◌≡◌, ap, subst, ℕ, ◌+◌, ◌<◌, ◌≤◌, List, length, map, get_or, Some, slice_get}
use Rattle.std.specs.Prelude.{option_map}
use Rattle.std.proofs.lemmas.List.{take_all}
use Rattle.netlist_spec.specs.Netlist.{Name, Statement, Located, Model, File}
use Rattle.netlist_spec.specs.Covers.{Library}
use Rattle.netlist_spec.specs.Reads.{first_appearances}
use Rattle.netlist_spec.specs.Placed.{a_model, input_ports}
use Rattle.netlist_spec.specs.Gates.{GateList}
use Rattle.netlist_spec.proofs.Occurrences.{first_stands}
use Rattle.gate_net.specs.GateNet.{net_count}
use Rattle.source_laws.proofs.Lists.{Among, all_among, stands, standing}
use Rattle.source_loops.specs.Orders.{statement_at, IsModelOrder}
use Rattle.source_nets.specs.declared.types.Source.{Source}
use Rattle.source_nets.specs.Ports.{source_file, source_library}
use Rattle.source_check.specs.declared.types.Checked.{Checked}
use Rattle.lowering.specs.Nets.{net_in}
use Rattle.lowering.specs.Lowers.{Lowers}
use Rattle.model_lowering.specs.Inside.{IsReady, CanLowerAll, CanLowerModel, LowersModel}
use Rattle.model_lowering.proofs.Places.{some_at}
use Rattle.model_lowering.proofs.Progress.{ports}
use Rattle.model_lowering.proofs.Halfway.{Halfway, halfway_none, halfway_can, halfway_more, halfway_all, statement_here, combines_here}
use Rattle.model_lowering.proofs.Known.{sound_model, no_latches, names_distinct, narrow, order_of}

module _ (source : Source) (checked : Checked) (ready : IsReady source checked) (k : ℕ) (m : Model) (at : slice_get (source_file source).models k ≡ Some m) (fuel : ℕ) (old : GateList) (given : List ℕ)
    (can : CanLowerModel (source_file source) (source_library source) m fuel old given) (order : List ℕ) (there : slice_get (map (λ row. row.items) checked.orders.items) k ≡ Some order) where
  abbrev F : File
  F = source_file source

  abbrev L : Library
  L = source_library source

  abbrev pub o : IsModelOrder F L m order
  o = order_of source checked ready k m at can.used order there

  port_nets : (n : Name) → Among n (ports F L m) → net_in m.names given n < net_count old
  port_nets n h = all_among (λ n. net_in m.names given n < net_count old) (input_ports (a_model m)) can.known n (standing n (first_appearances (ports F L m)) (first_stands n (ports F L m) (stands n (ports F L m) h)))

  pub loop_begins : Halfway F L m old given order 0 old given
  loop_begins = halfway_none F L m (sound_model source checked ready m can.used) order o old given (no_latches source checked ready m can.used can.inside)

  module _ (i : ℕ) (mid : GateList) (table : List ℕ) (within : i < length order) (h : Halfway F L m old given order i mid table) where
    pub place_within : get_or order i 0 < length m.statements
    place_within = o.within i 0 within

    pub call_can : (s : Statement) → statement_at m (get_or order i 0) ≡ Some s → CanLowerAll F L m s fuel mid table
    call_can s e =
        let is = sound_model source checked ready m can.used in
        let (l, there_l, same) = statement_here F L m is order o old given i mid table within h s e in
        subst (λ (t : Statement). CanLowerAll F L m t fuel mid table) same
        (record {
          used = can.used;
          combines = combines_here F L m is order o old given i mid table within h l there_l;
          shallow = can.shallow;
          can = halfway_can F L m is order o old given i mid table within h l there_l (names_distinct source checked ready k m at) can.size port_nets (narrow source checked ready k m at (get_or order i 0) l there_l) can.room;
        })

    pub loop_goes_on : (new : GateList) (noted : List ℕ) → ((s : Statement) → statement_at m (get_or order i 0) ≡ Some s → Lowers F L m.names s mid table new noted) → Halfway F L m old given order (i + 1) new noted
    loop_goes_on new noted lowers =
        let is = sound_model source checked ready m can.used in
        let l = some_at m.statements (get_or order i 0) place_within in
        halfway_more F L m is order o old given i mid table within h l.0 l.1 new noted (lowers l.0.what (ap (option_map (λ (l : Located). l.what)) l.1))

  pub loop_ends : (i : ℕ) (new : GateList) (table : List ℕ) → length order ≤ i → Halfway F L m old given order i new table → LowersModel F L m old given new table
  loop_ends i new table past h = halfway_all F L m (sound_model source checked ready m can.used) order o (no_latches source checked ready m can.used can.inside) old given i new table (take_all i order past) h
