-- Statements of a model as they were read, and what they need.
use Rattle.std.proofs.Common.{◌≡◌, sym, ◌∙◌, ap, subst, ℕ, ◌+◌, ◌^◌, ◌<◌, ◌≤◌, List, [], ◌∷◌, ◌++◌, length, map, Bool, true, false, Option, Result, Ok, Err, OnOk, get_or, All, arith}
use Rattle.std.specs.Prelude.{Vec}
use Rattle.std.specs.declared.alloc.Global.{Global}
use Rattle.std.proofs.lemmas.List.{length-map}
use Rattle.std.proofs.lemmas.List.Elements.{recursion_from_All, All-from_recursion}
use Rattle.std.proofs.lemmas.Option.{slice_get-get_or}
use Rattle.std.specs.List.{AllByRecursion}
use Rattle.netlist_spec.specs.Netlist.{Name, stands_in, are_distinct, subckt, File}
use Rattle.netlist_spec.specs.Covers.{Table, Linear, Library, NamedTable, table_value, linear_value}
use Rattle.netlist_spec.specs.Fits.{port_bits, OutputsHave}
use Rattle.netlist_spec.specs.Placed.{Placed, nothing, a_table, a_linear, placed, table_or, linear_or_nothing, input_ports, output_ports, numbered_ports, actuals_among}
use Rattle.netlist_spec.specs.Size.{cost_of, cost_to_depth, placed_cost, table_cost, linear_cost}
use Rattle.netlist_spec.specs.Gates.{GateList, AnswersWithin}
use Rattle.imp_text.specs.declared.names.NameId.{NameId}
use Rattle.blif_read.specs.declared.file.Bind.{Bind as ReadBind}
use Rattle.blif_read.specs.declared.file.Statement.{Statement as ReadStatement}
use Rattle.blif_read.specs.declared.file.Statement.TheVariants.{Subckt}
use Rattle.blif_read.specs.Ids.{IsIdOf, ids_in}
use Rattle.blif_read.specs.View.{bind_of, name_at, statement_of}
use Rattle.sbox_table.specs.declared.table.NamedTable.{NamedTable as ReadTable}
use Rattle.sbox_table.specs.Named.{named_table_of}
use Rattle.linear_layer.specs.declared.layer.NamedLinear.{NamedLinear as ReadLinear}
use Rattle.linear_layer.specs.Named.{named_linear_of}
use Rattle.gate_net.specs.GateNet.{net_count}
use Rattle.source_nets.specs.declared.types.Meaning.{Meaning}
use Rattle.source_nets.specs.declared.types.Meaning.TheVariants as meaning
use Rattle.source_nets.specs.declared.types.Source.{Source}
use Rattle.source_nets.specs.Ports.{source_file, source_library}
use Rattle.source_nets.specs.Survey.{IsMeaningIn, Means, placed_at}
use Rattle.source_nets.proofs.SurveyLemmas.{row_at}
use Rattle.source_laws.specs.Nets.{NetsHold, bits_at, nets_of_table, nets_of_linear, no_statement}
use Rattle.lowering.specs.Nets.{net_in}
use Rattle.lowering.specs.Numbers.{IsWithin, nets_for}
use Rattle.lowering.specs.Ports.{NotesPorts, input_nets}
use Rattle.lowering.specs.Lowers.{CanLower, Lowers}
use Rattle.lowering.proofs.TableLemmas.{net_at}
use Rattle.lowering.proofs.PlacedLemmas.{formals}
use Rattle.lowering.proofs.LoweredLemmas.{inputs_known, entry_lowers}

-- what follows where a call succeeds
pub then_ok : {X E : Type 0} {P Q : Type 0} (r : Result X E) → (P → Q) → OnOk r P → OnOk r Q
then_ok (Ok x) f h = f h
then_ok (Err e) f h = tt

-- ---- covers

-- the nets of what a cover reads
pub known_nets : (all : List Name) (table : List ℕ) (limit : ℕ) (ids : List NameId) → are_distinct all ≡ true → AllByRecursion (IsIdOf all) ids
    → AllByRecursion (λ n. net_in all table n < limit) (map (name_at all) ids) → AllByRecursion (λ n. n < limit) (nets_for table ids)
known_nets all table limit [] d h a = tt
known_nets all table limit (id ∷ ids) d h a = (subst (λ (n : ℕ). n < limit) (net_at all table id.0 d h.0) a.0, known_nets all table limit ids d h.1 a.1)

split_ids : (all : List Name) (ins : List NameId) (out : NameId) → AllByRecursion (IsIdOf all) (ins ++ out ∷ []) → AllByRecursion (IsIdOf all) ins × IsIdOf all out
split_ids all [] out a = (tt, a.0)
split_ids all (id ∷ ins) out a = let rest = split_ids all ins out a.1 in ((a.0, rest.0), rest.1)

pub cover_ids : (all : List Name) (ins : List NameId) (out : NameId) → All (IsIdOf all) (ins ++ out ∷ []) → AllByRecursion (IsIdOf all) ins × IsIdOf all out
cover_ids all ins out a = split_ids all ins out (recursion_from_All (IsIdOf all) (ins ++ out ∷ []) a)

-- ---- library entries

bind_ids : (all : List Name) (binds : List ReadBind) → AllByRecursion (IsIdOf all) (map (λ (b : ReadBind). b.actual) binds) → AllByRecursion (λ (b : ReadBind). IsIdOf all b.actual) binds
bind_ids all [] a = tt
bind_ids all (b ∷ binds) a = (a.0, bind_ids all binds a.1)

-- A statement places an entry with so many inputs and outputs.
pub record Entry (file : File) (library : Library) (all : List Name) (name : Name) (binds : List ReadBind) (old : GateList) (before : List ℕ) (ins outs most : ℕ) : Type 0 where
  pub inputs : input_ports (placed file library name) ≡ numbered_ports 105 ins
  pub outputs : output_ports (placed file library name) ≡ numbered_ports 111 outs
  pub costs : cost_of file library (subckt name (map (bind_of all) binds)) ≡ most
  pub ids : AllByRecursion (λ (b : ReadBind). IsIdOf all b.actual) binds
  pub can : CanLower file library all (subckt name (map (bind_of all) binds)) old before

module _ (file : File) (library : Library) (all : List Name) (name : Name) (binds : List ReadBind) (old : GateList) (before : List ℕ) (ins outs most : ℕ) (entry : Entry file library all name binds old before ins outs most) where
  pub entry_once : are_distinct (map (λ (b : ReadBind). b.formal) binds) ≡ true
  entry_once = ap are_distinct (sym (formals all binds)) ∙ entry.can.places.once

  within : (bs : List ReadBind) → AllByRecursion (λ (b : ReadBind). IsIdOf all b.actual) bs → AllByRecursion (λ (b : ReadBind). IsWithin before b.actual) bs
  within [] a = tt
  within (b ∷ bs) a = ((let e = entry.can.size in let h = a.0 in omega arith), within bs a.1)

  pub entry_within : All (λ (b : ReadBind). IsWithin before b.actual) binds
  entry_within = All-from_recursion (λ (b : ReadBind). IsWithin before b.actual) binds (within binds entry.ids)

  given : AllByRecursion (λ p. stands_in p (map (λ (b : ReadBind). b.formal) binds) ≡ true) (numbered_ports 105 ins)
  given =
      subst (λ (ps : List Name). AllByRecursion (λ p. stands_in p (map (λ (b : ReadBind). b.formal) binds) ≡ true) ps) entry.inputs
      (subst (λ (fs : List Name). AllByRecursion (λ p. stands_in p fs ≡ true) (input_ports (placed file library name))) (formals all binds) entry.can.places.given)

  once : are_distinct (actuals_among (numbered_ports 111 outs) (map (bind_of all) binds)) ≡ true
  once = ap (λ (ps : List Name). are_distinct (actuals_among ps (map (bind_of all) binds))) (sym entry.outputs) ∙ entry.can.once

  apart : AllByRecursion (λ n. stands_in n (actuals_among (numbered_ports 111 outs) (map (bind_of all) binds)) ≡ false) (actuals_among (numbered_ports 105 ins) (map (bind_of all) binds))
  apart =
      let I : List Name → Type 0 = λ ps. AllByRecursion (λ n. stands_in n (actuals_among (numbered_ports 111 outs) (map (bind_of all) binds)) ≡ false) (actuals_among ps (map (bind_of all) binds)) in
      let O : List Name → Type 0 = λ ps. AllByRecursion (λ n. stands_in n (actuals_among ps (map (bind_of all) binds)) ≡ false) (actuals_among (input_ports (placed file library name)) (map (bind_of all) binds)) in
      subst I entry.inputs (subst O entry.outputs entry.can.apart)

  pub entry_nets : AllByRecursion (λ n. n < net_count old) (input_nets before binds ins)
  entry_nets =
      let P : List Name → Type 0 = λ ps. AllByRecursion (λ n. net_in all before n < net_count old) (actuals_among ps (map (bind_of all) binds)) in
      inputs_known all entry.can.distinct ins outs (λ bits j. true) most binds old before old before entry.ids entry.can.size given once apart (net_count old) (subst P entry.inputs entry.can.known)

  pub entry_room : net_count old + most ≤ 2 ^ 23
  entry_room = subst (λ (k : ℕ). net_count old + k ≤ 2 ^ 23) entry.costs entry.can.room

  pub entry_done : (value : List Bool → ℕ → Bool) (new : GateList) (noted : List ℕ) → outs ≤ 128 → NotesPorts ins outs value most binds old before new noted
      → ((nets : Name → ℕ) → ((v : ℕ → Bool) → AnswersWithin new (net_count old) (net_count new) v
      → OutputsHave (bits_at v nets) (map (bind_of all) binds) (numbered_ports 111 outs) (value (port_bits (bits_at v nets) (map (bind_of all) binds) (numbered_ports 105 ins))))
      → NetsHold file library (AnswersWithin new (net_count old) (net_count new)) nets (subckt name (map (bind_of all) binds)))
      → Lowers file library all (subckt name (map (bind_of all) binds)) old before new noted
  entry_done value new noted few notes holds =
      entry_lowers all entry.can.distinct ins outs value most binds old before new noted entry.ids entry.can.size given once apart few notes file library name entry.inputs entry.outputs entry.costs holds

-- ---- entries by their places

module _ (src : Source) (all : List Name) (s : ReadStatement) (found : Meaning) (k : ℕ) (name : Name) (binds : Vec ReadBind Global) (old : GateList) (before : List ℕ)
    (is : s ≡ Subckt name binds) (ids : All (IsIdOf all) (ids_in s)) (means : Means (source_file src) (source_library src) (statement_of all s) found)
    (inside : IsMeaningIn (source_file src) (source_library src) found)
    (can : CanLower (source_file src) (source_library src) all (statement_of all s) old before) where
  its_ids : AllByRecursion (λ (b : ReadBind). IsIdOf all b.actual) binds.items
  its_ids =
      bind_ids all binds.items
      (recursion_from_All (IsIdOf all) (map (λ (b : ReadBind). b.actual) binds.items) (subst (λ (t : ReadStatement). All (IsIdOf all) (ids_in t)) is ids))

  its_needs : CanLower (source_file src) (source_library src) all (subckt name (map (bind_of all) binds.items)) old before
  its_needs = subst (λ (t : ReadStatement). CanLower (source_file src) (source_library src) all (statement_of all t) old before) is can

  its_place : placed_at (source_file src) (source_library src) found ≡ placed (source_file src) (source_library src) name
  its_place = (subst (λ (t : ReadStatement). Means (source_file src) (source_library src) (statement_of all t) found) is means).0

  module _ (at : found ≡ meaning.Table k) (d : ReadTable) where
    abbrev pub the_table : Table
    the_table = (get_or src.tables.now k d).table

    pub placed_table : placed (source_file src) (source_library src) name ≡ a_table the_table
    placed_table =
        let within : k < length (map named_table_of src.tables.now) = subst (IsMeaningIn (source_file src) (source_library src)) at inside in
        let same = length-map src.tables.now named_table_of in
        sym its_place
        ∙ (ap (placed_at (source_file src) (source_library src)) at
        ∙ ap (λ (o : Option NamedTable). table_or o nothing) (row_at named_table_of src.tables.now k (get_or src.tables.now k d) (slice_get-get_or src.tables.now k d (omega arith))))

    pub table_entry : Entry (source_file src) (source_library src) all name binds.items old before the_table.ins the_table.outs (table_cost the_table)
    table_entry = record {
      inputs = ap input_ports placed_table;
      outputs = ap output_ports placed_table;
      costs = ap (λ (p : Placed). placed_cost (cost_to_depth (source_file src) (source_library src) (length (source_file src).models)) p (map (bind_of all) binds.items)) placed_table;
      ids = its_ids;
      can = its_needs;
    }

    pub table_done : (new : GateList) (noted : List ℕ) → the_table.outs ≤ 128 → NotesPorts the_table.ins the_table.outs (table_value the_table) (table_cost the_table) binds.items old before new noted
        → Lowers (source_file src) (source_library src) all (statement_of all s) old before new noted
    table_done new noted few notes =
        subst (λ (t : ReadStatement). Lowers (source_file src) (source_library src) all (statement_of all t) old before new noted) (sym is)
        (entry_done (source_file src) (source_library src) all name binds.items old before the_table.ins the_table.outs (table_cost the_table) table_entry (table_value the_table) new noted few notes
        (λ nets h. nets_of_table the_table placed_table h no_statement))

  module _ (at : found ≡ meaning.Linear k) (d : ReadLinear) where
    abbrev pub the_layer : Linear
    the_layer = (get_or src.linears.now k d).layer

    pub placed_linear : placed (source_file src) (source_library src) name ≡ a_linear the_layer
    placed_linear =
        let within : k < length (map named_linear_of src.linears.now) = subst (IsMeaningIn (source_file src) (source_library src)) at inside in
        let same = length-map src.linears.now named_linear_of in
        sym its_place
        ∙ (ap (placed_at (source_file src) (source_library src)) at
        ∙ ap linear_or_nothing (row_at named_linear_of src.linears.now k (get_or src.linears.now k d) (slice_get-get_or src.linears.now k d (omega arith))))

    pub linear_entry : Entry (source_file src) (source_library src) all name binds.items old before the_layer.width (length the_layer.rows) (linear_cost the_layer)
    linear_entry = record {
      inputs = ap input_ports placed_linear;
      outputs = ap output_ports placed_linear;
      costs = ap (λ (p : Placed). placed_cost (cost_to_depth (source_file src) (source_library src) (length (source_file src).models)) p (map (bind_of all) binds.items)) placed_linear;
      ids = its_ids;
      can = its_needs;
    }

    pub linear_done : (new : GateList) (noted : List ℕ) → length the_layer.rows ≤ 128 → NotesPorts the_layer.width (length the_layer.rows) (linear_value the_layer) (linear_cost the_layer) binds.items old before new noted
        → Lowers (source_file src) (source_library src) all (statement_of all s) old before new noted
    linear_done new noted few notes =
        subst (λ (t : ReadStatement). Lowers (source_file src) (source_library src) all (statement_of all t) old before new noted) (sym is)
        (entry_done (source_file src) (source_library src) all name binds.items old before the_layer.width (length the_layer.rows) (linear_cost the_layer) linear_entry (linear_value the_layer) new noted few notes
        (λ nets h. nets_of_linear the_layer placed_linear h no_statement))
