-- One cycle of a simulator is one cycle of its file.
use Rattle.std.proofs.Common.{◌≡◌, refl, sym, ◌∙◌, ap, ap₂, subst, ℕ, suc, ◌<◌, List, [], ◌∷◌, ◌++◌, map, length, take, drop, Bool, true, Option, None, All, arith}
use Rattle.std.proofs.Math.Seq.{take-append_seam}
use Rattle.std.specs.List.{AllByRecursion, AllZip}
use Rattle.netlist_spec.specs.Netlist.{Name, stands_in, Model, File}
use Rattle.netlist_spec.specs.Covers.{cover_value}
use Rattle.netlist_spec.specs.Models.{Gate, data_inputs, latch_outputs, latch_inputs, gates_of, output_nets}
use Rattle.netlist_spec.specs.FileOrder.{items_of, first_answer}
use Rattle.netlist_spec.specs.Ordered.{item_fault}
use Rattle.netlist_spec.specs.Fits.{Valuation}
use Rattle.netlist_spec.specs.SourceRun.{Bits}
use Rattle.netlist_spec.specs.Values.{Forced, shown, Values}
use Rattle.netlist_spec.proofs.OneRun.{outputs_have, stores_have}
use Rattle.netlist_spec.proofs.SomeValue.{cycle_values, some_values}
use Rattle.audit_laws.proofs.GateOrder.{no_fault_of}
use Rattle.imp_text.specs.declared.names.NameId.{NameId}
use Rattle.blif_read.specs.Ids.{IsIdOf}
use Rattle.blif_read.specs.View.{name_at}
use Rattle.fault_sim.specs.declared.cells.CellId.{CellId}
use Rattle.fault_sim.specs.declared.faults.CellFault.{CellFault}
use Rattle.fault_sim.specs.declared.row.LatchCell.{LatchCell}
use Rattle.fault_sim.specs.Gates.{bit_in, NumberedGate, named_gate, IsGateWithin, put_gates}
use Rattle.fault_sim.specs.Faults.{Forces, named_faults}
use Rattle.fault_sim.specs.Row.{put_bits, put_latches}
use Rattle.fault_sim.specs.Simulated.{Simulated, HasModel, Simulates, CycleUnder, IsSimulator, simulated}
use Rattle.fault_sim.proofs.RowLemmas.{Agrees, Within, ReadsKnown, nothing_known, bits_known, latches_known, gates_known, read_known}
use Rattle.fault_sim.proofs.OrderLemmas.{reads_known, all_known_nets, sources_known, statement_lines}

pub each_of : {A : Type 0} (P : A → Type 0) (xs : List A) → All P xs → AllByRecursion P xs
each_of P [] h = tt
each_of P (x ∷ xs) h = (h 0 x (omega arith), each_of P xs (λ k d inside. h (suc k) d (omega arith)))

pub mapped_long : {A B : Type 0} (f : A → B) (xs : List A) → length (map f xs) ≡ length xs
mapped_long f [] = refl
mapped_long f (x ∷ xs) = ap suc (mapped_long f xs)

d_within : (all : List Name) (ls : List LatchCell) → AllByRecursion (λ (l : LatchCell). l.d.0 < length all) ls → Within all (map (λ (l : LatchCell). l.d) ls)
d_within all [] a = tt
d_within all (l ∷ ls) a = (a.0, d_within all ls a.1)

map-map : {A B C : Type 0} (f : B → C) (g : A → B) (xs : List A) → map f (map g xs) ≡ map (λ x. f (g x)) xs
map-map f g [] = refl
map-map f g (x ∷ xs) = ap (λ ys. f (g x) ∷ ys) (map-map f g xs)

gates_within : (all : List Name) (gs : List NumberedGate) → AllByRecursion (IsGateWithin (length all)) gs → AllByRecursion (λ (g : NumberedGate). Within all g.ins × (g.out.0 < length all)) gs
gates_within all [] a = tt
gates_within all (g ∷ gs) a = ((each_of (λ (id : NameId). id.0 < length all) g.ins a.0.ins, a.0.out), gates_within all gs a.1)

outs_named : (all : List Name) (gs : List NumberedGate) → map (λ (g : NumberedGate). name_at all g.out) gs ≡ map (λ (g : Gate). g.out) (map (named_gate all) gs)
outs_named all [] = refl
outs_named all (g ∷ gs) = ap (λ ns. name_at all g.out ∷ ns) (outs_named all gs)

module _ (all : List Name) (inputs : List NameId) (latches : List LatchCell) (gates : List NumberedGate) (outputs cells : List NameId) (by_net : List (Option CellId)) (stored row0 : Bits) (forced0 : List (Option Bool))
    (is : IsSimulator all inputs latches gates outputs cells by_net stored row0 forced0) (file : File) (s : Simulates file (simulated all inputs latches gates outputs cells stored))
    (x : Bits) (faults : Forced) (table : List (Option Bool)) (f : Forces all table faults) (wide : length x ≡ length inputs) where
  abbrev m : Model
  m = s.ordered.model

  none : first_answer (item_fault m) [] (items_of m) ≡ None
  none = no_fault_of file s.ordered

  abbrev v : Valuation
  v = cycle_values m none faults x stored

  long_inputs : length (data_inputs m) ≡ length x
  long_inputs = ap length (sym s.model.inputs) ∙ (mapped_long (name_at all) inputs ∙ sym wide)

  long_latches : length (latch_outputs m) ≡ length stored
  long_latches = ap length (sym s.model.shown) ∙ (mapped_long (λ (l : LatchCell). name_at all l.q) latches ∙ sym is.stored)

  values : Values m stored x faults v
  values = some_values m none faults x stored long_inputs long_latches

  abbrev row1 : Bits
  row1 = put_bits row0 inputs x

  abbrev row2 : Bits
  row2 = put_latches table row1 latches stored

  abbrev pub row3 : Bits
  row3 = put_gates table row2 gates

  abbrev ins' : List Name
  ins' = map (name_at all) inputs

  abbrev qs' : List Name
  qs' = map (λ (l : LatchCell). name_at all l.q) latches

  after_inputs : Agrees all row1 v ins'
  after_inputs =
      bits_known all v row0 [] inputs x (each_of (IsIdOf all) inputs is.inputs) (ap (map v) s.model.inputs ∙ values.inputs) (nothing_known all row0 v is.distinct is.row)

  after_latches : Agrees all row2 v (ins' ++ qs')
  after_latches =
      latches_known all v table faults row1 ins' latches stored f (each_of (λ (l : LatchCell). IsIdOf all l.q) latches is.shown)
      (subst (λ ns. AllZip (λ q bit. v q ≡ shown faults q bit) ns stored) (sym s.model.shown) values.latches) after_inputs

  reads : ReadsKnown (ins' ++ qs') (map (named_gate all) gates)
  reads =
      let lines = statement_lines file s.is_file s.ordered in
      subst (ReadsKnown (ins' ++ qs')) (sym s.model.gates)
      (subst (λ (k : List Name). ReadsKnown k (gates_of m)) (sym (ap₂ (λ (xs ys : List Name). xs ++ ys) s.model.inputs s.model.shown)) (reads_known m m.line lines.0 lines.1 none))

  after_gates : Agrees all row3 v ((ins' ++ qs') ++ map (λ (g : NumberedGate). name_at all g.out) gates)
  after_gates =
      gates_known all v table faults f row2 (ins' ++ qs') gates (gates_within all gates (each_of (IsGateWithin (length all)) gates is.gates))
      (subst (AllByRecursion (λ (g : Gate). v g.out ≡ shown faults g.out (cover_value g.cover (map v g.ins)))) (sym s.model.gates) values.gates) reads after_latches

  everything : Agrees all row3 v (all_known_nets m)
  everything =
      subst (Agrees all row3 v)
      (ap₂ (λ (xs ys : List Name). xs ++ ys) (ap₂ (λ (xs ys : List Name). xs ++ ys) s.model.inputs s.model.shown) (outs_named all gates ∙ ap (map (λ (g : Gate). g.out)) s.model.gates)) after_gates

  pub one_cycle : CycleUnder m faults x stored (map (bit_in row3) outputs) (map (λ (l : LatchCell). bit_in row3 l.d) latches)
  one_cycle =
      let ds = map (λ (l : LatchCell). l.d) latches in
      let ds_named : map (name_at all) ds ≡ latch_inputs m = map-map (name_at all) (λ (l : LatchCell). l.d) latches ∙ s.model.stores in
      record {
        values = v;
        agrees = values;
        outputs = sym (read_known all v row3 (all_known_nets m) outputs (each_of (IsIdOf all) outputs is.outputs)
            (subst (AllByRecursion (λ n. stands_in n (all_known_nets m) ≡ true)) (sym s.model.outputs) (sources_known m (output_nets m) (outputs_have m none))) everything
            ∙ ap (map v) s.model.outputs);
        stores = sym (sym (map-map (bit_in row3) (λ (l : LatchCell). l.d) latches)
            ∙ (read_known all v row3 (all_known_nets m) ds (d_within all latches (each_of (λ (l : LatchCell). IsIdOf all l.d) latches is.stores))
            (subst (AllByRecursion (λ n. stands_in n (all_known_nets m) ≡ true)) (sym ds_named) (sources_known m (latch_inputs m) (stores_have m none))) everything
            ∙ ap (map v) ds_named));
      }

-- The same of the value that a simulator stands for, by what its calls put into the row and read from it.
pub cycle_of : (all : List Name) (inputs : List NameId) (latches : List LatchCell) (gates : List NumberedGate) (outputs cells : List NameId) (by_net : List (Option CellId)) (stored row0 : Bits) (forced0 : List (Option Bool))
    (is : IsSimulator all inputs latches gates outputs cells by_net stored row0 forced0) (w : Simulated) (e : simulated all inputs latches gates outputs cells stored ≡ w) (file : File) (s : Simulates file w)
    (x : Bits) (faults : List CellFault) (table : List (Option Bool)) (f : Forces all table (named_faults (map (name_at all) cells) faults)) (wide : length x ≡ length w.inputs) (row out next : Bits)
    → row ≡ put_gates table (put_latches table (put_bits row0 inputs x) latches stored) gates → out ≡ map (bit_in row) outputs → next ≡ map (λ (l : LatchCell). bit_in row l.d) latches
    → CycleUnder s.ordered.model (named_faults w.cells faults) x w.stored out next
cycle_of all inputs latches gates outputs cells by_net stored row0 forced0 is w e file s x faults table f wide row out next er eo en =
    let own : Simulates file (simulated all inputs latches gates outputs cells stored) = record { is_file = s.is_file; ordered = s.ordered; model = subst (HasModel s.ordered.model) (sym e) s.model } in
    let fits : length x ≡ length inputs = wide ∙ (ap (λ (v : Simulated). length v.inputs) (sym e) ∙ mapped_long (name_at all) inputs) in
    let there = one_cycle all inputs latches gates outputs cells by_net stored row0 forced0 is file own x (named_faults (map (name_at all) cells) faults) table f fits in
    let M = s.ordered.model in
    subst (λ (n : Bits). CycleUnder M (named_faults w.cells faults) x w.stored out n) (sym en)
    (subst (λ (o : Bits). CycleUnder M (named_faults w.cells faults) x w.stored o (map (λ (l : LatchCell). bit_in row l.d) latches)) (sym eo)
    (subst (λ (r : Bits). CycleUnder M (named_faults w.cells faults) x w.stored (map (bit_in r) outputs) (map (λ (l : LatchCell). bit_in r l.d) latches)) (sym er)
    (subst (λ (v : Simulated). CycleUnder M (named_faults v.cells faults) x v.stored (map (bit_in (put_gates table (put_latches table (put_bits row0 inputs x) latches stored) gates)) outputs)
    (map (λ (l : LatchCell). bit_in (put_gates table (put_latches table (put_bits row0 inputs x) latches stored) gates) l.d) latches)) e there)))

-- a list that is written back over one as long
pub written_back : {A : Type 0} (len : ℕ) (new old : List A) → len ≡ length old → length new ≡ length old → take len (new ++ drop (length new) old) ≡ new
written_back len new old e f = ap (λ (n : ℕ). take n (new ++ drop (length new) old)) (e ∙ sym f) ∙ take-append_seam new (drop (length new) old)

pub row_as : (table : List (Option Bool)) (gs : List NumberedGate) (x : Bits) (row r r' : Bits) (ids ids' : List NameId) (ls ls' : List LatchCell) (bits bits' : Bits) → r ≡ r' → ids ≡ ids' → ls ≡ ls' → bits ≡ bits'
    → row ≡ put_gates table (put_latches table (put_bits r ids x) ls bits) gs → row ≡ put_gates table (put_latches table (put_bits r' ids' x) ls' bits') gs
row_as table gs x row r r' ids ids' ls ls' bits bits' er ei el eb e =
    e ∙ (ap₂ (λ (a : Bits) (b : List NameId). put_gates table (put_latches table (put_bits a b x) ls bits) gs) er ei
    ∙ ap₂ (λ (a : List LatchCell) (b : Bits). put_gates table (put_latches table (put_bits r' ids' x) a b) gs) el eb)
