-- What a simulator has, of which file it is the simulator, and what one of its cycles is.
use Rattle.std.specs.Prelude.{◌≡◌, ◌^◌, ◌<◌, Bool, List, length, map, All, Option, IsTrue}
use Rattle.netlist_spec.specs.Netlist.{Name, are_distinct, Model, File}
use Rattle.netlist_spec.specs.Models.{Gate, data_inputs, latch_outputs, latch_inputs, gates_of, output_nets, init_bits}
use Rattle.netlist_spec.specs.Ordered.{IsOrdered, cell_nets}
use Rattle.netlist_spec.specs.FileRules.{IsFile}
use Rattle.netlist_spec.specs.Fits.{Valuation}
use Rattle.netlist_spec.specs.SourceRun.{Bits}
use Rattle.netlist_spec.specs.Values.{Forced, Values}
use Rattle.imp_text.specs.declared.names.NameId.{NameId}
use Rattle.blif_read.specs.Ids.{IsIdOf}
use Rattle.blif_read.specs.View.{name_at}
use Rattle.fault_sim.specs.declared.cells.CellId.{CellId}
use Rattle.fault_sim.specs.declared.row.LatchCell.{LatchCell}
use Rattle.fault_sim.specs.Gates.{NumberedGate, named_gate, IsGateWithin}
use Rattle.fault_sim.specs.Cells.{AreCells}

-- The nets of a netlist by name, and the bits that its latches have stored.
pub record Simulated : Type 0 where
  pub inputs : List Name
  pub shown : List Name
  pub stores : List Name
  pub inits : Bits
  pub gates : List Gate
  pub outputs : List Name
  pub cells : List Name
  pub stored : Bits

-- It has the data inputs, the cells and the outputs of this model.
pub record HasModel (m : Model) (s : Simulated) : Type 0 where
  pub inputs : s.inputs ≡ data_inputs m
  pub shown : s.shown ≡ latch_outputs m
  pub stores : s.stores ≡ latch_inputs m
  pub inits : s.inits ≡ init_bits m
  pub gates : s.gates ≡ gates_of m
  pub outputs : s.outputs ≡ output_nets m
  pub cells : s.cells ≡ cell_nets m

-- It simulates this file, which is in order.
pub record Simulates (file : File) (s : Simulated) : Type 0 where
  pub is_file : IsFile file
  pub ordered : IsOrdered file
  pub model : HasModel ordered.model s

-- One cycle under some faults: the outputs are the values on `.outputs`, and each latch, a faulty one too, stores its D.
pub record CycleUnder (m : Model) (faults : Forced) (x stored y next : Bits) : Type 0 where
  pub values : Valuation
  pub agrees : Values m stored x faults values
  pub outputs : map values (output_nets m) ≡ y
  pub stores : map values (latch_inputs m) ≡ next

-- Numbers of nets in place of names, with the names of all nets.
abbrev pub simulated : List Name → List NameId → List LatchCell → List NumberedGate → List NameId → List NameId → Bits → Simulated
simulated all inputs latches gates outputs cells stored =
    record {
      inputs = map (name_at all) inputs;
      shown = map (λ (l : LatchCell). name_at all l.q) latches;
      stores = map (λ (l : LatchCell). name_at all l.d) latches;
      inits = map (λ (l : LatchCell). l.init) latches;
      gates = map (named_gate all) gates;
      outputs = map (name_at all) outputs;
      cells = map (name_at all) cells;
      stored = stored;
    }

-- All numbers are those of nets, and there is a bit for each net and each latch.
pub record IsSimulator (all : List Name) (input_ids : List NameId) (latches : List LatchCell) (numbered_gates : List NumberedGate) (output_ids cell_ids : List NameId) (numbers : List (Option CellId)) (bits values : Bits) (faults : List (Option Bool)) : Type 0 where
  pub distinct : IsTrue (are_distinct all)
  pub inputs : All (IsIdOf all) input_ids
  pub shown : All (λ (l : LatchCell). IsIdOf all l.q) latches
  pub stores : All (λ (l : LatchCell). IsIdOf all l.d) latches
  pub gates : All (IsGateWithin (length all)) numbered_gates
  pub outputs : All (IsIdOf all) output_ids
  pub cells : All (IsIdOf all) cell_ids
  pub apart : IsTrue (are_distinct (map (name_at all) cell_ids))
  pub few : length cell_ids < 2 ^ 32
  pub few_inputs : length input_ids < 2 ^ 32
  pub few_outputs : length output_ids < 2 ^ 32
  pub by_net : AreCells all (map (name_at all) cell_ids) numbers
  pub stored : length bits ≡ length latches
  pub row : length values ≡ length all
  pub forced : length faults ≡ length all
