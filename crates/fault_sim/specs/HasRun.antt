-- Cycles that were simulated, as a run of the file.
use Rattle.std.specs.Prelude.{List, [], ◌∷◌, ◌++◌}
use Rattle.netlist_spec.specs.Netlist.{File}
use Rattle.netlist_spec.specs.SourceRun.{Bits, Stream}
use Rattle.netlist_spec.specs.Runs.{Fault, Run}

-- These cycles of a run have been simulated, with these outputs, and the latches have stored these bits behind the last one.
pub record HasRun (file : File) (faults : List Fault) (xs : Stream) (outs : List Bits) (stored : Bits) : Type 0 where
  pub states : List Bits
  pub is_run : Run file xs faults (states ++ stored ∷ []) outs
