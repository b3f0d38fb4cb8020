-- What is settled of a source and its settings before its guard is made.
use Rattle.std.specs.Prelude.{ℕ, ◌≤◌, length}
use Rattle.netlist_spec.specs.Netlist.{Model, File}
use Rattle.netlist_spec.specs.Models.{latch_outputs, output_nets}
use Rattle.guard_spec.specs.Codes.{data_places}
use Rattle.guard_spec.specs.Words.{Settings, Layout, IsPartition}
use Rattle.guard_spec.specs.Plain.{IsPlain}
use Rattle.guard_source.specs.Accepted.{IsLaidOut}

-- The words fit with this layout, and the plain size is at most 1,000,000.
pub record IsSettled (file : File) (s : Settings) (l : Layout) : Type 0 where
  pub m : Model
  pub laid_out : IsLaidOut file s m l
  pub state : IsPartition (length (latch_outputs m)) (data_places s.code) l.state
  pub output : IsPartition (length (output_nets m)) (data_places s.code) l.output
  pub n : ℕ
  pub is_plain : IsPlain file s.library m s.code s.mode s.bound l n
  pub small : n ≤ 1000000
