-- A guard that was made for a source, with the machine and the words that it was made of.
use Rattle.std.specs.Prelude.{◌≡◌, None, length}
use Rattle.netlist_spec.specs.Netlist.{File}
use Rattle.netlist_spec.specs.Gates.{Machine}
use Rattle.netlist_spec.specs.Written.{Named}
use Rattle.guard_spec.specs.Codes.{data_places}
use Rattle.guard_spec.specs.Words.{Settings, Layout, IsPartition, layout_fault}
use Rattle.guard_laws.specs.Texts.{IsGuardFrom}

-- The gate list n with names was built for the source by these settings, out of this machine and over these words.
pub record IsGuardMade (source : File) (s : Settings) (n : Named) (machine : Machine) (l : Layout) : Type 0 where
  pub from : IsGuardFrom source s s.bound n
  pub machine_is : from.e.machine ≡ machine
  pub layout_is : from.l ≡ l
  pub no_fault : layout_fault from.m s ≡ None
  pub words : IsPartition (length machine.outputs) (data_places s.code) l.output
