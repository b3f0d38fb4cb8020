-- The tests of a source, one after another.
use Rattle.std.specs.Prelude.{ℕ, ◌<◌, Bool, List}
use Rattle.netlist_spec.specs.Netlist.{File}
use Rattle.netlist_spec.specs.Covers.{Library}
use Rattle.netlist_spec.specs.FileRules.{IsFile}
use Rattle.netlist_spec.specs.SoundFaults.{SoundFault, rank}
use Rattle.source_laws.specs.Tests.{Passes}
use Rattle.source_nets.specs.declared.types.Source.{Source}
use Rattle.source_nets.specs.declared.types.Survey.{Survey}
use Rattle.source_nets.specs.Ports.{IsSource, source_file, source_library}
use Rattle.source_nets.specs.Survey.{AreUsedMarks, IsSurvey}

-- The file passes the tests of lower rank.
abbrev pub PassesBelow : File → Library → ℕ → Type 0
PassesBelow file library n = (other : SoundFault) → rank other < n → Passes file library other

-- what is known of a source before its tests
pub record IsTestable (source : Source) (survey : Survey) : Type 0 where
  pub ready : IsSource source
  pub is_file : IsFile (source_file source)
  pub surveyed : IsSurvey (source_file source) (source_library source) survey

-- and a mark for each model, at those that are used
pub record HasUsedMarks (source : Source) (survey : Survey) (used : List Bool) : Type 0 where
  pub known : IsTestable source survey
  pub marks : AreUsedMarks (source_file source) used
