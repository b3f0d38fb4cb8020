-- A file that is refused has one refusal.
use Rattle.std.specs.Prelude.{◌≡◌, List}
use Rattle.netlist_spec.specs.Netlist.{Name, Model, File}
use Rattle.netlist_spec.specs.Covers.{Library}
use Rattle.netlist_spec.specs.Sound.{IsUsed, HasOneDriverEach}
use Rattle.netlist_spec.specs.SoundFaults.{SoundFault, twice, Finds, IsFirstUnsettled, IsWalkedLoop, IsRefusedWith}

-- Where no net is found that is driven twice, each used model has one driver for each net.
abbrev pub NetsNotToldHaveOneDriver : File → Library → Type 0
NetsNotToldHaveOneDriver file library =
    ((n : Name) → Finds file library (twice n) → ⊥) → (m : Model) → IsUsed file m → HasOneDriverEach file library m

-- A list has one first unsettled net.
abbrev pub FirstUnsettledIsOne : File → Library → Model → List Name → Name → Name → Type 0
FirstUnsettledIsOne file library m ns n k = IsFirstUnsettled file library m ns n → IsFirstUnsettled file library m ns k → n ≡ k

-- The walk to a loop is determined, since no net has two drivers.
abbrev pub ModelsHaveOneWalkedLoop : File → Library → Model → (nets others : List Name) → Type 0
ModelsHaveOneWalkedLoop file library m nets others =
    HasOneDriverEach file library m → IsWalkedLoop file library m nets → IsWalkedLoop file library m others → nets ≡ others

abbrev pub FilesHaveOneRefusal : File → Library → (fault other : SoundFault) → Type 0
FilesHaveOneRefusal file library fault other =
    IsRefusedWith file library fault → IsRefusedWith file library other → fault ≡ other
