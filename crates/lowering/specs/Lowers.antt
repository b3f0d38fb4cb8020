-- What gates that are appended for one statement are.
use Rattle.std.specs.Prelude.{◌≡◌, ℕ, ◌+◌, ◌^◌, ◌<◌, ◌≤◌, false, List, length, map, IsTrue}
use Rattle.std.specs.List.{AllByRecursion}
use Rattle.netlist_spec.specs.Netlist.{Name, stands_in, are_distinct, Statement, File}
use Rattle.netlist_spec.specs.Reads.{IsNarrow}
use Rattle.netlist_spec.specs.Covers.{Library}
use Rattle.netlist_spec.specs.Size.{cost_of}
use Rattle.netlist_spec.specs.Sound.{drives as driven_by, reads as read_by, PlacesWell}
use Rattle.netlist_spec.specs.Gates.{GateList, AnswersWithin}
use Rattle.gate_net.specs.GateNet.{net_count}
use Rattle.reduction.specs.Appended.{Extends, IsAppended, ReadsInputsAlone}
use Rattle.source_laws.specs.Nets.{NetsHold}
use Rattle.lowering.specs.Nets.{net_in}

-- What a statement needs, so that gates can be appended for it: distinct names, a table with a place for each, in which
-- what the statement reads has nets, and room for what it costs. It drives nothing twice, and nothing that it reads.
pub record CanLower (file : File) (library : Library) (names : List Name) (s : Statement) (old : GateList) (table : List ℕ) : Type 0 where
  pub distinct : IsTrue (are_distinct names)
  pub size : length table ≡ length names
  pub known : AllByRecursion (λ n. net_in names table n < net_count old) (read_by file library s)
  pub apart : AllByRecursion (λ n. stands_in n (driven_by file library s) ≡ false) (read_by file library s)
  pub once : IsTrue (are_distinct (driven_by file library s))
  pub places : PlacesWell file library s
  pub narrow : IsNarrow s
  pub room : net_count old + cost_of file library s ≤ 2 ^ 23

-- Gates are appended for a statement, and the table has the nets of what it drives. They are no more than it costs, and
-- read the nets of what it reads and each other. Where they answer, the nets of the table meet the statement.
pub record Lowers (file : File) (library : Library) (names : List Name) (s : Statement) (old : GateList) (table : List ℕ) (new : GateList) (noted : List ℕ) : Type 0 where
  pub extends : Extends old new
  pub cost : net_count new ≤ net_count old + cost_of file library s
  pub reads : ReadsInputsAlone old new (map (net_in names table) (read_by file library s))
  pub size : length noted ≡ length table
  pub others : (n : Name) → stands_in n (driven_by file library s) ≡ false → net_in names noted n ≡ net_in names table n
  pub driven : AllByRecursion (λ n. IsAppended old new (net_in names noted n)) (driven_by file library s)
  pub holds : NetsHold file library (AnswersWithin new (net_count old) (net_count new)) (net_in names noted) s
