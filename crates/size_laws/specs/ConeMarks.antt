-- Marks that a walk through a cone leaves.
use Rattle.std.specs.Prelude.{◌≡◌, ℕ, Bool, true, List, length, map, Some, slice_get, IsTrue}
use Rattle.netlist_spec.specs.Netlist.{Name, stands_in, Statement, Model, File}
use Rattle.netlist_spec.specs.Covers.{Library}
use Rattle.netlist_spec.specs.Sound.{combines, drives, reads}
use Rattle.netlist_spec.specs.Cones.{IsInCone}

abbrev pub statements_of : Model → List Statement
statements_of m = map (λ s. s.what) m.statements

-- Each statement is marked that drives the net, or a net that a marked one reads, and each marked one is in the cone.
pub record IsWalked (file : File) (library : Library) (m : Model) (x : Name) (marks : List Bool) : Type 0 where
  pub each : length marks ≡ length (statements_of m)
  pub alone : (i : ℕ) (s : Statement) → slice_get (statements_of m) i ≡ Some s → slice_get marks i ≡ Some true → IsInCone file library m x s
  pub first : (i : ℕ) (s : Statement) → slice_get (statements_of m) i ≡ Some s → IsTrue (combines s) → IsTrue (stands_in x (drives file library s)) → slice_get marks i ≡ Some true
  pub behind : (i j : ℕ) (s t : Statement) (k : Name) → slice_get (statements_of m) i ≡ Some s → slice_get marks i ≡ Some true → IsTrue (stands_in k (reads file library s))
      → slice_get (statements_of m) j ≡ Some t → IsTrue (combines t) → IsTrue (stands_in k (drives file library t)) → slice_get marks j ≡ Some true
