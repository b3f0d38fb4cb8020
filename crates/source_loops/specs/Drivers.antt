-- The statements that drive the nets of a model.
use Rattle.std.specs.Prelude.{◌≡◌, ◌↔◌, ◌⊎◌, ℕ, ◌<◌, ◌≤◌, List, length, Some, slice_get, slice_index_or, All, Contains, IsTrue}
use Rattle.netlist_spec.specs.Netlist.{stands_in, Located, Model, File}
use Rattle.netlist_spec.specs.Covers.{Library}
use Rattle.netlist_spec.specs.Sound.{combines, drives}
use Rattle.imp_text.specs.declared.names.NameId.{NameId}
use Rattle.source_nets.specs.declared.types.ModelSurvey.{ModelSurvey}
use Rattle.source_nets.specs.Survey.{IsModelSurvey}
use Rattle.source_loops.specs.Nets.{name_of, numbers_of}

-- It is what is known of the model in some file.
abbrev pub IsSurveyed : Model → ModelSurvey → Type 0
IsSurveyed m survey = (file : File) × (library : Library) × IsModelSurvey file library m survey

-- Each net has a place. It is that of a statement exactly where this one combines and drives the net, and else past the last
-- statement.
pub record AreDrivers (file : File) (library : Library) (m : Model) (drivers : List ℕ) : Type 0 where
  pub each : length drivers ≡ length m.names
  pub within : All (λ i. i ≤ length m.statements) drivers
  pub exact : (n i : ℕ) (s : Located) → n < length m.names → slice_get m.statements i ≡ Some s
      → (slice_index_or drivers n 0 ≡ i) ↔ (IsTrue (combines s.what) × IsTrue (stands_in (name_of m.names n) (drives file library s.what)))

-- The place is put at these nets, and the others keep theirs.
pub record Puts (nets : List NameId) (place : ℕ) (old new : List ℕ) : Type 0 where
  pub size : length new ≡ length old
  pub each : (n : ℕ) → (Contains (numbers_of nets) n × (slice_index_or new n 0 ≡ place)) ⊎ ((Contains (numbers_of nets) n → ⊥) × (slice_index_or new n 0 ≡ slice_index_or old n 0))
