-- The nodes that nets lead to.
use Rattle.std.specs.Prelude.{◌≡◌, ◌⊎◌, ℕ, ◌-◌, ◌<◌, Bool, true, false, nat_lt, if◌then◌else◌, List, [], length, map, Option, None, Some, slice_get, slice_index_or, Contains}
use Rattle.std.specs.List.{AllByRecursion}
use Rattle.imp_text.specs.declared.names.NameId.{NameId}
use Rattle.blif_read.specs.declared.file.Model.{Model as ReadModel}
use Rattle.blif_read.specs.declared.file.Located.{Located as ReadLocated}
use Rattle.blif_read.specs.declared.file.Statement.{Statement as ReadStatement}
use Rattle.blif_read.specs.declared.file.Statement.TheVariants.{Latch}
use Rattle.blif_read.specs.Ids.{IsIdOf}
use Rattle.source_nets.specs.declared.types.ModelSurvey.{ModelSurvey}
use Rattle.guard_spec.specs.Words.{Words}

abbrev pub numbers : List NameId → List ℕ
numbers ids = map (λ (id : NameId). id.0) ids

abbrev pub node_at : List (Option ℕ) → ℕ → Option ℕ
node_at nodes k = slice_index_or nodes k None

-- These nets lead to the node, and others where they did.
pub record ArePointed (nets : List ℕ) (node : ℕ) (old new : List (Option ℕ)) : Type 0 where
  pub each : length new ≡ length old
  pub these : (k : ℕ) → Contains nets k → node_at new k ≡ Some node
  pub others : (k : ℕ) → Contains nets k ⊎ (node_at new k ≡ node_at old k)

-- Each net leads to one of the first nodes in whose list it is, and to none where it is in none of them.
pub record AreNodes (nets count : ℕ) (lead : ℕ → List ℕ) (nodes : List (Option ℕ)) : Type 0 where
  pub each : length nodes ≡ nets
  pub none : (k j : ℕ) → node_at nodes k ≡ None → k < nets → j < count → Contains (lead j) k → ⊥
  pub some : (k j : ℕ) → node_at nodes k ≡ Some j → (j < count) × Contains (lead j) k

-- what a survey has for each statement of a model
pub record HasRows (m : ReadModel) (survey : ModelSurvey) : Type 0 where
  pub reads : length survey.reads ≡ length m.statements.items
  pub drives : length survey.drives ≡ length m.statements.items
  pub reads_within : AllByRecursion (AllByRecursion (IsIdOf m.names)) survey.reads
  pub drives_within : AllByRecursion (AllByRecursion (IsIdOf m.names)) survey.drives

abbrev pub combines_in : ReadStatement → Bool
combines_in (Latch d q clocking init) = false
combines_in _ = true

-- the nets that a statement drives, if it combines
abbrev pub driven_of : Option ReadLocated → List NameId → List ℕ
driven_of None row = []
driven_of (Some s) row = if combines_in s.what then numbers row else []

abbrev pub driven_by : List ReadLocated → List (List NameId) → ℕ → List ℕ
driven_by statements rows j = driven_of (slice_get statements j) (slice_index_or rows j [])

-- the nets that the latches of a word show
abbrev pub shown_by : List NameId → Words → ℕ → List ℕ
shown_by shown words w = map (λ i. slice_index_or (numbers shown) i 0) (slice_index_or words w [])

-- The nets of each node: the first nodes are statements, and the others words.
abbrev pub lead_of : ReadModel → ModelSurvey → List NameId → Words → ℕ → List ℕ
lead_of m survey shown words j =
    if nat_lt j (length m.statements.items) then driven_by m.statements.items survey.drives j else shown_by shown words (j - length m.statements.items)
