-- A machine that stands for a source, over the shown state words of a guard in the place of the source's state.
use Rattle.std.specs.Prelude.{◌≡◌, ℕ, List, map}
use Rattle.std.specs.List.{AllZip}
use Rattle.netlist_spec.specs.Gates.{IsMachine, Machine}
use Rattle.guard_spec.specs.Codes.{Code}
use Rattle.guard_spec.specs.Words.{Layout}
use Rattle.correction_laws.specs.FromJoined.{IsOver}
use Rattle.joined_net.specs.Ready.{IsReadyToCopy}

-- The gates of the machine are a joined list of correctors and of the source's gates. Its latches and outputs are those of the
-- source, but for each D net and each output it has the net of the joined list that stands for it. How its leaves are told
-- apart has no meaning: they are the leaves of the guard, and the last ones count as the outputs of its latches.
pub record StandsIn (source : Machine) (code : Code) (l : Layout) (t : ℕ) (m : Machine) : Type 0 where
  pub is_machine : IsMachine m
  pub nets : List ℕ
  pub first : ℕ
  pub ready : IsReadyToCopy source code l t m.net nets first
  pub stores : AllZip (IsOver source nets first) (map (λ r. r.d) source.latches) (map (λ r. r.d) m.latches)
  pub inits : map (λ r. r.init) m.latches ≡ map (λ r. r.init) source.latches
  pub outputs : AllZip (IsOver source nets first) source.outputs m.outputs
