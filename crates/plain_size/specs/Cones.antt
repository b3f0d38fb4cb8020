-- Cones of a source as a graph: its nodes are statements, and then words over its latches.
use Rattle.std.specs.Prelude.{◌≡◌, ◌↔◌, ℕ, ◌+◌, ◌<◌, ◌≤◌, List, [], ◌∷◌, ◌++◌, length, min, Option, None, Some, slice_get, IsTrue, Contains, if◌then◌else◌}
use Rattle.std.specs.List.{AllZip}
use Rattle.netlist_spec.specs.Netlist.{Name, same_name, stands_in, Statement, Model, File, are_distinct}
use Rattle.netlist_spec.specs.Covers.{Library}
use Rattle.netlist_spec.specs.Models.{latch_outputs}
use Rattle.netlist_spec.specs.Size.{cost_of}
use Rattle.netlist_spec.specs.Sound.{combines, drives, reads}
use Rattle.guard_spec.specs.Codes.{Code, Mode, detect, correct}
use Rattle.guard_spec.specs.Words.{Words}
use Rattle.guard_spec.specs.Plain.{corrector_cost}
use Rattle.net_graph.specs.Chains.{IsGraph, ends_of}
use Rattle.size_laws.specs.ConeMarks.{statements_of}
use Rattle.size_laws.specs.Partial.{IsBitCost}
use Rattle.plain_size.specs.declared.cones.Cones.{Cones}
use Rattle.plain_size.specs.Nodes.{node_at}

-- the model of a source, and how a guard reads its state
pub record Source : Type 0 where
  pub file : File
  pub library : Library
  pub m : Model
  pub code : Code
  pub mode : Mode
  pub radius : ℕ
  pub state : Words

-- In correction each state word has correctors.
abbrev pub read_words : Mode → Words → Words
read_words detect state = []
read_words correct state = state

abbrev pub bit : Source → Name → ℕ → Type 0
bit p x n = IsBitCost p.file p.library p.m p.code p.mode p.radius p.state x n

-- the node of a name
abbrev pub node_of : List Name → List (Option ℕ) → Name → Option ℕ
node_of [] nodes n = None
node_of (k ∷ ks) [] n = None
node_of (k ∷ ks) (o ∷ os) n = if same_name k n then o else node_of ks os n

-- Each number below a limit is in one word at most.
abbrev pub StandOnce : ℕ → Words → Type 0
StandOnce end words = (i a b : ℕ) (u v : List ℕ) → i < end → slice_get words a ≡ Some u → slice_get words b ≡ Some v → Contains u i → Contains v i → a ≡ b

-- Each net that a statement combines or a latch of a word shows has that statement or word as its node, and no other net
-- has a node. From a statement edges lead to the nodes of what it reads, and from a word none.
pub record IsConeGraph (file : File) (library : Library) (m : Model) (words : Words) (node : Name → Option ℕ) (graph : List (List ℕ)) : Type 0 where
  pub each : length graph ≡ length (statements_of m) + length words
  pub driver : (j : ℕ) (s : Statement) (n : Name) → slice_get (statements_of m) j ≡ Some s → IsTrue (combines s) → IsTrue (stands_in n (drives file library s)) → node n ≡ Some j
  pub driven : (j : ℕ) (s : Statement) (n : Name) → slice_get (statements_of m) j ≡ Some s → node n ≡ Some j → IsTrue (combines s) × IsTrue (stands_in n (drives file library s))
  pub holder : (w i : ℕ) (word : List ℕ) (n : Name) → slice_get words w ≡ Some word → Contains word i → slice_get (latch_outputs m) i ≡ Some n → node n ≡ Some (length (statements_of m) + w)
  pub held : (w : ℕ) (word : List ℕ) (n : Name) → slice_get words w ≡ Some word → node n ≡ Some (length (statements_of m) + w) → (i : ℕ) × Contains word i × (slice_get (latch_outputs m) i ≡ Some n)
  pub within : (n : Name) (j : ℕ) → node n ≡ Some j → j < length graph
  pub reads : (j e : ℕ) (s : Statement) → slice_get (statements_of m) j ≡ Some s → Contains (ends_of graph j) e ↔ ((n : Name) × IsTrue (stands_in n (reads file library s)) × (node n ≡ Some e))
  pub ends : (j e : ℕ) → length (statements_of m) ≤ j → Contains (ends_of graph j) e → ⊥

-- A cost is told as far as one more than the limit.
abbrev pub cut : ℕ → ℕ
cut n = min n 1000001

-- the costs of the statements, and then those of the correctors of the words
pub record AreNodeCosts (p : Source) (costs : List ℕ) : Type 0 where
  pub statements : List ℕ
  pub words : List ℕ
  pub all : costs ≡ statements ++ words
  pub of_statements : AllZip (λ s c. c ≡ cut (cost_of p.file p.library s)) (statements_of p.m) statements
  pub of_words : AllZip (λ w c. c ≡ cut (corrector_cost p.code p.radius (length w))) (read_words p.mode p.state) words

-- The cones are those of a source.
pub record AreCones (p : Source) (cones : Cones) : Type 0 where
  pub distinct : IsTrue (are_distinct p.m.names)
  pub each_net : length cones.nodes.items ≡ length p.m.names
  pub graph : IsConeGraph p.file p.library p.m (read_words p.mode p.state) (node_of p.m.names cones.nodes.items) cones.graph
  pub costs : AreNodeCosts p cones.costs.items

-- what a walk through cones asks of them
pub record CanWalk (cones : Cones) : Type 0 where
  pub graph : IsGraph cones.graph
  pub costs : length cones.costs.items ≡ length cones.graph
  pub nodes : (k j : ℕ) → node_at cones.nodes.items k ≡ Some j → j < length cones.graph
