-- Which nets of a model settle within a cycle.
use Rattle.std.specs.Prelude.{◌≡◌, ◌≤◌, ◌⊎◌, ◌↔◌, List, [], ◌∷◌, ◌++◌, length, map, find, Option, Some, IsTrue, Contains, slice_get, ⊤}
use Rattle.std.specs.List.{AllByRecursion, flat_map}
use Rattle.netlist_spec.specs.Netlist.{Name, stands_in, are_distinct, Statement, Model, File}
use Rattle.netlist_spec.specs.Covers.{Library}
use Rattle.netlist_spec.specs.Placed.{port_names}
use Rattle.netlist_spec.specs.Models.{latch_outputs}
use Rattle.netlist_spec.specs.Sound.{combines, drives, reads, HasOneDriverEach, ReadsFor, IsLoop}
use Rattle.netlist_spec.specs.SoundFaults.{IsUnsettled, IsFirstUnsettled, IsWalkedLoop}

-- the inputs, clocks and latch outputs, which have their bits when a cycle begins
abbrev pub given_nets : Model → List Name
given_nets m = port_names m.inputs ++ port_names m.clocks ++ latch_outputs m

module _ (file : File) (library : Library) (m : Model) where
  -- the driver of each net of the list reads a net of the list
  abbrev pub AreLeftOver : List Name → Type 0
  AreLeftOver left = AllByRecursion (λ n. (k : Name) × ReadsFor file library m n k × IsTrue (stands_in k left)) left

  abbrev pub LeftOverNetsAreUnsettled : List Name → Type 0
  LeftOverNetsAreUnsettled left = AreLeftOver left → AllByRecursion (IsUnsettled file library m) left

  -- Each statement of the list reads only settled nets. The nets that it drives are settled then.
  abbrev pub AreOrdered : List Name → List Statement → Type 0
  AreOrdered settled [] = ⊤
  AreOrdered settled (s ∷ ss) =
      Contains (map (λ l. l.what) m.statements) s × AllByRecursion (λ k. IsTrue (stands_in k settled)) (reads file library s)
      × AreOrdered (drives file library s ++ settled) ss

  -- Each statement that combines is one of the ordered ones, or drives nets that are left over.
  abbrev pub OthersAreLeft : List Statement → List Name → Type 0
  OthersAreLeft order left =
      AllByRecursion (λ s. IsTrue (combines s) → Contains order s ⊎ AllByRecursion (λ n. IsTrue (stands_in n left)) (drives file library s)) (map (λ l. l.what) m.statements)

  -- The nets that ordered statements drive are settled.
  abbrev pub OrderedNetsSettle : List Statement → Type 0
  OrderedNetsSettle order =
      HasOneDriverEach file library m → AreOrdered (given_nets m) order → AllByRecursion (λ n. IsUnsettled file library m n → ⊥) (flat_map (drives file library) order)

  -- Where all statements that combine are ordered, there is no loop, and no net is unsettled.
  abbrev pub OrderedModelsHaveNoLoop : List Statement → Type 0
  OrderedModelsHaveNoLoop order =
      HasOneDriverEach file library m → AreOrdered (given_nets m) order → OthersAreLeft order []
      → ((ns : List Name) → IsLoop file library m ns → ⊥) × ((n : Name) → IsUnsettled file library m n → ⊥)

  -- The list has the unsettled nets and no others.
  abbrev pub AreTheUnsettled : List Name → Type 0
  AreTheUnsettled left = (n : Name) → IsUnsettled file library m n ↔ IsTrue (stands_in n left)

  -- Where ordering stops, what is left over are the unsettled nets.
  abbrev pub OrderingStopsAtUnsettled : List Statement → List Name → Type 0
  OrderingStopsAtUnsettled order left =
      HasOneDriverEach file library m → AreOrdered (given_nets m) order → AreLeftOver left → OthersAreLeft order left → AreTheUnsettled left

  abbrev pub first_left : List Name → List Name → Option Name
  first_left left ns = find (λ k. stands_in k left) ns

  abbrev pub FirstLeftIsFirstUnsettled : (left ns : List Name) → Name → Type 0
  FirstLeftIsFirstUnsettled left ns n = AreTheUnsettled left → first_left left ns ≡ Some n → IsFirstUnsettled file library m ns n

  -- The next net of a walk is the first one left over that the driver reads.
  abbrev pub FollowsTo : List Name → Name → Name → Type 0
  FollowsTo left n k =
      (s : Statement) × Contains (map (λ l. l.what) m.statements) s × IsTrue (combines s) × IsTrue (stands_in n (drives file library s)) × (first_left left (reads file library s) ≡ Some k)

  abbrev pub FollowsAlong : List Name → List Name → Name → Type 0
  FollowsAlong left [] end = ⊥
  FollowsAlong left (n ∷ []) end = FollowsTo left n end
  FollowsAlong left (n ∷ k ∷ rest) end = FollowsTo left n k × FollowsAlong left (k ∷ rest) end

  -- A walk along nets that are left over, from the first one of the model, ends in the loop that is told.
  abbrev pub WalkedLoopIsTold : (left front others : List Name) → (start first : Name) → Type 0
  WalkedLoopIsTold left front others start first =
      AreTheUnsettled left → first_left left m.names ≡ Some start → slice_get (front ++ first ∷ others) 0 ≡ Some start
      → FollowsAlong left (front ++ first ∷ others) first → IsTrue (are_distinct (front ++ first ∷ others))
      → IsWalkedLoop file library m (first ∷ others)

-- Distinct names of a list are no more than the list has.
abbrev pub DistinctNamesFit : (ns all : List Name) → Type 0
DistinctNamesFit ns all = IsTrue (are_distinct ns) → AllByRecursion (λ n. IsTrue (stands_in n all)) ns → length ns ≤ length all
