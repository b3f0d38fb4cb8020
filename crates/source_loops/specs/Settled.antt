-- What the settling of models answers.
use Rattle.std.specs.Prelude.{◌≡◌, ℕ, List, [], map, ⊤}
use Rattle.netlist_spec.specs.Netlist.{Name, Model, File}
use Rattle.netlist_spec.specs.Covers.{Library}
use Rattle.netlist_spec.specs.SoundFaults.{IsWalkedLoop}
use Rattle.source_loops.specs.declared.settle.Settling.{Settling}
use Rattle.source_loops.specs.declared.settle.Settling.TheVariants.{Orders, Loop}
use Rattle.source_loops.specs.declared.settle.ModelSettling.{ModelSettling}
use Rattle.source_loops.specs.declared.settle.ModelSettling.TheVariants as one
use Rattle.source_loops.specs.Orders.{IsModelOrder}

-- a fact of the orders, where they are answered
abbrev pub IfOrders : Settling → (List (List ℕ) → Type 0) → Type 0
IfOrders (Orders orders) P = P (map (λ order. order.items) orders.items)
IfOrders (Loop nets) P = ⊤

-- a fact of the loop, where one is told
abbrev pub IfLoop : Settling → (List Name → Type 0) → Type 0
IfLoop (Orders orders) P = ⊤
IfLoop (Loop nets) P = P nets

-- an order of the model, or the loop that its walk ends in
abbrev pub IsModelSettling : File → Library → Model → ModelSettling → Type 0
IsModelSettling file library m (one.Order order) = IsModelOrder file library m order.items
IsModelSettling file library m (one.Loop nets) = IsWalkedLoop file library m nets

-- an order without places
abbrev pub HasNoPlaces : ModelSettling → Type 0
HasNoPlaces (one.Order order) = order.items ≡ []
HasNoPlaces (one.Loop nets) = ⊥
