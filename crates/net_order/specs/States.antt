-- What has been settled so far, and what waits.
use Rattle.std.specs.Prelude.{◌≡◌, ◌==◌, ℕ, ◌+◌, ◌<◌, ◌≤◌, Bool, false, List, [], ◌++◌, length, take, if◌then◌else◌, sum_by, count_by, slice_index_or, Contains}
use Rattle.net_graph.specs.Chains.{IsMarked, ends_of}
use Rattle.net_order.specs.Order.{AreNets, IsKnown}
use Rattle.net_order.specs.declared.waiting.Waiter.{Waiter}
use Rattle.net_order.specs.declared.state.State.{State}

-- what the states of one run have in common: what items drive, the nets that are given, how often each item has been
-- begun, and how many have been
pub record Task : Type 0 where
  pub drives : List (List ℕ)
  pub given : List Bool
  pub begun : ℕ → ℕ
  pub total : ℕ

abbrev pub waiters : List (List Waiter) → ℕ → List Waiter
waiters waiting n = slice_index_or waiting n []

-- all nets that it reads before this place are settled
pub record IsHeld (reads : List (List ℕ)) (settled : List Bool) (w : Waiter) : Type 0 where
  pub item : w.item < length reads
  pub place : w.place ≤ length (ends_of reads w.item)
  pub before : (k : ℕ) → k < w.place → IsMarked settled (slice_index_or (ends_of reads w.item) k 0)

-- and the net at this place is this one, which isn't settled
pub record WaitsAt (reads : List (List ℕ)) (settled : List Bool) (n : ℕ) (w : Waiter) : Type 0 where
  pub held : IsHeld reads settled w
  pub within : w.place < length (ends_of reads w.item)
  pub net : slice_index_or (ends_of reads w.item) w.place 0 ≡ n
  pub unsettled : slice_index_or settled n false ≡ false

pub record Waits (reads : List (List ℕ)) (s : State) : Type 0 where
  pub nets : AreNets (length s.settled.items) reads
  pub lists : length s.waiting ≡ length s.settled.items
  pub each : (n : ℕ) (w : Waiter) → Contains (waiters s.waiting n) w → WaitsAt reads s.settled.items n w

-- how often an item waits
abbrev pub times_in : ℕ → List Waiter → ℕ
times_in i ws = count_by (λ w. w.item == i) ws

abbrev pub times_waiting : ℕ → List (List Waiter) → ℕ
times_waiting i waiting = sum_by (λ ws. times_in i ws) waiting

-- Some waiters are in hand. What is settled is known, each ordered item reads what was known before it, and each item that
-- was begun is ordered, waits or is in hand.
pub record IsState (reads : List (List ℕ)) (t : Task) (hand : List Waiter) (s : State) : Type 0 where
  pub given : (n : ℕ) → IsMarked t.given n → IsMarked s.settled.items n
  pub sound : (n : ℕ) → IsMarked s.settled.items n → IsKnown t.drives t.given s.order.items n
  pub known : (k : ℕ) → k < length s.order.items → (n : ℕ) → Contains (ends_of reads (slice_index_or s.order.items k 0)) n → IsKnown t.drives t.given (take k s.order.items) n
  pub counts : (i : ℕ) → count_by (λ k. k == i) s.order.items + times_waiting i s.waiting + times_in i hand ≡ t.begun i
  pub total : length s.order.items + sum_by (λ ws. length ws) s.waiting + length hand ≡ t.total

-- Nothing that was settled or ordered is taken back.
pub record Moves (reads : List (List ℕ)) (s s' : State) : Type 0 where
  pub waits : Waits reads s'
  pub size : length s'.settled.items ≡ length s.settled.items
  pub kept : (n : ℕ) → IsMarked s.settled.items n → IsMarked s'.settled.items n
  pub more : List ℕ
  pub order : s'.order.items ≡ s.order.items ++ more

-- the net is one that an item of the list drives
abbrev pub IsDrivenBy : List (List ℕ) → List Waiter → ℕ → Type 0
IsDrivenBy drives ws n = (w : Waiter) × Contains ws w × Contains (ends_of drives w.item) n

-- or one that an item drives which waits for one of the first nets
abbrev pub WaitsBelow : List (List ℕ) → List (List Waiter) → ℕ → ℕ → Type 0
WaitsBelow drives waiting below n = (m : ℕ) × (m < below) × IsDrivenBy drives (waiters waiting m) n

-- The first items have been begun, each that combines once.
abbrev pub begun_of : List Bool → ℕ → ℕ → ℕ
begun_of combines items i = if slice_index_or (take items combines) i false then 1 else 0

abbrev pub total_of : State → ℕ
total_of s = length s.order.items + sum_by (λ ws. length ws) s.waiting

abbrev pub task_of : (drives : List (List ℕ)) (combines given : List Bool) (items : ℕ) → State → Task
task_of drives combines given items s = record { drives = drives; given = given; begun = begun_of combines items; total = total_of s }

pub record Begins (reads drives : List (List ℕ)) (combines given : List Bool) (items : ℕ) (s : State) : Type 0 where
  pub waits : Waits reads s
  pub size : length s.settled.items ≡ length given
  pub state : IsState reads (task_of drives combines given items s) [] s
