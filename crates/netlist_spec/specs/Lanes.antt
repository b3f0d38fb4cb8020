-- Many runs of an ordered file at once, one in each lane.
use Rattle.std.specs.Prelude.{◌≡◌, ℕ, false, List, ◌∷◌, length, map, find, filter, replicate, Option, Some, None, if◌then◌else◌, slice_index_or, IsTrue}
use Rattle.std.specs.List.{AllByRecursion, AllZip, range_with_len}
use Rattle.netlist_spec.specs.Netlist.{Name, same_name, are_distinct, Cover, Model}
use Rattle.netlist_spec.specs.Covers.{cover_value}
use Rattle.netlist_spec.specs.Models.{gates_of, data_inputs, latch_outputs, latch_inputs, output_nets}
use Rattle.netlist_spec.specs.Fits.{Valuation}
use Rattle.netlist_spec.specs.SourceRun.{Bits}
use Rattle.netlist_spec.specs.Values.{Forced, Values}

-- one bit for each lane
abbrev pub Lanes : Type 0
Lanes = Bits

-- What a kernel gives of a cover and of one list of bits per input: a list of as many bits.
abbrev pub Mean : Type 0
Mean = Cover → List Lanes → Lanes

-- lane j of some nets
abbrev pub lane : ℕ → List Lanes → Bits
lane j rows = map (λ row. slice_index_or row j false) rows

-- The mean that takes, lane by lane, the cover's value at the bits of its inputs.
abbrev pub cover_mean : ℕ → Mean
cover_mean lanes cover ins = map (λ j. cover_value cover (lane j ins)) (range_with_len 0 lanes)

-- In the lanes of the mask a faulty cell has the given bits.
pub record LaneFault : Type 0 where
  pub cell : Name
  pub mask : Lanes
  pub bits : Lanes

abbrev pub masked : Lanes → Lanes → Lanes → Lanes
masked (m ∷ ms) (b ∷ bs) (o ∷ os) = (if m then b else o) ∷ masked ms bs os
masked _ _ own = own

abbrev pub with_fault : Option LaneFault → Lanes → Lanes
with_fault None own = own
with_fault (Some f) own = masked f.mask f.bits own

abbrev pub shown_lanes : List LaneFault → Name → Lanes → Lanes
shown_lanes faults cell own = with_fault (find (λ f. same_name f.cell cell) faults) own

-- The values of a cycle over a kernel: a data input has its bit in all lanes, a latch its stored lanes, and a
-- `.names` the kernel's mean of its cover and of its inputs' lanes.
pub record LaneValues (m : Model) (lanes : ℕ) (mean : Mean) (stored : List Lanes) (x : Bits) (faults : List LaneFault) (v : Name → Lanes) : Type 0 where
  pub inputs : map v (data_inputs m) ≡ map (λ b. replicate lanes b) x
  pub latches : AllZip (λ q own. v q ≡ shown_lanes faults q own) (latch_outputs m) stored
  pub gates : AllByRecursion (λ g. v g.out ≡ shown_lanes faults g.out (mean g.cover (map v g.ins))) (gates_of m)

-- The outputs are read, and each latch stores the lanes of its D.
pub record LaneCycle (m : Model) (lanes : ℕ) (mean : Mean) (x : Bits) (stored : List Lanes) (faults : List LaneFault) (y next : List Lanes) : Type 0 where
  pub values : Name → Lanes
  pub agrees : LaneValues m lanes mean stored x faults values
  pub outputs : map values (output_nets m) ≡ y
  pub stores : map values (latch_inputs m) ≡ next

-- The faults of lane j: those whose mask has bit j, each with its bit of that lane.
abbrev pub lane_forced : ℕ → List LaneFault → Forced
lane_forced j faults = map (λ f. (f.cell, slice_index_or f.bits j false)) (filter (λ f. slice_index_or f.mask j false) faults)

-- Each fault has a bit for each lane, and no two name one cell.
pub record AreLaneFaults (lanes : ℕ) (faults : List LaneFault) : Type 0 where
  pub masks : AllByRecursion (λ f. (length f.mask ≡ lanes) × (length f.bits ≡ lanes)) faults
  pub cells : IsTrue (are_distinct (map (λ f. f.cell) faults))

-- Lane j of a cycle is a cycle of the file under the faults of that lane.
pub record IsLaneOf (m : Model) (j : ℕ) (x : Bits) (stored : List Lanes) (faults : List LaneFault) (y next : List Lanes) : Type 0 where
  pub values : Valuation
  pub agrees : Values m (lane j stored) x (lane_forced j faults) values
  pub outputs : map values (output_nets m) ≡ lane j y
  pub stores : map values (latch_inputs m) ≡ lane j next
