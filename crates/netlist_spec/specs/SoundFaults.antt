-- Why a file has no meaning: the first fault in the order of this list, with the names that are told.
use Rattle.std.specs.Prelude.{◌≡◌, ℕ, suc, ◌<◌, ◌||◌, List, [], ◌∷◌, ◌++◌, length, map, filter, find, not, Option, Some, None, nat_lt, slice_get, if◌then◌else◌, IsTrue, Contains}
use Rattle.std.specs.Bool.{then_some}
use Rattle.std.specs.Option.{option_or, option_map}
use Rattle.std.specs.List.{AllByRecursion, flat_map}
use Rattle.netlist_spec.specs.Lines.{is_empty, ends_with_backslash}
use Rattle.netlist_spec.specs.Netlist.{is_reserved, Name, stands_in, are_distinct, Bind, Statement, subckt, Model, File, Quantity, model_inputs, model_outputs, model_latches, source_cost}
use Rattle.netlist_spec.specs.Covers.{Library}
use Rattle.netlist_spec.specs.Placed.{Placed, nothing, placed, port_names, input_ports, output_ports}
use Rattle.netlist_spec.specs.Models.{latches_of, clock_nets, data_inputs}
use Rattle.netlist_spec.specs.FileOrder.{Declared, an_input, an_output, a_clock, a_statement, Item, items_of, first_answer, inputs_among, outputs_among, clocks_among}
use Rattle.netlist_spec.specs.Size.{whole_cost}
use Rattle.netlist_spec.specs.Sound.{Chain, IsMain, IsUsed, drives, reads, driven_nets, read_nets, combines, ReadsFor, IsLoop, written_names, is_clocked}

pub data SoundFault : Type 0 where
  twice : (net : Name) → SoundFault
  no_such_model : (name : Name) → SoundFault
  bad_port : (model formal : Name) → SoundFault
  recursion : (model : Name) → SoundFault
  latch_inside : (model : Name) → SoundFault
  too_deep : (model : Name) → SoundFault
  undriven : (net : Name) → SoundFault
  bad_clocking : (net : Name) → SoundFault
  loop : (nets : List Name) → SoundFault
  reserved : (name : Name) → SoundFault
  too_large : (what : Quantity) → SoundFault

-- the order of the tests
abbrev pub rank : SoundFault → ℕ
rank (twice n) = 1
rank (no_such_model n) = 2
rank (bad_port m f) = 3
rank (recursion m) = 4
rank (latch_inside m) = 5
rank (too_deep m) = 6
rank (undriven n) = 7
rank (bad_clocking n) = 8
rank (loop ns) = 9
rank (reserved n) = 10
rank (too_large what) = 11

-- Something is found in the first used model, in file order, in which anything is.
pub record IsFirstUsed {A : Type 0} (file : File) (finds : Model → A → Type 0) (found : A) : Type 0 where
  pub before : List Model
  pub model : Model
  pub after : List Model
  pub split : file.models ≡ before ++ model ∷ after
  pub used : IsUsed file model
  pub here : finds model found
  pub none_before : AllByRecursion (λ k. IsUsed file k → (a : A) → finds k a → ⊥) before

-- the first of some names that stands among others or earlier among these
abbrev pub first_repeated : List Name → List Name → Option Name
first_repeated others [] = None
first_repeated others (n ∷ ns) = option_or (then_some (stands_in n others) n) (first_repeated (n ∷ others) ns)

-- A `.subckt` names neither a model nor a library entry.
abbrev pub unnamed_if : Placed → Name → Option Name
unnamed_if nothing name = Some name
unnamed_if _ name = None

-- A formal is no port of the model, or is given twice, or an input port isn't given: word by word, and then
-- the missing input ports in their order.
abbrev pub bad_formal : List Name → List Name → List Bind → Option Name
bad_formal ports earlier [] = None
bad_formal ports earlier (b ∷ binds) =
    option_or (then_some (not (stands_in b.formal ports) || stands_in b.formal earlier) b.formal)
    (bad_formal ports (b.formal ∷ earlier) binds)

abbrev pub missing_port : List Name → List Bind → Option Name
missing_port ports binds = find (λ p. not (stands_in p (map (λ b. b.formal) binds))) ports

abbrev pub with_model : Name → Option Name → Option (Name × Name)
with_model name None = None
with_model name (Some formal) = Some (name, formal)

module _ (file : File) (library : Library) where
  -- the nets that a statement, or that the statements among some items drive
  abbrev pub driven_at : Declared → List Name
  driven_at (a_statement s) = drives file library s
  driven_at _ = []

  abbrev pub driven_among : List Item → List Name
  driven_among items = flat_map (λ i. driven_at i.what) items

  -- A net has a second driver, or stands twice in `.inputs`, in `.outputs` or in `.clock`.
  abbrev pub twice_at : List Item → Declared → Option Name
  twice_at earlier (an_input n) = then_some (stands_in n (inputs_among earlier) || stands_in n (driven_among earlier)) n
  twice_at earlier (a_clock n) = then_some (stands_in n (clocks_among earlier) || stands_in n (driven_among earlier)) n
  twice_at earlier (an_output n) = then_some (stands_in n (outputs_among earlier)) n
  twice_at earlier (a_statement s) =
      first_repeated (inputs_among earlier ++ clocks_among earlier ++ driven_among earlier) (drives file library s)

  abbrev pub twice_in : Model → Option Name
  twice_in m = first_answer (λ earlier i. twice_at earlier i.what) [] (items_of m)

  abbrev pub no_such_model_at : Declared → Option Name
  no_such_model_at (a_statement (subckt name binds)) = unnamed_if (placed file library name) name
  no_such_model_at _ = None

  abbrev pub no_such_model_in : Model → Option Name
  no_such_model_in m = first_answer (λ earlier i. no_such_model_at i.what) [] (items_of m)

  abbrev pub bad_port_of : Placed → Name → List Bind → Option (Name × Name)
  bad_port_of nothing name binds = None
  bad_port_of p name binds =
      with_model name (option_or (bad_formal (input_ports p ++ output_ports p) [] binds) (missing_port (input_ports p) binds))

  abbrev pub bad_port_at : Declared → Option (Name × Name)
  bad_port_at (a_statement (subckt name binds)) = bad_port_of (placed file library name) name binds
  bad_port_at _ = None

  abbrev pub bad_port_in : Model → Option (Name × Name)
  bad_port_in m = first_answer (λ earlier i. bad_port_at i.what) [] (items_of m)

  -- The model contains itself, directly or through others.
  abbrev pub ContainsItself : Model → Type 0
  ContainsItself m = (n : ℕ) × Chain file (suc n) m m

  -- A used model other than the main one has a latch.
  abbrev pub HasLatchInside : Model → Type 0
  HasLatchInside m = (IsMain file m → ⊥) × IsTrue (not (is_empty (latches_of m)))

  -- The model is reached from the main model by a chain of more than 16 `.subckt` steps.
  abbrev pub IsTooDeep : Model → Type 0
  IsTooDeep m = (top : Model) × IsMain file top × (n : ℕ) × (16 < n) × Chain file n top m

  -- A net is read and has no driver.
  abbrev pub item_reads : Declared → List Name
  item_reads (an_output n) = n ∷ []
  item_reads (a_statement s) = reads file library s
  item_reads _ = []

  abbrev pub undriven_in : Model → Option Name
  undriven_in m = first_answer (λ earlier i. find (λ n. not (stands_in n (driven_nets file library m))) (item_reads i.what)) [] (items_of m)

  -- The first latch of the main model that differs from the first one in TYPE or CONTROL, or has a control
  -- that is neither `NIL` nor declared: its output. If there is none, the first clock net that is read, those
  -- of `.inputs` before those of `.clock`.
  abbrev pub odd_latch : Model → Option Name
  odd_latch m = option_map (λ l. l.q) (find (λ l. not (is_clocked m l)) (latches_of m))

  abbrev pub read_clock : Model → Option Name
  read_clock m =
      find (λ n. stands_in n (read_nets file library m))
      (filter (λ n. stands_in n (clock_nets m)) (port_names m.inputs) ++ port_names m.clocks)

  abbrev pub clocking_in : Model → Option Name
  clocking_in m = option_or (odd_latch m) (read_clock m)

  -- A net is unsettled where a chain of reads from it enters a loop.
  abbrev pub LeadsTo : Model → Name → List Name → Name → Type 0
  LeadsTo m n [] k = n ≡ k
  LeadsTo m n (a ∷ rest) k = ReadsFor file library m n a × LeadsTo m a rest k

  pub record IsUnsettled (m : Model) (n : Name) : Type 0 where
    pub way : List Name
    pub entry : Name
    pub others : List Name
    pub leads : LeadsTo m n way entry
    pub enters : IsLoop file library m (entry ∷ others)

  -- the first unsettled net of a list
  pub record IsFirstUnsettled (m : Model) (ns : List Name) (n : Name) : Type 0 where
    pub before : List Name
    pub after : List Name
    pub split : ns ≡ before ++ n ∷ after
    pub unsettled : IsUnsettled m n
    pub settled_before : AllByRecursion (λ k. IsUnsettled m k → ⊥) before

  -- From a net the walk goes to the first unsettled net in the reading order of that net's driver.
  pub record WalksTo (m : Model) (n k : Name) : Type 0 where
    pub driver : Statement
    pub stands : Contains (map (λ l. l.what) m.statements) driver
    pub reads_on : IsTrue (combines driver)
    pub of_net : IsTrue (stands_in n (drives file library driver))
    pub next : IsFirstUnsettled m (reads file library driver) k

  -- each net of a list walks to the next, and the last one to the given net
  abbrev pub WalksAlong : Model → List Name → Name → Type 0
  WalksAlong m [] end = ⊥
  WalksAlong m (n ∷ []) end = WalksTo m n end
  WalksAlong m (n ∷ k ∷ rest) end = WalksTo m n k × WalksAlong m (k ∷ rest) end

  -- The walk starts at the first unsettled net in the order of the model's names. `front` is its way to the cycle that it
  -- enters, and the list is that cycle, beginning with the first net that it meets twice.
  pub record IsWalkedLoop (m : Model) (nets : List Name) : Type 0 where
    pub start : Name
    pub is_start : IsFirstUnsettled m m.names start
    pub front : List Name
    pub first : Name
    pub others : List Name
    pub cycle : nets ≡ first ∷ others
    pub begins : slice_get (front ++ nets) 0 ≡ Some start
    pub walks : WalksAlong m (front ++ nets) first
    pub once : IsTrue (are_distinct (front ++ nets))

  -- The main model's name ends with a backslash, or an input, clock, output or latch output of it is reserved.
  abbrev pub reserved_in : Model → Option Name
  reserved_in m =
      option_or (then_some (ends_with_backslash m.name) m.name)
      (find is_reserved (written_names m))

  -- the first of four counts of the main model that passes its limit
  abbrev pub too_large_in : Model → Option Quantity
  too_large_in m =
      if nat_lt 4096 (length (data_inputs m)) then Some model_inputs
      else if nat_lt 4096 (length m.outputs) then Some model_outputs
      else if nat_lt 4096 (length (latches_of m)) then Some model_latches
      else if nat_lt 1000000 (whole_cost file library) then Some source_cost
      else None

  -- what is found, in the first used model in which it is, or in the main model
  abbrev pub Finds : SoundFault → Type 0
  Finds (twice n) = IsFirstUsed file (λ m a. twice_in m ≡ Some a) n
  Finds (no_such_model n) = IsFirstUsed file (λ m a. no_such_model_in m ≡ Some a) n
  Finds (bad_port n f) = IsFirstUsed file (λ m (a : Name × Name). bad_port_in m ≡ Some a) (n, f)
  Finds (recursion n) = IsFirstUsed file (λ m a. ContainsItself m × (a ≡ m.name)) n
  Finds (latch_inside n) = IsFirstUsed file (λ m a. HasLatchInside m × (a ≡ m.name)) n
  Finds (too_deep n) = IsFirstUsed file (λ m a. IsTooDeep m × (a ≡ m.name)) n
  Finds (undriven n) = IsFirstUsed file (λ m a. undriven_in m ≡ Some a) n
  Finds (bad_clocking n) = (m : Model) × IsMain file m × (clocking_in m ≡ Some n)
  Finds (loop ns) = IsFirstUsed file (λ m a. IsWalkedLoop m a) ns
  Finds (reserved n) = (m : Model) × IsMain file m × (reserved_in m ≡ Some n)
  Finds (too_large what) = (m : Model) × IsMain file m × (too_large_in m ≡ Some what)

  -- This fault is told: it is found, and none of an earlier test is.
  pub record IsRefusedWith (fault : SoundFault) : Type 0 where
    pub found : Finds fault
    pub first : (other : SoundFault) → rank other < rank fault → Finds other → ⊥
