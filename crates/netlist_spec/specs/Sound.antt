-- Sources with a meaning: what a netlist and its sub-models must keep.
use Rattle.std.specs.Prelude.{◌≡◌, ◌≢◌, ℕ, zero, suc, ◌≤◌, Bool, true, false, ◌&&◌, List, [], ◌∷◌, ◌++◌, length, map, not, Some, IsTrue, ⊤, Contains}
use Rattle.std.specs.List.{AllByRecursion, flat_map}
use Rattle.netlist_spec.specs.Lines.{ends_with_backslash}
use Rattle.netlist_spec.specs.Netlist.{Name, is_reserved, stands_in, are_distinct, Bind, Statement, names, latch, subckt, Model, File}
use Rattle.netlist_spec.specs.Reads.{first_appearances}
use Rattle.netlist_spec.specs.Covers.{Library}
use Rattle.netlist_spec.specs.Placed.{nothing, placed, find_model, port_names, input_ports, output_ports, read_actuals, driven_actuals}
use Rattle.netlist_spec.specs.Models.{main_model, Latch, latches_of, first_clocking, same_clocking, is_declared, clock_nets, data_inputs, latch_outputs}
use Rattle.netlist_spec.specs.Size.{whole_cost}

-- the models that the `.subckt` of a statement names
abbrev pub placed_names : Statement → List Name
placed_names (subckt name binds) = name ∷ []
placed_names _ = []

-- A model places another where one of its `.subckt` names it.
abbrev pub Places : File → Model → Model → Type 0
Places file m k =
    (name : Name) × (IsTrue (stands_in name (flat_map (λ s. placed_names s.what) m.statements))) × (find_model file.models name ≡ Some k)

-- a chain of so many `.subckt` from one model to another
abbrev pub Chain : File → ℕ → Model → Model → Type 0
Chain file zero a b = a ≡ b
Chain file (suc n) a b = (c : Model) × Chain file n a c × Places file c b

abbrev pub IsMain : File → Model → Type 0
IsMain file m = main_model file ≡ Some m

-- The used models are the main model, and each model that a used model places.
abbrev pub IsUsed : File → Model → Type 0
IsUsed file m = (top : Model) × IsMain file top × (n : ℕ) × Chain file n top m

-- Inputs, clocks and latch outputs read nothing within a cycle; `.names` and `.subckt` do.
abbrev pub combines : Statement → Bool
combines (latch d q clocking init) = false
combines _ = true

-- A latch agrees with the first one in TYPE and CONTROL, and its control is `NIL` or declared.
abbrev pub is_clocked : Model → Latch → Bool
is_clocked m l = same_clocking l.clocking (first_clocking (latches_of m)) && is_declared m l.clocking

-- the names of the main model that a written netlist takes over
abbrev pub written_names : Model → List Name
written_names m = port_names m.inputs ++ port_names m.clocks ++ port_names m.outputs ++ latch_outputs m

module _ (file : File) (library : Library) where
  -- The nets that a statement drives: a latch its Q, `.names` its output, `.subckt` the actuals of output ports.
  abbrev pub drives : Statement → List Name
  drives (names ins out cover) = out ∷ []
  drives (latch d q clocking init) = q ∷ []
  drives (subckt name binds) = driven_actuals file library name binds

  -- The nets that a statement reads: `.names` its inputs, a latch its D, `.subckt` the actuals of input ports.
  abbrev pub reads : Statement → List Name
  reads (names ins out cover) = ins
  reads (latch d q clocking init) = d ∷ []
  reads (subckt name binds) = read_actuals file library name binds

  -- `.inputs` and `.clock` drive a name once, also where it stands in both.
  abbrev pub driven_nets : Model → List Name
  driven_nets m = first_appearances (port_names m.inputs ++ port_names m.clocks) ++ flat_map (λ s. drives s.what) m.statements

  abbrev pub read_nets : Model → List Name
  read_nets m = flat_map (λ s. reads s.what) m.statements ++ port_names m.outputs

  -- no net has two drivers, and no name stands twice in one kind of port list
  pub record HasOneDriverEach (m : Model) : Type 0 where
    pub inputs : IsTrue (are_distinct (port_names m.inputs))
    pub outputs : IsTrue (are_distinct (port_names m.outputs))
    pub clocks : IsTrue (are_distinct (port_names m.clocks))
    pub drivers : IsTrue (are_distinct (driven_nets m))

  -- each net that is read is driven
  abbrev pub IsDrivenWhereRead : Model → Type 0
  IsDrivenWhereRead m = AllByRecursion (λ n. IsTrue (stands_in n (driven_nets m))) (read_nets m)

  -- A `.subckt` names a model or a library entry, its formals are distinct ports, and all input ports are
  -- given. An output port may be left out.
  pub record IsPlacement (name : Name) (binds : List Bind) : Type 0 where
    pub meaning : placed file library name ≢ nothing
    pub once : IsTrue (are_distinct (map (λ b. b.formal) binds))
    pub ports : AllByRecursion (λ b. IsTrue (stands_in b.formal (input_ports (placed file library name) ++ output_ports (placed file library name)))) binds
    pub given : AllByRecursion (λ p. IsTrue (stands_in p (map (λ b. b.formal) binds))) (input_ports (placed file library name))

  abbrev pub PlacesWell : Statement → Type 0
  PlacesWell (subckt name binds) = IsPlacement name binds
  PlacesWell _ = ⊤

  -- The driver of one net reads another. A `.subckt` reads all its input actuals for each of its outputs.
  abbrev pub ReadsFor : Model → Name → Name → Type 0
  ReadsFor m n k =
      (s : Statement) × Contains (map (λ l. l.what) m.statements) s × IsTrue (combines s) × IsTrue (stands_in n (drives s)) × IsTrue (stands_in k (reads s))

  -- A loop is a list of nets in which the driver of each reads the next and that of the last reads the first.
  abbrev pub LeadsBack : Model → Name → List Name → Type 0
  LeadsBack m first [] = ⊥
  LeadsBack m first (n ∷ []) = ReadsFor m n first
  LeadsBack m first (n ∷ k ∷ rest) = ReadsFor m n k × LeadsBack m first (k ∷ rest)

  abbrev pub IsLoop : Model → List Name → Type 0
  IsLoop m [] = ⊥
  IsLoop m (n ∷ rest) = LeadsBack m n (n ∷ rest)

  -- what each used model keeps
  pub record IsSoundModel (m : Model) : Type 0 where
    pub drivers : HasOneDriverEach m
    pub driven : IsDrivenWhereRead m
    pub placements : AllByRecursion (λ s. PlacesWell s.what) m.statements
    -- no chain of `.subckt` leads from a model to itself
    pub no_recursion : (n : ℕ) → Chain file (suc n) m m → ⊥
    -- only the main model has latches
    pub latches : (IsMain file m → ⊥) → latches_of m ≡ []
    pub no_loop : (ns : List Name) → IsLoop m ns → ⊥

  -- what the main model keeps besides
  pub record IsSoundMain (m : Model) : Type 0 where
    pub clocking : AllByRecursion (λ l. IsTrue (is_clocked m l)) (latches_of m)
    pub clocks_unread : AllByRecursion (λ n. IsTrue (not (stands_in n (read_nets m)))) (clock_nets m)
    -- a chain of `.subckt` from it has at most 16 steps
    pub shallow : (k : Model) (n : ℕ) → Chain file n m k → n ≤ 16
    pub name : IsTrue (not (ends_with_backslash m.name))
    pub names : AllByRecursion (λ n. IsTrue (not (is_reserved n))) (written_names m)
    pub inputs : length (data_inputs m) ≤ 4096
    pub outputs : length m.outputs ≤ 4096
    pub latches : length (latches_of m) ≤ 4096
    pub cost : whole_cost file library ≤ 1000000

  -- The file has a meaning with this library.
  pub record IsSound : Type 0 where
    pub used : (m : Model) → IsUsed file m → IsSoundModel m
    pub main : (m : Model) → IsMain file m → IsSoundMain m
