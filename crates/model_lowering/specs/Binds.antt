-- Nets that go into a placed model, and nets that come out of it.
use Rattle.std.specs.Prelude.{ℕ, List, [], ◌∷◌, if◌then◌else◌, slice_set}
use Rattle.netlist_spec.specs.Netlist.{Name, stands_in, Bind}
use Rattle.blif_read.specs.declared.file.Bind.{Bind as ReadBind}
use Rattle.blif_read.specs.declared.file.Statement.{Statement as ReadStatement}
use Rattle.blif_read.specs.declared.file.Statement.TheVariants.{Names, Latch, Subckt}
use Rattle.lowering.specs.Nets.{place_of, net_in}

-- a table in which a name has this net
abbrev pub note : List Name → Name → ℕ → List ℕ → List ℕ
note names n net table = slice_set table (place_of names n) net

module _ (outer inner : List Name) where
  -- Each formal has the net of its actual.
  abbrev pub given_inside : List ℕ → List Bind → List ℕ → List ℕ
  given_inside table [] inside = inside
  given_inside table (b ∷ binds) inside = given_inside table binds (note inner b.formal (net_in outer table b.actual) inside)

  -- Each actual of one of these ports has the net of its formal.
  abbrev pub answered_outside : (ports : List Name) (inside : List ℕ) → List Bind → List ℕ → List ℕ
  answered_outside ports inside [] table = table
  answered_outside ports inside (b ∷ binds) table =
      answered_outside ports inside binds (if stands_in b.formal ports then note outer b.actual (net_in inner inside b.formal) table else table)

-- the words of a `.subckt`
abbrev pub binds_in : ReadStatement → List ReadBind
binds_in (Subckt model binds) = binds.items
binds_in (Names ins out cover) = []
binds_in (Latch d q clocking init) = []
