-- What the words of a command line ask for.
use Rattle.std.specs.Prelude.{ℕ, List, [], ◌∷◌, length, codes, Option, Some, None, nat_lt, nat_le, if◌then◌else◌}
use Rattle.std.specs.Option.{option_map}
use Rattle.netlist_spec.specs.Netlist.{same_name}
use Rattle.netlist_spec.specs.Digits.{decimal_of}

-- a command with the names of its files, and the cycle or the size that it is given
pub data Command : Type 0 where
  flat : (netlist : List ℕ) → Command
  code : (settings : List ℕ) → Command
  guard : (settings netlist : List ℕ) → Command
  sim : (netlist stimulus script : List ℕ) → Command
  audit : (netlist : List ℕ) → Command
  campaign : (settings netlist stimulus : List ℕ) (cycle : ℕ) → Command
  demo : (size : ℕ) → Command

-- the cycle of a campaign: the number that 1 to 6 digits spell
abbrev pub cycle_of : List ℕ → Option ℕ
cycle_of w = decimal_of 999999 w

abbrev pub positive : Option ℕ → Option ℕ
positive None = None
positive (Some n) = if nat_lt 0 n then Some n else None

-- the size of a demo: the number from 1 to 64 that 1 or 2 digits spell
abbrev pub demo_size_of : List ℕ → Option ℕ
demo_size_of w = if nat_le (length w) 2 then positive (decimal_of 64 w) else None

-- The command that the words spell: the first word and the number of words must be its own, and a number of its form.
abbrev pub command_of : List (List ℕ) → Option Command
command_of (word ∷ file ∷ []) =
    if same_name word (codes "flat") then Some (flat file)
    else if same_name word (codes "code") then Some (code file)
    else if same_name word (codes "audit") then Some (audit file)
    else if same_name word (codes "demo") then option_map (λ n. demo n) (demo_size_of file)
    else None
command_of (word ∷ settings ∷ netlist ∷ []) = if same_name word (codes "guard") then Some (guard settings netlist) else None
command_of (word ∷ netlist ∷ stimulus ∷ script ∷ []) = if same_name word (codes "sim") then Some (sim netlist stimulus script) else None
command_of (word ∷ settings ∷ netlist ∷ stimulus ∷ cycle ∷ []) =
    if same_name word (codes "campaign") then option_map (λ c. campaign settings netlist stimulus c) (cycle_of cycle) else None
command_of _ = None

-- how many bytes a netlist may have, and how many each other file
abbrev pub netlist_limit : ℕ
netlist_limit = 268435456

abbrev pub other_limit : ℕ
other_limit = 16777216
