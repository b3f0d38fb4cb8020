-- Error patterns as numbers.
use Rattle.std.specs.Prelude.{ℕ, ◌+◌}
use Rattle.netlist_spec.specs.Covers.{number_of}
use Rattle.guard_spec.specs.Codes.{Code, Pattern, syndrome_of, bits_of}
use Rattle.distance.specs.declared.error_patterns.Pattern.{Pattern as Found}

-- the pattern that numbers stand for, over so many places and columns
abbrev pub pattern_of : ℕ → ℕ → Found → Pattern
pattern_of places columns p = record { error = bits_of places p.error.0; syndrome = bits_of columns p.syndrome.0 }

-- an error over the words of m data places, with its syndrome
abbrev pub pattern_at : Code → ℕ → ℕ → Found
pattern_at code m error =
    record { error = record { 0 = error }; syndrome = record { 0 = number_of (syndrome_of code m (bits_of (m + code.columns) error)) } }
