-- Error patterns, each with a net.
use Rattle.std.specs.Prelude.{ℕ, zero, suc, ◌+◌, ◌&&◌, Bool, List, count_by, map}
use Rattle.std.specs.Bool.{beq}
use Rattle.std.specs.List.{enumerate_from, list_all, list_any}
use Rattle.netlist_spec.specs.Covers.{has_bit}
use Rattle.corrector.specs.declared.hits.Hit.{Hit}

abbrev pub hit_nets : List Hit → List ℕ
hit_nets hits = map (λ h. h.net.0) hits

-- The bits are those of the number, the lowest first.
abbrev pub spells : ℕ → List Bool → Bool
spells n bits = list_all (λ (p : ℕ × Bool). beq p.1 (has_bit n p.0)) (enumerate_from 0 bits)

-- The net of some pattern with an error at the place is 1.
abbrev pub some_hit : ℕ → List Hit → (ℕ → Bool) → Bool
some_hit i hits v = list_any (λ h. has_bit h.error.0 i && v h.net.0) hits

-- the errors of all patterns at the first places
abbrev pub hits_at : ℕ → List Hit → ℕ
hits_at zero hits = 0
hits_at (suc i) hits = hits_at i hits + count_by (λ h. has_bit h.error.0 i) hits
