-- The bits of hits: whether nets have the syndrome of a pattern.
use Rattle.std.proofs.Common.{◌≡◌, sym, ◌∙◌, ap, refl, ℕ, ◌+◌, ◌*◌, ◌<◌, ◌≤◌, Bool, true, false, ◌&&◌, List, [], ◌∷◌, ◌++◌, length, map, get_or, take, arith}
use Rattle.std.specs.Bool.{beq}
use Rattle.std.specs.List.{enumerate_from, list_all}
use Rattle.std.proofs.lemmas.List.{map_more}
use Rattle.std.proofs.lemmas.List.Folds.{list_all-append}
use Rattle.netlist_spec.specs.Covers.{has_bit}
use Rattle.netlist_spec.specs.Gates.{bit_number}
use Rattle.distance.specs.declared.error_patterns.Pattern.{Pattern as Found}
use Rattle.gate_net.specs.declared.gate.NetId.{NetId}
use Rattle.reduction.proofs.Inputs.{bits_at, numbered_more}
use Rattle.corrector.specs.Hits.{spells}

and_true : (a : Bool) → (a && true) ≡ a
and_true true = refl
and_true false = refl

and_assoc : (a b c : Bool) → ((a && b) && c) ≡ (a && (b && c))
and_assoc true b c = refl
and_assoc false b c = refl

pub no_bits : (a : Bool) (n : ℕ) → a ≡ (a && spells n [])
no_bits a n = sym (and_true a)

-- one bit more
spells_more : (n : ℕ) (v : ℕ → Bool) (ins : List NetId) (i : ℕ) (d : NetId) → i < length ins
    → spells n (bits_at v (take (i + 1) ins)) ≡ (spells n (bits_at v (take i ins)) && beq (v (get_or ins i d).0) (has_bit n i))
spells_more n v ins i d h =
    let test : ℕ × Bool → Bool = λ p. beq p.1 (has_bit n p.0) in
    ap (list_all test) (numbered_more v ins i d h)
    ∙ (list_all-append test (enumerate_from 0 (bits_at v (take i ins))) ((i, v (get_or ins i d).0) ∷ [])
    ∙ ap (λ b. list_all test (enumerate_from 0 (bits_at v (take i ins))) && b) (and_true (test (i, v (get_or ins i d).0))))

pub hit_more : (n : ℕ) (v : ℕ → Bool) (ins : List NetId) (i : ℕ) (d : NetId) (always op : ℕ) → i < length ins
    → ((a b : Bool) → has_bit op (2 * bit_number a + bit_number b) ≡ (a && beq b (has_bit n i)))
    → has_bit op (2 * bit_number (v always && spells n (bits_at v (take i ins))) + bit_number (v (get_or ins i d).0)) ≡ (v always && spells n (bits_at v (take (i + 1) ins)))
hit_more n v ins i d always op h answer =
    answer (v always && spells n (bits_at v (take i ins))) (v (get_or ins i d).0)
    ∙ (and_assoc (v always) (spells n (bits_at v (take i ins))) (beq (v (get_or ins i d).0) (has_bit n i))
    ∙ ap (λ (b : Bool). v always && b) (sym (spells_more n v ins i d h)))

-- one pattern more
pub hits_more : (v : ℕ → Bool) (bits : List Bool) (pats : List Found) (k : ℕ) (d : Found) (always : ℕ) → k < length pats → v always ≡ true
    → map (λ (p : Found). spells p.syndrome.0 bits) (take k pats) ++ (v always && spells (get_or pats k d).syndrome.0 bits) ∷ [] ≡ map (λ (p : Found). spells p.syndrome.0 bits) (take (k + 1) pats)
hits_more v bits pats k d always h one =
    ap (λ (b : Bool). map (λ (p : Found). spells p.syndrome.0 bits) (take k pats) ++ (b && spells (get_or pats k d).syndrome.0 bits) ∷ []) one
    ∙ sym (map_more (λ (p : Found). spells p.syndrome.0 bits) pats k d h)

pub next_fits : (k p n : ℕ) → k < p → k * n + n ≤ p * n
next_fits k p n h = grind arith
