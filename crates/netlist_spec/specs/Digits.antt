-- Numbers in decimal digits and bits in the characters `0` and `1`, as words spell them.
use Rattle.std.specs.Prelude.{ℕ, ◌+◌, ◌*◌, ◌-◌, Bool, true, false, ◌&&◌, List, [], ◌∷◌, length, Option, Some, None, nat_le, fold, ◌==◌, if◌then◌else◌}
use Rattle.std.specs.List.{list_all}
use Rattle.netlist_spec.specs.Lines.{Word}

abbrev pub is_digit : ℕ → Bool
is_digit c = nat_le 48 c && nat_le c 57

abbrev pub digits_value : Word → ℕ
digits_value w = fold (λ n c. 10 * n + (c - 48)) 0 w

-- the number that 1 to 6 digits spell, if it is at most `most`
abbrev pub decimal_of : ℕ → Word → Option ℕ
decimal_of most w =
    if nat_le 1 (length w) && nat_le (length w) 6 && list_all is_digit w && nat_le (digits_value w) most
    then Some (digits_value w)
    else None

-- what f gives of each element, if it gives something of all
abbrev pub each_gives : {A B : Type 0} → (A → Option B) → List A → Option (List B)
each_gives f [] = Some []
each_gives f (x ∷ xs) = both (f x) (each_gives f xs)
  where
    both : {B : Type 0} → Option B → Option (List B) → Option (List B)
    both (Some y) (Some ys) = Some (y ∷ ys)
    both _ _ = None

-- a text of the characters `0` and `1` alone
abbrev pub bit_of_char : ℕ → Option Bool
bit_of_char c = if c == 48 then Some false else if c == 49 then Some true else None

abbrev pub bits_of_text : List ℕ → Option (List Bool)
bits_of_text text = each_gives bit_of_char text
