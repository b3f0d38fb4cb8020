-- How a byte, a name and a quantity are printed.
use Rattle.std.specs.Prelude.{ℕ, ◌+◌, ◌/◌, ◌%◌, ◌&&◌, List, [], ◌∷◌, codes, nat_le, nat_lt, ◌==◌, not, if◌then◌else◌}
use Rattle.std.specs.List.{flat_map}
use Rattle.netlist_spec.specs.Netlist.{Name, Quantity, cover_inputs, model_inputs, model_outputs, model_clocks, model_latches, file_statements, source_cost}

-- one digit of `0` to `9` and `a` to `f`
abbrev pub hex_digit : ℕ → ℕ
hex_digit n = if nat_lt n 10 then 48 + n else 87 + n

-- A byte from 33 to 126 other than a backslash is written as it is, each other one as `\x` and two digits.
abbrev pub escape : ℕ → List ℕ
escape b =
    if nat_le 33 b && nat_le b 126 && not (b == 92) then b ∷ []
    else 92 ∷ 120 ∷ hex_digit (b / 16) ∷ hex_digit (b % 16) ∷ []

abbrev pub escaped : Name → List ℕ
escaped name = flat_map escape name

abbrev pub quantity_word : Quantity → List ℕ
quantity_word cover_inputs = codes "cover"
quantity_word model_inputs = codes "inputs"
quantity_word model_outputs = codes "outputs"
quantity_word model_clocks = codes "clocks"
quantity_word model_latches = codes "latches"
quantity_word file_statements = codes "statements"
quantity_word source_cost = codes "source"
