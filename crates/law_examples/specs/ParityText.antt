-- The settings of the guard of the register that turns its bit, as a text.
use Rattle.std.specs.Prelude.{ℕ, List, codes}

abbrev pub parity_text : List ℕ
parity_text = codes "mode = \"detect\"\nbound = 1\ncheck = [\"1\"]\n"
