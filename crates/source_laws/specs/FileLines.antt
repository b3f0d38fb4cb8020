-- Taking the lines of a model in file order, from lists that each stand in the order of their lines.
use Rattle.std.specs.Prelude.{◌≡◌, ℕ, ◌<◌, ◌≤◌, List, ◌∷◌, ◌++◌, Option}
use Rattle.std.specs.List.{AllByRecursion}
use Rattle.netlist_spec.specs.FileOrder.{Item, by_line}
use Rattle.netlist_spec.specs.FileRules.{NeverFall}

-- An item is the first in file order where those before it in the lists stand on later lines, and those after it on no
-- earlier ones.
abbrev pub LeastLineIsFirst : List Item → Item → List Item → Type 0
LeastLineIsFirst before x after =
    AllByRecursion (λ i. x.line < i.line) before → AllByRecursion (λ i. x.line ≤ i.line) after → by_line (before ++ x ∷ after) ≡ x ∷ by_line (before ++ after)

-- Lines that never fall are all as late as the first.
abbrev pub LaterLinesAreAbove : ℕ → Option ℕ → List ℕ → ℕ → Type 0
LaterLinesAreAbove low high lines n = NeverFall low high lines → n ≤ low → AllByRecursion (λ l. n ≤ l) lines
