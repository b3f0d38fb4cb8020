-- The pieces of the line of a refusal.
use Rattle.std.specs.Prelude.{ℕ, List, ◌++◌, ◌∷◌, [], codes, decimal, Option, None, Some}
use Rattle.std.specs.List.{flat_map}
use Rattle.netlist_spec.specs.Escapes.{escape, escaped}
use Rattle.refusals.specs.declared.told.Tail.{Tail}
use Rattle.refusals.specs.declared.told.Tail.TheVariants.{Nothing, Name, Pair, Each, Below}
use Rattle.refusals.specs.declared.told.Told.{Told}

-- names, each behind a blank
abbrev pub each_text : List (List ℕ) → List ℕ
each_text names = flat_map (λ n. 32 ∷ escaped n) names

-- what is told behind a text: nothing, a name, two names with a blank between them, names each behind a blank, or two
-- numbers
abbrev pub tail_text : Tail → List ℕ
tail_text Nothing = []
tail_text (Name name) = flat_map escape name.now
tail_text (Pair one other) = escaped one.now ++ 32 ∷ escaped other.now
tail_text (Each names) = each_text names.now
tail_text (Below d need) = decimal d ++ codes " below " ++ decimal need

-- a text, what is told behind it, and the end of the line
abbrev pub tailed_line : List ℕ → Tail → List ℕ
tailed_line text tail = text ++ tail_text tail ++ 10 ∷ []

-- what a line begins with, in the pieces that are put
abbrev pub front_text : List ℕ → Option ℕ → List ℕ
front_text number None = codes "impeccable: " ++ (number ++ (codes " " ++ []))
front_text number (Some line) = codes "impeccable: " ++ (number ++ (codes " line " ++ (decimal line ++ (codes " " ++ []))))

-- the text of what is told of a refusal
abbrev pub place_text : Option ℕ → List ℕ
place_text None = []
place_text (Some line) = codes " line " ++ decimal line

abbrev pub told_text : Told → List ℕ
told_text told = told.number.now ++ place_text told.line ++ 32 ∷ (told.text.now ++ tail_text told.tail)
