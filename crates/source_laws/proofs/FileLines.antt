-- The first item in file order.
use Rattle.std.proofs.Common.{◌≡◌, refl, ◌∙◌, ap, ℕ, ◌<◌, ◌≤◌, List, [], ◌∷◌, ◌++◌, Bool, true, false, cond, Option, nat_le, arith}
use Rattle.std.specs.List.{AllByRecursion}
use Rattle.netlist_spec.specs.FileOrder.{Item, place_item, by_line}
use Rattle.netlist_spec.specs.FileRules.{NeverFall}
use Rattle.netlist_spec.proofs.OneValue.{All_by_line}

is_at_most : (a b : ℕ) → a ≤ b → nat_le a b ≡ true
is_at_most a b h = grind arith

is_past : (a b : ℕ) → b < a → nat_le a b ≡ false
is_past a b h = grind arith

placed_first : (x : Item) (ys : List Item) → AllByRecursion (λ i. x.line ≤ i.line) ys → place_item x ys ≡ x ∷ ys
placed_first x [] a = refl
placed_first x (y ∷ ys) a = ap (λ (b : Bool). cond b (x ∷ y ∷ ys) (y ∷ place_item x ys)) (is_at_most x.line y.line a.0)

pub least_is_first : (before : List Item) (x : Item) (after : List Item) → AllByRecursion (λ i. x.line < i.line) before → AllByRecursion (λ i. x.line ≤ i.line) after → by_line (before ++ x ∷ after) ≡ x ∷ by_line (before ++ after)
least_is_first [] x after a b = placed_first x (by_line after) (All_by_line (λ (i : Item). x.line ≤ i.line) after b)
least_is_first (y ∷ before) x after a b =
    ap (place_item y) (least_is_first before x after a.1 b)
    ∙ ap (λ (t : Bool). cond t (y ∷ x ∷ by_line (before ++ after)) (x ∷ place_item y (by_line (before ++ after)))) (is_past y.line x.line a.0)

pub later_lines : (low : ℕ) (high : Option ℕ) (lines : List ℕ) (n : ℕ) → NeverFall low high lines → n ≤ low → AllByRecursion (λ l. n ≤ l) lines
later_lines low high [] n f h = tt
later_lines low high (l ∷ lines) n f h = let a : low ≤ l = f.0 in (omega arith, later_lines l high lines n f.2 (omega arith))
