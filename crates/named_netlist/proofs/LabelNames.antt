-- The names of labels are words that can stand in a text.
use Rattle.std.proofs.Common.{◌≡◌, refl, sym, ◌∙◌, ap, ap₂, subst, ℕ, zero, suc, ◌+◌, ◌<◌, ◌≤◌, ◌/◌, ◌%◌, List, [], ◌∷◌, ◌++◌, length, map, get_or, codes, Bool, true, false, ◌&&◌, ◌||◌, not, cond, ◌==◌, append_assoc, length-append, arith}
use Rattle.std.specs.Prelude.{IsTrue, decimal, nat_lt}
use Rattle.std.specs.Fmt.{digits, digits_onto, digit_glyph}
use Rattle.std.specs.List.{AllByRecursion, flat_map, list_all}
use Rattle.std.proofs.lemmas.Grind.{common_steps}
use Rattle.std.proofs.lemmas.List.Folds.{list_all-append}
use Rattle.netlist_spec.specs.Lines.{is_empty, ends_with_backslash}
use Rattle.netlist_spec.specs.Netlist.{Name, IsName, IsWordName, is_word_byte, is_reserved}
use Rattle.netlist_spec.specs.WrittenLines.{IsPlainWord, HasNoFeed}
use Rattle.netlist_spec.specs.Written.{Named, IsNamed, Label, given, store, next, check, rail, inner, label_name, given_name, named_clocks, net_name}
use Rattle.netlist_spec.proofs.OneValue.{passes_both, All_front, All_back}
use Rattle.netlist_spec.proofs.Occurrences.{turn}

-- a name that can stand in a line of a text
pub record IsLineName (n : Name) : Type 0 where
  pub is_name : IsName n
  pub plain : IsPlainWord n

-- a word byte other than a backslash
abbrev is_plain_byte : ℕ → Bool
is_plain_byte b = is_word_byte b && not (b == 92)

-- ---- digits

abbrev IsDigit : ℕ → Type 0
IsDigit b = (48 ≤ b) × (b ≤ 57)

glyph_digit : (d : ℕ) → d < 10 → IsDigit (digit_glyph false d)
glyph_digit d h = go (nat_lt d 10) (grind (arith, common_steps, h))
  where
    go : (b : Bool) → b ≡ true → IsDigit (cond b (48 + d) (cond false (55 + d) (87 + d)))
    go true e = (omega arith, omega arith)
    go false e = cc e

onto_digits : (k n : ℕ) (ds : List ℕ) → AllByRecursion IsDigit ds → AllByRecursion IsDigit (digits_onto k 10 false n ds)
onto_digits zero n ds h = h
onto_digits (suc k) n ds h =
    let here : IsDigit (digit_glyph false (n % 10)) = glyph_digit (n % 10) (omega arith) in
    go (n / 10 == 0) _ _ (here, h) (onto_digits k (n / 10) (digit_glyph false (n % 10) ∷ ds) (here, h))
  where
    go : (b : Bool) (xs ys : List ℕ) → AllByRecursion IsDigit xs → AllByRecursion IsDigit ys → AllByRecursion IsDigit (cond b xs ys)
    go true xs ys p q = p
    go false xs ys p q = q

onto_few : (k n : ℕ) (ds : List ℕ) → length (digits_onto k 10 false n ds) ≤ k + length ds
onto_few zero n ds = omega arith
onto_few (suc k) n ds = go (n / 10 == 0) _ (onto_few k (n / 10) (digit_glyph false (n % 10) ∷ ds))
  where
    go : (b : Bool) (ys : List ℕ) → length ys ≤ k + suc (length ds) → length (cond b (digit_glyph false (n % 10) ∷ ds) ys) ≤ suc k + length ds
    go true ys h = omega arith
    go false ys h = omega arith

decimal_digits : (n : ℕ) → AllByRecursion IsDigit (decimal n)
unfolding digits
decimal_digits n = onto_digits 64 n [] tt

decimal_few : (n : ℕ) → length (decimal n) ≤ 64
unfolding digits
decimal_few n = onto_few 64 n []

-- what holds of each digit, by a test
digits_pass : (p : ℕ → Bool) → ((b : ℕ) → IsDigit b → p b ≡ true) → (ds : List ℕ) → AllByRecursion IsDigit ds → list_all p ds ≡ true
digits_pass p f [] h = refl
digits_pass p f (b ∷ ds) h = ap₂ (λ (x y : Bool). x && y) (f b h.0) (digits_pass p f ds h.1)

digit_plain : (b : ℕ) → IsDigit b → is_plain_byte b ≡ true
digit_plain b h = let low = h.0 in let high = h.1 in grind (arith, common_steps, low, high)

digit_no_feed : (b : ℕ) → IsDigit b → not (b == 10) ≡ true
digit_no_feed b h = let low = h.0 in let high = h.1 in grind (arith, common_steps, low, high)

decimal_plain : (n : ℕ) → list_all is_plain_byte (decimal n) ≡ true
decimal_plain n = digits_pass is_plain_byte digit_plain (decimal n) (decimal_digits n)

pub decimal-no_feed : (n : ℕ) → HasNoFeed (decimal n)
decimal-no_feed n = digits_pass (λ b. not (b == 10)) digit_no_feed (decimal n) (decimal_digits n)

-- ---- names of plain bytes

text_byte : (b : ℕ) → is_plain_byte b ≡ true → is_word_byte b ≡ true
text_byte b h = (passes_both _ _ h).0

no_backslash : (b : ℕ) → is_plain_byte b ≡ true → (b == 92) ≡ false
no_backslash b h = turn _ (passes_both _ _ h).1

all_text : (n : Name) → list_all is_plain_byte n ≡ true → list_all is_word_byte n ≡ true
all_text [] h = refl
all_text (b ∷ n) h = let both = passes_both _ _ h in ap₂ (λ (x y : Bool). x && y) (text_byte b both.0) (all_text n both.1)

all_closed : (n : Name) → list_all is_plain_byte n ≡ true → ends_with_backslash n ≡ false
all_closed [] h = refl
all_closed (b ∷ []) h = no_backslash b (passes_both _ _ h).0
all_closed (b ∷ c ∷ n) h = all_closed (c ∷ n) (passes_both _ _ h).1

some_bytes : (n : Name) → 0 < length n → not (is_empty n) ≡ true
some_bytes [] h = absurd (omega arith)
some_bytes (b ∷ n) h = refl

line_name : (n : Name) → IsName n → list_all is_plain_byte n ≡ true → IsLineName n
line_name n h p = record { is_name = h; plain = record { is_word = some_bytes n h.0; is_plain = all_text n p; is_closed = ap not (all_closed n p) } }

both_plain : (xs ys : Name) → list_all is_plain_byte xs ≡ true → list_all is_plain_byte ys ≡ true → list_all is_plain_byte (xs ++ ys) ≡ true
both_plain xs ys h k = list_all-append is_plain_byte xs ys ∙ ap₂ (λ (x y : Bool). x && y) h k

-- a name that a guard adds: a few bytes and one number, or two numbers with something between them
one_number : (front : Name) (n : ℕ) → 0 < length front → length front ≤ 100 → list_all is_plain_byte front ≡ true → IsLineName (front ++ decimal n)
one_number front n some few plain =
    line_name (front ++ decimal n) (omega (arith, length-append front (decimal n)), omega (arith, length-append front (decimal n), decimal_few n)) (both_plain front (decimal n) plain (decimal_plain n))

two_numbers : (front middle : Name) (n k : ℕ) → 0 < length front → length front ≤ 50 → length middle ≤ 50 → list_all is_plain_byte front ≡ true → list_all is_plain_byte middle ≡ true → IsLineName ((front ++ decimal n) ++ (middle ++ decimal k))
two_numbers front middle n k some few short plain between =
    let a = front ++ decimal n in
    let b = middle ++ decimal k in
    let long : length (a ++ b) ≡ (length front + length (decimal n)) + (length middle + length (decimal k))
    = length-append a b ∙ ap₂ (λ (x y : ℕ). x + y) (length-append front (decimal n)) (length-append middle (decimal k)) in
    line_name (a ++ b) (omega arith, omega (arith, decimal_few n, decimal_few k))
    (both_plain a b (both_plain front (decimal n) plain (decimal_plain n)) (both_plain middle (decimal k) between (decimal_plain k)))

-- ---- given names

pub word-line : (n : Name) → IsWordName n → not (ends_with_backslash n) ≡ true → IsLineName n
word-line n h closed = record { is_name = h.is_name; plain = record { is_word = some_bytes n h.is_name.0; is_plain = h.bytes; is_closed = closed } }

free_closed : (n : Name) → not (is_reserved n) ≡ true → not (ends_with_backslash n) ≡ true
free_closed n h = second _ (ends_with_backslash n) (turn _ h)
  where
    second : (a b : Bool) → (a || b) ≡ false → not b ≡ true
    second true b h = cc h
    second false b h = ap not h

given_line : (n : Name) → IsWordName n → IsTrue (not (is_reserved n)) → IsLineName n
given_line n h free = word-line n h (free_closed n free)

given_lines : (ns : List Name) → AllByRecursion IsWordName ns → AllByRecursion (λ n. IsTrue (not (is_reserved n))) ns → AllByRecursion IsLineName ns
given_lines [] h f = tt
given_lines (n ∷ ns) h f = (given_line n h.0 f.0, given_lines ns h.1 f.1)

label_line : (l : Label) → AllByRecursion IsLineName (given_name l) → IsLineName (label_name l)
label_line (given n) h = h.0
label_line (store w i) h = two_numbers (codes "guard:s") (58 ∷ []) w i (omega arith) (omega arith) (omega arith) refl refl
label_line (next w i) h = two_numbers (codes "guard:d") (58 ∷ []) w i (omega arith) (omega arith) (omega arith) refl refl
label_line (check w j) h =
    subst IsLineName (sym (append_assoc (codes "guard:o" ++ decimal w) (codes ":c") (decimal j)))
    (two_numbers (codes "guard:o") (codes ":c") w j (omega arith) (omega arith) (omega arith) refl refl)
label_line (rail i) h = one_number (codes "guard:alarm") i (omega arith) (omega arith) refl
label_line (inner i) h = one_number (codes "guard:n") i (omega arith) (omega arith) refl

labels_line : (ls : List Label) → AllByRecursion IsLineName (flat_map given_name ls) → AllByRecursion IsLineName (map label_name ls)
labels_line [] h = tt
labels_line (l ∷ ls) h =
    (label_line l (All_front IsLineName (given_name l) (flat_map given_name ls) h), labels_line ls (All_back IsLineName (given_name l) (flat_map given_name ls) h))

each_at : (P : Name → Type 0) (ns : List Name) (i : ℕ) → AllByRecursion P ns → i < length ns → P (get_or ns i [])
each_at P [] i h inside = absurd (omega arith)
each_at P (n ∷ ns) zero h inside = h.0
each_at P (n ∷ ns) (suc i) h inside = each_at P ns i h.1 (omega arith)

-- The names of a gate list.
module _ (g : Named) (named : IsNamed g) where
  taken : AllByRecursion IsLineName (flat_map given_name g.labels ++ g.inputs ++ named_clocks g)
  taken = given_lines (flat_map given_name g.labels ++ g.inputs ++ named_clocks g) named.words named.free

  pub label-lines : AllByRecursion IsLineName (map label_name g.labels)
  label-lines = labels_line g.labels (All_front IsLineName (flat_map given_name g.labels) g.inputs (All_front IsLineName (flat_map given_name g.labels ++ g.inputs) (named_clocks g) taken))

  pub net-line : (n : ℕ) → n < length (map label_name g.labels) → IsLineName (net_name g n)
  net-line n inside = each_at IsLineName (map label_name g.labels) n label-lines inside

  pub input-lines : AllByRecursion IsLineName g.inputs
  input-lines = All_back IsLineName (flat_map given_name g.labels) g.inputs (All_front IsLineName (flat_map given_name g.labels ++ g.inputs) (named_clocks g) taken)

  pub clock-lines : AllByRecursion IsLineName (named_clocks g)
  clock-lines = All_back IsLineName (flat_map given_name g.labels ++ g.inputs) (named_clocks g) taken

  pub model-line : IsLineName g.model
  model-line = word-line g.model named.model.0 named.model.1
