-- The stimulus of the demo design is read as its stream.
use Rattle.std.proofs.Common.{◌≡◌, refl, ◌∙◌, ap, ap₂, ℕ, suc, ◌+◌, ◌*◌, ◌%◌, ◌<◌, ◌≤◌, List, [], ◌∷◌, ◌++◌, map, filter, length, Bool, true, false, cond, not, Some, None, append_assoc, arith, lit≤}
use Rattle.std.proofs.Math.Numerals.{one-add}
use Rattle.std.specs.Prelude.{◌==◌, nat_lt, Ok, Err}
use Rattle.std.specs.List.{AllByRecursion, flat_map, slice_split}
use Rattle.std.proofs.lemmas.Grind.{common_steps}
use Rattle.netlist_spec.specs.Lines.{is_blank, is_empty, words, without_comment, with_words, plain_from}
use Rattle.netlist_spec.specs.Statements.{bit_char}
use Rattle.netlist_spec.specs.Digits.{bits_of_text}
use Rattle.netlist_spec.specs.SourceRun.{Bits, Stream}
use Rattle.stimulus_spec.specs.Stimulus.{with_row, stimulus_row, stimulus_from, stimulus_of}
use Rattle.program_spec.specs.Demo.{loading_cycle, idle_cycle, demo_stream}
use Rattle.demo_laws.specs.DemoFiles.{cycle_text, demo_stimulus}
use Rattle.demo_laws.proofs.Ranges.{length_mapped}

abbrev text_of : Bits → List ℕ
text_of x = map bit_char x

cut : (x : Bits) (rest : List ℕ) → slice_split (λ b. b == 10) (text_of x ++ 10 ∷ rest) ≡ text_of x ∷ slice_split (λ b. b == 10) rest
cut [] rest = refl
cut (true ∷ x) rest = rw (cut x rest) refl
cut (false ∷ x) rest = rw (cut x rest) refl

uncommented : (x : Bits) → without_comment (text_of x) ≡ text_of x
uncommented [] = refl
uncommented (true ∷ x) = rw one-add (ap (λ l. 49 ∷ l) (uncommented x))
uncommented (false ∷ x) = rw one-add (ap (λ l. 48 ∷ l) (uncommented x))

whole : (x : Bits) → slice_split is_blank (text_of x) ≡ text_of x ∷ []
whole [] = refl
whole (true ∷ x) = rw (whole x) refl
whole (false ∷ x) = rw (whole x) refl

one_word : (b : Bool) (x : Bits) → words (without_comment (text_of (b ∷ x))) ≡ text_of (b ∷ x) ∷ []
one_word b x = ap words (uncommented (b ∷ x)) ∙ ap (filter (λ w. not (is_empty w))) (whole (b ∷ x))

bits_back : (x : Bits) → bits_of_text (text_of x) ≡ Some x
bits_back [] = refl
bits_back (true ∷ x) = rw (bits_back x) refl
bits_back (false ∷ x) = rw (bits_back x) refl

same_count : (a b : ℕ) → a ≡ b → (a == b) ≡ true
same_count a b h = grind (arith, common_steps, h)

text_length : (x : Bits) → length (text_of x) ≡ length x
text_length [] = refl
text_length (b ∷ x) = let e = text_length x in omega arith

row_back : (m : ℕ) (x : Bits) → length x ≡ suc m → stimulus_row (suc m) (text_of x ∷ []) ≡ Some x
row_back m x e = ap (λ b. cond b (bits_of_text (text_of x)) None) (same_count (length (text_of x)) (suc m) (text_length x ∙ e)) ∙ bits_back x

less : (c : ℕ) → c < 1000000 → nat_lt c 1000000 ≡ true
less c h = grind (arith, h)

stream_back : (m k c : ℕ) (xs : Stream) → AllByRecursion (λ x. length x ≡ suc m) xs → c + length xs ≤ 1000000
    → stimulus_from (suc m) c (with_words (plain_from k (slice_split (λ b. b == 10) (flat_map cycle_text xs)))) ≡ Ok xs
stream_back m k c [] h few = refl
stream_back m k c ([] ∷ xs) h few = absurd (let e : 0 ≡ suc m = h.0 in omega arith)
stream_back m k c ((b ∷ x) ∷ xs) h few =
    let later = stream_back m (k + 1) (c + 1) xs h.1 (omega arith) in
    let lines : plain_from k (slice_split (λ b. b == 10) (flat_map cycle_text ((b ∷ x) ∷ xs))) ≡ record { number = k; words = text_of (b ∷ x) ∷ [] } ∷ plain_from (k + 1) (slice_split (λ b. b == 10) (flat_map cycle_text xs))
    = ap (λ l. plain_from k (slice_split (λ b. b == 10) l)) (append_assoc (text_of (b ∷ x)) (10 ∷ []) (flat_map cycle_text xs))
    ∙ ap (plain_from k) (cut (b ∷ x) (flat_map cycle_text xs))
    ∙ ap (λ ws. record { number = k; words = ws } ∷ plain_from (k + 1) (slice_split (λ b. b == 10) (flat_map cycle_text xs))) (one_word b x) in
    ap (λ l. stimulus_from (suc m) c (with_words l)) lines
    ∙ ap (λ t. cond t (with_row k (stimulus_row (suc m) (text_of (b ∷ x) ∷ [])) (stimulus_from (suc m) (c + 1) (with_words (plain_from (k + 1) (slice_split (λ b. b == 10) (flat_map cycle_text xs)))))) (Err k)) (less c (omega arith))
    ∙ ap₂ (λ row rest. with_row k row rest) (row_back m (b ∷ x) h.0) later

pub stream_is_wide : (n : ℕ) → AllByRecursion (λ x. length x ≡ suc (4 * n)) (demo_stream n)
stream_is_wide n =
    let loads : length (loading_cycle n) ≡ suc (4 * n) = (let e = length_mapped (λ i. i % 3 == 0) 0 (4 * n) in omega arith) in
    let idles : length (idle_cycle n) ≡ suc (4 * n) = (let e = length_mapped (λ i. false) 0 (4 * n) in omega arith) in
    (loads, (idles, (idles, (idles, (idles, (idles, (idles, (idles, tt))))))))

pub stimulus_is_read : (n inputs : ℕ) → inputs ≡ suc (4 * n) → stimulus_of inputs (demo_stimulus n) ≡ Ok (demo_stream n)
stimulus_is_read n inputs e = ap (λ k. stimulus_of k (demo_stimulus n)) e ∙ stream_back (4 * n) 1 0 (demo_stream n) (stream_is_wide n) (lit≤ tt)
