-- The netlist of the demo design is short.
use Rattle.std.proofs.Common.{◌≡◌, refl, ap, ℕ, zero, suc, ◌+◌, ◌*◌, ◌≤◌, List, [], ◌∷◌, ◌++◌, map, codes, length, length-append, arith}
use Rattle.std.specs.List.{AllByRecursion, flat_map, join_with_byte, range_with_len}
use Rattle.netlist_spec.specs.Lines.{Word}
use Rattle.netlist_spec.specs.Statements.{Said, model_line, end_line, spelling}
use Rattle.netlist_spec.specs.Text.{line_text}
use Rattle.program_spec.specs.Demo.{state_bits, demo_netlist}
use Rattle.demo_laws.specs.DemoFile.{boxes}
use Rattle.demo_laws.specs.DemoLaws.{IsDemoSize}
use Rattle.demo_laws.proofs.Ranges.{length_mapped}
use Rattle.demo_laws.proofs.Lines.{latch_said, box_said, choices, copies, body, inner_lines, lines_are, IsShort, IsGood, all_good}

joined_short : (ws : List Word) → AllByRecursion (λ w. length w ≤ 16) ws → length (join_with_byte 32 ws) ≤ 17 * length ws
joined_short [] h = omega arith
joined_short (w ∷ []) h = let a = h.0 in omega arith
joined_short (w ∷ v ∷ ws) h =
    let a = h.0 in
    let later = joined_short (v ∷ ws) h.1 in
    let split : length (w ++ 32 ∷ join_with_byte 32 (v ∷ ws)) ≡ length w + length (32 ∷ join_with_byte 32 (v ∷ ws)) = length-append w (32 ∷ join_with_byte 32 (v ∷ ws)) in
    omega arith

line_short : (said : Said) → IsShort said → length (line_text said) ≤ 4387
line_short said h =
    let a = joined_short (spelling said) h.words in
    let b = h.few in
    let c : length (line_text said) ≡ length (join_with_byte 32 (spelling said)) + 1 = length-append (join_with_byte 32 (spelling said)) (10 ∷ []) in
    omega arith

text_short : (ls : List Said) → AllByRecursion IsGood ls → length (flat_map line_text ls) ≤ 4387 * length ls
text_short [] h = omega arith
text_short (l ∷ ls) h =
    let a = line_short l h.0.short in
    let b = text_short ls h.1 in
    let c : length (line_text l ++ flat_map line_text ls) ≡ length (line_text l) + length (flat_map line_text ls) = length-append (line_text l) (flat_map line_text ls) in
    omega arith

choices_count : (n a m : ℕ) → length (choices n (range_with_len a m)) ≡ 3 * m
choices_count n a zero = refl
choices_count n a (suc m) = let e = choices_count n (a + 1) m in omega arith

copies_count : (a m : ℕ) → length (copies (range_with_len a m)) ≡ 2 * m
copies_count a zero = refl
copies_count a (suc m) = let e = copies_count (a + 1) m in omega arith

line_count : (n : ℕ) → length (body n) ≡ 25 * n + 1
line_count n =
    let latches : List Said = map latch_said (state_bits n) in
    let placed_boxes : List Said = map box_said (boxes n) in
    let chosen : List Said = choices n (state_bits n) in
    let copied : List Said = copies (state_bits n) in
    let ending : List Said = end_line ∷ [] in
    let a : length (latches ++ (placed_boxes ++ (chosen ++ (copied ++ ending)))) ≡ length latches + length (placed_boxes ++ (chosen ++ (copied ++ ending))) = length-append latches (placed_boxes ++ (chosen ++ (copied ++ ending))) in
    let b : length (placed_boxes ++ (chosen ++ (copied ++ ending))) ≡ length placed_boxes + length (chosen ++ (copied ++ ending)) = length-append placed_boxes (chosen ++ (copied ++ ending)) in
    let c : length (chosen ++ (copied ++ ending)) ≡ length chosen + length (copied ++ ending) = length-append chosen (copied ++ ending) in
    let d : length (copied ++ ending) ≡ length copied + 1 = length-append copied ending in
    let e : length latches ≡ 4 * n = length_mapped latch_said 0 (4 * n) in
    let f : length placed_boxes ≡ n = length_mapped box_said 0 n in
    let g : length chosen ≡ 3 * (4 * n) = choices_count n 0 (4 * n) in
    let h : length copied ≡ 2 * (4 * n) = copies_count 0 (4 * n) in
    omega arith

pub demo_is_short : (n : ℕ) → IsDemoSize n → length (demo_netlist n) ≤ 8000000
demo_is_short n size =
    let all : List Said = model_line (codes "demo") ∷ inner_lines n in
    let same : length (demo_netlist n) ≡ length (flat_map line_text all) = ap (λ l. length (flat_map line_text l)) (lines_are n) in
    let short = text_short all (all_good n size) in
    let count = line_count n in
    let lines : length all ≡ 3 + length (body n) = omega arith in
    omega (arith, size)
