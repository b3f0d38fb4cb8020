-- The stimulus of the demo design is short.
use Rattle.std.proofs.Common.{◌≡◌, refl, ℕ, suc, ◌+◌, ◌*◌, ◌<◌, ◌≤◌, List, [], ◌∷◌, ◌++◌, map, length, length-append, arith}
use Rattle.std.specs.List.{AllByRecursion, flat_map}
use Rattle.std.proofs.lemmas.List.{length-map}
use Rattle.netlist_spec.specs.Statements.{bit_char}
use Rattle.netlist_spec.specs.SourceRun.{Bits, Stream}
use Rattle.program_spec.specs.Demo.{demo_stream}
use Rattle.demo_laws.specs.DemoFiles.{cycle_text, demo_stimulus}
use Rattle.demo_laws.specs.DemoLaws.{IsDemoSize}
use Rattle.demo_laws.proofs.Stimulus.{stream_is_wide}

cycle_length : (x : Bits) → length (cycle_text x) ≡ length x + 1
cycle_length x =
    let a : length (map bit_char x ++ 10 ∷ []) ≡ length (map bit_char x) + 1 = length-append (map bit_char x) (10 ∷ []) in
    let b : length (map bit_char x) ≡ length x = length-map x bit_char in
    omega arith

-- at most 257 inputs
stream_length : (xs : Stream) → AllByRecursion (λ x. length x ≤ 257) xs → length (flat_map cycle_text xs) ≤ 258 * length xs
stream_length [] h = omega arith
stream_length (x ∷ xs) h =
    let a = cycle_length x in
    let b = stream_length xs h.1 in
    let c : length (cycle_text x ++ flat_map cycle_text xs) ≡ length (cycle_text x) + length (flat_map cycle_text xs) = length-append (cycle_text x) (flat_map cycle_text xs) in
    let few = h.0 in
    omega arith

narrow : (k : ℕ) (xs : Stream) → k ≤ 256 → AllByRecursion (λ x. length x ≡ suc k) xs → AllByRecursion (λ x. length x ≤ 257) xs
narrow k [] few h = tt
narrow k (x ∷ xs) few h = (let e = h.0 in omega arith, narrow k xs few h.1)

eight : (n : ℕ) → length (demo_stream n) ≡ 8
eight n = refl

pub stimulus_is_short : (n : ℕ) → IsDemoSize n → length (demo_stimulus n) ≤ 2064
stimulus_is_short n (some, few) =
    let a = stream_length (demo_stream n) (narrow (4 * n) (demo_stream n) (omega arith) (stream_is_wide n)) in
    let b = eight n in
    omega (arith, a, b)
