-- What stands for the leaves of a source.
use Rattle.std.proofs.Common.{◌≡◌, refl, ◌∙◌, ap, ℕ, ◌+◌, ◌-◌, ◌<◌, ◌≤◌, List, ◌++◌, Some, length, map, get_or, slice_get, arith}
use Rattle.std.specs.Prelude.{option_map}
use Rattle.std.specs.List.{range_with_len}
use Rattle.std.proofs.lemmas.List.FromFn.{length-range_with_len}
use Rattle.std.proofs.lemmas.Option.{slice_get-map, slice_get_read}
use Rattle.gate_net.specs.declared.gate.NetId.{NetId}
use Rattle.gate_net.specs.Gate.{net_number}
use Rattle.cone_split.proofs.Ranges.{get_left, get_right}
use Rattle.correction_laws.proofs.Lists.{get_in_range}

pub data_stands : (inputs : ℕ) (nets : List ℕ) (x : ℕ) → x < inputs → slice_get (range_with_len 0 inputs ++ nets) x ≡ Some x
data_stands inputs nets x h = get_left (range_with_len 0 inputs) nets x x (get_in_range 0 inputs x h ∙ ap (λ (k : ℕ). Some k) (let e : 0 + x ≡ x = omega arith in e))

pub latch_stands : (inputs : ℕ) (nets : List NetId) (x : ℕ) (n : NetId) → inputs ≤ x → x - inputs < length nets → n ≡ get_or nets (x - inputs) n
    → slice_get (range_with_len 0 inputs ++ map net_number nets) x ≡ Some (net_number n)
latch_stands inputs nets x n low h is =
    let at : x ≡ length (range_with_len 0 inputs) + (x - inputs) = let l = length-range_with_len 0 inputs in omega arith in
    ap (λ (k : ℕ). slice_get (range_with_len 0 inputs ++ map net_number nets) k) at
    ∙ get_right (range_with_len 0 inputs) (map net_number nets) (x - inputs)
    ∙ slice_get-map net_number nets (x - inputs)
    ∙ ap (λ o. option_map net_number o) (slice_get_read nets (length nets) (x - inputs) n refl h is)
