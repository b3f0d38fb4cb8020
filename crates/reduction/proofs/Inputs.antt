-- The bits of inputs, one input after another.
use Rattle.std.proofs.Common.{◌≡◌, ◌∙◌, ap, refl, ℕ, zero, suc, ◌+◌, ◌<◌, Bool, List, [], ◌∷◌, ◌++◌, length, map, take, get_or, arith}
use Rattle.std.proofs.lemmas.List.{map_more, length-map, length-take-le}
use Rattle.std.specs.List.{AllByRecursion, enumerate_from}
use Rattle.gate_net.specs.declared.gate.NetId.{NetId}
use Rattle.gate_net.specs.Gate.{net_number}

pub enumerate_push : {X : Type 0} → (k : ℕ) (xs : List X) (y : X) → enumerate_from k (xs ++ y ∷ []) ≡ enumerate_from k xs ++ (k + length xs, y) ∷ []
enumerate_push k [] y = let e : k ≡ k + 0 = omega arith in ap (λ (j : ℕ). (j, y) ∷ []) e
enumerate_push k (x ∷ xs) y =
    let e : k + 1 + length xs ≡ k + length (x ∷ xs) = omega arith in
    ap (λ rest. (k, x) ∷ rest) (enumerate_push (k + 1) xs y ∙ ap (λ (j : ℕ). enumerate_from (k + 1) xs ++ (j, y) ∷ []) e)

-- the bits of nets
abbrev pub bits_at : (ℕ → Bool) → List NetId → List Bool
bits_at v ins = map v (map net_number ins)

pub bits_more : (v : ℕ → Bool) (ins : List NetId) (i : ℕ) (d : NetId) → i < length ins → bits_at v (take (i + 1) ins) ≡ bits_at v (take i ins) ++ v (get_or ins i d).0 ∷ []
bits_more v ins i d h =
    ap (λ (ns : List ℕ). map v ns) (map_more net_number ins i d h)
    ∙ push (map net_number (take i ins))
  where
    push : (ns : List ℕ) → map v (ns ++ (get_or ins i d).0 ∷ []) ≡ map v ns ++ v (get_or ins i d).0 ∷ []
    push [] = refl
    push (x ∷ ns) = ap (λ rest. v x ∷ rest) (push ns)

-- with their places
pub numbered_more : (v : ℕ → Bool) (ins : List NetId) (i : ℕ) (d : NetId) → i < length ins
    → enumerate_from 0 (bits_at v (take (i + 1) ins)) ≡ enumerate_from 0 (bits_at v (take i ins)) ++ (i, v (get_or ins i d).0) ∷ []
numbered_more v ins i d h =
    ap (λ (bs : List Bool). enumerate_from 0 bs) (bits_more v ins i d h)
    ∙ (enumerate_push 0 (bits_at v (take i ins)) (v (get_or ins i d).0)
    ∙ ap (λ (j : ℕ). enumerate_from 0 (bits_at v (take i ins)) ++ (j, v (get_or ins i d).0) ∷ []) long)
  where
    long : 0 + length (bits_at v (take i ins)) ≡ i
    long =
        let a = length-map (map net_number (take i ins)) v in
        let b = length-map (take i ins) net_number in
        let c = length-take-le i ins (omega arith) in
        omega arith

-- what holds of each input holds at each place
pub each_at : (P : ℕ → Type 0) (ins : List NetId) (i : ℕ) (d : NetId) → AllByRecursion P (map net_number ins) → i < length ins → P (get_or ins i d).0
each_at P [] i d all h = absurd (omega arith)
each_at P (x ∷ xs) zero d all h = all.0
each_at P (x ∷ xs) (suc i) d all h = each_at P xs i d all.1 (omega arith)
