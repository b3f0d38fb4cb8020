-- The cost of a bit, and bounds of what it is the sum of.
use Rattle.std.proofs.Common.{◌≡◌, ap, subst, refl, ℕ, zero, suc, ◌+◌, ◌*◌, ◌^◌, ◌≤◌, Bool, true, false, List, [], ◌∷◌, ◌++◌, length, take, arith}
use Rattle.std.specs.List.{range_with_len}
use Rattle.std.proofs.Math.Nat.{mul-le-mul_left, mul-le-mul_right}
use Rattle.std.proofs.Math.Pow.{pow_mono}
use Rattle.std.proofs.lemmas.List.{length-take}
use Rattle.std.proofs.lemmas.List.Elements.{All-from_recursion, All-take, All-weaker}
use Rattle.std.proofs.lemmas.List.FromFn.{length-range_with_len}
use Rattle.std.proofs.lemmas.List.Sums.{sum_by-le, count_by-le-length}
use Rattle.netlist_spec.specs.Netlist.{Name, Model, File}
use Rattle.netlist_spec.specs.Covers.{Library}
use Rattle.netlist_spec.specs.SourceRun.{Bits}
use Rattle.guard_spec.specs.Codes.{Code, IsCode, data_places, weight, detect, correct}
use Rattle.guard_spec.specs.Words.{Words}
use Rattle.guard_spec.specs.Plain.{choose, ones, pattern_count, corrector_cost}
use Rattle.netlist_spec.specs.Cones.{AreMarked, marked_sum, ConeCostOf}
use Rattle.size_laws.specs.Partial.{IsBitCost, NeedsWord}
use Rattle.size_laws.proofs.Partial.{one_value}
use Rattle.size_laws.proofs.SourceCones.{one_cone_cost}

-- ---- one bit

module _ (file : File) (library : Library) (m : Model) (code : Code) (radius : ℕ) (state : Words) (x : Name) (cone : ℕ) (is_cone : ConeCostOf file library m x cone) where
  pub detected_bit : IsBitCost file library m code detect radius state x (2 + cone)
  detected_bit = record { cone = cone; is_cone = is_cone; correctors = 0; are_correctors = refl; total = (let z : 2 + cone ≡ 2 + cone + 0 = omega arith in z) }

  abbrev price : List ℕ → ℕ
  price w = corrector_cost code radius (length w)

  pub corrected_bit : (marks : List Bool) → AreMarked (NeedsWord file library m x) state marks → IsBitCost file library m code correct radius state x (2 + cone + marked_sum (λ w. corrector_cost code radius (length w)) state marks)
  corrected_bit marks are = record { cone = cone; is_cone = is_cone; correctors = marked_sum price state marks; are_correctors = (marks, are, refl); total = refl }

  sum_front : (front rest : Words) (marks all : List Bool) → AreMarked (NeedsWord file library m x) front marks → AreMarked (NeedsWord file library m x) (front ++ rest) all → marked_sum price front marks ≤ marked_sum price (front ++ rest) all
  sum_front [] rest marks all a b = omega arith
  sum_front (w ∷ front) rest [] all a b = absurd a
  sum_front (w ∷ front) rest (mark ∷ marks) [] a b = absurd b
  sum_front (w ∷ front) rest (true ∷ marks) (true ∷ all) a b = let h = sum_front front rest marks all a.1 b.1 in omega arith
  sum_front (w ∷ front) rest (false ∷ marks) (true ∷ all) a b = let h = sum_front front rest marks all a.1 b.1 in omega arith
  sum_front (w ∷ front) rest (false ∷ marks) (false ∷ all) a b = let h = sum_front front rest marks all a.1 b.1 in omega arith
  sum_front (w ∷ front) rest (true ∷ marks) (false ∷ all) a b = let clash : false ≡ true = b.0.1 (a.0.0 refl) in cc clash

  -- a sum of correctors that stops
  pub bit_within : (front rest : Words) (marks : List Bool) (n : ℕ) → state ≡ front ++ rest → AreMarked (NeedsWord file library m x) front marks → IsBitCost file library m code correct radius state x n → 2 + cone + marked_sum (λ w. corrector_cost code radius (length w)) front marks ≤ n
  bit_within front rest marks n split are bit =
      let c = one_value (ConeCostOf file library m x) (one_cone_cost file library m x) cone bit.cone is_cone bit.is_cone in
      let (all, are_all, e) = bit.are_correctors in
      let h = sum_front front rest marks all are (subst (λ (ws : Words). AreMarked (NeedsWord file library m x) ws all) split are_all) in
      let s : marked_sum price state all ≡ marked_sum price (front ++ rest) all = ap (λ (ws : Words). marked_sum price ws all) split in
      let r : bit.correctors ≡ marked_sum price state all = e in
      let t = bit.total in
      omega arith

-- ---- bounds

power_more : (n : ℕ) → 2 ^ suc n ≡ 2 ^ n + 2 ^ n
power_more n = omega arith

choose_within : (n i : ℕ) → choose n i ≤ 2 ^ n
choose_within zero zero = omega arith
choose_within zero (suc i) = omega arith
choose_within (suc n) zero = let h = choose_within n zero in let p = power_more n in omega arith
choose_within (suc n) (suc i) = let h = choose_within n i in let k = choose_within n (suc i) in let p = power_more n in omega arith

patterns_within : (code : Code) (t m : ℕ) → pattern_count code t m ≤ t * 2 ^ (m + code.columns)
patterns_within code t m =
    let h = sum_by-le (λ i. choose (m + code.columns) i) (2 ^ (m + code.columns)) (range_with_len 1 t) (λ k d inside. choose_within (m + code.columns) _) in
    let l = length-range_with_len 1 t in
    subst (λ (n : ℕ). pattern_count code t m ≤ n * 2 ^ (m + code.columns)) l h

products_within : (a b c d : ℕ) → a ≤ b → c ≤ d → a * c ≤ b * d
products_within a b c d h k =
    let first : a * c ≤ b * c = mul-le-mul_right c h in
    let second : b * c ≤ b * d = mul-le-mul_left b k in
    omega arith

ones_within : (code : Code) (m : ℕ) → IsCode code → ones code m ≤ 12 * 16
ones_within code m is =
    let light = All-weaker (λ (row : Bits). length row ≡ code.columns) (λ (row : Bits). weight row ≤ code.columns) (λ row e. let h = count_by-le-length (λ (b : Bool). b) row in omega arith) code.rows (All-from_recursion (λ (row : Bits). length row ≡ code.columns) code.rows is.full) in
    let h = sum_by-le weight code.columns (take m code.rows) (All-take (λ (row : Bits). weight row ≤ code.columns) m code.rows light) in
    let few : length (take m code.rows) ≤ 12 = (let l = length-take m code.rows in let r = is.rows.1 in omega arith) in
    let narrow : code.columns ≤ 16 = is.columns.1 in
    let p = products_within (length (take m code.rows)) 12 code.columns 16 few narrow in
    omega arith

pub corrector_within : (code : Code) (t m : ℕ) → IsCode code → m ≤ data_places code → corrector_cost code t m ≤ 12 * 16 + t * 2 ^ 28 * (16 + t) + 2 * 12 + 1
corrector_within code t m is small =
    let o = ones_within code m is in
    let r = is.rows.1 in
    let c = is.columns.1 in
    let few : m + code.columns ≤ 28 = omega arith in
    let powers : 2 ^ (m + code.columns) ≤ 2 ^ 28 = pow_mono few in
    let patterns = patterns_within code t m in
    let most : t * 2 ^ (m + code.columns) ≤ t * 2 ^ 28 = mul-le-mul_left t powers in
    let all : pattern_count code t m ≤ t * 2 ^ 28 = omega arith in
    let wide : code.columns + t ≤ 16 + t = omega arith in
    let p = products_within (pattern_count code t m) (t * 2 ^ 28) (code.columns + t) (16 + t) all wide in
    omega arith
