-- One cell more behind a row of cells.
use Rattle.std.proofs.Common.{◌≡◌, refl, sym, ◌∙◌, ap, subst, ℕ, zero, suc, ◌+◌, ◌<◌, ◌≤◌, List, [], ◌∷◌, ◌++◌, length, get_or, map, take, append_assoc, arith, Some, slice_get, sum, sum_by, ◌-◌}
use Rattle.std.specs.List.{AllByRecursion, AllZip, range_with_len, zip}
use Rattle.std.proofs.lemmas.List.{append-nil, length-append}
use Rattle.std.proofs.lemmas.Option.{slice_get-get_or}
use Rattle.std.proofs.lemmas.List.Sums.{sum_by_push, sum_by-append, sum_by-cons}
use Rattle.netlist_spec.specs.CellBits.{Bit}
use Rattle.netlist_spec.specs.Gates.{GateForm, GateList}
use Rattle.netlist_spec.specs.GateRanges.{Region}
use Rattle.gate_net.specs.declared.gate.NetId.{NetId}
use Rattle.gate_net.specs.Gate.{net_number}
use Rattle.gate_net.specs.GateNet.{net_count}
use Rattle.cone_split.specs.Ranges.{KeepsGates}
use Rattle.guard_laws.specs.Copies.{range_of}
use Rattle.guard_cells.specs.Cells.{AreCells, Cell}

-- ---- gates that are kept

pub keeps_itself : (net : GateList) → KeepsGates net net
keeps_itself net = ([], ap (λ (gs : List GateForm). record net { gates = gs }) (sym (append-nil net.gates)))

pub keeps_on : (old mid net : GateList) → KeepsGates old mid → KeepsGates mid net → KeepsGates old net
keeps_on old mid net a b =
    (a.0 ++ b.0, b.1 ∙ (ap (λ (n : GateList). record n { gates = n.gates ++ b.0 }) a.1 ∙ ap (λ (gs : List GateForm). record old { gates = gs }) (append_assoc old.gates a.0 b.0)))

pub keeps_count : (old net : GateList) → KeepsGates old net → net_count old ≤ net_count net
keeps_count old net (more, same) = let count = ap (λ (n : GateList). net_count n) same in let long = length-append old.gates more in omega arith

-- ---- the cell of a range

pub one_cell : (IsOne : GateList → Region → Type 0) (bit : Bit) (old net : GateList) (n : ℕ) → net_count old ≤ n → net_count net ≡ n + 1 → IsOne net (range_of bit old net) → AreCells IsOne (net_count old) ((bit, n) ∷ []) net
one_cell IsOne bit old net n is_new is_last is =
    let same : net_count net ≡ suc n = omega arith in
    let Range : ℕ → Type 0 = λ end. IsOne net (record { bit = bit; first = net_count old; end = end }) in
    record { ranges = ((omega arith, subst Range same is), tt); end = sym same }

-- ---- lists that get one element more

zip_more : {A B : Type 0} (xs : List A) (ys : List B) (x : A) (y : B) → length xs ≡ length ys → zip (xs ++ x ∷ []) (ys ++ y ∷ []) ≡ zip xs ys ++ (x, y) ∷ []
zip_more [] [] x y same = refl
zip_more [] (b ∷ ys) x y same = absurd (omega arith)
zip_more (a ∷ xs) [] x y same = absurd (omega arith)
zip_more {A} {B} (a ∷ xs) (b ∷ ys) x y same = ap (λ (ps : List (A × B)). (a, b) ∷ ps) (zip_more xs ys x y (omega arith))

-- what stands beside one element more
pub beside_more : {A B : Type 0} (R : A → B → Type 0) (xs : List A) (ys : List B) (y : B) → AllZip R xs (ys ++ y ∷ []) → (front : List A) × (x : A) × (xs ≡ front ++ x ∷ []) × AllZip R front ys × R x y
beside_more R [] [] y all = absurd all
beside_more R [] (b ∷ ys) y all = absurd all
beside_more R (a ∷ []) [] y all = ([], a, refl, tt, all.0)
beside_more R (a ∷ c ∷ xs) [] y all = absurd all.1
beside_more {A} R (a ∷ xs) (b ∷ ys) y all =
    let (front, x, same, rest, last) = beside_more R xs ys y all.1 in (a ∷ front, x, ap (λ (zs : List A). a ∷ zs) same, (all.0, rest), last)

pub beside_length : {A B : Type 0} (R : A → B → Type 0) (xs : List A) (ys : List B) → AllZip R xs ys → length xs ≡ length ys
beside_length R [] [] all = refl
beside_length R [] (y ∷ ys) all = absurd all
beside_length R (x ∷ xs) [] all = absurd all
beside_length R (x ∷ xs) (y ∷ ys) all = ap suc (beside_length R xs ys all.1)

pub front_and_last : {A : Type 0} (xs : List A) (n : ℕ) → length xs ≡ n + 1 → (front : List A) × (x : A) × (xs ≡ front ++ x ∷ []) × (length front ≡ n)
front_and_last [] n long = absurd (omega arith)
front_and_last (a ∷ []) n long = ([], a, refl, omega arith)
front_and_last (a ∷ b ∷ xs) zero long = absurd (omega arith)
front_and_last {A} (a ∷ b ∷ xs) (suc n) long =
    let (front, x, same, many) = front_and_last (b ∷ xs) n (omega arith) in (a ∷ front, x, ap (λ (zs : List A). a ∷ zs) same, ap suc many)

pub get_front : {A : Type 0} (xs ys : List A) (i : ℕ) (x : A) → slice_get xs i ≡ Some x → slice_get (xs ++ ys) i ≡ Some x
get_front [] ys i x e = cc e
get_front (a ∷ xs) ys zero x e = e
get_front (a ∷ xs) ys (suc i) x e = get_front xs ys i x e

pub get_last : {A : Type 0} (xs : List A) (x : A) → slice_get (xs ++ x ∷ []) (length xs) ≡ Some x
get_last [] x = refl
get_last (a ∷ xs) x = get_last xs x

pub take_next : {A : Type 0} (xs : List A) (i : ℕ) (x : A) → slice_get xs i ≡ Some x → take (i + 1) xs ≡ take i xs ++ x ∷ []
take_next [] i x e = cc e
take_next {A} (y ∷ xs) zero x e = let same : y ≡ x = cc e in ap (λ (z : A). z ∷ []) same
take_next {A} (y ∷ xs) (suc i) x e =
    ap (λ (n : ℕ). take n (y ∷ xs)) (let z : suc i + 1 ≡ suc (i + 1) = omega arith in z) ∙ ap (λ (ys : List A). y ∷ ys) (take_next xs i x e)

pub all_at : {A : Type 0} (P : A → Type 0) (xs : List A) (i : ℕ) (x : A) → AllByRecursion P xs → slice_get xs i ≡ Some x → P x
all_at P [] i x all e = cc e
all_at P (y ∷ xs) zero x all e = let same : y ≡ x = cc e in subst P same all.0
all_at P (y ∷ xs) (suc i) x all e = all_at P xs i x all.1 e

pub all_below : (a b : ℕ) (xs : List ℕ) → a ≤ b → AllByRecursion (λ n. n < a) xs → AllByRecursion (λ n. n < b) xs
all_below a b [] h all = tt
all_below a b (x ∷ xs) h all = (let l = all.0 in omega arith, all_below a b xs h all.1)

get_map : {A B : Type 0} (f : A → B) (xs : List A) (i : ℕ) (x : A) → slice_get xs i ≡ Some x → slice_get (map f xs) i ≡ Some (f x)
get_map f [] i x e = cc e
get_map {A} {B} f (a ∷ xs) zero x e = let same : a ≡ x = cc e in ap (λ (y : A). Some (f y)) same
get_map f (a ∷ xs) (suc i) x e = get_map f xs i x e

-- the number at a place of some nets
pub number_at : (nets : List NetId) (i : ℕ) (d : NetId) → i < length nets → slice_get (map net_number nets) i ≡ Some (get_or nets i d).0
number_at nets i d below = get_map net_number nets i (get_or nets i d) (slice_get-get_or nets i d below)

-- ---- sums that get one number more

pub part_sum : (f : ℕ → ℕ) (xs : List ℕ) (i x : ℕ) → slice_get xs i ≡ Some x → (sum (map f (take (i + 1) xs)) ≡ sum (map f (take i xs)) + f x) × (sum (map f (take i xs)) + f x ≤ sum (map f xs))
part_sum f [] i x e = cc e
part_sum f (y ∷ xs) zero x e =
    let same : f y ≡ f x = ap f (let s : y ≡ x = cc e in s) in
    let all = sum_by-cons (λ (n : ℕ). n) (f y) (map f xs) in
    let one = sum_by-cons (λ (n : ℕ). n) (f y) [] in
    (omega arith, omega arith)
part_sum f (y ∷ xs) (suc i) x e =
    let (more, within) = part_sum f xs i x e in
    let all = sum_by-cons (λ (n : ℕ). n) (f y) (map f xs) in
    let part = sum_by-cons (λ (n : ℕ). n) (f y) (map f (take i xs)) in
    let next = ap (λ (n : ℕ). sum (map f (take n (y ∷ xs)))) (let z : suc i + 1 ≡ suc (i + 1) = omega arith in z) ∙ sum_by-cons (λ (n : ℕ). n) (f y) (map f (take (i + 1) xs)) in
    (omega arith, omega arith)

range_parts : (first n more : ℕ) → range_with_len first (n + more) ≡ range_with_len first n ++ range_with_len (first + n) more
range_parts first zero more =
    ap (λ (k : ℕ). range_with_len first k) (let e : 0 + more ≡ more = omega arith in e)
    ∙ ap (λ (k : ℕ). range_with_len k more) (let e : first ≡ first + 0 = omega arith in e)
range_parts first (suc n) more =
    ap (λ (k : ℕ). range_with_len first k) (let e : suc n + more ≡ suc (n + more) = omega arith in e)
    ∙ ap (λ (ks : List ℕ). first ∷ ks) (range_parts (first + 1) n more ∙ ap (λ (k : ℕ). range_with_len (first + 1) n ++ range_with_len k more) (let e : (first + 1) + n ≡ first + suc n = omega arith in e))

pub range_sum : (f : ℕ → ℕ) (n : ℕ) → sum_by f (range_with_len 0 (n + 1)) ≡ sum_by f (range_with_len 0 n) + f n
range_sum f n =
    ap (sum_by f) (range_parts 0 n 1 ∙ ap (λ (k : ℕ). range_with_len 0 n ++ k ∷ []) (let e : 0 + n ≡ n = omega arith in e))
    ∙ sum_by_push f (range_with_len 0 n) n

pub range_sum_within : (f : ℕ → ℕ) (n many : ℕ) → n < many → sum_by f (range_with_len 0 n) + f n ≤ sum_by f (range_with_len 0 many)
range_sum_within f n many below =
    let next = range_sum f n in
    let split : many ≡ (n + 1) + (many - (n + 1)) = omega arith in
    let whole = ap (λ (k : ℕ). sum_by f (range_with_len 0 k)) split ∙ (ap (sum_by f) (range_parts 0 (n + 1) (many - (n + 1))) ∙ sum_by-append f (range_with_len 0 (n + 1)) (range_with_len (0 + (n + 1)) (many - (n + 1)))) in
    omega arith

-- ---- a row

module _ (IsOne : GateList → Region → Type 0) (join : (first : ℕ) (cs ds : List Cell) (mid net : GateList) → AreCells IsOne first cs mid → KeepsGates mid net → AreCells IsOne (net_count mid) ds net → AreCells IsOne first (cs ++ ds) net) where
  pub cell_more : (first : ℕ) (bits : List Bit) (nets : List ℕ) (bit : Bit) (n : ℕ) (mid net : GateList) → length bits ≡ length nets → AreCells IsOne first (zip bits nets) mid → KeepsGates mid net → AreCells IsOne (net_count mid) ((bit, n) ∷ []) net
      → AreCells IsOne first (zip (bits ++ bit ∷ []) (nets ++ n ∷ [])) net
  cell_more first bits nets bit n mid net same row kept one =
      subst (λ (cs : List Cell). AreCells IsOne first cs net) (sym (zip_more bits nets bit n same)) (join first (zip bits nets) ((bit, n) ∷ []) mid net row kept one)
