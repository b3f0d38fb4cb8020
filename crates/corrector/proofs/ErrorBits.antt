-- The bits of errors: whether some hit with an error at a place is 1.
use Rattle.std.proofs.Common.{◌≡◌, sym, ◌∙◌, ap, refl, ℕ, zero, suc, ◌+◌, ◌*◌, ◌<◌, ◌≤◌, ◌⊎◌, inl, inr, Bool, true, false, ◌&&◌, ◌||◌, List, [], ◌∷◌, ◌++◌, length, map, get_or, take, Contains, arith}
use Rattle.std.specs.Prelude.{count_by}
use Rattle.std.specs.List.{enumerate_from, list_any}
use Rattle.std.proofs.lemmas.List.{map_push, take_more}
use Rattle.std.proofs.lemmas.List.Folds.{list_any-append}
use Rattle.netlist_spec.specs.Covers.{differ, has_bit}
use Rattle.netlist_spec.specs.Gates.{bit_number}
use Rattle.gate_net.specs.declared.gate.NetId.{NetId}
use Rattle.reduction.proofs.Inputs.{bits_at, numbered_more}
use Rattle.corrector.specs.declared.hits.Hit.{Hit}
use Rattle.cone_split.proofs.Cells.{contains_head, contains_tail}
use Rattle.corrector.specs.Hits.{hit_nets, some_hit, hits_at}

or_none : (a : Bool) → (a || false) ≡ a
or_none true = refl
or_none false = refl

or_assoc : (a b c : Bool) → ((a || b) || c) ≡ (a || (b || c))
or_assoc true b c = refl
or_assoc false b c = refl

or_answer : (a b : Bool) → has_bit 14 (2 * bit_number a + bit_number b) ≡ (a || b)
or_answer false false = refl
or_answer false true = refl
or_answer true false = refl
or_answer true true = refl

pub no_hit : (v : ℕ → Bool) (i never : ℕ) → v never ≡ (v never || some_hit i [] v)
no_hit v i never = sym (or_none (v never))

-- One hit more.
module _ (v : ℕ → Bool) (i never : ℕ) (hits : List Hit) (k : ℕ) (d : Hit) (there : k < length hits) where
  abbrev one : Hit
  one = get_or hits k d

  some_more : some_hit i (take (k + 1) hits) v ≡ (some_hit i (take k hits) v || (has_bit one.error.0 i && v one.net.0))
  some_more =
      let test : Hit → Bool = λ h. has_bit h.error.0 i && v h.net.0 in
      ap (list_any test) (take_more hits k d there)
      ∙ (list_any-append test (take k hits) (one ∷ []) ∙ ap (λ (b : Bool). list_any test (take k hits) || b) (or_none (test one)))

  pub error_more : has_bit one.error.0 i ≡ true
      → has_bit 14 (2 * bit_number (v never || some_hit i (take k hits) v) + bit_number (v one.net.0)) ≡ (v never || some_hit i (take (k + 1) hits) v)
  error_more set =
      or_answer (v never || some_hit i (take k hits) v) (v one.net.0)
      ∙ (or_assoc (v never) (some_hit i (take k hits) v) (v one.net.0)
      ∙ ap (λ (b : Bool). v never || b) (ap (λ (b : Bool). some_hit i (take k hits) v || (b && v one.net.0)) (sym set) ∙ sym some_more))

  pub error_same : has_bit one.error.0 i ≡ false → (v never || some_hit i (take k hits) v) ≡ (v never || some_hit i (take (k + 1) hits) v)
  error_same clear =
      ap (λ (b : Bool). v never || b)
      (sym (some_more ∙ (ap (λ (b : Bool). some_hit i (take k hits) v || (b && v one.net.0)) clear ∙ or_none (some_hit i (take k hits) v))))

-- ---- nets of hits

pub hit_known : (hits : List Hit) (k : ℕ) (d : Hit) → k < length hits → Contains (hit_nets hits) (get_or hits k d).net.0
hit_known [] k d h = absurd (omega arith)
hit_known (x ∷ hits) zero d h = contains_head x.net.0 (hit_nets hits)
hit_known (x ∷ hits) (suc k) d h = contains_tail x.net.0 (get_or hits k d).net.0 (hit_nets hits) (hit_known hits k d (omega arith))

-- ---- how many gates the errors take

pub next_error : (hits : List Hit) (i n : ℕ) → i < n → hits_at (i + 1) hits ≤ hits_at n hits
next_error hits i zero h = absurd (omega arith)
next_error hits i (suc n) h = by_place (order i n) (next_error hits i n)
  where
    order : (i n : ℕ) → (i < n) ⊎ (n ≤ i)
    order i n = grind arith

    by_place : (i < n) ⊎ (n ≤ i) → (i < n → hits_at (i + 1) hits ≤ hits_at n hits) → hits_at (i + 1) hits ≤ hits_at n hits + count_by (λ (x : Hit). has_bit x.error.0 n) hits
    by_place (inl less) earlier = let e = earlier less in omega arith
    by_place (inr last) earlier = let e : suc n ≡ i + 1 = omega arith in let same = ap (λ (k : ℕ). hits_at k hits) e in omega arith

pub hits_at_next : (hits : List Hit) (i : ℕ) → hits_at (i + 1) hits ≡ hits_at i hits + count_by (λ (x : Hit). has_bit x.error.0 i) hits
hits_at_next hits i = ap (λ (k : ℕ). hits_at k hits) (let e : i + 1 ≡ suc i = omega arith in e)

-- ---- a place that is turned

xor_answer : (a b : Bool) → has_bit 6 (2 * bit_number a + bit_number b) ≡ differ b a
xor_answer false false = refl
xor_answer false true = refl
xor_answer true false = refl
xor_answer true true = refl

pub turned : (v : ℕ → Bool) (hits : List Hit) (i never place : ℕ) → v never ≡ false
    → has_bit 6 (2 * bit_number (v never || some_hit i hits v) + bit_number (v place)) ≡ differ (v place) (some_hit i hits v)
turned v hits i never place none = xor_answer (v never || some_hit i hits v) (v place) ∙ ap (λ (b : Bool). differ (v place) (b || some_hit i hits v)) none

pub turned_more : (v : ℕ → Bool) (hits : List Hit) (places : List NetId) (i : ℕ) (d : NetId) → i < length places
    → map (λ (p : ℕ × Bool). differ p.1 (some_hit p.0 hits v)) (enumerate_from 0 (bits_at v (take i places))) ++ differ (v (get_or places i d).0) (some_hit i hits v) ∷ []
    ≡ map (λ (p : ℕ × Bool). differ p.1 (some_hit p.0 hits v)) (enumerate_from 0 (bits_at v (take (i + 1) places)))
turned_more v hits places i d h =
    let f : ℕ × Bool → Bool = λ p. differ p.1 (some_hit p.0 hits v) in
    sym (ap (map f) (numbered_more v places i d h) ∙ map_push f (enumerate_from 0 (bits_at v (take i places))) (i, v (get_or places i d).0))
