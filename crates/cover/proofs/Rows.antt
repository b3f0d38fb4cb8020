-- The gates of rows and covers.
use Rattle.std.proofs.Common.{◌≡◌, sym, ◌∙◌, ap, refl, ℕ, ◌+◌, ◌*◌, ◌<◌, ◌≤◌, Bool, true, false, ◌&&◌, ◌||◌, not, List, [], ◌∷◌, length, map, take, get_or, arith, Option, Some, cond, ap₂, inr}
use Rattle.std.proofs.lemmas.List.{map_more}
use Rattle.std.proofs.lemmas.List.Folds.{list_all-append, list_any-append}
use Rattle.std.specs.Bool.{beq}
use Rattle.std.specs.List.{list_all, list_any, enumerate_from}
use Rattle.netlist_spec.specs.Netlist.{Row, Cover}
use Rattle.netlist_spec.specs.Covers.{has_bit, row_fits, cover_value}
use Rattle.netlist_spec.specs.Gates.{GateList, bit_number}
use Rattle.gate_net.specs.declared.gate.NetId.{NetId}
use Rattle.gate_net.specs.GateNet.{net_count}
use Rattle.imp_text.specs.declared.cover.Row.{Row as TextRow}
use Rattle.reduction.specs.Appended.{Extends, HasBit, ReadsInputsAlone, bit_so_far, nets_joined}
use Rattle.reduction.proofs.GateReads.{reads_further, allowed_joined, allowed_self}
use Rattle.reduction.proofs.Appended.{IsJoined, joined_same, joined_kept, joined_more, answers_before, count_grows, extends_same, extends_further}
use Rattle.reduction.proofs.Inputs.{bits_at, numbered_more}
use Rattle.cover.specs.Cover.{row_of}

and_true : (a : Bool) → (a && true) ≡ a
and_true true = refl
and_true false = refl

or_false : (a : Bool) → (a || false) ≡ a
or_false true = refl
or_false false = refl

fits_more : (row : Row) (v : ℕ → Bool) (ins : List NetId) (i : ℕ) (d : NetId) → i < length ins
    → row_fits row (bits_at v (take (i + 1) ins)) ≡ (row_fits row (bits_at v (take i ins)) && (not (has_bit row.care i) || beq (v (get_or ins i d).0) (has_bit row.value i)))
fits_more row v ins i d h =
    let test : ℕ × Bool → Bool = λ p. not (has_bit row.care p.0) || beq p.1 (has_bit row.value p.0) in
    ap (list_all test) (numbered_more v ins i d h)
    ∙ (list_all-append test (enumerate_from 0 (bits_at v (take i ins))) ((i, v (get_or ins i d).0) ∷ [])
    ∙ ap (λ b. list_all test (enumerate_from 0 (bits_at v (take i ins))) && b) (and_true (test (i, v (get_or ins i d).0))))

-- A product of the inputs in front of one, and this one.
module _ (old now : GateList) (row : Row) (ins : List NetId) (i : ℕ) (d : NetId) (there : i < length ins) (so_far : Option NetId) where
  abbrev Fits : ℕ → (ℕ → Bool) → Bool
  Fits k v = row_fits row (bits_at v (take k ins))

  pub product_same : has_bit row.care i ≡ false → IsJoined old now true so_far (Fits i) → IsJoined old now true so_far (Fits (i + 1))
  product_same care h =
      joined_same old now true so_far (Fits i) (Fits (i + 1))
      (λ v.
      sym
      (fits_more row v ins i d there
      ∙ (ap (λ c. Fits i v && (not c || beq (v (get_or ins i d).0) (has_bit row.value i))) care ∙ and_true (Fits i v))))
      h

  pub product_more : (new : GateList) (op : ℕ) (m : NetId) → has_bit row.care i ≡ true
      → ((a b : Bool) → has_bit op (2 * bit_number a + bit_number b) ≡ (a && beq b (has_bit row.value i)))
      → Extends now new → m.0 ≡ net_count now → net_count new ≡ net_count now + 1
      → HasBit now new m.0 (λ v. has_bit op (2 * bit_number (bit_so_far true so_far v) + bit_number (v (get_or ins i d).0)))
      → IsJoined old now true so_far (Fits i) → IsJoined old new true (Some m) (Fits (i + 1))
  product_more new op m care answer e number count has h =
      joined_more old now new op true so_far m (get_or ins i d).0 (Fits i) (Fits (i + 1)) h e number count has
      (λ v a.
      answer (Fits i v) (v (get_or ins i d).0)
      ∙ sym (fits_more row v ins i d there ∙ ap (λ c. Fits i v && (not c || beq (v (get_or ins i d).0) (has_bit row.value i))) care))

-- Some product of the rows in front of one, and the product of this one.
module _ (old now mid new : GateList) (rows : List TextRow) (ins : List NetId) (i : ℕ) (d : TextRow) (there : i < length rows) (so_far : Option NetId) where
  abbrev Some_fits : ℕ → (ℕ → Bool) → Bool
  Some_fits k v = list_any (λ (r : Row). row_fits r (bits_at v ins)) (map row_of (take k rows))

  rows_more : (v : ℕ → Bool) → Some_fits (i + 1) v ≡ (Some_fits i v || row_fits (row_of (get_or rows i d)) (bits_at v ins))
  rows_more v =
      let test : Row → Bool = λ r. row_fits r (bits_at v ins) in
      ap (list_any test) (map_more row_of rows i d there)
      ∙ (list_any-append test (map row_of (take i rows)) (row_of (get_or rows i d) ∷ [])
      ∙ ap (λ b. Some_fits i v || b) (or_false (test (row_of (get_or rows i d)))))

  pub some_more : (fits m : NetId)
      → Extends now mid → net_count now ≤ fits.0 → HasBit now mid fits.0 (λ v. row_fits (row_of (get_or rows i d)) (bits_at v ins))
      → Extends mid new → (fits.0 ≤ m.0) × (m.0 < net_count new)
      → HasBit mid new m.0 (λ v. bit_so_far false so_far v || v fits.0)
      → IsJoined old now false so_far (Some_fits i) → IsJoined old new false (Some m) (Some_fits (i + 1))
  some_more fits m first own product e place has h =
      let kept = joined_kept old now mid false so_far (Some_fits i) first h in
      let low = count_grows old now h.extends in
      let before = count_grows old mid kept.extends in
      let later = count_grows mid new e in
      record {
        extends = extends_further old mid new kept.extends e;
        appended = (omega arith, place.1);
        has = λ v a.
            let front = answers_before mid new (net_count old) (net_count old) (net_count mid) (net_count new) v e (omega arith) later a in
            has v (answers_before new new (net_count old) (net_count mid) (net_count new) (net_count new) v (extends_same new) before (omega arith) a)
            ∙ (ap₂ (λ (x y : Bool). x || y) (kept.has v front)
            (product v (answers_before mid mid (net_count old) (net_count now) (net_count mid) (net_count mid) v (extends_same mid) low (omega arith) front))
            ∙ sym (rows_more v));
      }

pub some_reads : (old now mid new : GateList) (ins : List ℕ) (so_far : Option NetId) (fits : NetId) (bit : (ℕ → Bool) → Bool)
    → IsJoined old now false so_far bit → ReadsInputsAlone old now ins
    → Extends now mid → net_count now ≤ fits.0 → ReadsInputsAlone now mid ins
    → Extends mid new → ReadsInputsAlone mid new (nets_joined so_far fits)
    → ReadsInputsAlone old new ins
some_reads old now mid new ins so_far fits bit h before first own product e more =
    let grows = count_grows old now h.extends in
    reads_further old mid new ins (nets_joined so_far fits) (extends_further old now mid h.extends first) e
    (allowed_joined ins old now so_far fits h.appended (inr (omega arith)))
    (reads_further old now mid ins ins h.extends first (allowed_self ins (net_count old)) before product)
    more

pub or_answer : (a b : Bool) → has_bit 14 (2 * bit_number a + bit_number b) ≡ (a || b)
or_answer false false = refl
or_answer false true = refl
or_answer true false = refl
or_answer true true = refl

-- The value of a cover, where its rows are on, off, or none.

pub value_on : (cover : Cover) (bits : List Bool) → cover.on ≡ true → cover_value cover bits ≡ list_any (λ row. row_fits row bits) cover.rows
value_on cover bits on = by_rows cover.rows
  where
    by_test : (b : Bool) → cond b cover.on (not cover.on) ≡ b
    by_test true = on
    by_test false = ap not on

    by_rows : (rows : List Row) → cover_value (record cover { rows = rows }) bits ≡ list_any (λ row. row_fits row bits) rows
    by_rows [] = refl
    by_rows (r ∷ rs) = by_test (list_any (λ row. row_fits row bits) (r ∷ rs))

pub value_off : (cover : Cover) (bits : List Bool) → cover.on ≡ false → (length cover.rows ≡ 0 → ⊥) → cover_value cover bits ≡ not (list_any (λ row. row_fits row bits) cover.rows)
value_off cover bits off some = by_rows cover.rows some
  where
    by_test : (b : Bool) → cond b cover.on (not cover.on) ≡ not b
    by_test true = off
    by_test false = ap not off

    by_rows : (rows : List Row) → (length rows ≡ 0 → ⊥) → cover_value (record cover { rows = rows }) bits ≡ not (list_any (λ row. row_fits row bits) rows)
    by_rows [] some = absurd (some refl)
    by_rows (r ∷ rs) some = by_test (list_any (λ row. row_fits row bits) (r ∷ rs))

pub value_none : (cover : Cover) (bits : List Bool) → length cover.rows ≡ 0 → cover_value cover bits ≡ list_any (λ row. row_fits row bits) cover.rows
value_none cover bits none = by_rows cover.rows none
  where
    by_rows : (rows : List Row) → length rows ≡ 0 → cover_value (record cover { rows = rows }) bits ≡ list_any (λ row. row_fits row bits) rows
    by_rows [] none = refl
    by_rows (r ∷ rs) none = absurd (omega arith)

-- the cost of the rows and of an inverse behind them
pub cost_off : (old mid new p q r : ℕ) → r ≡ q → mid ≤ old + r * (p + 2) + 1 → new ≤ mid + 1 → new ≤ old + (2 * q * (p + 1) + 2)
cost_off old mid new p q r e rows one =
    let same : r * (p + 2) ≡ q * (p + 2) = ap (λ n. n * (p + 2)) e in
    omega arith
