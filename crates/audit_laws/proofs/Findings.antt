-- What is kept of a cell decides what is found of it.
use Rattle.std.proofs.Common.{◌≡◌, refl, sym, ◌∙◌, ap, subst, ℕ, ◌<◌, ◌≤◌, length, Bool, true, false, not, cond, ◌⊎◌, inl, inr, Option, Some, None, nat_lt, arith}
use Rattle.std.specs.Prelude.{IsTrue, IsSome, slice_get}
use Rattle.netlist_spec.specs.Netlist.{Name, Statement, names, latch, subckt, Model}
use Rattle.netlist_spec.specs.Models.{output_nets}
use Rattle.netlist_spec.specs.CellBits.{Bit, latch_bit, output_bit, stands_before, IsBitOf, IsWide, IsRail, is_rail_name, HasOneBit, HasTwoBits, output_read, IsIndependentCell, Finding, wide, unused, shared, reads_output, IsCell, FindsOf}
use Rattle.audit_laws.specs.FirstBits.{FirstBits, no_bit, one_bit, two_bits, AreFirstBits}
use Rattle.audit_laws.specs.OnePass.{names_rail, is_rail, finding_of_read, finding_of_bits, finding_of, IsNoSubckt, KeptBitsDecide}
use Rattle.audit_laws.proofs.FirstBits.{not_itself, goes_on, not_back}

none_is_not_some : (o : Option Name) → o ≡ None → IsSome o → ⊥
none_is_not_some None e h = let f : false ≡ true = h in cc f
none_is_not_some (Some n) e h = cc e

module _ (m : Model) (s : Statement) where
  pub has_one : (bit : Bit) → AreFirstBits (IsBitOf m s) (one_bit bit) → HasOneBit m s bit
  has_one bit h = record { has = h.0; only = h.1 }

  pub has_two : (one other : Bit) → AreFirstBits (IsBitOf m s) (two_bits one other) → HasTwoBits m s one other
  has_two one other h =
      record { has_one = h.0; has_other = h.1; in_order = h.2; first = λ b has. first b (h.3 b has); second = λ b has behind. second b behind (h.3 b has) }
    where
      itself : (a : Bit) → IsTrue (not (stands_before a a))
      itself a = by_case (stands_before a a) refl
        where
          by_case : (t : Bool) → stands_before a a ≡ t → not t ≡ true
          by_case true e = absurd (not_itself a e)
          by_case false e = refl

      first : (b : Bit) → (b ≡ one) ⊎ ((b ≡ other) ⊎ IsTrue (stands_before other b)) → IsTrue (not (stands_before b one))
      first b (inl e) = subst (λ x. IsTrue (not (stands_before b x))) e (itself b)
      first b (inr (inl e)) = subst (λ x. IsTrue (not (stands_before x one))) (sym e) (ap not (not_back one other h.2))
      first b (inr (inr l)) = ap not (not_back one b (goes_on one other b h.2 l))

      second : (b : Bit) → IsTrue (stands_before one b) → (b ≡ one) ⊎ ((b ≡ other) ⊎ IsTrue (stands_before other b)) → IsTrue (not (stands_before b other))
      second b behind (inl e) = absurd (not_itself b (subst (λ x. stands_before x b ≡ true) (sym e) behind))
      second b behind (inr (inl e)) = subst (λ x. IsTrue (not (stands_before b x))) e (itself b)
      second b behind (inr (inr l)) = ap not (not_back other b l)

  is_a_rail : (bit : Bit) → is_rail m bit ≡ true → IsRail m bit
  is_a_rail (latch_bit i) e = cc e
  is_a_rail (output_bit i) e = by_case (slice_get (output_nets m) i) refl e
    where
      by_case : (o : Option Name) → slice_get (output_nets m) i ≡ o → names_rail o ≡ true → IsRail m (output_bit i)
      by_case None f e = cc e
      by_case (Some n) f e = (n, f, e)

  is_no_rail : (bit : Bit) → is_rail m bit ≡ false → IsRail m bit → ⊥
  is_no_rail (latch_bit i) e r = r
  is_no_rail (output_bit i) e (n, shown, r) = let f : names_rail (slice_get (output_nets m) i) ≡ is_rail_name n = ap names_rail shown in let g : false ≡ true = sym e ∙ (f ∙ r) in cc g

  abbrev Decides : Option Finding → Type 0
  Decides o = (o ≡ None → IsIndependentCell m s) × ((finding : Finding) → o ≡ Some finding → FindsOf m s finding)

  finds : (found : Finding) → FindsOf m s found → Decides (Some found)
  finds found h = ((λ (e : Some found ≡ None). cc e), λ finding e. subst (FindsOf m s) (let d : found ≡ finding = cc e in d) h)

  is_fine : IsIndependentCell m s → Decides None
  is_fine h = ((λ e. h), λ finding e. cc e)

  module _ (cell : Name) (is_cell : IsCell s cell) (narrow : IsWide s → ⊥) where
    by_read : (read : Option Name) → output_read m s ≡ read → (bit : Bit) → HasOneBit m s bit → (rail : Bool) → is_rail m bit ≡ rail → Decides (finding_of_read cell rail read)
    by_read None e bit one rail f = is_fine (record { narrow = narrow; bit = bit; one = one; rails_alone = λ some. absurd (none_is_not_some (output_read m s) e some) })
    by_read (Some net) e bit one true f = is_fine (record { narrow = narrow; bit = bit; one = one; rails_alone = λ some. is_a_rail bit f })
    by_read (Some net) e bit one false f = finds (reads_output net cell) (is_cell, narrow, e, bit, one, is_no_rail bit f)

    by_bits : (read : Option Name) → output_read m s ≡ read → (kept : FirstBits) → AreFirstBits (IsBitOf m s) kept → Decides (finding_of_bits m cell read kept)
    by_bits read e no_bit h = finds (unused cell) (is_cell, narrow, h)
    by_bits read e (one_bit bit) h = by_read read e bit (has_one bit h) (is_rail m bit) refl
    by_bits read e (two_bits one other) h = finds (shared cell one other) (is_cell, narrow, has_two one other h)

is_past : (n : ℕ) → nat_lt 2 n ≡ true → 2 < n
is_past n h = grind arith

is_not_past : (n : ℕ) → nat_lt 2 n ≡ false → 2 < n → ⊥
is_not_past n h g = let e : n ≤ 2 = grind arith in absurd (omega arith)

pub decides : (m : Model) (s : Statement) (kept : FirstBits) → IsNoSubckt s → AreFirstBits (IsBitOf m s) kept → Decides m s (finding_of m s kept)
decides m (names ins out cover) kept none h = by_case (nat_lt 2 (length ins)) refl
  where
    by_case : (b : Bool) → nat_lt 2 (length ins) ≡ b → Decides m (names ins out cover) (cond b (Some (wide out)) (finding_of_bits m out (output_read m (names ins out cover)) kept))
    by_case true e = finds m (names ins out cover) (wide out) (refl, is_past (length ins) e)
    by_case false e = by_bits m (names ins out cover) out refl (is_not_past (length ins) e) (output_read m (names ins out cover)) refl kept h
decides m (latch d q clocking init) kept none h = by_bits m (latch d q clocking init) q refl (λ w. w) None refl kept h
decides m (subckt model binds) kept none h = cc none

-- nothing is found only where one bit is kept
abbrev IsOne : FirstBits → Type 0
IsOne kept = (bit : Bit) × (kept ≡ one_bit bit)

one_of_bits : (m : Model) (cell : Name) (read : Option Name) (kept : FirstBits) → finding_of_bits m cell read kept ≡ None → IsOne kept
one_of_bits m cell read no_bit e = cc e
one_of_bits m cell read (one_bit bit) e = (bit, refl)
one_of_bits m cell read (two_bits one other) e = cc e

pub one_kept_of : (m : Model) (s : Statement) (kept : FirstBits) → IsNoSubckt s → finding_of m s kept ≡ None → IsOne kept
one_kept_of m (names ins out cover) kept none e = by_case (nat_lt 2 (length ins)) e
  where
    by_case : (b : Bool) → cond b (Some (wide out)) (finding_of_bits m out (output_read m (names ins out cover)) kept) ≡ None → IsOne kept
    by_case true e = cc e
    by_case false e = one_of_bits m out (output_read m (names ins out cover)) kept e
one_kept_of m (latch d q clocking init) kept none e = one_of_bits m q None kept e
one_kept_of m (subckt model binds) kept none e = cc none

pub kept_decide : (m : Model) (s : Statement) (kept : FirstBits) → KeptBitsDecide m s kept
kept_decide m s kept none h =
    let d = decides m s kept none h in (
      (λ bit e. has_one m s bit (subst (AreFirstBits (IsBitOf m s)) e h)),
      (λ one other e. has_two m s one other (subst (AreFirstBits (IsBitOf m s)) e h)),
      d.0,
      one_kept_of m s kept none,
      d.1,
    )
