-- Tests of words that are lent, and a port word at its first `=`.
use Rattle.std.proofs.Common.{◌≡◌, ◌≤◌, ◌<◌, ◌+◌, ℕ, Bool, true, false, ◌||◌, List, [], ◌∷◌, ◌++◌, length, take, drop, refl, sym, ap, ◌∙◌, arith, None, Some}
use Rattle.std.specs.Prelude.{◌==◌, slice_index_or}
use Rattle.std.specs.List.{list_any, flat_map, position, position_or_len}
use Rattle.std.proofs.lemmas.Grind.{common_steps}
use Rattle.std.proofs.Math.Numerals.{one-add, add-one}
use denote.Ref.{Bor}
use Rattle.netlist_spec.specs.Lines.{Word}
use Rattle.netlist_spec.specs.Netlist.{Name}
use Rattle.netlist_spec.specs.ReadFaults.{has_equals, formal_part, actual_part, parts_of, subckt_kind}
use Rattle.blif_read.specs.LineTests.{words_in, port_parts, is_equals, is_long, any_long}

pub any_words : (p : Word → Bool) (ws : List (Bor Word)) → list_any p (words_in ws) ≡ list_any (λ w. p w.now) ws
any_words p [] = refl
any_words p (w ∷ ws) = ap (λ b. p w.now || b) (any_words p ws)

no_equals : (w : Word) → length w ≤ position_or_len is_equals w → has_equals w ≡ false
no_equals [] h = refl
no_equals (c ∷ w) h = at (c == 61) refl (no_equals w)
  where
    at : (same : Bool) → (c == 61) ≡ same → (length w ≤ position_or_len is_equals w → has_equals w ≡ false) → has_equals (c ∷ w) ≡ false
    at true e rest = absurd (omega (arith, rw e at h))
    at false e rest = rw (e, rest (omega (arith, rw e at h))) refl

cut_at_equals : (w : Word) → position_or_len is_equals w < length w → (has_equals w ≡ true) × (formal_part w ≡ take (position_or_len is_equals w) w) × (actual_part w ≡ drop (position_or_len is_equals w + 1) w)
cut_at_equals [] h = absurd (omega (arith, h))
cut_at_equals (c ∷ w) h = at (c == 61) refl (cut_at_equals w)
  where
    at : (same : Bool) → (c == 61) ≡ same → (position_or_len is_equals w < length w → (has_equals w ≡ true) × (formal_part w ≡ take (position_or_len is_equals w) w) × (actual_part w ≡ drop (position_or_len is_equals w + 1) w)) → (has_equals (c ∷ w) ≡ true) × (formal_part (c ∷ w) ≡ take (position_or_len is_equals (c ∷ w)) (c ∷ w)) × (actual_part (c ∷ w) ≡ drop (position_or_len is_equals (c ∷ w) + 1) (c ∷ w))
    at true e rest = (rw e refl, rw e refl, rw e refl)
    at false e rest =
        let (has, formal, actual) = rest (omega (arith, rw e at h)) in
        (rw e has, rw (e, formal, one-add) refl, rw (e, actual, add-one, add-one, one-add) refl)

pub parts-at_none : (w : Word) → position is_equals w ≡ None → port_parts w ≡ None
parts-at_none w none =
    let far : length w ≤ position_or_len is_equals w = grind (arith, common_steps, none) in
    rw (no_equals w far) refl

pub parts-at : (w : Word) (at : ℕ) → position is_equals w ≡ Some at → port_parts w ≡ Some (take at w, drop (at + 1) w)
parts-at w at some =
    let place : at ≡ position_or_len is_equals w = grind (arith, common_steps, some) in
    let near : position_or_len is_equals w < length w = grind (arith, common_steps, some) in
    let (has, formal, actual) = cut_at_equals w near in
    rw (has, formal, actual, place) refl

any-append : (p : Name → Bool) (ns ms : List Name) → list_any p (ns ++ ms) ≡ (list_any p ns || list_any p ms)
any-append p [] ms = refl
any-append p (n ∷ ns) ms = ap (λ b. p n || b) (any-append p ns ms) ∙ or_assoc (p n) (list_any p ns) (list_any p ms)
  where
    or_assoc : (a b c : Bool) → (a || (b || c)) ≡ ((a || b) || c)
    or_assoc true b c = refl
    or_assoc false b c = refl

pub any_parts : (p : Name → Bool) (ws : List (Bor Word)) → list_any p (flat_map parts_of (words_in ws)) ≡ list_any (λ w. list_any p (parts_of w)) (words_in ws)
any_parts p [] = refl
any_parts p (w ∷ ws) = any-append p (parts_of w.now) (flat_map parts_of (words_in ws)) ∙ ap (λ b. list_any p (parts_of w.now) || b) (any_parts p ws)

pub any_behind : (p : Word → Bool) (ws : List (Bor Word)) → list_any (λ w. p w.now) (drop 1 ws) ≡ list_any p (drop 1 (words_in ws))
any_behind p [] = refl
any_behind p (w ∷ ws) = sym (any_words p ws)

pub subckt_long : (ws : List (Bor Word)) (d : Bor Word) → 0 < length ws → is_long (slice_index_or ws 0 d).now ≡ false → list_any (λ port. list_any is_long (parts_of port.now)) (drop 1 ws) ≡ any_long subckt_kind (words_in ws)
subckt_long [] d some short = absurd (omega arith)
subckt_long (w ∷ ws) d some short =
    any_behind (λ port. list_any is_long (parts_of port)) (w ∷ ws)
    ∙ (sym (any_parts is_long ws) ∙ ap (λ b. b || list_any is_long (flat_map parts_of (words_in ws))) (sym short))
