-- What a pass keeps, as a table by net number.
use Rattle.std.proofs.Common.{◌≡◌, refl, ◌∙◌, ap, subst, ℕ, zero, suc, ◌+◌, List, [], ◌∷◌, ◌++◌, length, map, Bool, true, false, ◌||◌, ◌&&◌, not, cond, Some, arith}
use Rattle.std.specs.Prelude.{IsTrue, slice_get, slice_set}
use Rattle.std.specs.Cmp.Lexicographic.{bytes_decides}
use Rattle.netlist_spec.specs.Netlist.{Name, same_name, stands_in, are_distinct, Model}
use Rattle.netlist_spec.specs.Models.{Gate, output_nets}
use Rattle.netlist_spec.specs.CellBits.{Bit}
use Rattle.netlist_spec.proofs.OneValue.{passes_both, fails_first}
use Rattle.netlist_spec.proofs.Occurrences.{turn}
use Rattle.audit_laws.specs.FirstBits.{FirstBits, with_bit, merged, named_bits}
use Rattle.audit_laws.specs.Along.{bits_along, bits_partly}
use Rattle.audit_laws.specs.Table.{ReadsSetEntries}
use Rattle.audit_laws.proofs.FirstBits.{named_grow}
use Rattle.audit_laws.proofs.Along.{in_turn}

map_alike : (f h : Name → FirstBits) (names : List Name) → ((n : Name) → f n ≡ h n) → map f names ≡ map h names
map_alike f h [] e = refl
map_alike f h (n ∷ names) e = λ i. e n i ∷ map_alike f h names e i

-- a name that doesn't stand in a list is none of its names
others_alike : (k : Name) (f h : Name → FirstBits) (names : List Name) → stands_in k names ≡ false → ((n : Name) → same_name k n ≡ false → h n ≡ f n) → map h names ≡ map f names
others_alike k f h [] out e = refl
others_alike k f h (n ∷ names) out e =
    let parts = fails_first _ _ out in
    let here : h n ≡ f n = e n parts.0 in
    λ i. here i ∷ others_alike k f h names parts.1 e i

stands_at : (names : List Name) (i : ℕ) (k : Name) → slice_get names i ≡ Some k → stands_in k names ≡ true
stands_at [] i k e = cc e
stands_at (n ∷ names) zero k e = ap (λ (b : Bool). b || stands_in k names) ((bytes_decides k n).1 (let d : k ≡ n = cc e in d))
stands_at (n ∷ names) (suc i) k e = or_true (same_name k n) (stands_at names i k e)
  where
    or_true : (a : Bool) {b : Bool} → b ≡ true → (a || b) ≡ true
    or_true true e = refl
    or_true false e = e

pub one_set : (names : List Name) (i : ℕ) (k : Name) (kept after : Name → FirstBits) (entry : FirstBits) → IsTrue (are_distinct names) → slice_get names i ≡ Some k → after k ≡ entry → ((n : Name) → same_name k n ≡ false → after n ≡ kept n)
    → map after names ≡ slice_set (map kept names) i entry
one_set [] i k kept after entry d e f h = refl
one_set (n ∷ names) zero k kept after entry d e f h =
    let same : n ≡ k = cc e in
    let parts = passes_both _ _ d in
    let out : stands_in k names ≡ false = subst (λ x. stands_in x names ≡ false) same (turn (stands_in n names) parts.0) in
    let here : after n ≡ entry = ap after same ∙ f in
    λ j. here j ∷ others_alike k kept after names out h j
one_set (n ∷ names) (suc i) k kept after entry d e f h =
    let parts = passes_both _ _ d in
    let here : after n ≡ kept n = h n (apart (same_name k n) refl (turn (stands_in n names) parts.0)) in
    let rest = one_set names i k kept after entry parts.1 e f h in
    λ j. here j ∷ rest j
  where
    apart : (b : Bool) → same_name k n ≡ b → stands_in n names ≡ false → b ≡ false
    apart false s out = refl
    apart true s out = let t : stands_in n names ≡ true = subst (λ x. stands_in x names ≡ true) ((bytes_decides k n).0 s) (stands_at names i k e) in cc (out, t)

itself : (n : Name) → same_name n n ≡ true
itself n = (bytes_decides n n).1 refl

pub reads_set : (m : Model) (later : List Gate) (g : Gate) → IsTrue (are_distinct m.names) → ReadsSetEntries m later g
reads_set m later g d =
    record {
      none = map_alike (bits_partly m later g []) (bits_along m later) m.names (λ n. (in_turn m later g n).none);
      one_more = λ done i k e. by_case done i k e (stands_in k (output_nets m)) refl;
      all = refl;
    }
  where
    step : (done : List Name) (k n : Name) → bits_partly m later g (done ++ k ∷ []) n
        ≡ cond (same_name k n && not (stands_in k (output_nets m))) (merged (bits_partly m later g done n) (bits_along m later g.out)) (bits_partly m later g done n)
    step done k n = (in_turn m later g n).one_more done k

    no_change : (b : Bool) (x y : FirstBits) → cond (b && false) x y ≡ y
    no_change true x y = refl
    no_change false x y = refl

    by_case : (done : List Name) (i : ℕ) (k : Name) → slice_get m.names i ≡ Some k → (b : Bool) → stands_in k (output_nets m) ≡ b
        → map (bits_partly m later g (done ++ k ∷ [])) m.names
        ≡ cond b (map (bits_partly m later g done) m.names) (slice_set (map (bits_partly m later g done) m.names) i (merged (bits_partly m later g done k) (bits_along m later g.out)))
    by_case done i k e true o =
        map_alike (bits_partly m later g (done ++ k ∷ [])) (bits_partly m later g done) m.names
        (λ n. step done k n
        ∙ (ap (λ (b : Bool). cond (same_name k n && not b) (merged (bits_partly m later g done n) (bits_along m later g.out)) (bits_partly m later g done n)) o
        ∙ no_change (same_name k n) (merged (bits_partly m later g done n) (bits_along m later g.out)) (bits_partly m later g done n)))
    by_case done i k e false o =
        one_set m.names i k (bits_partly m later g done) (bits_partly m later g (done ++ k ∷ [])) (merged (bits_partly m later g done k) (bits_along m later g.out)) d e
        (step done k k
        ∙ (ap (λ (b : Bool). cond (b && not (stands_in k (output_nets m))) (merged (bits_partly m later g done k) (bits_along m later g.out)) (bits_partly m later g done k)) (itself k)
        ∙ ap (λ (b : Bool). cond (not b) (merged (bits_partly m later g done k) (bits_along m later g.out)) (bits_partly m later g done k)) o))
        (λ n s. step done k n
        ∙ ap (λ (b : Bool). cond (b && not (stands_in k (output_nets m))) (merged (bits_partly m later g done n) (bits_along m later g.out)) (bits_partly m later g done n)) s)

pub named_set : (names : List Name) (kind : ℕ → Bit) (ks : List Name) (kept : Name → FirstBits) (j : ℕ) (k : Name) → IsTrue (are_distinct names) → slice_get names j ≡ Some k
    → map (λ n. named_bits kind 0 (ks ++ k ∷ []) n (kept n)) names
    ≡ slice_set (map (λ n. named_bits kind 0 ks n (kept n)) names) j (with_bit (kind (length ks)) (named_bits kind 0 ks k (kept k)))
named_set names kind ks kept j k d e =
    one_set names j k (λ n. named_bits kind 0 ks n (kept n)) (λ n. named_bits kind 0 (ks ++ k ∷ []) n (kept n)) (with_bit (kind (length ks)) (named_bits kind 0 ks k (kept k))) d e
    (named_grow kind 0 ks k k (kept k)
    ∙ (ap (λ (b : Bool). cond b (with_bit (kind (0 + length ks)) (named_bits kind 0 ks k (kept k))) (named_bits kind 0 ks k (kept k))) (itself k)
    ∙ ap (λ i. with_bit (kind i) (named_bits kind 0 ks k (kept k))) (let f : 0 + length ks ≡ length ks = omega arith in f)))
    (λ n s. named_grow kind 0 ks k n (kept n)
    ∙ ap (λ (b : Bool). cond b (with_bit (kind (0 + length ks)) (named_bits kind 0 ks n (kept n))) (named_bits kind 0 ks n (kept n))) s)
