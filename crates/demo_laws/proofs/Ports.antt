-- The data inputs of the demo design, its settings, and its one layout.
use Rattle.std.proofs.Common.{◌≡◌, refl, sym, ◌∙◌, ap, ap₂, ℕ, zero, suc, ◌+◌, ◌*◌, ◌≤◌, List, [], ◌∷◌, ◌++◌, map, filter, length, not, Ok, arith, lit≤, lit<}
use Rattle.std.proofs.lemmas.List.{append-nil}
use Rattle.std.specs.Str.{chars, is_utf8}
use Rattle.std.specs.List.{range_with_len}
use Rattle.std.specs.List.Sorted.{IsStrictlySortedBy}
use Rattle.toml.proofs.OnLiterals.{toml_on_literals}
use Rattle.netlist_spec.specs.Netlist.{Name, stands_in}
use Rattle.netlist_spec.specs.Models.{data_inputs, output_nets, latch_outputs}
use Rattle.netlist_spec.specs.Placed.{port_names}
use Rattle.guard_spec.specs.SettingsFile.{settings_of_bytes, IsSettings}
use Rattle.guard_spec.specs.Words.{Words, Layout, AreTakenBy, IsLayout, all_numbers}
use Rattle.program_spec.specs.Demo.{demo_settings}
use Rattle.demo_laws.specs.DemoFile.{loaded, shown, stored, word_of, demo_words, demo_layout, input_names, output_names, demo_model}
use Rattle.demo_laws.specs.DemoFiles.{demo_settings_text}
use Rattle.demo_laws.proofs.Ranges.{length_mapped}
use Rattle.demo_laws.proofs.Drivers.{ports_named}
use Rattle.demo_laws.proofs.Latches.{latch_outputs_are}
use Rattle.demo_laws.proofs.Sound.{clocks_none}
use Rattle.std.proofs.lemmas.List.FromFn.{length-range_with_len}

all_kept : (ns : List Name) → filter (λ x. not (stands_in x [])) ns ≡ ns
all_kept [] = refl
all_kept (n ∷ ns) = ap (λ l. n ∷ l) (all_kept ns)

pub inputs_are : (n : ℕ) → data_inputs (demo_model n) ≡ input_names n
inputs_are n =
    ap (λ cs. filter (λ x. not (stands_in x cs)) (port_names (demo_model n).inputs)) (clocks_none n) ∙ all_kept (port_names (demo_model n).inputs) ∙ ports_named 2 (input_names n)

pub outputs_are : (n : ℕ) → output_nets (demo_model n) ≡ output_names n
outputs_are n = ports_named 3 (output_names n)

pub input_count : (n : ℕ) → length (data_inputs (demo_model n)) ≡ suc (4 * n)
input_count n = ap length (inputs_are n) ∙ (let e = length_mapped loaded 0 (4 * n) in omega arith)

-- ---- settings

pub text_is_read : settings_of_bytes demo_settings_text ≡ Ok demo_settings
unfolding toml_on_literals settings_of_bytes is_utf8 chars
text_is_read = refl

pub settings_are : IsSettings demo_settings
unfolding IsStrictlySortedBy
settings_are =
    record {
      bound = (lit≤ tt, lit≤ tt);
      code = record { rows = (lit≤ tt, lit≤ tt); columns = (lit≤ tt, lit≤ tt); full = (refl, (refl, (refl, (refl, tt)))) };
      state_words = tt;
      output_words = tt;
      library = record {
        distinct = refl;
        names = ((lit< tt, lit≤ tt), tt);
        tables = (
          record {
            ins = (lit≤ tt, lit≤ tt);
            outs = (lit≤ tt, lit≤ tt);
            count = refl;
            each = (lit< tt, (lit< tt, (lit< tt, (lit< tt, (lit< tt, (lit< tt, (lit< tt, (lit< tt, (lit< tt, (lit< tt, (lit< tt, (lit< tt, (lit< tt, (lit< tt, (lit< tt, (lit< tt, tt))))))))))))))));
          },
          tt,
        );
        linears = tt;
      };
      table_order = (tt, tt);
      linear_order = tt;
    }

-- ---- words in order are one layout

first_four : (w rest : List ℕ) (a b c d : ℕ) (tail : List ℕ) → length w ≡ 4 → w ++ rest ≡ a ∷ b ∷ c ∷ d ∷ tail → (w ≡ a ∷ b ∷ c ∷ d ∷ []) × (rest ≡ tail)
first_four (p ∷ q ∷ r ∷ s ∷ []) rest a b c d tail e h = (cc h, cc h)
first_four [] rest a b c d tail e h = absurd (omega arith)
first_four (p ∷ []) rest a b c d tail e h = absurd (omega arith)
first_four (p ∷ q ∷ []) rest a b c d tail e h = absurd (omega arith)
first_four (p ∷ q ∷ r ∷ []) rest a b c d tail e h = absurd (omega arith)
first_four (p ∷ q ∷ r ∷ s ∷ t ∷ w) rest a b c d tail e h = absurd (omega arith)

four_more : (a n : ℕ) → range_with_len (4 * a) (4 * suc n) ≡ (4 * a + 0) ∷ (4 * a + 1) ∷ (4 * a + 2) ∷ (4 * a + 3) ∷ range_with_len (4 * (a + 1)) (4 * n)
four_more a n =
    let count : 4 * suc n ≡ suc (suc (suc (suc (4 * n)))) = omega arith in
    ap (range_with_len (4 * a)) count ∙ at (4 * a) (omega arith) (omega arith) (omega arith) (omega arith)
  where
    at : (b : ℕ) → b ≡ 4 * a + 0 → b + 1 ≡ 4 * a + 1 → b + 1 + 1 ≡ 4 * a + 2 → b + 1 + 1 + 1 ≡ 4 * a + 3
        → b ∷ (b + 1) ∷ (b + 1 + 1) ∷ (b + 1 + 1 + 1) ∷ range_with_len (b + 1 + 1 + 1 + 1) (4 * n) ≡ (4 * a + 0) ∷ (4 * a + 1) ∷ (4 * a + 2) ∷ (4 * a + 3) ∷ range_with_len (4 * (a + 1)) (4 * n)
    at b p q r s =
        let t : b + 1 + 1 + 1 + 1 ≡ 4 * (a + 1) = omega arith in
        ap₂ (λ x l. x ∷ l) p (ap₂ (λ x l. x ∷ l) q (ap₂ (λ x l. x ∷ l) r (ap₂ (λ x l. x ∷ l) s (ap (λ k. range_with_len k (4 * n)) t))))

only_words : (words : Words) (a n : ℕ) → AreTakenBy 4 words → all_numbers words ≡ range_with_len (4 * a) (4 * n) → words ≡ map word_of (range_with_len a n)
only_words [] a zero t e = refl
only_words [] a (suc n) t e = absurd (let h : 0 ≡ 4 * suc n = ap length e ∙ length-range_with_len (4 * a) (4 * suc n) in omega arith)
only_words (w ∷ []) a zero t e = absurd (some w t e)
  where
    some : (w : List ℕ) → (1 ≤ length w) × (length w ≤ 4) → w ++ [] ≡ [] → ⊥
    some [] t e = let h = t.0 in omega arith
    some (x ∷ w) t e = cc e
only_words (w ∷ []) a (suc n) t e = last n size (first_four w [] (4 * a + 0) (4 * a + 1) (4 * a + 2) (4 * a + 3) (range_with_len (4 * (a + 1)) (4 * n)) long (e ∙ four_more a n))
  where
    total : length w ≡ 4 * suc n
    total = ap length (sym (append-nil w)) ∙ ap length e ∙ length-range_with_len (4 * a) (4 * suc n)

    long : length w ≡ 4
    long = let a = total in let b = t.1 in omega arith

    size : n ≡ 0
    size = let a = total in let b = t.1 in omega arith

    last : (m : ℕ) → m ≡ 0 → (w ≡ (4 * a + 0) ∷ (4 * a + 1) ∷ (4 * a + 2) ∷ (4 * a + 3) ∷ []) × ([] ≡ range_with_len (4 * (a + 1)) (4 * n)) → w ∷ [] ≡ word_of a ∷ map word_of (range_with_len (a + 1) m)
    last zero z p = ap (λ x. x ∷ []) p.0
    last (suc m) z p = absurd (omega arith)
only_words (w ∷ v ∷ rest) a zero t e = absurd (some w t.0 e)
  where
    some : (w : List ℕ) → length w ≡ 4 → w ++ all_numbers (v ∷ rest) ≡ [] → ⊥
    some [] t e = omega arith
    some (x ∷ w) t e = cc e
only_words (w ∷ v ∷ rest) a (suc n) t e =
    let parts = first_four w (all_numbers (v ∷ rest)) (4 * a + 0) (4 * a + 1) (4 * a + 2) (4 * a + 3) (range_with_len (4 * (a + 1)) (4 * n)) t.0 (e ∙ four_more a n) in
    ap₂ (λ x l. x ∷ l) parts.0 (only_words (v ∷ rest) (a + 1) n t.1 parts.1)

words_are : (n : ℕ) (nets : List Name) (words : Words) → length nets ≡ 4 * n → (all_numbers words ≡ range_with_len 0 (length nets)) × AreTakenBy 4 words → words ≡ demo_words n
words_are n nets words e h = only_words words 0 n h.1 (h.0 ∙ ap (range_with_len 0) e)

pub one_layout : (n : ℕ) (l : Layout) → IsLayout (demo_model n) demo_settings l → l ≡ demo_layout n
one_layout n l is =
    let state = words_are n (latch_outputs (demo_model n)) l.state (ap length (latch_outputs_are n) ∙ length_mapped stored 0 (4 * n)) is.state in
    let output = words_are n (output_nets (demo_model n)) l.output (ap length (outputs_are n) ∙ length_mapped shown 0 (4 * n)) is.output in
    both l.state l.output state output
  where
    both : (s o : Words) → s ≡ demo_words n → o ≡ demo_words n → record { state = s; output = o } ≡ demo_layout n
    both s o p q = λ i. record { state = p i; output = q i }
