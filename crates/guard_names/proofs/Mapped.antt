-- Labels with numbers and with names in place of them, and the names of labels.
use Rattle.std.proofs.Common.{◌≡◌, refl, ◌∙◌, ap, ap₂, ℕ, zero, suc, ◌+◌, Bool, true, false, List, [], ◌∷◌, ◌++◌, length, map}
use Rattle.std.specs.Prelude.{nat_lt, if◌then◌else◌}
use Rattle.std.specs.List.{flat_map, enumerate_from, range_with_len}
use Rattle.std.proofs.lemmas.List.{map-append}
use Rattle.netlist_spec.specs.Netlist.{Name}
use Rattle.netlist_spec.specs.GuardNames.{store_name, next_name}
use Rattle.netlist_spec.specs.Written.{Label, given, store, next, check, rail, label_name}
use Rattle.imp_text.specs.declared.names.NameId.{NameId}
use Rattle.blif_read.specs.View.{name_at}
use Rattle.guard_spec.specs.Codes.{Code}
use Rattle.guard_spec.specs.Words.{Words}
use Rattle.guard_spec.specs.Shaped.{check_outputs, rail_outputs}
use Rattle.guard_laws.specs.Named.{place_names}
use Rattle.size_laws.specs.Labels.{word_labels}
use Rattle.named_netlist.specs.Labels.{label_of}
use Rattle.named_netlist.specs.declared.label.Label.TheVariants.{Given, Store, Next, Check, Rail}
use Rattle.guard_names.specs.declared.labels.Kind.TheVariants.{Store as ForStore, Next as ForNext}
use Rattle.guard_names.specs.Labels.{beside_gates, state_labels, check_labels, shown_labels}

-- ---- in general

row_mapped : {A B : Type 0} (g : A → B) (f : ℕ → A) (a n : ℕ) → map g (map f (range_with_len a n)) ≡ map (λ i. g (f i)) (range_with_len a n)
row_mapped g f a zero = refl
row_mapped {A} {B} g f a (suc n) = ap (λ (xs : List B). g (f a) ∷ xs) (row_mapped g f (a + 1) n)

rows_mapped : {A B : Type 0} (g : A → B) (f : ℕ → ℕ → A) (places : List ℕ → ℕ) (a : ℕ) (words : Words) → map g (flat_map (λ (word : ℕ × List ℕ). map (f word.0) (range_with_len 0 (places word.1))) (enumerate_from a words))
    ≡ flat_map (λ (word : ℕ × List ℕ). map (λ i. g (f word.0 i)) (range_with_len 0 (places word.1))) (enumerate_from a words)
rows_mapped g f places a [] = refl
rows_mapped {A} {B} g f places a (w ∷ words) =
    map-append g (map (f a) (range_with_len 0 (places w))) (flat_map (λ (word : ℕ × List ℕ). map (f word.0) (range_with_len 0 (places word.1))) (enumerate_from (a + 1) words))
    ∙ ap₂ (λ (xs ys : List B). xs ++ ys) (row_mapped g (f a) 0 (places w)) (rows_mapped g f places (a + 1) words)

pub beside_mapped : {A B : Type 0} (g : A → B) (leaves : ℕ) (xs : List A) (ns : List ℕ) → map g (beside_gates leaves xs ns) ≡ beside_gates leaves (map g xs) ns
beside_mapped g leaves [] ns = refl
beside_mapped g leaves (x ∷ xs) [] = refl
beside_mapped {A} {B} g leaves (x ∷ xs) (n ∷ ns) = by_test (nat_lt n leaves) (beside_mapped g leaves xs ns)
  where
    by_test : (b : Bool) → map g (beside_gates leaves xs ns) ≡ beside_gates leaves (map g xs) ns
        → map g (if b then beside_gates leaves xs ns else x ∷ beside_gates leaves xs ns) ≡ (if b then beside_gates leaves (map g xs) ns else g x ∷ beside_gates leaves (map g xs) ns)
    by_test true e = e
    by_test false e = ap (λ (ys : List B). g x ∷ ys) e

-- ---- from numbers to names

module _ (all : List Name) where
  pub given_mapped : (ids : List NameId) → map (label_of all) (map (λ n. Given n) ids) ≡ map (λ n. given n) (map (name_at all) ids)
  given_mapped [] = refl
  given_mapped (id ∷ ids) = ap (λ l. given (name_at all id) ∷ l) (given_mapped ids)

  pub stores_mapped : (columns : ℕ) (words : Words) → map (label_of all) (state_labels ForStore columns words) ≡ word_labels store (λ w. length w + columns) words
  stores_mapped columns words = rows_mapped (label_of all) (λ w i. Store w i) (λ w. length w + columns) 0 words

  pub nexts_mapped : (columns : ℕ) (words : Words) → map (label_of all) (state_labels ForNext columns words) ≡ word_labels next (λ w. length w + columns) words
  nexts_mapped columns words = rows_mapped (label_of all) (λ w i. Next w i) (λ w. length w + columns) 0 words

  checks_from : (columns a : ℕ) (words : Words) → map (label_of all) (flat_map (λ (word : ℕ). map (Check word) (range_with_len 0 columns)) (range_with_len a (length words)))
      ≡ flat_map (λ (word : ℕ × List ℕ). map (check word.0) (range_with_len 0 columns)) (enumerate_from a words)
  checks_from columns a [] = refl
  checks_from columns a (w ∷ words) =
      map-append (label_of all) (map (Check a) (range_with_len 0 columns)) (flat_map (λ (word : ℕ). map (Check word) (range_with_len 0 columns)) (range_with_len (a + 1) (length words)))
      ∙ ap₂ (λ (xs ys : List Label). xs ++ ys) (row_mapped (label_of all) (Check a) 0 columns) (checks_from columns (a + 1) words)

  pub checks_mapped : (columns : ℕ) (words : Words) → map (label_of all) (check_labels columns (length words)) ≡ word_labels check (λ w. columns) words
  checks_mapped columns words = checks_from columns 0 words

  pub shown_mapped : (ids : List NameId) (columns : ℕ) (words : Words) (rails : ℕ) → map (label_of all) (shown_labels ids columns (length words) rails)
      ≡ map (λ n. given n) (map (name_at all) ids) ++ word_labels check (λ w. columns) words ++ map rail (range_with_len 0 rails)
  shown_mapped ids columns words rails =
      map-append (label_of all) (map (λ n. Given n) ids ++ check_labels columns (length words)) (map (λ i. Rail i) (range_with_len 0 rails))
      ∙ ap₂ (λ (xs ys : List Label). xs ++ ys)
      (map-append (label_of all) (map (λ n. Given n) ids) (check_labels columns (length words)) ∙ ap₂ (λ (xs ys : List Label). xs ++ ys) (given_mapped ids) (checks_mapped columns words))
      (row_mapped (label_of all) (λ i. Rail i) 0 rails)

-- ---- the names of labels

pub given_named : (ns : List Name) → map label_name (map (λ n. given n) ns) ≡ ns
given_named [] = refl
given_named (n ∷ ns) = ap (λ l. n ∷ l) (given_named ns)

pub stores_named : (columns : ℕ) (words : Words) → map label_name (word_labels store (λ w. length w + columns) words) ≡ place_names store_name columns words
stores_named columns words = rows_mapped label_name store (λ w. length w + columns) 0 words

pub nexts_named : (columns : ℕ) (words : Words) → map label_name (word_labels next (λ w. length w + columns) words) ≡ place_names next_name columns words
nexts_named columns words = rows_mapped label_name next (λ w. length w + columns) 0 words

pub checks_named : (code : Code) (words : Words) → map label_name (word_labels check (λ w. code.columns) words) ≡ check_outputs code words
checks_named code words = rows_mapped label_name check (λ w. code.columns) 0 words

pub rails_named : (rails : ℕ) → map label_name (map rail (range_with_len 0 rails)) ≡ rail_outputs rails
rails_named rails = row_mapped label_name rail 0 rails

pub shown_named : (names : List Name) (code : Code) (words : Words) (rails : ℕ)
    → map label_name (map (λ n. given n) names ++ word_labels check (λ w. code.columns) words ++ map rail (range_with_len 0 rails)) ≡ names ++ check_outputs code words ++ rail_outputs rails
shown_named names code words rails =
    map-append label_name (map (λ n. given n) names ++ word_labels check (λ w. code.columns) words) (map rail (range_with_len 0 rails))
    ∙ ap₂ (λ (xs ys : List Name). xs ++ ys)
    (map-append label_name (map (λ n. given n) names) (word_labels check (λ w. code.columns) words) ∙ ap₂ (λ (xs ys : List Name). xs ++ ys) (given_named names) (checks_named code words))
    (rails_named rails)
