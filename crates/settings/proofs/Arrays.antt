-- Arrays of values, and words of names.
use Rattle.std.proofs.Common.{◌≡◌, ℕ, ◌-◌, ◌*◌, ◌%◌, ◌^◌, ◌≤◌, Bool, true, false, List, [], ◌∷◌, length, map, Option, None, Some, refl, sym, subst, ◌∙◌, ap, arith}
use Rattle.std.specs.Prelude.{◌&&◌, ◌==◌, nat_le, if◌then◌else◌}
use Rattle.std.proofs.lemmas.Bool.Decides.{nat_tests}
use Rattle.std.proofs.lemmas.List.{length-map}
use Rattle.std.proofs.lemmas.Nat.{shl_whole}
use Rattle.netlist_spec.specs.Digits.{each_gives}
use Rattle.guard_spec.specs.SettingsFile.{item_list, as_items, as_text, then_gives, texts_of, name_of, word_of, words_of, whole_between, values_of}
use Rattle.toml.specs.Data.{Data, string, integer, float, boolean, datetime, array, table, Items, as_array}
use Rattle.toml.specs.View.{view, items_of, items_view}
use Rattle.toml.specs.declared.value.Value.{Value}

items_listed : (ds : List Data) → item_list (items_of ds) ≡ ds
items_listed [] = refl
items_listed (d ∷ ds) = ap (λ (es : List Data). d ∷ es) (items_listed ds)

pub array_at : (d : Data) (vs : List Value) → Some (items_view vs) ≡ as_array d → as_items d ≡ Some (map view vs)
array_at (array ds) vs e =
    let same : items_view vs ≡ ds = cc in
    ap (λ (es : Items). Some (item_list es)) (sym same) ∙ ap (λ (es : List Data). Some es) (items_listed (map view vs))
array_at (string s) vs e = cc
array_at (integer z) vs e = cc
array_at (float x) vs e = cc
array_at (boolean b) vs e = cc
array_at (datetime dt) vs e = cc
array_at (table ms) vs e = cc

gives_at : {A B : Type 0} (o : Option A) (x : A) (f : A → Option B) → o ≡ Some x → then_gives o f ≡ f x
gives_at o x f e = rw e refl

module _ (d : Data) (vs : List Value) (is : Some (items_view vs) ≡ as_array d) where
  pub texts_at : texts_of d ≡ each_gives as_text (map view vs)
  texts_at = gives_at (as_items d) (map view vs) (each_gives as_text) (array_at d vs is)

  pub words_at : (k : ℕ) → words_of k d ≡ each_gives (word_of k) (map view vs)
  words_at k = gives_at (as_items d) (map view vs) (each_gives (word_of k)) (array_at d vs is)

  word_at : (k : ℕ) → word_of k d ≡ (if nat_le 1 (length vs) && nat_le (length vs) k then each_gives name_of (map view vs) else None)
  word_at k =
      gives_at (as_items d) (map view vs) (λ ds. if nat_le 1 (length ds) && nat_le (length ds) k then each_gives name_of ds else None) (array_at d vs is)
      ∙ ap (λ (n : ℕ). if nat_le 1 n && nat_le n k then each_gives name_of (map view vs) else None) (length-map vs view)

  pub word_fits : (k n : ℕ) → n ≡ length vs → true ≡ (nat_le 1 n && nat_le n k) → word_of k d ≡ each_gives name_of (map view vs)
  word_fits k n same h =
      let fits = subst (λ (m : ℕ). true ≡ (nat_le 1 m && nat_le m k)) same h in
      word_at k ∙ ap (λ (b : Bool). if b then each_gives name_of (map view vs) else None) (sym fits)

  pub word_misfits : (k n : ℕ) → n ≡ length vs → false ≡ (nat_le 1 n && nat_le n k) → None ≡ word_of k d
  word_misfits k n same h =
      let misfits = subst (λ (m : ℕ). false ≡ (nat_le 1 m && nat_le m k)) same h in
      sym (word_at k ∙ ap (λ (b : Bool). if b then each_gives name_of (map view vs) else None) (sym misfits))

  values_at : (ins outs : ℕ) → values_of ins outs d ≡ (if length vs == 2 ^ ins then each_gives (whole_between 0 (2 ^ outs - 1)) (map view vs) else None)
  values_at ins outs =
      gives_at (as_items d) (map view vs) (λ ds. if length ds == 2 ^ ins then each_gives (whole_between 0 (2 ^ outs - 1)) ds else None) (array_at d vs is)
      ∙ ap (λ (n : ℕ). if n == 2 ^ ins then each_gives (whole_between 0 (2 ^ outs - 1)) (map view vs) else None) (length-map vs view)

  -- what the shift makes at 64 bits
  power : (ins : ℕ) → ins ≤ 8 → 1 * 2 ^ ins % 2 ^ 64 ≡ 2 ^ ins
  power ins few = shl_whole 1 1 ins 64 (omega arith) (omega arith) ∙ (omega arith)

  pub values_fit : (ins outs n : ℕ) → ins ≤ 8 → n ≡ length vs → n ≡ 1 * 2 ^ ins % 2 ^ 64 → values_of ins outs d ≡ each_gives (whole_between 0 (2 ^ outs - 1)) (map view vs)
  values_fit ins outs n few same h =
      let count : length vs ≡ 2 ^ ins = sym same ∙ (h ∙ power ins few) in
      let test : (length vs == 2 ^ ins) ≡ true = grind (arith, nat_tests) in
      values_at ins outs ∙ ap (λ (b : Bool). if b then each_gives (whole_between 0 (2 ^ outs - 1)) (map view vs) else None) test

  pub values_misfit : (ins outs n : ℕ) → ins ≤ 8 → n ≡ length vs → (n ≡ 1 * 2 ^ ins % 2 ^ 64 → ⊥) → None ≡ values_of ins outs d
  values_misfit ins outs n few same h =
      let apart : length vs ≡ 2 ^ ins → ⊥ = λ e. h (same ∙ (e ∙ sym (power ins few))) in
      let test : (length vs == 2 ^ ins) ≡ false = grind (arith, nat_tests, apart) in
      sym (values_at ins outs ∙ ap (λ (b : Bool). if b then each_gives (whole_between 0 (2 ^ outs - 1)) (map view vs) else None) test)
