-- The settings of bytes and of documents.
use Rattle.std.proofs.Common.{◌≡◌, ℕ, Bool, true, false, List, length, map, Option, None, Some, Result, Ok, Err, refl, sym, subst, ap, ◌∙◌}
use Rattle.std.specs.Prelude.{ok_or, codes, IsUtf8}
use Rattle.std.specs.Str.{is_utf8}
use Rattle.std.proofs.lemmas.Str.{IsUtf8-from_is_utf8, is_utf8-from_IsUtf8}
use Rattle.netlist_spec.specs.Covers.{Library, NamedTable, NamedLinear}
use Rattle.netlist_spec.specs.Netlist.{Name}
use Rattle.netlist_spec.specs.SourceRun.{Bits}
use Rattle.guard_spec.specs.Codes.{Code, Mode}
use Rattle.guard_spec.specs.Words.{Settings}
use Rattle.guard_spec.specs.SettingsFile.{SettingsFault, not_toml, bad_shape, as_members, all_of, entries_of, sbox_entry, linear_entry, code_of, ◌>>=◌, texts_of, bit_rows, mode_of, whole_between, words_of, needed, optional, no_other_key, known_keys, settings_of, settings_of_bytes, of_document}
use Rattle.toml.specs.Data.{Members}
use Rattle.toml.specs.Parse.{parse_document}
use Rattle.settings.specs.Faults.{IsFault, IsNoDocument}
use Rattle.settings.specs.Library.{tables_of, linears_of, library_of}
use Rattle.settings.specs.Matrix.{check_of}
use Rattle.settings.proofs.Steps.{then_fails, then_after, then_parts}

of_text : (bytes : List ℕ) → IsUtf8 bytes → settings_of_bytes bytes ≡ of_document (parse_document bytes)
unfolding settings_of_bytes
of_text bytes text = rw (is_utf8-from_IsUtf8 bytes text) refl

pub of_no_text : (bytes : List ℕ) → (IsUtf8 bytes → ⊥) → settings_of_bytes bytes ≡ Err not_toml
unfolding settings_of_bytes
of_no_text bytes no_text = at (is_utf8 bytes) refl
  where
    at : (b : Bool) → is_utf8 bytes ≡ b → settings_of_bytes bytes ≡ Err not_toml
    at true p = absurd (no_text (IsUtf8-from_is_utf8 bytes p))
    at false p = rw p refl

pub of_read : (bytes text : List ℕ) (doc : Members) → IsUtf8 bytes → text ≡ bytes → parse_document text ≡ Some doc → settings_of_bytes bytes ≡ settings_of doc
of_read bytes text doc is_text same read = of_text bytes is_text ∙ ap of_document (subst (λ (t : List ℕ). parse_document t ≡ Some doc) same read)

pub of_no_document : (bytes text : List ℕ) (o : Option SettingsFault) → IsUtf8 bytes → text ≡ bytes → IsNoDocument (parse_document text) o → IsFault (settings_of_bytes bytes) o
of_no_document bytes text None is_text same h = tt
of_no_document bytes text (Some fault) is_text same h =
    of_text bytes is_text
    ∙ (ap of_document (subst (λ (t : List ℕ). parse_document t ≡ None) same h.0) ∙ ap (λ (f : SettingsFault). Err f) (sym h.1))

-- ---- the keys, one after another

then_to : {A B : Type 0} (r : Result A SettingsFault) (f : A → Result B SettingsFault) (x : A) (y : Result B SettingsFault) → r ≡ Ok x → f x ≡ y → (r >>= f) ≡ y
then_to r f x y ok h = rw ok h

regroup : {A B C : Type 0} (r : Result A SettingsFault) (f : A → Result B SettingsFault) (g : B → Result C SettingsFault) → (r >>= (λ x. f x >>= g)) ≡ ((r >>= f) >>= g)
regroup (Ok x) f g = refl
regroup (Err e) f g = refl

then_same : {A B : Type 0} (r : Result A SettingsFault) (f g : A → Result B SettingsFault) → ((x : A) → f x ≡ g x) → (r >>= f) ≡ (r >>= g)
then_same (Ok x) f g same = same x
then_same (Err e) f g same = refl

-- The library of a document: the layers are at fault, or both are given.
pub linears_fail : (doc : Members) (tables : List NamedTable) (o : Option SettingsFault) → tables_of doc ≡ Ok tables → IsFault (linears_of (map (λ t. t.name) tables) doc) o → IsFault (library_of doc) o
linears_fail doc tables o has h = then_after (tables_of doc) _ tables o has (then_fails (linears_of (map (λ t. t.name) tables) doc) _ o h)

pub library_given : (doc : Members) (tables : List NamedTable) (linears : List NamedLinear) → tables_of doc ≡ Ok tables → linears_of (map (λ t. t.name) tables) doc ≡ Ok linears → library_of doc ≡ Ok (record { tables = tables; linears = linears })
library_given doc tables linears has_tables has_linears =
    then_to (tables_of doc) _ tables _ has_tables (then_to (linears_of (map (λ t. t.name) tables) doc) _ linears _ has_linears refl)

module _ (doc : Members) (mode : Mode) (bound : ℕ) (rows : List Bits) (k j : ℕ) (states outs : Option (List (List Name))) (has_mode : needed (codes "mode") (codes "mode") mode_of doc ≡ Ok mode) (has_bound : needed (codes "bound") (codes "bound") (whole_between 1 16) doc ≡ Ok bound) (has_check : check_of doc ≡ Ok rows) (ks : k ≡ length rows) (js : j ≡ length rows) (has_states : optional (codes "state_words") (codes "state_words") (words_of k) doc ≡ Ok states) (has_outs : optional (codes "output_words") (codes "output_words") (words_of j) doc ≡ Ok outs) where
  -- the settings with this library, if there is no other key
  abbrev with_library : Library → Result Settings SettingsFault
  with_library library = do
    _ ← no_other_key (λ key. key) known_keys doc
    Ok (record { mode = mode; bound = bound; code = code_of rows; state_words = states; output_words = outs; library = library })

  abbrev layers_then : List NamedTable → Result Settings SettingsFault
  layers_then tables =
      optional (codes "linear") (codes "linear") as_members doc >>= (λ layers. all_of (linear_entry (map (λ t. t.name) tables)) (entries_of layers) >>= (λ linears. with_library (record { tables = tables; linears = linears })))

  grouped : (optional (codes "sbox") (codes "sbox") as_members doc >>= (λ sboxes. all_of sbox_entry (entries_of sboxes) >>= layers_then)) ≡ (library_of doc >>= with_library)
  grouped =
      regroup (optional (codes "sbox") (codes "sbox") as_members doc) (λ sboxes. all_of sbox_entry (entries_of sboxes)) layers_then
      ∙ (then_same (tables_of doc) layers_then (λ tables. (linears_of (map (λ t. t.name) tables) doc >>= (λ linears. Ok (record { tables = tables; linears = linears }))) >>= with_library) (λ tables.
      regroup (optional (codes "linear") (codes "linear") as_members doc) (λ layers. all_of (linear_entry (map (λ t. t.name) tables)) (entries_of layers)) (λ linears. with_library (record { tables = tables; linears = linears }))
      ∙ regroup (linears_of (map (λ t. t.name) tables) doc) (λ linears. Ok (record { tables = tables; linears = linears })) with_library)
      ∙ regroup (tables_of doc) (λ tables. linears_of (map (λ t. t.name) tables) doc >>= (λ linears. Ok (record { tables = tables; linears = linears }))) with_library)

  library_comes : settings_of doc ≡ (library_of doc >>= with_library)
  library_comes =
      let (texts, found, shaped) = then_parts (needed (codes "check") (codes "check") texts_of doc) (λ texts. ok_or (bit_rows 12 16 texts) bad_shape) rows has_check in
      let state_words = subst (λ (n : ℕ). optional (codes "state_words") (codes "state_words") (words_of n) doc ≡ Ok states) ks has_states in
      let output_words = subst (λ (n : ℕ). optional (codes "output_words") (codes "output_words") (words_of n) doc ≡ Ok outs) js has_outs in
      then_to (needed (codes "mode") (codes "mode") mode_of doc) _ mode _ has_mode
      (then_to (needed (codes "bound") (codes "bound") (whole_between 1 16) doc) _ bound _ has_bound
      (then_to (needed (codes "check") (codes "check") texts_of doc) _ texts _ found
      (then_to (ok_or (bit_rows 12 16 texts) bad_shape) _ rows _ shaped
      (then_to (optional (codes "state_words") (codes "state_words") (words_of (length rows)) doc) _ states _ state_words
      (then_to (optional (codes "output_words") (codes "output_words") (words_of (length rows)) doc) _ outs _ output_words grouped)))))

  pub library_fails : (o : Option SettingsFault) → IsFault (library_of doc) o → IsFault (settings_of doc) o
  library_fails o h = subst (λ (r : Result Settings SettingsFault). IsFault r o) (sym library_comes) (then_fails (library_of doc) with_library o h)

  module _ (library : Library) (has_library : library_of doc ≡ Ok library) where
    pub keys_fail : (o : Option SettingsFault) → IsFault (no_other_key (λ key. key) known_keys doc) o → IsFault (settings_of doc) o
    keys_fail o h =
        subst (λ (r : Result Settings SettingsFault). IsFault r o) (sym library_comes) (then_after (library_of doc) with_library library o has_library (then_fails (no_other_key (λ key. key) known_keys doc) _ o h))

    pub all_given : (code : Code) → code ≡ code_of rows → no_other_key (λ key. key) known_keys doc ≡ Ok tt
        → settings_of doc ≡ Ok (record { mode = mode; bound = bound; code = code; state_words = states; output_words = outs; library = library })
    all_given code made no_other =
        library_comes
        ∙ (then_to (library_of doc) with_library library _ has_library (then_to (no_other_key (λ key. key) known_keys doc) _ tt _ no_other refl)
        ∙ ap (λ (c : Code). let s : Settings = record { mode = mode; bound = bound; code = c; state_words = states; output_words = outs; library = library } in Ok s) (sym made))
