-- The bound of settings that are read is 1 or more.
use Rattle.std.proofs.Common.{◌≡◌, ℕ, ◌≤◌, Bool, true, false, pos, List, length, map, Option, Some, None, Result, Ok, Err, refl, subst, arith}
use Rattle.std.specs.Prelude.{IfOk, IfSome, negsuc, ◌&&◌, nat_le, ok_or, codes, if◌then◌else◌}
use Rattle.std.specs.Bool.{then_some}
use Rattle.std.specs.Str.{is_utf8}
use Rattle.std.proofs.lemmas.Bool.Decides.{nat_tests}
use Rattle.toml.specs.Data.{Data, string, integer, float, boolean, datetime, array, table, Members, get_member}
use Rattle.toml.specs.Parse.{parse_document}
use Rattle.guard_spec.specs.SettingsFile.{SettingsFault, not_toml, missing, bad_value, bad_shape, ◌>>=◌, all_of, as_members, bit_rows, code_of, entries_of, known_keys, linear_entry, mode_of, needed, no_other_key, optional, sbox_entry, texts_of, whole_between, words_of, settings_of, of_document, settings_of_bytes}
use Rattle.guard_spec.specs.Words.{Settings}

between_bottom : (low high n : ℕ) → IfSome (then_some (nat_le low n && nat_le n high) n) (λ k. low ≤ k)
between_bottom low high n = at (nat_le low n) (nat_le n high) refl
  where
    at : (a b : Bool) → nat_le low n ≡ a → IfSome (then_some (a && b) n) (λ k. low ≤ k)
    at true true p = grind (arith, nat_tests)
    at true false p = tt
    at false b p = tt

whole_bottom : (low high : ℕ) (d : Data) → IfSome (whole_between low high d) (λ k. low ≤ k)
whole_bottom low high (integer (pos n)) = between_bottom low high n
whole_bottom low high (integer (negsuc n)) = tt
whole_bottom low high (string s) = tt
whole_bottom low high (float x) = tt
whole_bottom low high (boolean b) = tt
whole_bottom low high (datetime dt) = tt
whole_bottom low high (array ds) = tt
whole_bottom low high (table ms) = tt

needed_each : {A : Type 0} (P : A → Type 0) (path key : List ℕ) (f : Data → Option A) (ms : Members) → ((d : Data) → IfSome (f d) P) → IfOk (needed path key f ms) P
needed_each {A} P path key f ms each = at (get_member key ms)
  where
    given : (o : Option A) (fault : SettingsFault) → IfSome o P → IfOk (ok_or o fault) P
    given (Some x) fault h = h
    given None fault h = tt

    at : (o : Option Data) → IfOk (ok_or o (missing path) >>= (λ d. ok_or (f d) (bad_value path))) P
    at (Some d) = given (f d) (bad_value path) (each d)
    at None = tt

-- what is said of settings, where some are given
HasBound : Result Settings SettingsFault → Type 0
HasBound r = IfOk r (λ s. 1 ≤ s.bound)

-- It holds whatever an earlier step gives.
then_each : {A : Type 0} (r : Result A SettingsFault) (f : A → Result Settings SettingsFault) → ((x : A) → HasBound (f x)) → HasBound (r >>= f)
unfolding HasBound
then_each (Ok x) f each = each x
then_each (Err e) f each = tt

then_bound : (r : Result ℕ SettingsFault) (f : ℕ → Result Settings SettingsFault) → IfOk r (λ n. 1 ≤ n) → ((n : ℕ) → 1 ≤ n → HasBound (f n)) → HasBound (r >>= f)
unfolding HasBound
then_bound (Ok n) f holds each = each n holds
then_bound (Err e) f holds each = tt

of_settings : (s : Settings) → 1 ≤ s.bound → HasBound (Ok s)
unfolding HasBound
of_settings s some = some

of_document_bound : (doc : Members) → HasBound (settings_of doc)
of_document_bound doc =
    then_each (needed (codes "mode") (codes "mode") mode_of doc) _ (λ mode.
    then_bound (needed (codes "bound") (codes "bound") (whole_between 1 16) doc) _ (needed_each (λ n. 1 ≤ n) (codes "bound") (codes "bound") (whole_between 1 16) doc (whole_bottom 1 16)) (λ bound some.
    then_each (needed (codes "check") (codes "check") texts_of doc) _ (λ texts.
    then_each (ok_or (bit_rows 12 16 texts) bad_shape) _ (λ rows.
    then_each (optional (codes "state_words") (codes "state_words") (words_of (length rows)) doc) _ (λ states.
    then_each (optional (codes "output_words") (codes "output_words") (words_of (length rows)) doc) _ (λ outs.
    then_each (optional (codes "sbox") (codes "sbox") as_members doc) _ (λ sboxes.
    then_each (all_of sbox_entry (entries_of sboxes)) _ (λ tables.
    then_each (optional (codes "linear") (codes "linear") as_members doc) _ (λ layers.
    then_each (all_of (linear_entry (map (λ t. t.name) tables)) (entries_of layers)) _ (λ linears.
    then_each (no_other_key (λ key. key) known_keys doc) _ (λ other. of_settings (record { mode = mode; bound = bound; code = code_of rows; state_words = states; output_words = outs; library = record { tables = tables; linears = linears } }) some)))))))))))

of_bytes : (bytes : List ℕ) → HasBound (settings_of_bytes bytes)
unfolding HasBound settings_of_bytes
of_bytes bytes = at (is_utf8 bytes) (parse_document bytes)
  where
    at : (b : Bool) (o : Option Members) → IfOk (if b then of_document o else Err not_toml) (λ s. 1 ≤ s.bound)
    at true (Some doc) = of_document_bound doc
    at true None = tt
    at false o = tt

pub some_bound : (bytes : List ℕ) (s : Settings) → settings_of_bytes bytes ≡ Ok s → 1 ≤ s.bound
unfolding HasBound
some_bound bytes s is = subst HasBound is (of_bytes bytes)
