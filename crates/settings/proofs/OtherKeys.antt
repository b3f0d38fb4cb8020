-- The first other key of a table.
use Rattle.std.proofs.Common.{◌≡◌, ℕ, Bool, true, false, List, [], ◌∷◌, option_map, String, Global, string_bytes, refl}
use Rattle.std.specs.Prelude.{find}
use Rattle.std.specs.Map.{keys_of}
use Rattle.guard_spec.specs.SettingsFile.{member_list}
use Rattle.toml.specs.Data.{Data}
use Rattle.toml.specs.View.{members_view}
use Rattle.toml.specs.declared.value.Value.{Value}

pub found_key : (p : List ℕ → Bool) (es : List (String Global × Value)) → option_map string_bytes (find (λ (k : String Global). p (string_bytes k)) (keys_of es)) ≡ option_map (λ (m : List ℕ × Data). m.0) (find (λ (m : List ℕ × Data). p m.0) (member_list (members_view es)))
found_key p [] = refl
found_key p (e ∷ es) = at (p (string_bytes e.0)) refl (found_key p es)
  where
    at : (b : Bool) → p (string_bytes e.0) ≡ b → option_map string_bytes (find (λ (k : String Global). p (string_bytes k)) (keys_of es)) ≡ option_map (λ (m : List ℕ × Data). m.0) (find (λ (m : List ℕ × Data). p m.0) (member_list (members_view es))) → option_map string_bytes (find (λ (k : String Global). p (string_bytes k)) (keys_of (e ∷ es))) ≡ option_map (λ (m : List ℕ × Data). m.0) (find (λ (m : List ℕ × Data). p m.0) (member_list (members_view (e ∷ es))))
    at true q later = rw q refl
    at false q later = rw q later
