use Rattle.std.proofs.Common.{◌≡◌, List, ℕ, String, Global, Bor, Option, Some, None, ◌∙◌, ap, tests, rules, option_map, string_bytes, length, refl}
use Rattle.std.specs.Prelude.{not, find}
use Rattle.std.specs.Map.Iter.{TakesFirst, deref}
use Rattle.std.proofs.lemmas.Iterator.Consumers.{YieldsList-from_shown}
use Rattle.std.proofs.lemmas.Iterator.Search.{find_from_yields_List}
use Rattle.netlist_spec.specs.Netlist.{stands_in}
use Rattle.settings.specs.Keys.{keys_in}
use Rattle.settings.proofs.OtherKeys.{found_key}
use Rattle.settings.proofs.keys.other_key.Goals as goal

bytes_of : (r : Option (Bor (String Global))) → option_map (λ (key : Bor (String Global)). string_bytes key.now) r ≡ option_map string_bytes (option_map (deref {X = String Global}) r)
bytes_of None = refl
bytes_of (Some key) = refl

pub returns : goal.returns
returns c =
    let road = YieldsList-from_shown (TakesFirst (deref {X = String Global})) (deref {X = String Global}) (λ (s : List (String Global)). s) (λ s t h. ap length h.0) (λ s x t h. h) c.keys.result in
    let found = find_from_yields_List (λ (k : String Global). not (stands_in (string_bytes k) (keys_in c.args.keys))) _ _ c.find.result c.find.ensures.ran road (λ x b q k. search (rules, tests)) in
    bytes_of c.find.result ∙ (ap (option_map string_bytes) (found ∙ ap (find (λ (k : String Global). not (stands_in (string_bytes k) (keys_in c.args.keys)))) c.keys.ensures.rest) ∙ found_key (λ (k : List ℕ). not (stands_in k (keys_in c.args.keys))) c.args.table.now.entries)
