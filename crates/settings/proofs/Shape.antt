-- What holds of all settings that are read.
use Rattle.std.proofs.Common.{◌≡◌, ℕ, ◌≤◌, Bool, true, false, List, length, map, nat_cmp, Option, None, Some, Ok, option_map, refl, sym, subst, arith}
use Rattle.std.specs.Prelude.{◌&&◌, nat_le, if◌then◌else◌, IfSome, ok_or, codes}
use Rattle.std.specs.Bool.{then_some}
use Rattle.std.specs.Cmp.Lexicographic.{slice_cmp}
use Rattle.std.specs.List.{AllByRecursion}
use Rattle.std.specs.List.Sorted.{IsStrictlySortedBy}
use Rattle.std.proofs.lemmas.Bool.Decides.{nat_tests}
use Rattle.netlist_spec.specs.Digits.{each_gives}
use Rattle.netlist_spec.specs.Netlist.{Name, IsName}
use Rattle.netlist_spec.specs.Covers.{NamedTable, NamedLinear, IsLibrary}
use Rattle.guard_spec.specs.SettingsFile.{bad_value, as_items, as_text, name_of, word_of, words_of, then_gives, AreWordNames, IsSettings, optional}
use Rattle.guard_spec.specs.Codes.{IsCode, data_places}
use Rattle.settings.specs.declared.types.Settings.TheInside.{Inside}
use Rattle.settings.specs.Types.{settings_in, library_in, words_in}
use Rattle.toml.specs.Data.{Data, Members, get_member}
use Rattle.sbox_table.specs.Named.{named_table_of}
use Rattle.linear_layer.specs.Named.{named_linear_of}
use Rattle.settings.proofs.EachEntry.{map_twice}
use Rattle.settings.proofs.Gives.{gives_each, gives_length}

name_from : (o : Option (List ℕ)) (n : Name) → then_gives o (λ text. then_some (nat_le 1 (length text) && nat_le (length text) 255) text) ≡ Some n → IsName n
name_from None n e = cc
name_from (Some text) n e = at (nat_le 1 (length text)) (nat_le (length text) 255) refl refl
  where
    at : (a b : Bool) → nat_le 1 (length text) ≡ a → nat_le (length text) 255 ≡ b → IsName n
    at true true p q =
        let some : then_some true text ≡ Some n = rw (p, q) at e in
        let same : text ≡ n = cc in
        let low : 1 ≤ length text = grind (arith, nat_tests) in
        let high : length text ≤ 255 = grind (arith, nat_tests) in
        rw (← same) (omega arith, high)
    at true false p q =
        let no : then_some false text ≡ Some n = rw (p, q) at e in
        cc
    at false b p q =
        let no : then_some (false && nat_le (length text) 255) text ≡ Some n = rw p at e in
        cc

abbrev IsWord : ℕ → List Name → Type 0
IsWord k w = (1 ≤ length w) × (length w ≤ k) × AllByRecursion IsName w

word_from : (k : ℕ) (o : Option (List Data)) (w : List Name) → then_gives o (λ ds. if nat_le 1 (length ds) && nat_le (length ds) k then each_gives name_of ds else None) ≡ Some w → IsWord k w
word_from k None w e = cc
word_from k (Some ds) w e = at (nat_le 1 (length ds)) (nat_le (length ds) k) refl refl
  where
    at : (a b : Bool) → nat_le 1 (length ds) ≡ a → nat_le (length ds) k ≡ b → IsWord k w
    at true true p q =
        let all : each_gives name_of ds ≡ Some w = rw (p, q) at e in
        let same = gives_length name_of ds w all in
        let low : 1 ≤ length ds = grind (arith, nat_tests) in
        let high : length ds ≤ k = grind (arith, nat_tests) in
        (omega arith, omega arith, gives_each name_of IsName (λ d n h. name_from (as_text d) n h) ds w all)
    at true false p q =
        let no : None ≡ Some w = rw (p, q) at e in
        cc
    at false b p q =
        let no : None ≡ Some w = rw p at e in
        cc

words_from : (k : ℕ) (o : Option (List Data)) (ws : List (List Name)) → then_gives o (each_gives (word_of k)) ≡ Some ws → AreWordNames k ws
words_from k None ws e = cc
words_from k (Some ds) ws e = gives_each (word_of k) (IsWord k) (λ d w h. word_from k (as_items d) w h) ds ws e

optional_from : (k : ℕ) (key : List ℕ) (o : Option (List (List Name))) (ws : Option (List (List Name))) → ok_or (option_map (λ x. Some x) o) (bad_value key) ≡ Ok ws → ((given : List (List Name)) → o ≡ Some given → AreWordNames k given) → IfSome ws (AreWordNames k)
optional_from k key None ws e holds = cc
optional_from k key (Some given) ws e holds =
    let same : Some given ≡ ws = cc in
    rw (← same) (holds given refl)

optional_words : (k : ℕ) (key : List ℕ) (doc : Members) (ws : Option (List (List Name))) → optional key key (words_of k) doc ≡ Ok ws → IfSome ws (AreWordNames k)
optional_words k key doc ws e = at (get_member key doc) refl
  where
    at : (o : Option Data) → get_member key doc ≡ o → IfSome ws (AreWordNames k)
    at None p =
        let found : Ok None ≡ Ok ws = rw p at e in
        let same : None ≡ ws = cc in
        rw (← same) tt
    at (Some d) p =
        let found : ok_or (option_map (λ x. Some x) (words_of k d)) (bad_value key) ≡ Ok ws = rw p at e in
        optional_from k key (words_of k d) ws found (λ given h. words_from k (as_items d) given h)

-- the settings that are made of what the keys give
pub made_settings : (s : Inside) (k j : ℕ) (doc : Members) → (1 ≤ s.bound) × (s.bound ≤ 16) → IsCode s.code → k ≡ data_places s.code → j ≡ data_places s.code
    → optional (codes "state_words") (codes "state_words") (words_of k) doc ≡ Ok (option_map words_in s.state_words)
    → optional (codes "output_words") (codes "output_words") (words_of j) doc ≡ Ok (option_map words_in s.output_words)
    → IsLibrary (library_in s.tables s.linears) → IsStrictlySortedBy (slice_cmp nat_cmp) (map (λ t. t.name) s.tables.items) → IsStrictlySortedBy (slice_cmp nat_cmp) (map (λ l. l.name) s.linears.items)
    → IsSettings (settings_in s)
made_settings s k j doc bound code ks js states outs library tables_up linears_up =
    record {
      bound = bound;
      code = code;
      state_words = subst (λ (n : ℕ). IfSome (option_map words_in s.state_words) (AreWordNames n)) ks (optional_words k (codes "state_words") doc (option_map words_in s.state_words) states);
      output_words = subst (λ (n : ℕ). IfSome (option_map words_in s.output_words) (AreWordNames n)) js (optional_words j (codes "output_words") doc (option_map words_in s.output_words) outs);
      library = library;
      table_order = subst (IsStrictlySortedBy (slice_cmp nat_cmp)) (sym (map_twice named_table_of (λ (t : NamedTable). t.name) s.tables.items)) tables_up;
      linear_order = subst (IsStrictlySortedBy (slice_cmp nat_cmp)) (sym (map_twice named_linear_of (λ (l : NamedLinear). l.name) s.linears.items)) linears_up;
    }
