-- What holds of the entries of the library that are read.
use Rattle.std.proofs.Common.{◌≡◌, ℕ, ◌-◌, ◌^◌, ◌<◌, ◌≤◌, Bool, true, false, pos, List, [], ◌∷◌, length, Option, None, Some, Result, Ok, Err, refl, sym, ap, ◌∙◌, arith}
use Rattle.std.specs.Prelude.{negsuc, ◌&&◌, ◌==◌, nat_le, if◌then◌else◌, ok_or, codes}
use Rattle.std.specs.Bool.{then_some}
use Rattle.std.specs.List.{AllByRecursion}
use Rattle.std.proofs.lemmas.Bool.Decides.{nat_tests}
use Rattle.std.proofs.lemmas.Nat.{pow_pos}
use Rattle.netlist_spec.specs.Digits.{each_gives}
use Rattle.netlist_spec.specs.Netlist.{Name, stands_in}
use Rattle.netlist_spec.specs.Covers.{NamedTable, NamedLinear, IsTable}
use Rattle.guard_spec.specs.SettingsFile.{SettingsFault, missing, bad_value, as_items, then_gives, whole_between, values_of, layer_of, needed, no_other_key, dotted, entry_members, sbox_entry, linear_entry}
use Rattle.toml.specs.Data.{Data, string, integer, float, boolean, datetime, array, table, Members, get_member}
use Rattle.settings.proofs.Gives.{gives_each, gives_length}
use Rattle.settings.proofs.Steps.{then_parts}

ok_same : {A : Type 0} {x y : A} → ◌≡◌ {A = Result A SettingsFault} (Ok x) (Ok y) → x ≡ y
ok_same h = cc

pub sbox_name : (e : List ℕ × Data) (t : NamedTable) → sbox_entry e ≡ Ok t → t.name ≡ e.0
sbox_name e t h =
    let (ms, _, h1) = then_parts (entry_members (dotted (codes "sbox") e.0) e.0 e.1) _ t h in
    let (ins, _, h2) = then_parts (needed (dotted (dotted (codes "sbox") e.0) (codes "inputs")) (codes "inputs") (whole_between 1 8) ms) _ t h1 in
    let (outs, _, h3) = then_parts (needed (dotted (dotted (codes "sbox") e.0) (codes "outputs")) (codes "outputs") (whole_between 1 8) ms) _ t h2 in
    let (values, _, h4) = then_parts (needed (dotted (dotted (codes "sbox") e.0) (codes "values")) (codes "values") (values_of ins outs) ms) _ t h3 in
    let (_, _, h5) = then_parts (no_other_key (dotted (dotted (codes "sbox") e.0)) (codes "inputs" ∷ codes "outputs" ∷ codes "values" ∷ []) ms) _ t h4 in
    ap (λ (made : NamedTable). made.name) (sym (ok_same h5))

pub linear_name : (taken : List Name) (e : List ℕ × Data) (l : NamedLinear) → linear_entry taken e ≡ Ok l → (l.name ≡ e.0) × (stands_in e.0 taken ≡ false)
linear_name taken e l h = at (stands_in e.0 taken) refl
  where
    at : (b : Bool) → stands_in e.0 taken ≡ b → (l.name ≡ e.0) × (stands_in e.0 taken ≡ false)
    at true p = let no : Err (bad_value (dotted (codes "linear") e.0)) ≡ Ok l = rw p at h in cc
    at false p =
        let h0 = rw p at h in
        let (ms, _, h1) = then_parts (entry_members (dotted (codes "linear") e.0) e.0 e.1) _ l h0 in
        let (layer, _, h2) = then_parts (needed (dotted (dotted (codes "linear") e.0) (codes "rows")) (codes "rows") layer_of ms) _ l h1 in
        let (_, _, h3) = then_parts (no_other_key (dotted (dotted (codes "linear") e.0)) (codes "rows" ∷ []) ms) _ l h2 in
        (ap (λ (made : NamedLinear). made.name) (sym (ok_same h3)), p)

-- ---- tables

between_top : (low high n y : ℕ) → then_some (nat_le low n && nat_le n high) n ≡ Some y → y ≤ high
between_top low high n y e = at (nat_le low n) (nat_le n high) refl refl
  where
    at : (a b : Bool) → nat_le low n ≡ a → nat_le n high ≡ b → y ≤ high
    at true true p q =
        let some : then_some true n ≡ Some y = rw (p, q) at e in
        let same : n ≡ y = cc in
        let within : n ≤ high = grind (arith, nat_tests) in
        omega arith
    at true false p q = let no : then_some false n ≡ Some y = rw (p, q) at e in cc
    at false b p q = let no : then_some (false && nat_le n high) n ≡ Some y = rw p at e in cc

whole_top : (low high : ℕ) (d : Data) (y : ℕ) → whole_between low high d ≡ Some y → y ≤ high
whole_top low high (integer (pos n)) y e = between_top low high n y e
whole_top low high (integer (negsuc n)) y e = cc
whole_top low high (string s) y e = cc
whole_top low high (float x) y e = cc
whole_top low high (boolean b) y e = cc
whole_top low high (datetime dt) y e = cc
whole_top low high (array ds) y e = cc
whole_top low high (table ms) y e = cc

below_power : (outs y : ℕ) → y ≤ 2 ^ outs - 1 → y < 2 ^ outs
below_power outs y h = let some : 0 < 2 ^ outs = pow_pos outs in omega arith

rows_of_items : (ins outs : ℕ) (o : Option (List Data)) (rows : List ℕ) → then_gives o (λ ds. if length ds == 2 ^ ins then each_gives (whole_between 0 (2 ^ outs - 1)) ds else None) ≡ Some rows
    → (length rows ≡ 2 ^ ins) × AllByRecursion (λ n. n < 2 ^ outs) rows
rows_of_items ins outs None rows e = cc
rows_of_items ins outs (Some ds) rows e = at (length ds == 2 ^ ins) refl
  where
    at : (b : Bool) → (length ds == 2 ^ ins) ≡ b → (length rows ≡ 2 ^ ins) × AllByRecursion (λ n. n < 2 ^ outs) rows
    at true p =
        let all : each_gives (whole_between 0 (2 ^ outs - 1)) ds ≡ Some rows = rw p at e in
        let count : length ds ≡ 2 ^ ins = grind (arith, nat_tests) in (
          gives_length (whole_between 0 (2 ^ outs - 1)) ds rows all ∙ count,
          gives_each (whole_between 0 (2 ^ outs - 1)) (λ n. n < 2 ^ outs) (λ d y h. below_power outs y (whole_top 0 (2 ^ outs - 1) d y h)) ds rows all,
        )
    at false p = let no : None ≡ Some rows = rw p at e in cc

given : {A : Type 0} (o : Option A) (fault : SettingsFault) (x : A) → ok_or o fault ≡ Ok x → o ≡ Some x
given None fault x e = cc
given (Some y) fault x e = let same : y ≡ x = cc in ap (λ z. Some z) same

-- the table that an entry's values make
pub table_made : (path : List ℕ) (ms : Members) (ins outs : ℕ) (rows : List ℕ) → (1 ≤ ins) × (ins ≤ 8) → (1 ≤ outs) × (outs ≤ 8) → needed path (codes "values") (values_of ins outs) ms ≡ Ok rows
    → IsTable (record { ins = ins; outs = outs; rows = rows })
table_made path ms ins outs rows few_ins few_outs e =
    let (d, _, h) = then_parts (ok_or (get_member (codes "values") ms) (missing path)) _ rows e in
    let (count, each) = rows_of_items ins outs (as_items d) rows (given (values_of ins outs d) (bad_value path) rows h) in
    record { ins = few_ins; outs = few_outs; count = count; each = each }
