-- A map from cycles to faults, and what is seen of it.
use Rattle.std.proofs.Common.{◌≡◌, ◌≢◌, refl, sym, ◌∙◌, ap, ap₂, ℕ, List, [], ◌∷◌, Bool, true, false, cond, Option, None, Some, inl, inr, ◌⊎◌}
use Rattle.std.specs.Prelude.{◌==◌, unwrap_or, option_map}
use Rattle.std.specs.BTreeMap.{is_at}
use Rattle.std.specs.Cmp.{nat_cmp_is}
use Rattle.std.specs.Map.{lookup}
use Rattle.std.specs.Ordering.{nat_cmp, is_eq}
use Rattle.std.specs.declared.cmp.Ordering.{Ordering}
use Rattle.std.specs.declared.cmp.Ordering.TheVariants.{Less, Equal, Greater}
use Rattle.std.proofs.lemmas.Bool.Decides.{eqb_tells}
use Rattle.std.proofs.lemmas.Map.Lookups.{exact_unsigned}
use Rattle.arrayvec.specs.ArrayVec.{ArrayVec}
use Rattle.fault_sim.specs.declared.faults.CellFault.{CellFault}
use Rattle.fault_script.specs.Scripts.{faults_in, listed}

-- two keys are told apart by the order as by their numbers
pub other_key : (x y : ℕ) → y ≢ x → is_at (nat_cmp x) y ≡ false
other_key x y other = at (nat_cmp x y) refl
  where
    at : (o : Ordering) → nat_cmp x y ≡ o → is_eq o ≡ false
    at Less e = refl
    at Equal e = absurd (other (sym (exact_unsigned x y e)))
    at Greater e = refl

key : (x y : ℕ) → (y == x) ≡ is_at (nat_cmp x) y
key x y = at (eqb_tells y x)
  where
    at : (((y == x) ≡ true) × (y ≡ x)) ⊎ (((y == x) ≡ false) × (y ≢ x)) → (y == x) ≡ is_at (nat_cmp x) y
    at (inl same) = same.0 ∙ ap is_eq (nat_cmp_is x y Equal (sym same.1))
    at (inr other) = other.0 ∙ sym (other_key x y other.1)

abbrev items_of : Option (ArrayVec CellFault) → Option (List CellFault)
items_of o = option_map (λ (v : ArrayVec CellFault). v.items) o

seen : (es : List (ℕ × ArrayVec CellFault)) (c : ℕ) → lookup (λ k. k == c) (listed es) ≡ items_of (lookup (is_at (nat_cmp c)) es)
seen [] c = refl
seen (e ∷ es) c = ap₂ (λ (b : Bool) (o : Option (List CellFault)). cond b (Some e.1.items) o) (key c e.0) (seen es c) ∙ inside (is_at (nat_cmp c) e.0)
  where
    inside : (b : Bool) → cond b (Some e.1.items) (items_of (lookup (is_at (nat_cmp c)) es)) ≡ items_of (cond b (Some e.1) (lookup (is_at (nat_cmp c)) es))
    inside true = refl
    inside false = refl

-- the faults of a cycle are those that the map has for it
pub faults_of : (es : List (ℕ × ArrayVec CellFault)) (c : ℕ) (o : Option (ArrayVec CellFault)) → lookup (is_at (nat_cmp c)) es ≡ o → faults_in (record { by_cycle = listed es }) c ≡ unwrap_or (items_of o) []
faults_of es c o e = ap (λ (l : Option (List CellFault)). unwrap_or l []) (seen es c ∙ ap items_of e)

pub same_faults : (es fs : List (ℕ × ArrayVec CellFault)) (c : ℕ) → lookup (is_at (nat_cmp c)) fs ≡ lookup (is_at (nat_cmp c)) es → faults_in (record { by_cycle = listed fs }) c ≡ faults_in (record { by_cycle = listed es }) c
same_faults es fs c e = faults_of fs c _ e ∙ sym (faults_of es c _ refl)
