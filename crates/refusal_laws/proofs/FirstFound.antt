-- The first of a list of which something holds, and the first used model in which something is found.
use Rattle.std.proofs.Common.{◌≡◌, refl, sym, ◌∙◌, subst, ℕ, zero, suc, List, [], ◌∷◌, ◌++◌, find, Bool, true, false, cond, inl, inr, Some, append_assoc}
use Rattle.std.specs.List.{AllByRecursion}
use Rattle.netlist_spec.specs.Netlist.{same_name, Model, File}
use Rattle.netlist_spec.specs.Models.{first_model}
use Rattle.netlist_spec.specs.Sound.{Chain, IsMain, IsUsed}
use Rattle.netlist_spec.specs.SoundFaults.{IsFirstUsed}
use Rattle.netlist_spec.proofs.OneValue.{All_append}
use Rattle.source_laws.proofs.Lists.{Among, all_among}

pub one_first : {A : Type 0} (P : A → Type 0) (before : List A) (x : A) (after before' : List A) (x' : A) (after' : List A) → before ++ x ∷ after ≡ before' ++ x' ∷ after'
    → P x → P x' → AllByRecursion (λ y. P y → ⊥) before → AllByRecursion (λ y. P y → ⊥) before' → x ≡ x'
one_first P [] x after [] x' after' e p q n k = cc e
one_first P [] x after (b ∷ before') x' after' e p q n k = absurd (k.0 (subst P (let d : x ≡ b = cc e in d) p))
one_first P (b ∷ before) x after [] x' after' e p q n k = absurd (n.0 (subst P (let d : x' ≡ b = cc e in d) q))
one_first P (b ∷ before) x after (c ∷ before') x' after' e p q n k =
    one_first P before x after before' x' after' (let d : before ++ x ∷ after ≡ before' ++ x' ∷ after' = cc e in d) p q n.1 k.1

found_among : {A : Type 0} (test : A → Bool) (xs : List A) (x : A) → find test xs ≡ Some x → Among x xs
found_among test [] x e = cc e
found_among {A = A} test (y ∷ ys) x e = by_case (test y) e (found_among test ys x)
  where
    by_case : (b : Bool) → cond b (Some y) (find test ys) ≡ Some x → (find test ys ≡ Some x → Among x ys) → Among x (y ∷ ys)
    by_case true e f = inl (cc e)
    by_case false e f = inr (f e)

first_among : (ms : List Model) (m : Model) → first_model ms ≡ Some m → Among m ms
first_among [] m e = cc e
first_among (k ∷ ms) m e = inl (cc e)

chain_among : (file : File) (n : ℕ) (top m : Model) → IsMain file top → Chain file n top m → Among m file.models
chain_among file zero top m main e = subst (λ k. Among k file.models) e (first_among file.models top main)
chain_among file (suc n) top m main (c, chain, p) = found_among (λ k. same_name k.name p.0) file.models m p.2

used_among : (file : File) (m : Model) → IsUsed file m → Among m file.models
used_among file m (top, main, n, chain) = chain_among file n top m main chain

module _ {A : Type 0} (file : File) (finds : Model → A → Type 0) where
  abbrev Tells : Model → Type 0
  Tells k = IsUsed file k × ((a : A) × finds k a)

  abbrev TellsNothing : Model → Type 0
  TellsNothing k = IsUsed file k → (a : A) → finds k a → ⊥

  no_tells : (ms : List Model) → AllByRecursion TellsNothing ms → AllByRecursion (λ k. Tells k → ⊥) ms
  no_tells [] n = tt
  no_tells (k ∷ ms) n = ((λ (t : Tells k). n.0 t.0 t.1.0 t.1.1), no_tells ms n.1)

  pub same_found : (found other : A) → ((m : Model) (a b : A) → IsUsed file m → finds m a → finds m b → a ≡ b) → IsFirstUsed file finds found → IsFirstUsed file finds other → found ≡ other
  same_found found other once f g =
      let same : f.model ≡ g.model =
      one_first Tells f.before f.model f.after g.before g.model g.after (sym f.split ∙ g.split) (f.used, (found, f.here)) (g.used, (other, g.here)) (no_tells f.before f.none_before) (no_tells g.before g.none_before) in
      once g.model found other g.used (subst (λ k. finds k found) same f.here) g.here

  pub none_used : ((a : A) → IsFirstUsed file finds a → ⊥) → (m : Model) → IsUsed file m → (a : A) → finds m a → ⊥
  none_used none m used a f = all_among TellsNothing file.models (from [] file.models refl tt) m (used_among file m used) used a f
    where
      from : (before rest : List Model) → file.models ≡ before ++ rest → AllByRecursion TellsNothing before → AllByRecursion TellsNothing rest
      from before [] e n = tt
      from before (k ∷ rest) e n =
          let here : TellsNothing k = λ used a f. none a (record { before = before; model = k; after = rest; split = e; used = used; here = f; none_before = n }) in
          (here, from (before ++ k ∷ []) rest (e ∙ sym (append_assoc before (k ∷ []) rest)) (All_append TellsNothing before (k ∷ []) n (here, tt)))
