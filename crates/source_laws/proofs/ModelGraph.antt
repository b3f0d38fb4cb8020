-- Chains of models, what they reach, and levels.
use Rattle.std.proofs.Common.{◌≡◌, refl, sym, ◌∙◌, ap, subst, ℕ, zero, suc, ◌+◌, ◌<◌, ◌≤◌, List, Some, arith, Contains}
use Rattle.std.specs.Prelude.{◌↔◌}
use Rattle.netlist_spec.specs.Netlist.{Model, File}
use Rattle.netlist_spec.specs.Covers.{Library}
use Rattle.netlist_spec.specs.Sound.{Places, Chain, IsMain, IsUsed}
use Rattle.netlist_spec.specs.SoundFaults.{ContainsItself, IsTooDeep}
use Rattle.source_laws.specs.ModelGraph.{LeadsTo, AreReached, AreLevels}

module _ (file : File) where
  first_step : (n : ℕ) (a b : Model) → Chain file (suc n) a b → (c : Model) × Places file a c × Chain file n c b
  first_step zero a b (c, e, p) = (b, subst (λ x. Places file x b) (sym e) p, refl)
  first_step (suc n) a b (c, chain, p) = let (d, q, rest) = first_step n a c chain in (d, q, (c, rest, p))

  with_step : (n : ℕ) (a c b : Model) → Places file a c → Chain file n c b → Chain file (suc n) a b
  with_step zero a c b p e = (a, refl, subst (Places file a) e p)
  with_step (suc n) a c b p (d, chain, q) = (d, with_step n a c d p chain, q)

  pub begins_with_step : (a b : Model) (n : ℕ) → Chain file (suc n) a b ↔ ((c : Model) × Places file a c × Chain file n c b)
  begins_with_step a b n = (first_step n a b, λ (s : (c : Model) × Places file a c × Chain file n c b). with_step n a s.0 b s.1 s.2)

  chain_stays : (a : Model) (reached : List Model) → AreReached file a reached → (n : ℕ) (k : Model) → Chain file n a k → Contains reached k
  chain_stays a reached are zero k e = subst (λ x. Contains reached x) e are.start
  chain_stays a reached are (suc n) k (c, chain, p) = are.closed c k (chain_stays a reached are n c chain) p

  pub reached_are_all : (a : Model) (reached : List Model) (k : Model) → AreReached file a reached → LeadsTo file a k ↔ Contains reached k
  reached_are_all a reached k are = ((λ (w : LeadsTo file a k). chain_stays a reached are w.0 k w.1), are.each k)

  same_main : (a b : Model) → IsMain file a → IsMain file b → a ≡ b
  same_main a b f g = let e : Some a ≡ Some b = sym f ∙ g in cc e

  pub used_are_reached : (top : Model) (reached : List Model) (k : Model) → IsMain file top → AreReached file top reached → IsUsed file k ↔ Contains reached k
  used_are_reached top reached k main are = (
    (λ (u : IsUsed file k). chain_stays top reached are u.2 k (subst (λ x. Chain file u.2 x k) (same_main u.0 top u.1 main) u.3)),
    λ h. let (n, chain) = are.each k h in (top, main, n, chain),
  )

  pub itself_by_step : (library : Library) (m : Model) → ContainsItself file library m ↔ ((c : Model) × Places file m c × LeadsTo file c m)
  itself_by_step library m = (
    (λ (w : ContainsItself file library m). let (c, p, chain) = first_step w.0 m m w.1 in (c, p, (w.0, chain))),
    λ (s : (c : Model) × Places file m c × LeadsTo file c m). (s.2.0, with_step s.2.0 m s.0 m s.1 s.2.1),
  )

  module _ (level : Model → ℕ) (are : AreLevels file level) where
    climb : (m : Model) → IsUsed file m → (n : ℕ) (k : Model) → Chain file n m k → IsUsed file k × (level m + n ≤ level k)
    climb m used zero k e = (subst (IsUsed file) e used, (let same : level m ≡ level k = ap level e in omega arith))
    climb m used (suc n) k (c, chain, p) =
        let (c_used, below) = climb m used n c chain in
        let up = are c k c_used p in
        let (top, main, i, to_c) = c_used in
        ((top, main, suc i, (c, to_c, p)), omega arith)

    pub no_recursion : (library : Library) (m : Model) → IsUsed file m → ContainsItself file library m → ⊥
    no_recursion library m used (n, chain) = let (u, below) = climb m used (suc n) m chain in absurd (omega arith)

    pub within_levels : (top k : Model) (n : ℕ) → IsMain file top → Chain file n top k → n ≤ level k
    within_levels top k n main chain = let (u, below) = climb top (top, main, 0, refl) n k chain in omega arith

    pub depths : (library : Library) (top k : Model) → IsMain file top → IsUsed file k → Chain file (level k) top k → IsTooDeep file library k ↔ (16 < level k)
    depths library top k main used chain = (
      (λ (d : IsTooDeep file library k). let within = within_levels top k d.2 main (subst (λ x. Chain file d.2 x k) (same_main d.0 top d.1 main) d.4) in let long = d.3 in omega arith),
      λ h. (top, main, level k, h, chain),
    )
