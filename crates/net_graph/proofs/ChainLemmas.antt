-- Chains that are joined and split.
use Rattle.std.proofs.Common.{◌≡◌, refl, sym, subst, ℕ, zero, suc, ◌+◌, ◌-◌, Bool, List, length, arith, add-one, add-suc, add-zero}
use Rattle.net_graph.specs.Chains.{IsReached, IsNext, Chain, LeadsTo, LeadsPast, AreMarked}

pub chain-append : (graph : List (List ℕ)) (m n a b c : ℕ) → Chain graph m a b → Chain graph n b c → Chain graph (m + n) a c
chain-append graph m zero a b c x y = subst (λ i. Chain graph i a c) (sym (add-zero m)) (subst (λ j. Chain graph m a j) y x)
chain-append graph m (suc n) a b c x y = subst (λ i. Chain graph i a c) (sym (add-suc m n)) (y.0, chain-append graph m n a b y.0 x y.1, y.2)

pub chain-split : (graph : List (List ℕ)) (m n a c : ℕ) → Chain graph (m + n) a c → (b : ℕ) × Chain graph m a b × Chain graph n b c
chain-split graph m zero a c x = (c, subst (λ i. Chain graph i a c) (add-zero m) x, refl)
chain-split graph m (suc n) a c x =
    let y : Chain graph (suc (m + n)) a c = subst (λ i. Chain graph i a c) (add-suc m n) x in
    let parts = chain-split graph m n a y.0 y.1 in
    (parts.0, parts.1, (y.0, parts.2, y.2))

pub from_one : (graph : List (List ℕ)) (marks all : List Bool) (start : ℕ) → AreMarked (length graph) marks (λ k. k ≡ start) → AreMarked (length graph) all (IsReached graph marks) → AreMarked (length graph) all (LeadsTo graph start)
from_one graph marks all start one a =
    record {
      each_node = a.each_node;
      exact = λ k. (λ m. let w = (a.exact k).0 m in (w.2.0, subst (λ j. Chain graph w.2.0 j k) ((one.exact w.0).0 w.1) w.2.1), λ w. (a.exact k).1 (start, (one.exact start).1 refl, w));
    }

pub none_yet : (graph : List (List ℕ)) (marks : List Bool) (start : ℕ) → AreMarked (length graph) marks (λ k. k ≡ start) → AreMarked (length graph) marks (Chain graph 0 start)
none_yet graph marks start one = record { each_node = one.each_node; exact = λ k. (λ m. sym ((one.exact k).0 m), λ e. (one.exact k).1 (sym e)) }

pub one_more : (graph : List (List ℕ)) (marks next : List Bool) (i start : ℕ) → AreMarked (length graph) marks (Chain graph i start) → AreMarked (length graph) next (IsNext graph marks) → AreMarked (length graph) next (Chain graph (i + 1) start)
one_more graph marks next i start so_far n =
    record {
      each_node = n.each_node;
      exact = λ k. (
        λ m. let w = (n.exact k).0 m in subst (λ j. Chain graph j start k) (sym (add-one i)) (w.0, (so_far.exact w.0).0 w.1, w.2),
        λ chain. let y : Chain graph (suc i) start k = subst (λ j. Chain graph j start k) (add-one i) chain in (n.exact k).1 (y.0, (so_far.exact y.0).1 y.1, y.2),
      );
    }

pub past_all : (graph : List (List ℕ)) (past all : List Bool) (steps start : ℕ) → AreMarked (length graph) past (Chain graph (steps + 1) start) → AreMarked (length graph) all (IsReached graph past) → AreMarked (length graph) all (LeadsPast graph steps start)
past_all graph past all steps start p a =
    record {
      each_node = a.each_node;
      exact = λ k. (
        λ m. let w = (a.exact k).0 m in ((steps + 1) + w.2.0, omega arith, chain-append graph (steps + 1) w.2.0 start w.0 k ((p.exact w.0).0 w.1) w.2.1),
        λ w.
            let rest : ℕ = w.0 - (steps + 1) in
            let whole : w.0 ≡ (steps + 1) + rest = omega (arith, w.1) in
            let parts = chain-split graph (steps + 1) rest start k (subst (λ i. Chain graph i start k) whole w.2) in
            (a.exact k).1 (parts.0, (p.exact parts.0).1 parts.1, (rest, parts.2)),
      );
    }
