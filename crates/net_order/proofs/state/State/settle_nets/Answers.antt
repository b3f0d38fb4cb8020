use Rattle.std.proofs.Common.{◌≡◌, ◌⊎◌, inl, inr, sym, subst, ℕ, ◌+◌, ◌<◌, List, take, get_or, length, Contains}
use Rattle.std.proofs.lemmas.List.{take_all}
use Rattle.std.proofs.lemmas.List.Elements.{Contains-get_or}
use Rattle.net_graph.specs.Chains.{IsMarked}
use Rattle.net_graph.proofs.MarkLemmas.{among_cases}
use Rattle.net_order.specs.States.{Moves}
use Rattle.net_order.specs.declared.state.State.{State}
use Rattle.net_order.proofs.StateLemmas.{moves_on, driven_more}
use Rattle.net_order.proofs.state.State.settle_nets.Goals as goal

more_settled : (reads : List (List ℕ)) (s s' : State) (nets : List ℕ) (i : ℕ) → i < length nets → Moves reads s s' → IsMarked s'.settled.items (get_or nets i 0) → ((n : ℕ) → Contains (take i nets) n → IsMarked s.settled.items n) → (n : ℕ) → Contains (take (i + 1) nets) n → IsMarked s'.settled.items n
more_settled reads s s' nets i h m here so_far n c = at (among_cases nets i 0 n h c)
  where
    at : Contains (take i nets) n ⊎ (get_or nets i 0 ≡ n) → IsMarked s'.settled.items n
    at (inl e) = m.kept n (so_far n e)
    at (inr e) = subst (λ j. IsMarked s'.settled.items j) e here

pub loop-net-preserved : goal.loop-net-preserved
loop-net-preserved c =
    record {
      moves = moves_on _ _ _ _ c.loop-net.invariant.moves c.in_ok-settle_net.ensures.moves;
      settled = more_settled c.args.reads.now c.loop-net.self c.settle_net.new.self c.args.nets.now c.loop-net.net-index c.loop-net-test.true c.in_ok-settle_net.ensures.moves c.in_ok-settle_net.ensures.settled c.loop-net.invariant.settled;
      state = λ t driven h.
          c.in_ok-settle_net.ensures.state t
          (driven_more t.drives c.args.self.now.order.items c.loop-net.self.order.items c.loop-net.invariant.moves.more _ c.loop-net.invariant.moves.order (driven _ (Contains-get_or c.args.nets.now c.loop-net.net-index 0 c.loop-net-test.true)))
          (c.loop-net.invariant.state t driven h);
    }

pub returns-clause-settled : goal.returns-clause-settled
returns-clause-settled c = λ n k.
    c.loop-net.invariant.settled n (subst (λ (l : List ℕ). Contains l n) (sym (take_all c.loop-net.net-index c.args.nets.now c.loop-net-test.false)) k)
