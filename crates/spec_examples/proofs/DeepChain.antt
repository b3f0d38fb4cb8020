-- A chain of seventeen steps from model to model is too deep.
use Rattle.std.proofs.Common.{◌≡◌, refl, sym, ◌∙◌, ap, subst, ℕ, zero, suc, ◌+◌, ◌<◌, ◌≤◌, List, [], ◌∷◌, map, codes, Bool, true, false, ◌||◌, cond, Some, ◌==◌, arith, lit<, lit≤}
use Rattle.std.proofs.lemmas.Bool.{eqb-true}
use Rattle.std.specs.Prelude.{IsTrue}
use Rattle.std.specs.List.{flat_map, range_with_len}
use Rattle.std.specs.Cmp.Lexicographic.{bytes_decides}
use Rattle.netlist_spec.specs.Lines.{is_empty}
use Rattle.netlist_spec.specs.Models.{latches_of}
use Rattle.netlist_spec.specs.Netlist.{Name, Model, same_name, stands_in}
use Rattle.netlist_spec.specs.Covers.{empty_library}
use Rattle.netlist_spec.specs.Placed.{find_model}
use Rattle.netlist_spec.specs.Sound.{Chain, Places, IsMain, placed_names}
use Rattle.netlist_spec.specs.SoundFaults.{SoundFault, twice, no_such_model, bad_port, recursion, latch_inside, too_deep, undriven, bad_clocking, loop, reserved, too_large, rank, Finds, IsRefusedWith, twice_in, no_such_model_in, bad_port_in, ContainsItself, HasLatchInside, IsTooDeep}
use Rattle.spec_examples.specs.Examples.{next_placed, chain_model, chain_file}
use Rattle.netlist_spec.proofs.Occurrences.{turn}
use Rattle.spec_examples.proofs.TwoModels.{used_nowhere, nothing, one_name}

same_number : (i j : ℕ) → (97 + i) ∷ [] ≡ (97 + j) ∷ [] → i ≡ j
same_number i j e = let h : 97 + i ≡ 97 + j = cc in omega arith

same_model : (i j : ℕ) → chain_model i ≡ chain_model j → i ≡ j
same_model i j e = same_number i j (ap (λ m. m.name) e)

clash : (x : Bool) → x ≡ true → x ≡ false → ⊥
clash true t f = cc f
clash false t f = cc t

not_this : (a j : ℕ) → same_name ((97 + a) ∷ []) ((97 + j) ∷ []) ≡ false → a ≡ j → ⊥
not_this a j f e = clash (same_name ((97 + a) ∷ []) ((97 + j) ∷ [])) ((bytes_decides _ _).1 (ap (λ i. (97 + i) ∷ []) e)) f

-- a model of the chain is found by its name
found_case : (a j : ℕ) (b : Bool) (rest : List Model) → same_name ((97 + a) ∷ []) ((97 + j) ∷ []) ≡ b
    → (same_name ((97 + a) ∷ []) ((97 + j) ∷ []) ≡ false → find_model rest ((97 + j) ∷ []) ≡ Some (chain_model j))
    → cond b (Some (chain_model a)) (find_model rest ((97 + j) ∷ [])) ≡ Some (chain_model j)
found_case a j true rest e f = ap (λ i. Some (chain_model i)) (same_number a j ((bytes_decides _ _).0 e))
found_case a j false rest e f = f e

found_at : (a c j : ℕ) → a ≤ j → j < a + c → find_model (map chain_model (range_with_len a c)) ((97 + j) ∷ []) ≡ Some (chain_model j)
found_at a zero j h k = absurd (omega arith)
found_at a (suc c) j h k =
    found_case a j (same_name ((97 + a) ∷ []) ((97 + j) ∷ [])) (map chain_model (range_with_len (a + 1) c)) refl
    (λ e. let other : a ≡ j → ⊥ = not_this a j e in found_at (a + 1) c j (omega arith) (omega arith))

-- ---- chains

abbrev named_by : ℕ → Bool → List Name
named_by n b = flat_map (λ s. placed_names s.what) (next_placed n b)

names_next : (n : ℕ) (b : Bool) (name : Name) → (n == 17) ≡ b → IsTrue (stands_in name (named_by n b)) → (n ≡ 17 → ⊥) × (name ≡ (97 + suc n) ∷ [])
names_next n true name e h = absurd (cc h)
names_next n false name e h = (not_last, one_name name ((97 + suc n) ∷ []) h)
  where
    not_last : n ≡ 17 → ⊥
    not_last k = clash (n == 17) (ap (λ i. i == 17) k) e

step : (n : ℕ) (k : Model) → n ≤ 17 → Places chain_file (chain_model n) k → (n < 17) × (chain_model (suc n) ≡ k)
step n k h p =
    let next = names_next n (n == 17) p.0 refl p.1 in
    let last : n ≡ 17 → ⊥ = next.0 in
    let below : n < 17 = omega arith in
    let is_k : find_model (map chain_model (range_with_len 0 18)) ((97 + suc n) ∷ []) ≡ Some k = subst (λ name. find_model (map chain_model (range_with_len 0 18)) name ≡ Some k) next.1 p.2 in
    let is_next = found_at 0 18 (suc n) (omega arith) (omega arith) in
    (below, (let e : Some (chain_model (suc n)) ≡ Some k = sym is_next ∙ is_k in cc e))

-- a chain from model i of n steps leads to model i + n
pub record Leads (i n : ℕ) (k : Model) : Type 0 where
  pub to : ℕ
  pub is_to : to ≡ i + n
  pub within : to ≤ 17
  pub model : chain_model to ≡ k

leads : (i : ℕ) → i ≤ 17 → (n : ℕ) (k : Model) → Chain chain_file n (chain_model i) k → Leads i n k
leads i h zero k c = record { to = i; is_to = omega arith; within = h; model = c }
leads i h (suc n) k c =
    let before = leads i h n c.0 c.1 in
    let next = step before.to k before.within (subst (λ m. Places chain_file m k) (sym before.model) c.2) in
    let e = before.is_to in
    let below = next.0 in
    record { to = suc before.to; is_to = omega arith; within = omega arith; model = next.1 }

places_next : (n : ℕ) (b : Bool) → (n == 17) ≡ b → n < 17 → IsTrue (stands_in ((97 + suc n) ∷ []) (named_by n b))
places_next n true e h = absurd (let k : n ≡ 17 = eqb-true n 17 e in omega arith)
places_next n false e h = ap (λ b. b || false) ((bytes_decides ((97 + suc n) ∷ []) ((97 + suc n) ∷ [])).1 refl)

chain_to : (n : ℕ) → n ≤ 17 → Chain chain_file n (chain_model 0) (chain_model n)
chain_to zero h = refl
chain_to (suc n) h =
    (chain_model n, chain_to n (omega arith), ((97 + suc n) ∷ [], places_next n (n == 17) refl (omega arith), found_at 0 18 (suc n) (omega arith) (omega arith)))

main_is : (m : Model) → IsMain chain_file m → chain_model 0 ≡ m
main_is m e = cc

no_ring : (i : ℕ) → i ≤ 17 → ContainsItself chain_file empty_library (chain_model i) → ⊥
no_ring i h c =
    let l = leads i h (suc c.0) (chain_model i) c.1 in
    let e = l.is_to in
    let same = same_model l.to i l.model in
    omega arith

not_deep : (i : ℕ) → i < 17 → IsTooDeep chain_file empty_library (chain_model i) → ⊥
not_deep i h d =
    let l = leads 0 (lit≤ tt) d.2 (chain_model i) (subst (λ top. Chain chain_file d.2 top (chain_model i)) (sym (main_is d.0 d.1)) d.4) in
    let e = l.is_to in
    let deep = d.3 in
    let same = same_model l.to i l.model in
    omega arith

no_latch : (m : Model) → is_empty (latches_of m) ≡ true → HasLatchInside chain_file empty_library m → ⊥
no_latch m e h = clash (is_empty (latches_of m)) e (turn (is_empty (latches_of m)) h.1)

nothing_before : (other : SoundFault) → rank other < 6 → Finds chain_file empty_library other → ⊥
nothing_before (twice n) h f = used_nowhere chain_file (λ m a. twice_in chain_file empty_library m ≡ Some a) n (nothing n, (nothing n, (nothing n, (nothing n, (nothing n, (nothing n, (nothing n, (nothing n, (nothing n, (nothing n, (nothing n, (nothing n, (nothing n, (nothing n, (nothing n, (nothing n, (nothing n, (nothing n, tt)))))))))))))))))) f
nothing_before (no_such_model n) h f = used_nowhere chain_file (λ m a. no_such_model_in chain_file empty_library m ≡ Some a) n (nothing n, (nothing n, (nothing n, (nothing n, (nothing n, (nothing n, (nothing n, (nothing n, (nothing n, (nothing n, (nothing n, (nothing n, (nothing n, (nothing n, (nothing n, (nothing n, (nothing n, (nothing n, tt)))))))))))))))))) f
nothing_before (bad_port n p) h f = used_nowhere chain_file (λ m (a : Name × Name). bad_port_in chain_file empty_library m ≡ Some a) (n, p) (nothing (n, p), (nothing (n, p), (nothing (n, p), (nothing (n, p), (nothing (n, p), (nothing (n, p), (nothing (n, p), (nothing (n, p), (nothing (n, p), (nothing (n, p), (nothing (n, p), (nothing (n, p), (nothing (n, p), (nothing (n, p), (nothing (n, p), (nothing (n, p), (nothing (n, p), (nothing (n, p), tt)))))))))))))))))) f
nothing_before (recursion n) h f = used_nowhere chain_file (λ m a. ContainsItself chain_file empty_library m × (a ≡ m.name)) n ((λ k. no_ring 0 (lit≤ tt) k.0), ((λ k. no_ring 1 (lit≤ tt) k.0), ((λ k. no_ring 2 (lit≤ tt) k.0), ((λ k. no_ring 3 (lit≤ tt) k.0), ((λ k. no_ring 4 (lit≤ tt) k.0), ((λ k. no_ring 5 (lit≤ tt) k.0), ((λ k. no_ring 6 (lit≤ tt) k.0), ((λ k. no_ring 7 (lit≤ tt) k.0), ((λ k. no_ring 8 (lit≤ tt) k.0), ((λ k. no_ring 9 (lit≤ tt) k.0), ((λ k. no_ring 10 (lit≤ tt) k.0), ((λ k. no_ring 11 (lit≤ tt) k.0), ((λ k. no_ring 12 (lit≤ tt) k.0), ((λ k. no_ring 13 (lit≤ tt) k.0), ((λ k. no_ring 14 (lit≤ tt) k.0), ((λ k. no_ring 15 (lit≤ tt) k.0), ((λ k. no_ring 16 (lit≤ tt) k.0), ((λ k. no_ring 17 (lit≤ tt) k.0), tt)))))))))))))))))) f
nothing_before (latch_inside n) h f = used_nowhere chain_file (λ m a. HasLatchInside chain_file empty_library m × (a ≡ m.name)) n ((λ k. no_latch (chain_model 0) refl k.0), ((λ k. no_latch (chain_model 1) refl k.0), ((λ k. no_latch (chain_model 2) refl k.0), ((λ k. no_latch (chain_model 3) refl k.0), ((λ k. no_latch (chain_model 4) refl k.0), ((λ k. no_latch (chain_model 5) refl k.0), ((λ k. no_latch (chain_model 6) refl k.0), ((λ k. no_latch (chain_model 7) refl k.0), ((λ k. no_latch (chain_model 8) refl k.0), ((λ k. no_latch (chain_model 9) refl k.0), ((λ k. no_latch (chain_model 10) refl k.0), ((λ k. no_latch (chain_model 11) refl k.0), ((λ k. no_latch (chain_model 12) refl k.0), ((λ k. no_latch (chain_model 13) refl k.0), ((λ k. no_latch (chain_model 14) refl k.0), ((λ k. no_latch (chain_model 15) refl k.0), ((λ k. no_latch (chain_model 16) refl k.0), ((λ k. no_latch (chain_model 17) refl k.0), tt)))))))))))))))))) f
nothing_before (too_deep n) h f = omega arith
nothing_before (undriven n) h f = omega arith
nothing_before (bad_clocking n) h f = omega arith
nothing_before (loop ns) h f = omega arith
nothing_before (reserved n) h f = omega arith
nothing_before (too_large what) h f = omega arith

pub chain_is_refused : IsRefusedWith chain_file empty_library (too_deep (codes "r"))
chain_is_refused =
    record {
      found = record {
        before = map chain_model (range_with_len 0 17);
        model = chain_model 17;
        after = [];
        split = refl;
        used = (chain_model 0, refl, 17, chain_to 17 (lit≤ tt));
        here = ((chain_model 0, refl, 17, lit< tt, chain_to 17 (lit≤ tt)), refl);
        none_before = ((λ u a d. not_deep 0 (lit< tt) d.0), ((λ u a d. not_deep 1 (lit< tt) d.0), ((λ u a d. not_deep 2 (lit< tt) d.0), ((λ u a d. not_deep 3 (lit< tt) d.0), ((λ u a d. not_deep 4 (lit< tt) d.0), ((λ u a d. not_deep 5 (lit< tt) d.0), ((λ u a d. not_deep 6 (lit< tt) d.0), ((λ u a d. not_deep 7 (lit< tt) d.0), ((λ u a d. not_deep 8 (lit< tt) d.0), ((λ u a d. not_deep 9 (lit< tt) d.0), ((λ u a d. not_deep 10 (lit< tt) d.0), ((λ u a d. not_deep 11 (lit< tt) d.0), ((λ u a d. not_deep 12 (lit< tt) d.0), ((λ u a d. not_deep 13 (lit< tt) d.0), ((λ u a d. not_deep 14 (lit< tt) d.0), ((λ u a d. not_deep 15 (lit< tt) d.0), ((λ u a d. not_deep 16 (lit< tt) d.0), tt)))))))))))))))));
      };
      first = nothing_before;
    }
