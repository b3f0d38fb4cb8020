-- What is reached through finitely many statements, by rounds: each round takes one more statement.
use Rattle.std.proofs.Common.{◌≡◌, sym, ap, subst, refl, ℕ, zero, suc, ◌≤◌, ◌⊎◌, inl, inr, List, [], ◌∷◌, ◌++◌, length, Contains, arith}
use Rattle.std.proofs.lemmas.List.Elements.{Contains-append_left, Contains-append_right, Contains-append_cases}
use Rattle.size_laws.specs.Sizes.{Decided}
use Rattle.size_laws.proofs.Lists.{contains_head, contains_tail, contains_cases, none_there, some_decided}

-- a statement of a list that passes, and the others
record Picked {S : Type 0} (T : S → Type 0) (left : List S) : Type 0 where
  one : S
  rest : List S
  passes : T one
  there : Contains left one
  shorter : length left ≡ suc (length rest)
  within : (s : S) → Contains rest s → Contains left s
  others : (s : S) → Contains left s → (one ≡ s) ⊎ Contains rest s

pick : {S : Type 0} (T : S → Type 0) → ((s : S) → Decided (T s)) → (left : List S) → Picked T left ⊎ ((s : S) → Contains left s → T s → ⊥)
pick T d [] = inr (λ s c t. none_there s c)
pick {S = S} T d (s ∷ left) = by_case (d s) (pick T d left)
  where
    by_case : Decided (T s) → Picked T left ⊎ ((r : S) → Contains left r → T r → ⊥) → Picked T (s ∷ left) ⊎ ((r : S) → Contains (s ∷ left) r → T r → ⊥)
    by_case (inl t) later = inl (record { one = s; rest = left; passes = t; there = contains_head s left; shorter = refl; within = λ r c. contains_tail s r left c; others = λ r c. contains_cases s r left c })
    by_case (inr never) (inl p) = inl (record {
      one = p.one;
      rest = s ∷ p.rest;
      passes = p.passes;
      there = contains_tail s p.one left p.there;
      shorter = ap suc p.shorter;
      within = λ r c. elim (contains_cases s r p.rest c) [ inl e ↦ subst (λ (q : S). Contains (s ∷ left) q) e (contains_head s left) | inr c ↦ contains_tail s r left (p.within r c) ];
      others = λ r c. elim (contains_cases s r left c) [ inl e ↦ inr (subst (λ (q : S). Contains (s ∷ p.rest) q) e (contains_head s p.rest)) | inr c ↦ elim (p.others r c) [ inl e ↦ inl e | inr k ↦ inr (contains_tail s r p.rest k) ] ];
    })
    by_case (inr never) (inr none) = inr (λ r c t. elim (contains_cases s r left c) [ inl e ↦ never (subst T (sym e) t) | inr k ↦ none r k t ])

module _ {X S : Type 0} (Drives : S → X → Type 0) (reads : S → List X) (decides : (s : S) (n : X) → Decided (Drives s n)) (all : List S) where
  -- the statement drives one of these
  abbrev DrivesSome : List X → S → Type 0
  DrivesSome found s = (n : X) × Contains found n × Drives s n

  -- Everything that is found has the property, and all that is read for it is found.
  pub record IsClosed (P : X → Type 0) (start found : List X) : Type 0 where
    pub starts : (n : X) → Contains start n → Contains found n
    pub alone : (n : X) → Contains found n → P n
    pub closed : (s : S) (n k : X) → Contains all s → Contains found n → Drives s n → Contains (reads s) k → Contains found k

  -- the state between two rounds: the statements that are left, and what is found
  record IsRound (P : X → Type 0) (left : List S) (found : List X) : Type 0 where
    within : (s : S) → Contains left s → Contains all s
    alone : (n : X) → Contains found n → P n
    taken : (s : S) → Contains all s → Contains left s ⊎ ((k : X) → Contains (reads s) k → Contains found k)

  abbrev IsStep : (X → Type 0) → Type 0
  IsStep P = (s : S) (n k : X) → Contains all s → P n → Drives s n → Contains (reads s) k → P k

  next_round : (P : X → Type 0) → IsStep P → (left : List S) (found : List X) → IsRound P left found → (p : Picked (DrivesSome found) left) → IsRound P p.rest (reads p.one ++ found)
  next_round P step left found r p = record {
    within = λ s c. r.within s (p.within s c);
    alone = λ k c. elim (Contains-append_cases (reads p.one) found k c) [
      | inl here ↦ step p.one p.passes.0 k (r.within p.one p.there) (r.alone p.passes.0 p.passes.1) p.passes.2 here
      | inr old ↦ r.alone k old
    ];
    taken = λ s c. elim (r.taken s c) [
      | inl there ↦ elim (p.others s there) [
        | inl e ↦ inr (subst (λ (t : S). (k : X) → Contains (reads t) k → Contains (reads p.one ++ found) k) e (λ k d. Contains-append_left (reads p.one) found k d))
        | inr later ↦ inl later
      ]
      | inr done ↦ inr (λ k d. Contains-append_right (reads p.one) found k (done k d))
    ];
  }

  last_round : (P : X → Type 0) (left : List S) (found : List X) → IsRound P left found → ((s : S) → Contains left s → DrivesSome found s → ⊥) → IsClosed P found found
  last_round P left found r none = record {
    starts = λ n c. c;
    alone = r.alone;
    closed = λ s n k c there drives reads. elim (r.taken s c) [ inl left_over ↦ absurd (none s left_over (n, there, drives)) | inr done ↦ done k reads ];
  }

  abbrev Closure : (X → Type 0) → List X → Type 0
  Closure P found = (all_found : List X) × IsClosed P found all_found

  -- what was found before is found after
  starts_before : (P : X → Type 0) (found more : List X) → Closure P (more ++ found) → Closure P found
  starts_before P found more (all_found, c) = (all_found, record { starts = λ n d. c.starts n (Contains-append_right more found n d); alone = c.alone; closed = c.closed })

  rounds : (P : X → Type 0) → IsStep P → (fuel : ℕ) (left : List S) (found : List X) → length left ≤ fuel → IsRound P left found → Closure P found
  rounds P step zero left found few r = by_case (pick (DrivesSome found) (λ s. some_decided (Drives s) (decides s) found) left)
    where
      by_case : Picked (DrivesSome found) left ⊎ ((s : S) → Contains left s → DrivesSome found s → ⊥) → Closure P found
      by_case (inr none) = (found, last_round P left found r none)
      by_case (inl p) = absurd (let h = p.shorter in omega arith)
  rounds P step (suc fuel) left found few r = by_case (rounds P step fuel) (pick (DrivesSome found) (λ s. some_decided (Drives s) (decides s) found) left)
    where
      by_case : ((rest : List S) (more : List X) → length rest ≤ fuel → IsRound P rest more → Closure P more) → Picked (DrivesSome found) left ⊎ ((s : S) → Contains left s → DrivesSome found s → ⊥) → Closure P found
      by_case later (inr none) = (found, last_round P left found r none)
      by_case later (inl p) = starts_before P found (reads p.one) (later p.rest (reads p.one ++ found) (let h = p.shorter in omega arith) (next_round P step left found r p))

  -- All that is reached from some elements, where the property is that of being reached.
  pub closure : (P : X → Type 0) → IsStep P → (start : List X) → ((n : X) → Contains start n → P n) → (found : List X) × IsClosed P start found
  closure P step start reached = rounds P step (length all) all start (omega arith) (record { within = λ s c. c; alone = reached; taken = λ s c. inl c })
