-- A file with a loop is refused with the nets of the loop.
use Rattle.std.proofs.Common.{◌≡◌, refl, sym, ap, subst, ℕ, zero, suc, ◌<◌, List, [], ◌∷◌, ◌++◌, length, get_or, codes, Some, None, arith, lit<, length-append}
use Rattle.netlist_spec.specs.Netlist.{Name, Model, names}
use Rattle.netlist_spec.specs.Covers.{empty_library}
use Rattle.netlist_spec.specs.Sound.{Chain, Places, IsMain, ReadsFor}
use Rattle.netlist_spec.specs.SoundFaults.{SoundFault, twice, no_such_model, bad_port, recursion, latch_inside, too_deep, undriven, bad_clocking, loop, reserved, too_large, rank, IsFirstUsed, Finds, IsRefusedWith, IsUnsettled, IsFirstUnsettled, WalksTo, twice_in, no_such_model_in, bad_port_in, ContainsItself, HasLatchInside, IsTooDeep, undriven_in, clocking_in}
use Rattle.spec_examples.specs.Examples.{buffer_cover, ring_model, ring_file}

-- in a file of one model the first used one is that model
first_is : (m : Model) (before : List Model) (k : Model) (after : List Model) → m ∷ [] ≡ before ++ k ∷ after → m ≡ k
first_is m [] k after e = ap (λ ms. get_or ms 0 m) e
first_is m (b ∷ bs) k after e =
    let long = ap length e in
    let parts = length-append bs (k ∷ after) in
    absurd (omega arith)

only_used : {A : Type 0} (finds : Model → A → Type 0) (a : A) → IsFirstUsed ring_file finds a → finds ring_model a
only_used finds a u = subst (λ m. finds m a) (sym (first_is ring_model u.before u.model u.after u.split)) u.here

nothing_found : {A : Type 0} (a : A) → None ≡ Some a → ⊥
nothing_found a e = cc

no_place : (k : Model) → Places ring_file ring_model k → ⊥
no_place k p = cc p.1

no_chain : (n : ℕ) (k : Model) → Chain ring_file n ring_model k → ring_model ≡ k
no_chain zero k e = e
no_chain (suc n) k c =
    let back : c.0 ≡ ring_model = sym (no_chain n c.0 c.1) in
    absurd (no_place k (subst (λ m. Places ring_file m k) back c.2))

no_steps : (n : ℕ) (k : Model) → Chain ring_file (suc n) ring_model k → ⊥
no_steps n k c = no_place k (subst (λ m. Places ring_file m k) (sym (no_chain n c.0 c.1)) c.2)

main_is : (m : Model) → IsMain ring_file m → ring_model ≡ m
main_is m e = cc

-- what each cell of the ring reads
p_reads_q : ReadsFor ring_file empty_library ring_model (codes "p") (codes "q")
p_reads_q = (names (codes "q" ∷ []) (codes "p") buffer_cover, (0, lit< tt, refl), refl, refl, refl)

q_reads_p : ReadsFor ring_file empty_library ring_model (codes "q") (codes "p")
q_reads_p = (names (codes "p" ∷ []) (codes "q") buffer_cover, (1, lit< tt, refl), refl, refl, refl)

p_unsettled : IsUnsettled ring_file empty_library ring_model (codes "p")
p_unsettled = record { way = []; entry = codes "p"; others = codes "q" ∷ []; leads = refl; enters = (p_reads_q, q_reads_p) }

q_unsettled : IsUnsettled ring_file empty_library ring_model (codes "q")
q_unsettled = record { way = []; entry = codes "q"; others = codes "p" ∷ []; leads = refl; enters = (q_reads_p, p_reads_q) }

first_unsettled : (n : Name) (rest : List Name) → IsUnsettled ring_file empty_library ring_model n → IsFirstUnsettled ring_file empty_library ring_model (n ∷ rest) n
first_unsettled n rest u = record { before = []; after = rest; split = refl; unsettled = u; settled_before = tt }

p_walks : WalksTo ring_file empty_library ring_model (codes "p") (codes "q")
p_walks =
    record {
      driver = names (codes "q" ∷ []) (codes "p") buffer_cover;
      stands = (0, lit< tt, refl);
      reads_on = refl;
      of_net = refl;
      next = first_unsettled (codes "q") [] q_unsettled;
    }

q_walks : WalksTo ring_file empty_library ring_model (codes "q") (codes "p")
q_walks =
    record {
      driver = names (codes "p" ∷ []) (codes "q") buffer_cover;
      stands = (1, lit< tt, refl);
      reads_on = refl;
      of_net = refl;
      next = first_unsettled (codes "p") [] p_unsettled;
    }

-- nothing is found by the tests that come before
none_earlier : (other : SoundFault) → rank other < 9 → Finds ring_file empty_library other → ⊥
none_earlier (twice n) h f = nothing_found n (only_used (λ m a. twice_in ring_file empty_library m ≡ Some a) n f)
none_earlier (no_such_model n) h f = nothing_found n (only_used (λ m a. no_such_model_in ring_file empty_library m ≡ Some a) n f)
none_earlier (bad_port n p) h f = nothing_found (n, p) (only_used (λ m (a : Name × Name). bad_port_in ring_file empty_library m ≡ Some a) (n, p) f)
none_earlier (recursion n) h f =
    let found = only_used (λ m a. ContainsItself ring_file empty_library m × (a ≡ m.name)) n f in
    no_steps found.0.0 ring_model found.0.1
none_earlier (latch_inside n) h f =
    let found = only_used (λ m a. HasLatchInside ring_file empty_library m × (a ≡ m.name)) n f in
    found.0.0 refl
none_earlier (too_deep n) h f =
    let found = only_used (λ m a. IsTooDeep ring_file empty_library m × (a ≡ m.name)) n f in
    deep found.0.2 found.0.3 (subst (λ m. Chain ring_file found.0.2 m ring_model) (sym (main_is found.0.0 found.0.1)) found.0.4)
  where
    deep : (n : ℕ) → 16 < n → Chain ring_file n ring_model ring_model → ⊥
    deep zero h c = omega arith
    deep (suc n) h c = no_steps n ring_model c
none_earlier (undriven n) h f = nothing_found n (only_used (λ m a. undriven_in ring_file empty_library m ≡ Some a) n f)
none_earlier (bad_clocking n) h f =
    nothing_found n (subst (λ m. clocking_in ring_file empty_library m ≡ Some n) (sym (main_is f.0 f.1)) f.2)
none_earlier (loop ns) h f = omega arith
none_earlier (reserved n) h f = omega arith
none_earlier (too_large what) h f = omega arith

pub ring_is_refused : IsRefusedWith ring_file empty_library (loop (codes "p" ∷ codes "q" ∷ []))
ring_is_refused =
    record {
      found = record {
        before = [];
        model = ring_model;
        after = [];
        split = refl;
        used = (ring_model, refl, 0, refl);
        here = record {
          start = codes "p";
          is_start = first_unsettled (codes "p") (codes "q" ∷ []) p_unsettled;
          front = [];
          first = codes "p";
          others = codes "q" ∷ [];
          cycle = refl;
          begins = refl;
          walks = (p_walks, q_walks);
          once = refl;
        };
        none_before = tt;
      };
      first = none_earlier;
    }
