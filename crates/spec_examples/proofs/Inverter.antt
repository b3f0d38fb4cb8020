-- The register that turns its bit is a sound source, and a guard for it has the plain size 38.
use Rattle.std.proofs.Common.{◌≡◌, refl, sym, ◌∙◌, ap, subst, ℕ, zero, suc, ◌<◌, List, [], ◌∷◌, get_or, codes, Bool, true, false, ◌||◌, Some, arith, lit≤}
use Rattle.std.specs.Prelude.{IsTrue}
use Rattle.std.specs.Cmp.Lexicographic.{bytes_decides}
use Rattle.netlist_spec.specs.Netlist.{Name, Statement, names, latch, plain, stands_in, same_name}
use Rattle.netlist_spec.specs.Covers.{empty_library}
use Rattle.netlist_spec.specs.Sound.{IsSound, IsSoundModel, IsSoundMain, ReadsFor, IsLoop, combines, drives, reads}
use Rattle.guard_spec.specs.Plain.{IsPlain}
use Rattle.netlist_spec.specs.Cones.{IsReached, itself, behind, IsInCone}
use Rattle.guard_spec.specs.Codes.{detect}
use Rattle.spec_examples.specs.Examples.{inverter_cover, inverter_model, inverter_file, inverter_layout, parity_code}
use Rattle.spec_examples.proofs.Single.{only_chain, main_is, used_is}

either : (b : Bool) → (b || false) ≡ true → b ≡ true
either true e = refl
either false e = e

-- a name among one name is that name
one_name : (n k : Name) → IsTrue (stands_in n (k ∷ [])) → n ≡ k
one_name n k h = (bytes_decides n k).0 (either _ h)

abbrev pub its_latch : Statement
its_latch = latch (codes "n") (codes "q") plain (Some 0)

abbrev pub its_gate : Statement
its_gate = names (codes "q" ∷ []) (codes "n") inverter_cover

-- the only cell that reads within a cycle drives n and reads q
pub only_reads : (a b : Name) → ReadsFor inverter_file empty_library inverter_model a b → (a ≡ codes "n") × (b ≡ codes "q")
only_reads a b r = go r.1.0 r.0 r.1.1 r.1.2 r.2 r.3 r.4
  where
    go : (k : ℕ) (s : Statement) → k < 2 → get_or (its_latch ∷ its_gate ∷ []) k s ≡ s → IsTrue (combines s)
        → IsTrue (stands_in a (drives inverter_file empty_library s)) → IsTrue (stands_in b (reads inverter_file empty_library s))
        → (a ≡ codes "n") × (b ≡ codes "q")
    go zero s h e c d f = absurd (cc (ap (combines) e, c))
    go (suc zero) s h e c d f = (
      one_name a (codes "n") (subst (λ x. IsTrue (stands_in a (drives inverter_file empty_library x))) (sym e) d),
      one_name b (codes "q") (subst (λ x. IsTrue (stands_in b (reads inverter_file empty_library x))) (sym e) f),
    )
    go (suc (suc k)) s h e c d f = absurd (omega arith)

no_true : false ≡ true → ⊥
no_true e = cc

n_is_not_q : codes "n" ≡ codes "q" → ⊥
n_is_not_q e = no_true (ap (λ w. same_name w (codes "q")) e)

no_ring : (first : Name) (ns : List Name) → IsLoop inverter_file empty_library inverter_model (first ∷ ns) → ⊥
no_ring first [] l = n_is_not_q (sym (only_reads first first l).0 ∙ (only_reads first first l).1)
no_ring first (k ∷ []) l = n_is_not_q (sym (only_reads k first l.1).0 ∙ (only_reads first k l.0).1)
no_ring first (k ∷ j ∷ ns) l = n_is_not_q (sym (only_reads k j l.1.0).0 ∙ (only_reads first k l.0).1)

no_loop : (ns : List Name) → IsLoop inverter_file empty_library inverter_model ns → ⊥
no_loop [] l = l
no_loop (n ∷ ns) l = no_ring n ns l

sound_model : IsSoundModel inverter_file empty_library inverter_model
sound_model =
    record {
      drivers = record { inputs = refl; outputs = refl; clocks = refl; drivers = refl };
      driven = (refl, (refl, (refl, tt)));
      placements = (tt, (tt, tt));
      no_recursion = λ n c. absurd (cc (only_chain inverter_model refl (suc n) inverter_model c).0);
      latches = λ h. absurd (h refl);
      no_loop = no_loop;
    }

sound_main : IsSoundMain inverter_file empty_library inverter_model
sound_main =
    record {
      clocking = (refl, tt);
      clocks_unread = tt;
      shallow = λ k n c. let e = (only_chain inverter_model refl n k c).0 in omega arith;
      name = refl;
      names = (refl, (refl, tt));
      inputs = lit≤ tt;
      outputs = lit≤ tt;
      latches = lit≤ tt;
      cost = lit≤ tt;
    }

pub inverter_is_sound : IsSound inverter_file empty_library
inverter_is_sound =
    record {
      used = λ m u. subst (IsSoundModel inverter_file empty_library) (used_is inverter_model refl m u) sound_model;
      main = λ m e. subst (IsSoundMain inverter_file empty_library) (main_is inverter_model refl m e) sound_main;
    }

-- what is reached from each net
pub from_q : {k : Name} → IsReached inverter_file empty_library inverter_model (codes "q") k → k ≡ codes "q"
from_q itself = refl
from_q (behind r f) = absurd (n_is_not_q (sym (only_reads _ _ f).0 ∙ from_q r))

pub not_in_cone_of_q : IsInCone inverter_file empty_library inverter_model (codes "q") its_gate → ⊥
not_in_cone_of_q c = n_is_not_q (sym (one_name c.1 (codes "n") c.2) ∙ from_q c.3)

-- Row by row: bit n costs 2 + 6, bit q costs 2; the state word costs 8 + 1 + 8, the output word 2 + 1 + 2, and
-- each of two rails 1 + 3 + 3.
pub inverter_plain : IsPlain inverter_file empty_library inverter_model parity_code detect 1 inverter_layout 38
inverter_plain =
    record {
      state_cost = 17;
      is_state_cost = (
        17 ∷ [],
        (
          (
            codes "n" ∷ [],
            (refl, tt),
            (
              8 ∷ [],
              (
                record {
                  cone = 6;
                  is_cone = (false ∷ true ∷ [], (((λ e. cc e), (λ c. absurd (cc c.0))), (((λ e. (refl, codes "n", refl, itself)), (λ c. refl)), tt)), refl);
                  correctors = 0;
                  are_correctors = refl;
                  total = refl;
                },
                tt,
              ),
              refl,
            ),
          ),
          tt,
        ),
        refl,
      );
      output_cost = 5;
      is_output_cost = (
        5 ∷ [],
        (
          (
            codes "q" ∷ [],
            (refl, tt),
            (
              2 ∷ [],
              (
                record {
                  cone = 0;
                  is_cone = (false ∷ false ∷ [], (((λ e. cc e), (λ c. absurd (cc c.0))), (((λ e. cc e), (λ c. absurd (not_in_cone_of_q c))), tt)), refl);
                  correctors = 0;
                  are_correctors = refl;
                  total = refl;
                },
                tt,
              ),
              refl,
            ),
          ),
          tt,
        ),
        refl,
      );
      total = refl;
    }
