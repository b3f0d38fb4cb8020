-- A source that places a model is sound.
use Rattle.std.proofs.Common.{◌≡◌, refl, sym, ◌∙◌, ap, subst, ℕ, zero, suc, ◌<◌, ◌⊎◌, inl, inr, List, [], ◌∷◌, get_or, codes, Bool, true, false, ◌||◌, Some, arith, lit≤, ◌≤◌}
use Rattle.std.specs.Prelude.{IsTrue}
use Rattle.std.specs.Cmp.Lexicographic.{bytes_decides}
use Rattle.netlist_spec.specs.Netlist.{Name, Statement, names, Model, same_name, stands_in}
use Rattle.netlist_spec.specs.Covers.{empty_library}
use Rattle.netlist_spec.specs.Placed.{find_model}
use Rattle.netlist_spec.specs.Sound.{Chain, Places, IsMain, IsUsed, ReadsFor, IsLoop, drives, reads, IsSound, IsSoundModel, IsSoundMain}
use Rattle.spec_examples.specs.Examples.{buffer_cover}
use Rattle.spec_examples.specs.SourceExamples.{copying_model, placing_statement, placing_model, placing_file}

either : (b : Bool) → (b || false) ≡ true → b ≡ true
either true e = refl
either false e = e

one_name : (n k : Name) → IsTrue (stands_in n (k ∷ [])) → n ≡ k
one_name n k h = (bytes_decides n k).0 (either _ h)

placed_model : (k : Model) → Places placing_file placing_model k → copying_model ≡ k
placed_model k p =
    let is_s = one_name p.0 (codes "s") p.1 in
    let e : Some copying_model ≡ Some k = subst (λ n. find_model (placing_model ∷ copying_model ∷ []) n ≡ Some k) is_s p.2 in
    cc e

places_none : (k : Model) → Places placing_file copying_model k → ⊥
places_none k p = cc p.1

abbrev OneStep : ℕ → Model → Type 0
OneStep n k = ((n ≡ 0) × (placing_model ≡ k)) ⊎ ((n ≡ 1) × (copying_model ≡ k))

one_step : (n : ℕ) (k : Model) → Chain placing_file n placing_model k → OneStep n k
one_step zero k c = inl (refl, c)
one_step (suc n) k c =
    elim (one_step n c.0 c.1) [
      | inl h ↦ inr (ap suc h.0, placed_model k (subst (λ m. Places placing_file m k) (sym h.1) c.2))
      | inr h ↦ absurd (places_none k (subst (λ m. Places placing_file m k) (sym h.1) c.2))
    ]

differ_by_name : (a b : Model) → same_name a.name b.name ≡ false → a ≡ b → ⊥
differ_by_name a b f e = not_itself b.name (subst (λ m. same_name m.name b.name ≡ false) e f)
  where
    not_itself : (n : Name) → same_name n n ≡ false → ⊥
    not_itself n h = let t : same_name n n ≡ true = (bytes_decides n n).1 refl in cc (h, t)

no_way_back : (n : ℕ) → Chain placing_file (suc n) placing_model placing_model → ⊥
no_way_back n c =
    elim (one_step (suc n) placing_model c) [
      | inl h ↦ absurd (cc h.0)
      | inr h ↦ differ_by_name copying_model placing_model refl h.1
    ]

no_inner_step : (n : ℕ) (k : Model) → Chain placing_file n copying_model k → copying_model ≡ k
no_inner_step zero k c = c
no_inner_step (suc n) k c = absurd (places_none k (subst (λ m. Places placing_file m k) (sym (no_inner_step n c.0 c.1)) c.2))

no_inner_ring : (n : ℕ) → Chain placing_file (suc n) copying_model copying_model → ⊥
no_inner_ring n c = places_none copying_model (subst (λ m. Places placing_file m copying_model) (sym (no_inner_step n c.0 c.1)) c.2)

main_is : (m : Model) → IsMain placing_file m → placing_model ≡ m
main_is m e = cc

no_true : false ≡ true → ⊥
no_true e = cc

-- each model has one statement, which drives one net and reads another
module _ (m : Model) (its : Statement) (out inn : Name) where
  go : (k : ℕ) (s : Statement) (a b : Name) → k < 1 → get_or (its ∷ []) k s ≡ s
      → IsTrue (stands_in a (drives placing_file empty_library s)) → IsTrue (stands_in b (reads placing_file empty_library s))
      → (IsTrue (stands_in a (drives placing_file empty_library its))) × (IsTrue (stands_in b (reads placing_file empty_library its)))
  go zero s a b h e d f = (subst (λ x. IsTrue (stands_in a (drives placing_file empty_library x))) (sym e) d, subst (λ x. IsTrue (stands_in b (reads placing_file empty_library x))) (sym e) f)
  go (suc k) s a b h e d f = absurd (omega arith)

top_reads : (a b : Name) → ReadsFor placing_file empty_library placing_model a b → (a ≡ codes "y") × (b ≡ codes "a")
top_reads a b r =
    let g = go placing_model placing_statement (codes "y") (codes "a") r.1.0 r.0 a b r.1.1 r.1.2 r.3 r.4 in
    (one_name a (codes "y") g.0, one_name b (codes "a") g.1)

sub_reads : (a b : Name) → ReadsFor placing_file empty_library copying_model a b → (a ≡ codes "q") × (b ≡ codes "p")
sub_reads a b r =
    let g = go copying_model (names (codes "p" ∷ []) (codes "q") buffer_cover) (codes "q") (codes "p") r.1.0 r.0 a b r.1.1 r.1.2 r.3 r.4 in
    (one_name a (codes "q") g.0, one_name b (codes "p") g.1)

module _ (m : Model) (out inn : Name) (apart : out ≡ inn → ⊥) (only : (a b : Name) → ReadsFor placing_file empty_library m a b → (a ≡ out) × (b ≡ inn)) where
  no_ring : (first : Name) (ns : List Name) → IsLoop placing_file empty_library m (first ∷ ns) → ⊥
  no_ring first [] l = apart (sym (only first first l).0 ∙ (only first first l).1)
  no_ring first (k ∷ []) l = apart (sym (only k first l.1).0 ∙ (only first k l.0).1)
  no_ring first (k ∷ j ∷ ns) l = apart (sym (only k j l.1.0).0 ∙ (only first k l.0).1)

  no_loop : (ns : List Name) → IsLoop placing_file empty_library m ns → ⊥
  no_loop [] l = l
  no_loop (n ∷ ns) l = no_ring n ns l

y_is_not_a : codes "y" ≡ codes "a" → ⊥
y_is_not_a e = no_true (ap (λ w. same_name w (codes "a")) e)

q_is_not_p : codes "q" ≡ codes "p" → ⊥
q_is_not_p e = no_true (ap (λ w. same_name w (codes "p")) e)

sound_top : IsSoundModel placing_file empty_library placing_model
sound_top =
    record {
      drivers = record { inputs = refl; outputs = refl; clocks = refl; drivers = refl };
      driven = (refl, (refl, tt));
      placements = (record { meaning = λ e. cc e; once = refl; ports = (refl, (refl, tt)); given = (refl, tt) }, tt);
      no_recursion = no_way_back;
      latches = λ h. refl;
      no_loop = no_loop placing_model (codes "y") (codes "a") y_is_not_a top_reads;
    }

sound_sub : IsSoundModel placing_file empty_library copying_model
sound_sub =
    record {
      drivers = record { inputs = refl; outputs = refl; clocks = refl; drivers = refl };
      driven = (refl, (refl, tt));
      placements = (tt, tt);
      no_recursion = no_inner_ring;
      latches = λ h. refl;
      no_loop = no_loop copying_model (codes "q") (codes "p") q_is_not_p sub_reads;
    }

sound_main : IsSoundMain placing_file empty_library placing_model
sound_main =
    record {
      clocking = tt;
      clocks_unread = tt;
      shallow = shallow;
      name = refl;
      names = (refl, (refl, tt));
      inputs = lit≤ tt;
      outputs = lit≤ tt;
      latches = lit≤ tt;
      cost = lit≤ tt;
    }
  where
    shallow : (k : Model) (n : ℕ) → Chain placing_file n placing_model k → n ≤ 16
    shallow k n c =
        elim (one_step n k c) [
          | inl h ↦ let e = h.0 in omega arith
          | inr h ↦ let e = h.0 in omega arith
        ]

used_sound : (m : Model) → IsUsed placing_file m → IsSoundModel placing_file empty_library m
used_sound m u =
    let c = subst (λ a. Chain placing_file u.2 a m) (sym (main_is u.0 u.1)) u.3 in
    elim (one_step u.2 m c) [
      | inl h ↦ subst (IsSoundModel placing_file empty_library) h.1 sound_top
      | inr h ↦ subst (IsSoundModel placing_file empty_library) h.1 sound_sub
    ]

pub placing_is_sound : IsSound placing_file empty_library
placing_is_sound = record { used = used_sound; main = λ m e. subst (IsSoundMain placing_file empty_library) (main_is m e) sound_main }
