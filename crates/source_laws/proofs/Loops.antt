-- Where the driver of each net of a list reads a net of the list, reads lead into a loop.
use Rattle.std.proofs.Common.{◌≡◌, refl, ℕ, zero, suc, ◌<◌, List, [], ◌∷◌, ◌++◌, length, Bool, true, false, ◌⊎◌, inl, inr, arith}
use Rattle.std.specs.Prelude.{IsTrue}
use Rattle.std.specs.List.{AllByRecursion}
use Rattle.std.specs.Cmp.Lexicographic.{bytes_decides}
use Rattle.netlist_spec.specs.Netlist.{Name, same_name, stands_in, Model, File}
use Rattle.netlist_spec.specs.Covers.{Library}
use Rattle.netlist_spec.specs.Sound.{ReadsFor, LeadsBack}
use Rattle.netlist_spec.specs.SoundFaults.{IsUnsettled}
use Rattle.source_laws.specs.Settling.{AreLeftOver}
use Rattle.source_laws.proofs.Lists.{Among, all_among, among_all, standing, without, without_keeps, shorter}

module _ (file : File) (library : Library) (m : Model) where
  -- a way of reads that goes one read further
  further : (a b c : Name) (rest : List Name) → LeadsBack file library m b (a ∷ rest) → ReadsFor file library m b c → LeadsBack file library m c (a ∷ (rest ++ b ∷ []))
  further a b c [] w r = (w, r)
  further a b c (x ∷ rest) w r = (w.0, further x b c rest w.1 r)

  -- from each net that was visited a way leads to this one
  abbrev Lead : List Name → Name → Type 0
  Lead visited n = AllByRecursion (λ p. (rest : List Name) × LeadsBack file library m n (p ∷ rest)) visited

  all_further : (n k : Name) (visited : List Name) → Lead visited n → ReadsFor file library m n k → Lead visited k
  all_further n k [] w r = tt
  all_further n k (p ∷ ps) w r = ((w.0.0 ++ n ∷ [], further p n k w.0.0 w.0.1 r), all_further n k ps w.1 r)

  pub read_on : (n k : Name) → ReadsFor file library m n k → IsUnsettled file library m k → IsUnsettled file library m n
  read_on n k r u = record { way = k ∷ u.way; entry = u.entry; others = u.others; leads = (r, u.leads); enters = u.enters }

  module _ (left : List Name) (over : AreLeftOver file library m left) where
    -- A walk along the reads. It enters a loop when it comes to a net that it visited.
    walk : (fuel : ℕ) (fresh visited : List Name) → length fresh < fuel → (n : Name) → Among n left → Lead visited n
        → ((k : Name) → Among k left → Among k fresh ⊎ Among k (n ∷ visited)) → IsUnsettled file library m n
    walk zero fresh visited h n in_left lead known = absurd (omega arith)
    walk (suc fuel) fresh visited h n in_left lead known =
        let (k, r, k_stands) = all_among (λ n. (k : Name) × ReadsFor file library m n k × IsTrue (stands_in k left)) left over n in_left in
        let k_left = standing k left k_stands in
        let onward : Lead (n ∷ visited) k = (([], r), all_further n k visited lead r) in
        elim (known k k_left) [
          | inl f ↦
              read_on n k r
              (walk fuel (without k fresh) (n ∷ visited) (let less = shorter k fresh f in omega arith) k k_left onward
              (λ j j_left. elim (known j j_left) [ inl g ↦ without_or_same j k (same_name k j) refl g | inr g ↦ inr (inr g) ]))
          | inr v ↦
              let (rest, back) = all_among (λ p. (rest : List Name) × LeadsBack file library m k (p ∷ rest)) (n ∷ visited) onward k v in
              record { way = k ∷ []; entry = k; others = rest; leads = (r, refl); enters = back }
        ]
      where
        without_or_same : (j k : Name) (b : Bool) → same_name k j ≡ b → Among j fresh → Among j (without k fresh) ⊎ ((k ≡ j) ⊎ Among j (n ∷ visited))
        without_or_same j k true e g = inr (inl ((bytes_decides k j).0 e))
        without_or_same j k false e g = inl (without_keeps k j fresh e g)

    pub left_over : AllByRecursion (IsUnsettled file library m) left
    left_over = among_all (IsUnsettled file library m) left (λ n h. walk (suc (length left)) left [] (omega arith) n h tt (λ k g. inl g))
