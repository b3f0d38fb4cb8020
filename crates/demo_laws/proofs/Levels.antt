-- The nets of the demo design stand on levels, so there is no loop, and no model is placed.
use Rattle.std.proofs.Common.{◌≡◌, refl, sym, ◌∙◌, ap, subst, ℕ, zero, suc, ◌+◌, ◌*◌, ◌<◌, ◌≤◌, List, [], ◌∷◌, map, codes, true, cond, Some, None, arith, lit<, Contains}
use Rattle.std.specs.Prelude.{◌==◌}
use Rattle.std.specs.List.{AllByRecursion, flat_map}
use Rattle.netlist_spec.specs.Netlist.{Name, Statement, Model}
use Rattle.netlist_spec.specs.Placed.{find_model}
use Rattle.netlist_spec.specs.Sound.{combines, drives, reads, placed_names, Places, Chain, IsMain, IsUsed, ReadsFor, LeadsBack, IsLoop}
use Rattle.source_laws.proofs.Lists.{Among, among, all_among, standing}
use Rattle.demo_laws.specs.DemoFile.{stored, substituted, box, demo_statements, demo_located, demo_model, demo_file}
use Rattle.demo_laws.proofs.Names.{first_letter}
use Rattle.demo_laws.proofs.Ranges.{all_unmapped, all_flat}
use Rattle.demo_laws.proofs.Parts.{library, box_drives, box_reads, statements_are, each_statement}

-- D nets stand above what the boxes drive, and outputs and those above latch outputs
abbrev level_of : ℕ → ℕ
level_of letter = cond (letter == 110) 2 (cond (letter == 98) 1 (cond (letter == 99) 1 0))

abbrev pub level : Name → ℕ
level x = level_of (first_letter x)

module _ (n : ℕ) where
  abbrev Climbs : Statement → Type 0
  Climbs s = combines s ≡ true → AllByRecursion (λ x. AllByRecursion (λ k. level k < level x) (reads (demo_file n) library s)) (drives (demo_file n) library s)

  box_climbs : (j : ℕ) → Climbs (box j)
  box_climbs j c =
      subst (λ l. AllByRecursion (λ x. AllByRecursion (λ k. level k < level x) (reads (demo_file n) library (box j))) l) (sym (box_drives n j))
      (subst (λ r. AllByRecursion (λ x. AllByRecursion (λ k. level k < level x) r) (substituted (4 * j + 0) ∷ substituted (4 * j + 1) ∷ substituted (4 * j + 2) ∷ substituted (4 * j + 3) ∷ [])) (sym (box_reads n j))
      (let low : AllByRecursion (λ k. level k < 1) (stored (4 * j + 0) ∷ stored (4 * j + 1) ∷ stored (4 * j + 2) ∷ stored (4 * j + 3) ∷ []) = (lit< tt, (lit< tt, (lit< tt, (lit< tt, tt)))) in
      (low, (low, (low, (low, tt))))))

  all_climb : AllByRecursion Climbs (demo_statements n)
  all_climb = each_statement n Climbs (λ i h c. cc c) (λ j h. box_climbs j) (λ i h c. ((lit< tt, (lit< tt, (lit< tt, tt))), tt)) (λ i h c. ((lit< tt, tt), tt))

  pub in_statements : (s : Statement) → Contains (map (λ l. l.what) (demo_located n)) s → Among s (demo_statements n)
  in_statements s c = subst (Among s) (statements_are n) (among (map (λ l. l.what) (demo_located n)) s c)

  reads_below : (x k : Name) → ReadsFor (demo_file n) library (demo_model n) x k → level k < level x
  reads_below x k (s, in_s, c, d, r) =
      all_among (λ k. level k < level x) (reads (demo_file n) library s)
      (all_among (λ x. AllByRecursion (λ k. level k < level x) (reads (demo_file n) library s)) (drives (demo_file n) library s) (all_among Climbs (demo_statements n) all_climb s (in_statements s in_s) c) x (standing x (drives (demo_file n) library s) d))
      k (standing k (reads (demo_file n) library s) r)

  leads_below : (first x : Name) (ns : List Name) → LeadsBack (demo_file n) library (demo_model n) first (x ∷ ns) → level first < level x
  leads_below first x [] r = reads_below x first r
  leads_below first x (k ∷ ns) w = let a = reads_below x k w.0 in let b = leads_below first k ns w.1 in omega arith

  pub no_loop : (ns : List Name) → IsLoop (demo_file n) library (demo_model n) ns → ⊥
  no_loop [] l = l
  no_loop (x ∷ ns) l = let a = leads_below x x ns l in omega arith

  -- ---- models

  abbrev NamesBox : Statement → Type 0
  NamesBox s = AllByRecursion (λ x. x ≡ codes "present") (placed_names s)

  all_name_box : AllByRecursion (λ x. x ≡ codes "present") (flat_map (λ s. placed_names s.what) (demo_located n))
  all_name_box =
      all_flat (λ x. x ≡ codes "present") (λ s. placed_names s.what) (demo_located n) (all_unmapped NamesBox (λ s. s.what) (demo_located n)
      (subst (λ l. AllByRecursion NamesBox l) (sym (statements_are n)) (each_statement n NamesBox (λ i h. tt) (λ j h. (refl, tt)) (λ i h. tt) (λ i h. tt))))

  places_none : (k : Model) → Places (demo_file n) (demo_model n) k → ⊥
  places_none k (name, named, found) =
      let is : name ≡ codes "present" = all_among (λ x. x ≡ codes "present") (flat_map (λ s. placed_names s.what) (demo_located n)) all_name_box name (standing name (flat_map (λ s. placed_names s.what) (demo_located n)) named) in
      let none : find_model (demo_model n ∷ []) (codes "present") ≡ None = refl in
      let other : None ≡ Some k = sym none ∙ ap (find_model (demo_model n ∷ [])) (sym is) ∙ found in
      cc other

  chain_ends : (i : ℕ) (k : Model) → Chain (demo_file n) i (demo_model n) k → (i ≡ 0) × (demo_model n ≡ k)
  chain_ends zero k e = (refl, e)
  chain_ends (suc i) k (c, chain, p) = absurd (places_none k (subst (λ m. Places (demo_file n) m k) (sym (chain_ends i c chain).1) p))

  pub main_is : (m : Model) → IsMain (demo_file n) m → demo_model n ≡ m
  main_is m main = let e : Some (demo_model n) ≡ Some m = main in cc e

  pub used_is : (m : Model) → IsUsed (demo_file n) m → demo_model n ≡ m
  used_is m (top, main, i, chain) = (chain_ends i m (subst (λ t. Chain (demo_file n) i t m) (sym (main_is top main)) chain)).1

  pub no_recursion : (i : ℕ) → Chain (demo_file n) (suc i) (demo_model n) (demo_model n) → ⊥
  no_recursion i chain = let e = (chain_ends (suc i) (demo_model n) chain).0 in absurd (omega arith)

  pub shallow : (k : Model) (i : ℕ) → Chain (demo_file n) i (demo_model n) k → i ≤ 16
  shallow k i chain = let e = (chain_ends i k chain).0 in omega arith
