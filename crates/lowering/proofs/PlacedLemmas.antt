-- A library entry that is placed, as gates.
use Rattle.std.proofs.Common.{◌≡◌, refl, sym, ◌∙◌, ap, subst, ℕ, List, [], ◌∷◌, length, map, filter, find, set, get_or, Bool, true, false, ◌||◌, not, cond, ◌⊎◌, inl, inr, Option, Some, None}
use Rattle.std.specs.Prelude.{IfSome, option_map}
use Rattle.std.proofs.lemmas.List.{length-set}
use Rattle.std.specs.List.{AllByRecursion}
use Rattle.netlist_spec.specs.Netlist.{Name, same_name, stands_in, are_distinct, Bind}
use Rattle.netlist_spec.specs.Placed.{actual_of, actuals_among}
use Rattle.netlist_spec.proofs.OneValue.{passes_both, fails_first}
use Rattle.netlist_spec.proofs.Occurrences.{turn}
use Rattle.imp_text.proofs.NamesLemmas.{same_name-comm, same_name-true}
use Rattle.blif_read.specs.declared.file.Bind.{Bind as ReadBind}
use Rattle.blif_read.specs.Ids.{IsIdOf}
use Rattle.blif_read.specs.View.{bind_of, name_at}
use Rattle.source_laws.proofs.Lists.{Among, among_map, map_among, among_filter, filter_among}
use Rattle.lowering.specs.Nets.{place_of, net_in}
use Rattle.lowering.specs.Ports.{output_put, outputs_put}
use Rattle.lowering.proofs.TableLemmas.{noted_here, noted_elsewhere}
use Rattle.lowering.proofs.PortLemmas.{output_length}

-- ---- what stands for a port

pub formals : (all : List Name) (binds : List ReadBind) → map (λ (b : Bind). b.formal) (map (bind_of all) binds) ≡ map (λ (b : ReadBind). b.formal) binds
formals all [] = refl
formals all (b ∷ binds) = ap (λ (ns : List Name). b.formal ∷ ns) (formals all binds)

-- the bind of a port that is given
pub found : (p : Name) (binds : List ReadBind) → stands_in p (map (λ (b : ReadBind). b.formal) binds) ≡ true → (b : ReadBind) × (find (λ (b : ReadBind). same_name b.formal p) binds ≡ Some b) × Among b binds × (b.formal ≡ p)
found p [] h = cc h
found p (b ∷ binds) h = go (same_name b.formal p) refl (ap (λ (t : Bool). t || stands_in p (map (λ (b : ReadBind). b.formal) binds)) (same_name-comm b.formal p) ∙ h) (found p binds)
  where
    go : (t : Bool) → same_name b.formal p ≡ t → (same_name b.formal p || stands_in p (map (λ (b : ReadBind). b.formal) binds)) ≡ true
        → (stands_in p (map (λ (b : ReadBind). b.formal) binds) ≡ true → (c : ReadBind) × (find (λ (b : ReadBind). same_name b.formal p) binds ≡ Some c) × Among c binds × (c.formal ≡ p))
        → (c : ReadBind) × (cond t (Some b) (find (λ (b : ReadBind). same_name b.formal p) binds) ≡ Some c) × ((b ≡ c) ⊎ Among c binds) × (c.formal ≡ p)
    go true e h later = (b, refl, inl refl, same_name-true b.formal p e)
    go false e h later = let (c, f, a, n) = later (sym (ap (λ (t : Bool). t || stands_in p (map (λ (b : ReadBind). b.formal) binds)) e) ∙ h) in (c, f, inr a, n)

-- the bind of a port, if there is one
pub found_if : (p : Name) (binds : List ReadBind) → IfSome (find (λ (b : ReadBind). same_name b.formal p) binds) (λ b. Among b binds × (b.formal ≡ p))
found_if p [] = tt
found_if p (b ∷ binds) = go (same_name b.formal p) refl (later (find (λ (b : ReadBind). same_name b.formal p) binds) (found_if p binds))
  where
    later : (o : Option ReadBind) → IfSome o (λ c. Among c binds × (c.formal ≡ p)) → IfSome o (λ c. ((b ≡ c) ⊎ Among c binds) × (c.formal ≡ p))
    later None h = tt
    later (Some c) h = (inr h.0, h.1)

    go : (t : Bool) → same_name b.formal p ≡ t → IfSome (find (λ (b : ReadBind). same_name b.formal p) binds) (λ c. ((b ≡ c) ⊎ Among c binds) × (c.formal ≡ p))
        → IfSome (cond t (Some b) (find (λ (b : ReadBind). same_name b.formal p) binds)) (λ c. ((b ≡ c) ⊎ Among c binds) × (c.formal ≡ p))
    go true e rest = (inl refl, same_name-true b.formal p e)
    go false e rest = rest

module _ (all : List Name) where
  abbrev pub actual_name : ReadBind → Name
  actual_name b = name_at all b.actual

  -- by number and by name
  pub actual_is : (p : Name) (binds : List ReadBind) → actual_of (map (bind_of all) binds) p ≡ option_map actual_name (find (λ (b : ReadBind). same_name b.formal p) binds)
  actual_is p [] = refl
  actual_is p (b ∷ binds) = go (same_name b.formal p) (actual_is p binds)
    where
      go : (t : Bool) → actual_of (map (bind_of all) binds) p ≡ option_map actual_name (find (λ (b : ReadBind). same_name b.formal p) binds)
          → option_map (λ (b : Bind). b.actual) (cond t (Some (bind_of all b)) (find (λ (b : Bind). same_name b.formal p) (map (bind_of all) binds))) ≡ option_map actual_name (cond t (Some b) (find (λ (b : ReadBind). same_name b.formal p) binds))
      go true rest = refl
      go false rest = rest

  pub actual_among : (ports : List Name) (binds : List ReadBind) (b : ReadBind) → Among b binds → stands_in b.formal ports ≡ true → Among (actual_name b) (actuals_among ports (map (bind_of all) binds))
  actual_among ports binds b h port =
      among_map (λ (b : Bind). b.actual) (filter (λ (b : Bind). stands_in b.formal ports) (map (bind_of all) binds)) (bind_of all b)
      (among_filter (λ (b : Bind). stands_in b.formal ports) (map (bind_of all) binds) (bind_of all b) (among_map (bind_of all) binds b h) port)

  pub among_actual : (ports : List Name) (binds : List ReadBind) (n : Name) → Among n (actuals_among ports (map (bind_of all) binds)) → (b : ReadBind) × Among b binds × (stands_in b.formal ports ≡ true) × (actual_name b ≡ n)
  among_actual ports binds n h =
      let (c, kept, name) = map_among (λ (b : Bind). b.actual) (filter (λ (b : Bind). stands_in b.formal ports) (map (bind_of all) binds)) n h in
      let parts = filter_among (λ (b : Bind). stands_in b.formal ports) (map (bind_of all) binds) c kept in
      let (b, there, same) = map_among (bind_of all) binds c parts.0 in
      (b, there, ap (λ (c : Bind). stands_in c.formal ports) same ∙ parts.1, ap (λ (c : Bind). c.actual) same ∙ name)

  -- ---- outputs that are noted

  module _ (d : are_distinct all ≡ true) (ports : List Name) (outs : List ℕ) where
    pub outputs_length : (binds : List ReadBind) (table : List ℕ) → length (outputs_put ports outs table binds) ≡ length table
    outputs_length [] table = refl
    outputs_length (b ∷ binds) table = outputs_length binds (output_put ports outs table b) ∙ output_length ports outs table b

    -- other names keep their nets
    pub outputs_kept : (binds : List ReadBind) (table : List ℕ) (n : Name) → AllByRecursion (λ (b : ReadBind). IsIdOf all b.actual) binds → stands_in n (actuals_among ports (map (bind_of all) binds)) ≡ false
        → net_in all (outputs_put ports outs table binds) n ≡ net_in all table n
    outputs_kept [] table n ids h = refl
    outputs_kept (b ∷ binds) table n ids h = go (stands_in b.formal ports) refl h (λ t. outputs_kept binds t n ids.1)
      where
        x : ℕ
        x = get_or outs (place_of ports b.formal) 0

        rest : Bool → List Name
        rest t = map (λ (b : Bind). b.actual) (cond t (bind_of all b ∷ filter (λ (b : Bind). stands_in b.formal ports) (map (bind_of all) binds)) (filter (λ (b : Bind). stands_in b.formal ports) (map (bind_of all) binds)))

        go : (t : Bool) → stands_in b.formal ports ≡ t → stands_in n (rest (stands_in b.formal ports)) ≡ false → ((t : List ℕ) → (stands_in n (actuals_among ports (map (bind_of all) binds)) ≡ false → net_in all (outputs_put ports outs t binds) n ≡ net_in all t n))
            → net_in all (outputs_put ports outs (cond (stands_in b.formal ports) (set table b.actual.0 x) table) binds) n ≡ net_in all table n
        go true e h later =
            let parts = fails_first (same_name n (actual_name b)) (stands_in n (actuals_among ports (map (bind_of all) binds))) (sym (ap (λ (t : Bool). stands_in n (rest t)) e) ∙ h) in
            ap (λ (t : Bool). net_in all (outputs_put ports outs (cond t (set table b.actual.0 x) table) binds) n) e
            ∙ (later (set table b.actual.0 x) parts.1 ∙ noted_elsewhere all table b.actual.0 x n ids.0 parts.0)
        go false e h later =
            ap (λ (t : Bool). net_in all (outputs_put ports outs (cond t (set table b.actual.0 x) table) binds) n) e
            ∙ later table (sym (ap (λ (t : Bool). stands_in n (rest t)) e) ∙ h)

    abbrev pub HasOutput : List ℕ → ReadBind → Type 0
    HasOutput table b = stands_in b.formal ports ≡ true → net_in all table (actual_name b) ≡ get_or outs (place_of ports b.formal) 0

    -- what stands for an output has its net
    pub outputs_noted : (binds : List ReadBind) (table : List ℕ) → length table ≡ length all → AllByRecursion (λ (b : ReadBind). IsIdOf all b.actual) binds → are_distinct (actuals_among ports (map (bind_of all) binds)) ≡ true
        → AllByRecursion (HasOutput (outputs_put ports outs table binds)) binds
    outputs_noted [] table size ids once = tt
    outputs_noted (b ∷ binds) table size ids once = go (stands_in b.formal ports) refl once (λ t e. outputs_noted binds t (e ∙ size) ids.1)
      where
        x : ℕ
        x = get_or outs (place_of ports b.formal) 0

        behind : List Name
        behind = actuals_among ports (map (bind_of all) binds)

        rest : Bool → List Name
        rest t = map (λ (b : Bind). b.actual) (cond t (bind_of all b ∷ filter (λ (b : Bind). stands_in b.formal ports) (map (bind_of all) binds)) (filter (λ (b : Bind). stands_in b.formal ports) (map (bind_of all) binds)))

        go : (t : Bool) → stands_in b.formal ports ≡ t → are_distinct (rest (stands_in b.formal ports)) ≡ true
            → ((t : List ℕ) → length t ≡ length table → are_distinct behind ≡ true → AllByRecursion (HasOutput (outputs_put ports outs t binds)) binds)
            → AllByRecursion (HasOutput (outputs_put ports outs (cond (stands_in b.formal ports) (set table b.actual.0 x) table) binds)) (b ∷ binds)
        go true e h later =
            let parts = passes_both (not (stands_in (actual_name b) behind)) (are_distinct behind) (sym (ap (λ (t : Bool). are_distinct (rest t)) e) ∙ h) in
            let P : Bool → Type 0 = λ t. AllByRecursion (HasOutput (outputs_put ports outs (cond t (set table b.actual.0 x) table) binds)) (b ∷ binds) in
            subst P (sym e) (
              (λ _. outputs_kept binds (set table b.actual.0 x) (actual_name b) ids.1 (turn _ parts.0) ∙ noted_here all table b.actual.0 x d size ids.0),
              later (set table b.actual.0 x) (length-set table b.actual.0 x) parts.1,
            )
        go false e h later =
            let P : Bool → Type 0 = λ t. AllByRecursion (HasOutput (outputs_put ports outs (cond t (set table b.actual.0 x) table) binds)) (b ∷ binds) in
            subst P (sym e) (
              (λ port. absurd (let no = e in cc (no, port))),
              later table refl (sym (ap (λ (t : Bool). are_distinct (rest t)) e) ∙ h),
            )
