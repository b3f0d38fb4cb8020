-- What stands in tables when the nets of ports are given and taken.
use Rattle.std.proofs.Common.{◌≡◌, ◌≢◌, refl, sym, ◌∙◌, subst, ℕ, Bool, true, false, ◌||◌, cond, List, [], ◌∷◌, length, map, filter, IsTrue, inl}
use Rattle.std.specs.Prelude.{if◌then◌else◌}
use Rattle.std.specs.List.{AllByRecursion}
use Rattle.netlist_spec.specs.Netlist.{Name, same_name, stands_in, are_distinct, Bind}
use Rattle.netlist_spec.specs.Placed.{actuals_among}
use Rattle.source_laws.proofs.Lists.{Among, both, stands}
use Rattle.lowering.specs.Nets.{net_in}
use Rattle.model_lowering.specs.Binds.{note, given_inside, answered_outside}
use Rattle.model_lowering.proofs.NetIn.{note_size, note_here, note_other}

abbrev pub formals : List Bind → List Name
formals binds = map (λ (b : Bind). b.formal) binds

pub differs : (n k : Name) (ks : List Name) → Among k ks → stands_in n ks ≡ false → n ≢ k
differs n k ks h absent same = let t : stands_in n ks ≡ true = stands n ks (subst (λ z. Among z ks) (sym same) h) in cc (t, absent)

module _ (outer inner : List Name) where
  -- ---- into the placed model

  pub given_size : (table : List ℕ) (binds : List Bind) (inside : List ℕ) → length (given_inside outer inner table binds inside) ≡ length inside
  given_size table [] inside = refl
  given_size table (b ∷ binds) inside = given_size table binds (note inner b.formal (net_in outer table b.actual) inside) ∙ note_size inner b.formal (net_in outer table b.actual) inside

  given_other : (table : List ℕ) (binds : List Bind) (inside : List ℕ) (n : Name) → AllByRecursion (λ b. Among b.formal inner) binds → stands_in n (formals binds) ≡ false
      → net_in inner (given_inside outer inner table binds inside) n ≡ net_in inner inside n
  given_other table [] inside n named absent = refl
  given_other table (b ∷ binds) inside n named absent =
      given_other table binds (note inner b.formal (net_in outer table b.actual) inside) n named.1 (later (same_first n b.formal) (stands_in n (formals binds)) absent)
      ∙ note_other inner n b.formal (net_in outer table b.actual) inside named.0 (differs n b.formal (formals (b ∷ binds)) (inl refl) absent)
    where
      same_first : Name → Name → Bool
      same_first a c = same_name a c

      later : (a c : Bool) → (a || c) ≡ false → c ≡ false
      later true c h = cc h
      later false c h = h

  pub given_each : (table : List ℕ) (binds : List Bind) (inside : List ℕ) → length inside ≡ length inner → AllByRecursion (λ b. Among b.formal inner) binds → are_distinct (formals binds) ≡ true
      → AllByRecursion (λ b. net_in inner (given_inside outer inner table binds inside) b.formal ≡ net_in outer table b.actual) binds
  given_each table [] inside size named once = tt
  given_each table (b ∷ binds) inside size named once =
      let parts = both (stands_in b.formal (formals binds)) (are_distinct (formals binds)) once in
      let net = net_in outer table b.actual in
      let next = note inner b.formal net inside in (
        given_other table binds next b.formal named.1 parts.0 ∙ note_here inner b.formal net inside size named.0,
        given_each table binds next (note_size inner b.formal net inside ∙ size) named.1 parts.1,
      )

  -- ---- out of it

  module _ (ports : List Name) (inside : List ℕ) where
    abbrev step : Bind → List ℕ → List ℕ
    step b table = if stands_in b.formal ports then note outer b.actual (net_in inner inside b.formal) table else table

    step_size : (b : Bind) (table : List ℕ) → length (step b table) ≡ length table
    step_size b table = by_case (stands_in b.formal ports)
      where
        by_case : (t : Bool) → length (if t then note outer b.actual (net_in inner inside b.formal) table else table) ≡ length table
        by_case true = note_size outer b.actual (net_in inner inside b.formal) table
        by_case false = refl

    pub answered_size : (binds : List Bind) (table : List ℕ) → length (answered_outside outer inner ports inside binds table) ≡ length table
    answered_size [] table = refl
    answered_size (b ∷ binds) table = answered_size binds (step b table) ∙ step_size b table

    pub answered_other : (binds : List Bind) (table : List ℕ) (n : Name) → AllByRecursion (λ b. Among b.actual outer) binds → stands_in n (actuals_among ports binds) ≡ false
        → net_in outer (answered_outside outer inner ports inside binds table) n ≡ net_in outer table n
    answered_other [] table n named absent = refl
    answered_other (b ∷ binds) table n named absent = by_case (stands_in b.formal ports) absent (λ t. answered_other binds t n named.1)
      where
        later : (a c : Bool) → (a || c) ≡ false → c ≡ false
        later true c h = cc h
        later false c h = h

        by_case : (t : Bool) → stands_in n (map (λ (b : Bind). b.actual) (cond t (b ∷ filter (λ b. stands_in b.formal ports) binds) (filter (λ b. stands_in b.formal ports) binds))) ≡ false
            → ((table : List ℕ) → stands_in n (actuals_among ports binds) ≡ false → net_in outer (answered_outside outer inner ports inside binds table) n ≡ net_in outer table n)
            → net_in outer (answered_outside outer inner ports inside binds (if t then note outer b.actual (net_in inner inside b.formal) table else table)) n ≡ net_in outer table n
        by_case true a rest =
            rest (note outer b.actual (net_in inner inside b.formal) table) (later (same_name n b.actual) (stands_in n (actuals_among ports binds)) a)
            ∙ note_other outer n b.actual (net_in inner inside b.formal) table named.0 (differs n b.actual (b.actual ∷ actuals_among ports binds) (inl refl) a)
        by_case false a rest = rest table a

    pub answered_each : (binds : List Bind) (table : List ℕ) → length table ≡ length outer → AllByRecursion (λ b. Among b.actual outer) binds → are_distinct (actuals_among ports binds) ≡ true
        → AllByRecursion (λ b. IsTrue (stands_in b.formal ports) → net_in outer (answered_outside outer inner ports inside binds table) b.actual ≡ net_in inner inside b.formal) binds
    answered_each [] table size named once = tt
    answered_each (b ∷ binds) table size named once = by_case (stands_in b.formal ports) refl once (λ t s. answered_each binds t s named.1)
      where
        net : ℕ
        net = net_in inner inside b.formal

        by_case : (t : Bool) → stands_in b.formal ports ≡ t
            → are_distinct (map (λ (b : Bind). b.actual) (cond t (b ∷ filter (λ b. stands_in b.formal ports) binds) (filter (λ b. stands_in b.formal ports) binds))) ≡ true
            → ((table : List ℕ) → length table ≡ length outer → are_distinct (actuals_among ports binds) ≡ true
            → AllByRecursion (λ b. IsTrue (stands_in b.formal ports) → net_in outer (answered_outside outer inner ports inside binds table) b.actual ≡ net_in inner inside b.formal) binds)
            → (IsTrue (stands_in b.formal ports) → net_in outer (answered_outside outer inner ports inside binds (if t then note outer b.actual (net_in inner inside b.formal) table else table)) b.actual ≡ net_in inner inside b.formal)
            × AllByRecursion (λ c. IsTrue (stands_in c.formal ports) → net_in outer (answered_outside outer inner ports inside binds (if t then note outer b.actual (net_in inner inside b.formal) table else table)) c.actual ≡ net_in inner inside c.formal) binds
        by_case true e d rest =
            let parts = both (stands_in b.actual (actuals_among ports binds)) (are_distinct (actuals_among ports binds)) d in
            let noted = note outer b.actual (net_in inner inside b.formal) table in (
              λ _. answered_other binds noted b.actual named.1 parts.0 ∙ note_here outer b.actual (net_in inner inside b.formal) table size named.0,
              rest noted (note_size outer b.actual (net_in inner inside b.formal) table ∙ size) parts.1,
            )
        by_case false e d rest = (λ t. cc (t, e), rest table size d)
