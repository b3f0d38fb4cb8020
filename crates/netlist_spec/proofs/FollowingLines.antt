-- Lines of one model: which may follow which, and that they stand in that model.
use Rattle.std.proofs.Common.{◌≡◌, refl, ◌∙◌, ap, ap₂, ℕ, ◌+◌, List, [], ◌∷◌, ◌++◌}
use Rattle.std.specs.List.{AllByRecursion, enumerate_from}
use Rattle.netlist_spec.specs.Netlist.{Name, Model}
use Rattle.netlist_spec.specs.Statements.{Said, model_line, row_line, end_line, MayFollow, EachMayFollow}
use Rattle.netlist_spec.specs.Reads.{Numbered, model_body, model_of, models_of}

-- ---- which line may follow which

-- after any line but `.end`, any line but a row
abbrev pub IsOpen : Said → Type 0
IsOpen end_line = ⊥
IsOpen _ = Unit {0}

abbrev pub IsFree : Said → Type 0
IsFree (row_line cells last) = ⊥
IsFree _ = Unit {0}

pub free_follow : (a b : Said) → IsOpen a → IsFree b → MayFollow a b
free_follow end_line b o f = absurd o
free_follow a (row_line cells last) o f = absurd f
free_follow a b o f = tt

-- what may stand behind any line but `.end`
abbrev pub MayComeNext : List Said → Type 0
MayComeNext rest = (a : Said) → IsOpen a → EachMayFollow (a ∷ rest)

pub lines_next : (xs rest : List Said) → AllByRecursion (λ x. IsOpen x × IsFree x) xs → MayComeNext rest → MayComeNext (xs ++ rest)
lines_next [] rest h r a o = r a o
lines_next (x ∷ xs) rest h r a o = (free_follow a x o h.0.1, lines_next xs rest h.1 r x h.0.0)

pub end_next : MayComeNext (end_line ∷ [])
end_next a o = (free_follow a end_line o tt, tt)

-- ---- one model

abbrev pub IsInModel : Said → Type 0
IsInModel (model_line name) = ⊥
IsInModel _ = Unit {0}

pub body_step : (n : ℕ) (said : Said) (rest : List Numbered) → IsInModel said → model_body ((n, said) ∷ rest) ≡ (n, said) ∷ model_body rest
body_step n (model_line name) rest h = absurd h
body_step n said rest h = refl

pub models_step : (n : ℕ) (said : Said) (rest : List Numbered) → IsInModel said → models_of ((n, said) ∷ rest) ≡ models_of rest
models_step n (model_line name) rest h = absurd h
models_step n said rest h = refl

pub body_all : (n : ℕ) (lines : List Said) → AllByRecursion IsInModel lines → model_body (enumerate_from n lines) ≡ enumerate_from n lines
body_all n [] h = refl
body_all n (said ∷ lines) h = body_step n said (enumerate_from (n + 1) lines) h.0 ∙ ap (λ (l : List Numbered). (n, said) ∷ l) (body_all (n + 1) lines h.1)

pub no_models : (n : ℕ) (lines : List Said) → AllByRecursion IsInModel lines → models_of (enumerate_from n lines) ≡ []
no_models n [] h = refl
no_models n (said ∷ lines) h = models_step n said (enumerate_from (n + 1) lines) h.0 ∙ no_models (n + 1) lines h.1

pub one-model_declared : (n : ℕ) (name : Name) (lines : List Said) → AllByRecursion IsInModel lines → models_of (enumerate_from n (model_line name ∷ lines)) ≡ model_of n name (enumerate_from (n + 1) lines) ∷ []
one-model_declared n name lines h = ap₂ (λ (body : List Numbered) (more : List Model). model_of n name body ∷ more) (body_all (n + 1) lines h) (no_models (n + 1) lines h)
