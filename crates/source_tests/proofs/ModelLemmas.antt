-- The models of a source, by their places.
use Rattle.std.proofs.Common.{◌≡◌, sym, ◌∙◌, ap, subst, ℕ, zero, suc, ◌<◌, List, [], ◌∷◌, length, get_or, Some, slice_get, Bool, true, false, arith}
use Rattle.std.proofs.lemmas.Option.{slice_get-get_or, get_or_from_slice_get}
use Rattle.netlist_spec.specs.FileRules.{IsFile, first_line, HaveLines}
use Rattle.netlist_spec.specs.Netlist.{Model}
use Rattle.netlist_spec.specs.Sound.{IsUsed}
use Rattle.blif_read.specs.declared.file.Model.{Model as ReadModel}
use Rattle.blif_read.specs.Ids.{HasIds}
use Rattle.blif_read.specs.View.{model_of}
use Rattle.line_order.specs.Merge.{AreByLine}
use Rattle.line_order.proofs.MergeLemmas.{by_line_of}
use Rattle.source_nets.specs.declared.types.ModelSurvey.{ModelSurvey}
use Rattle.source_nets.specs.declared.types.Source.{Source}
use Rattle.source_nets.specs.declared.types.Survey.{Survey}
use Rattle.source_nets.specs.Ports.{IsSource, source_file, source_library}
use Rattle.source_nets.specs.Survey.{AreUsedMarks, IsModelSurvey, IsSurvey}
use Rattle.source_nets.proofs.SurveyLemmas.{row_at, zip_length, zip_left}

by_line_at : (ms : List Model) (i : ℕ) (m : Model) → HaveLines ms → slice_get ms i ≡ Some m → AreByLine m
by_line_at [] i m lines e = cc e
by_line_at (k ∷ ms) zero m lines e = let same : k ≡ m = cc e in subst AreByLine same (by_line_of (first_line ms) k lines.0)
by_line_at (k ∷ ms) (suc i) m lines e = by_line_at ms i m lines.1 e

read_at : {A : Type 0} (xs : List A) (i : ℕ) (x : A) → i < length xs → x ≡ get_or xs i x → slice_get xs i ≡ Some x
read_at {A = A} xs i x inside is = slice_get-get_or xs i x inside ∙ ap (λ (y : A). Some y) (sym is)

within : {A : Type 0} (xs : List A) (i : ℕ) (x : A) → slice_get xs i ≡ Some x → i < length xs
within [] i x e = cc e
within (y ∷ xs) zero x e = omega arith
within (y ∷ xs) (suc i) x e = let rest = within xs i x e in omega arith

-- an item of a list that is gone through stands at its place
pub stands_at : {A : Type 0} (xs items : List A) (i : ℕ) (x : A) → items ≡ xs → i < length items → x ≡ get_or items i x → slice_get xs i ≡ Some x
stands_at xs items i x same inside is = ap (λ ys. slice_get ys i) (sym same) ∙ read_at items i x inside is

-- a model that stands at a place of a file
module _ (source : Source) (k : ℕ) (m : ReadModel) (at : slice_get source.file.now.models.items k ≡ Some m) where
  pub model_there : slice_get (source_file source).models k ≡ Some (model_of m)
  model_there = row_at model_of source.file.now.models.items k m at

  pub ids_there : IsSource source → HasIds m
  ids_there is_source =
      let same = get_or_from_slice_get source.file.now.models.items k m m at in
      subst HasIds same (is_source.ids k m (within source.file.now.models.items k m at))

  pub lines_there : IsFile (source_file source) → AreByLine (model_of m)
  lines_there is_file = by_line_at (source_file source).models k (model_of m) is_file.lines model_there

  module _ (survey : Survey) (is_survey : IsSurvey (source_file source) (source_library source) survey) where
    pub surveyed : k < length survey.models.items
    surveyed = subst (λ n. k < n) (zip_length _ (source_file source).models survey.models.items is_survey.models) (within (source_file source).models k (model_of m) model_there)

    pub survey_there : (s : ModelSurvey) → s ≡ get_or survey.models.items k s → IsModelSurvey (source_file source) (source_library source) (model_of m) s
    survey_there s is =
        zip_left (IsModelSurvey (source_file source) (source_library source)) (source_file source).models survey.models.items k (model_of m) s is_survey.models model_there (read_at survey.models.items k s surveyed is)

  module _ (used : List Bool) (are_used : AreUsedMarks (source_file source) used) where
    pub marked : k < length used
    marked = subst (λ n. k < n) (sym are_used.each) (within (source_file source).models k (model_of m) model_there)

    pub used_there : get_or used k false ≡ true → IsUsed (source_file source) (model_of m)
    used_there e = (are_used.marked k (model_of m) model_there).0 e

    pub unused_there : get_or used k false ≡ false → IsUsed (source_file source) (model_of m) → ⊥
    unused_there e u = let on : get_or used k false ≡ true = (are_used.marked k (model_of m) model_there).1 u in cc (on, e)
