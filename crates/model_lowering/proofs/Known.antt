-- What is known of the models of a sound source.
use Rattle.std.proofs.Common.{◌≡◌, sym, ◌∙◌, ap, ℕ, ◌<◌, true, List, [], length, map, Some, slice_get}
use Rattle.netlist_spec.specs.Netlist.{Statement, Located, Model, are_distinct}
use Rattle.netlist_spec.specs.Reads.{IsNarrow, IsWithinModelLimits}
use Rattle.netlist_spec.specs.Models.{latches_of}
use Rattle.netlist_spec.specs.Sound.{IsMain, IsUsed, IsSoundModel}
use Rattle.netlist_spec.specs.FileRules.{IsFileModel}
use Rattle.source_laws.proofs.Lists.{all_among}
use Rattle.source_loops.specs.Orders.{statement_at, IsModelOrder}
use Rattle.std.proofs.Common.{get_or, arith, refl, None}
use Rattle.std.specs.Prelude.{option_map}
use Rattle.std.proofs.lemmas.Option.{slice_get_within, slice_get-get_or}
use Rattle.source_nets.specs.declared.types.Meaning.{Meaning}
use Rattle.source_nets.specs.declared.types.Meaning.TheVariants.{Cell, Nothing, Model as ModelAt, Table as TableAt, Linear as LinearAt}
use Rattle.source_nets.specs.Graph.{model_place}
use Rattle.source_nets.specs.declared.types.ModelSurvey.{ModelSurvey}
use Rattle.source_nets.specs.Survey.{IsModelSurvey}
use Rattle.source_nets.proofs.SurveyLemmas.{zip_left, zip_length}
use Rattle.source_nets.specs.declared.types.Source.{Source}
use Rattle.source_nets.specs.Ports.{source_file, source_library}
use Rattle.source_check.specs.declared.types.Checked.{Checked}
use Rattle.model_lowering.specs.Inside.{IsReady}
use Rattle.model_lowering.proofs.Places.{place_among, some_at}

module _ (source : Source) (checked : Checked) (ready : IsReady source checked) where
  pub sound_model : (m : Model) → IsUsed (source_file source) m → IsSoundModel (source_file source) (source_library source) m
  sound_model m used = ready.sound.used m used

  pub no_latches : (m : Model) → IsUsed (source_file source) m → (IsMain (source_file source) m → ⊥) → latches_of m ≡ []
  no_latches m used inside = (ready.sound.used m used).latches inside

  module _ (k : ℕ) (m : Model) (at : slice_get (source_file source).models k ≡ Some m) where
    pub names_distinct : are_distinct m.names ≡ true
    names_distinct = (all_among IsFileModel (source_file source).models ready.is_file.models m (place_among (source_file source).models k m at)).distinct

    pub file_model : IsFileModel m
    file_model = all_among IsFileModel (source_file source).models ready.is_file.models m (place_among (source_file source).models k m at)

    pub narrow : (i : ℕ) (l : Located) → slice_get m.statements i ≡ Some l → IsNarrow l.what
    narrow i l there = all_among (λ (s : Located). IsNarrow s.what) m.statements (all_among IsWithinModelLimits (source_file source).models ready.is_file.limits.models m (place_among (source_file source).models k m at)).covers l (place_among m.statements i l there)

    pub order_of : IsUsed (source_file source) m → (order : List ℕ) → slice_get (map (λ row. row.items) checked.orders.items) k ≡ Some order → IsModelOrder (source_file source) (source_library source) m order
    order_of used order there = ready.found.orders.order k m order at there ((ready.found.used.marked k m at).1 used)

    pub survey_of : (found : ModelSurvey) → found ≡ get_or checked.survey.models.items k found → IsModelSurvey (source_file source) (source_library source) m found
    survey_of found is =
        let same : length (source_file source).models ≡ length checked.survey.models.items = zip_length (IsModelSurvey (source_file source) (source_library source)) (source_file source).models checked.survey.models.items ready.found.survey.models in
        let within : k < length (source_file source).models = slice_get_within (source_file source).models k m at in
        let there : slice_get checked.survey.models.items k ≡ Some found = slice_get-get_or checked.survey.models.items k found (omega (arith, same, within)) ∙ ap (λ (x : ModelSurvey). Some x) (sym is) in
        zip_left (IsModelSurvey (source_file source) (source_library source)) (source_file source).models checked.survey.models.items k m found ready.found.survey.models at there

-- a statement by its place
pub stated : (m : Model) (i : ℕ) (s : Statement) → i < length m.statements → statement_at m i ≡ Some s → (l : Located) × (slice_get m.statements i ≡ Some l) × (l.what ≡ s)
stated m i s within e =
    let r = some_at m.statements i within in
    let both : Some r.0.what ≡ Some s = sym (ap (option_map (λ (l : Located). l.what)) r.1) ∙ e in
    (r.0, r.1, cc both)

pub places_none : (meaning : Meaning) → ((k : ℕ) → meaning ≡ ModelAt k → ⊥) → model_place meaning ≡ None
places_none Cell other = refl
places_none Nothing other = refl
places_none (ModelAt k) other = absurd (other k refl)
places_none (TableAt k) other = refl
places_none (LinearAt k) other = refl
