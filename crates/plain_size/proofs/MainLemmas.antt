-- The main model of a file that was read.
use Rattle.std.proofs.Common.{◌≡◌, refl, sym, ◌∙◌, ap, subst, ℕ, ◌<◌, ◌≤◌, List, [], ◌∷◌, length, map, get_or, arith, min, Option, None, Some, IfSome}
use Rattle.std.specs.Prelude.{IfNone}
use Rattle.std.specs.List.{AllZip}
use Rattle.std.proofs.lemmas.List.{length-map}
use Rattle.netlist_spec.specs.Covers.{Library}
use Rattle.netlist_spec.specs.Models.{first_model, main_model}
use Rattle.netlist_spec.specs.Netlist.{File, Located, Model}
use Rattle.netlist_spec.specs.Size.{cost_of}
use Rattle.netlist_spec.specs.Sound.{HasOneDriverEach, IsSound, drives, reads}
use Rattle.guard_spec.specs.Words.{Layout, Settings}
use Rattle.guard_spec.specs.Plain.{IsPlain}
use Rattle.blif_read.specs.declared.file.Model.{Model as ReadModel}
use Rattle.blif_read.specs.View.{located_of, model_of, name_at}
use Rattle.source_nets.specs.declared.types.ModelSurvey.{ModelSurvey}
use Rattle.source_nets.specs.Survey.{IsModelSurvey}
use Rattle.plain_size.specs.Nodes.{HasRows}
use Rattle.plain_size.specs.Sizes.{AreCostsOf, IsMainPlain, IsUpToLimit}

pub first_main : (ms : List ReadModel) (m : ReadModel) → 0 < length ms → m ≡ get_or ms 0 m → first_model (map model_of ms) ≡ Some (model_of m)
first_main [] m h e = absurd (omega arith)
first_main (k ∷ ms) m h e = ap (λ (x : ReadModel). Some (model_of x)) (sym e)

pub first_survey : (file : File) (library : Library) (ms : List ReadModel) (surveys : List ModelSurvey) (m : ReadModel) (survey : ModelSurvey) → 0 < length ms → AllZip (IsModelSurvey file library) (map model_of ms) surveys → m ≡ get_or ms 0 m → survey ≡ get_or surveys 0 survey
    → IsModelSurvey file library (model_of m) survey
first_survey file library [] surveys m survey h a e f = absurd (omega arith)
first_survey file library (k ∷ ms) [] m survey h a e f = absurd a
first_survey file library (k ∷ ms) (s ∷ surveys) m survey h a e f = subst (λ (x : ReadModel). IsModelSurvey file library (model_of x) survey) (sym e) (subst (λ (x : ModelSurvey). IsModelSurvey file library (model_of k) x) (sym f) a.0)

pub rows_of : (file : File) (library : Library) (m : ReadModel) (survey : ModelSurvey) → IsModelSurvey file library (model_of m) survey → HasRows m survey
rows_of file library m survey is =
    let statements = length-map m.statements.items (located_of m.names) in
    record {
      reads = sym (length-map survey.reads (map (name_at m.names))) ∙ (ap length is.reads ∙ (length-map (model_of m).statements (λ (s : Located). reads file library s.what) ∙ statements));
      drives = sym (length-map survey.drives (map (name_at m.names))) ∙ (ap length is.drives ∙ (length-map (model_of m).statements (λ (s : Located). drives file library s.what) ∙ statements));
      reads_within = is.reads_within;
      drives_within = is.drives_within;
    }

pub costs_long : (file : File) (library : Library) (m : ReadModel) (costs : List ℕ) → AreCostsOf file library (model_of m) costs → length costs ≡ length m.statements.items
costs_long file library m costs are = ap length are ∙ (length-map (model_of m).statements (λ (s : Located). min (cost_of file library s.what) 1000001) ∙ length-map m.statements.items (located_of m.names))

pub main_driven : (file : File) (library : Library) (m : Model) → main_model file ≡ Some m → IsSound file library → HasOneDriverEach file library m
main_driven file library m main sound = (sound.used m (m, main, 0, refl)).drivers

module _ (file : File) (s : Settings) (l : Layout) (m : Model) (main : main_model file ≡ Some m) where
  pub main_plain : (size : Option ℕ) → IsUpToLimit (IsPlain file s.library m s.code s.mode s.bound l) size → IfSome size (λ n. IsMainPlain file s l n × (n ≤ 1000000))
  main_plain None is = tt
  main_plain (Some n) (is, small) = ((m, main, is), small)

  pub main_large : (size : Option ℕ) → IsUpToLimit (IsPlain file s.library m s.code s.mode s.bound l) size → IfNone size ((n : ℕ) × IsMainPlain file s l n × (1000000 < n))
  main_large None (n, is, large) = (n, (m, main, is), large)
  main_large (Some n) is = tt
