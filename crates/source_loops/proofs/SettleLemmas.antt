-- What the steps of settling a model ask for and give.
use Rattle.std.proofs.Common.{◌≡◌, ◌==◌, ◌⊎◌, inl, inr, refl, sym, ◌∙◌, ap, subst, ℕ, ◌<◌, ◌≤◌, count_by, Bool, List, length, map, get_or, Some, slice_get, Contains, arith}
use Rattle.std.specs.List.{AllZip}
use Rattle.std.proofs.lemmas.List.{length-map}
use Rattle.std.proofs.lemmas.List.Elements.{Contains-get_or}
use Rattle.std.proofs.lemmas.Option.{slice_get_read, slice_get_within}
use Rattle.netlist_spec.specs.Netlist.{Located, Model, File}
use Rattle.netlist_spec.specs.Covers.{Library}
use Rattle.netlist_spec.specs.Sound.{combines, drives, reads, HasOneDriverEach, IsDrivenWhereRead}
use Rattle.netlist_spec.specs.SoundFaults.{IsWalkedLoop}
use Rattle.blif_read.specs.declared.file.Model.{Model as ReadModel}
use Rattle.blif_read.specs.View.{model_of}
use Rattle.net_graph.specs.Chains.{IsMarked, ends_of}
use Rattle.net_order.specs.Order.{AreDriven, AreNets, IsLeftOver, IsOrder, OthersAreLeft, OthersWait}
use Rattle.net_order.specs.Walks.{IsWalkedLoop as IsWalkedByNumber}
use Rattle.source_nets.specs.declared.types.ModelSurvey.{ModelSurvey}
use Rattle.source_nets.specs.Survey.{IsModelSurvey}
use Rattle.source_nets.proofs.SurveyLemmas.{row_at, zip_left, zip_length}
use Rattle.source_loops.specs.declared.nets.ModelNets.{ModelNets}
use Rattle.source_loops.specs.Nets.{name_of, AreNetsOf}
use Rattle.source_loops.specs.Drivers.{AreDrivers}
use Rattle.source_loops.specs.Orders.{IsModelOrder}
use Rattle.source_loops.proofs.NetLemmas.{combining, nets_are_driven}
use Rattle.source_loops.proofs.OrderLemmas.{model_order}
use Rattle.source_loops.proofs.LeftLemmas.{driver_is, told, walked_within, walked_once}

-- the model at a place
pub model_there : (models : List ReadModel) (place : ℕ) (x : ReadModel) → place < length models → x ≡ get_or models place x → slice_get (map model_of models) place ≡ Some (model_of x)
model_there models place x h e = row_at model_of models place x (slice_get_read models (length models) place x refl h e)

-- and what is known of it
pub survey_inside : (file : File) (library : Library) (models : List ReadModel) (surveys : List ModelSurvey) (place : ℕ) → AllZip (IsModelSurvey file library) (map model_of models) surveys → place < length models → place < length surveys
survey_inside file library models surveys place all h = omega (arith, h, length-map models model_of, zip_length (IsModelSurvey file library) (map model_of models) surveys all)

pub surveyed : (file : File) (library : Library) (models : List ReadModel) (surveys : List ModelSurvey) (place : ℕ) (x : ReadModel) (found : ModelSurvey) → AllZip (IsModelSurvey file library) (map model_of models) surveys → place < length models
    → x ≡ get_or models place x → found ≡ get_or surveys place found → IsModelSurvey file library (model_of x) found
surveyed file library models surveys place x found all h e f =
    zip_left (IsModelSurvey file library) (map model_of models) surveys place (model_of x) found all (model_there models place x h e)
    (slice_get_read surveys (length surveys) place found refl (survey_inside file library models surveys place all h) f)

rows_length : {A B C : Type 0} (g : A → B) (f : C → B) (rows : List A) (xs : List C) → map g rows ≡ map f xs → length rows ≡ length xs
rows_length g f rows xs e = sym (length-map rows g) ∙ (ap length e ∙ length-map xs f)

-- what the ordering of a model's nets gives
pub record Settles (reads drives : List (List ℕ)) (combine given : List Bool) (order : List ℕ) (left : List Bool) : Type 0 where
  pub ordered : IsOrder reads drives combine given order
  pub size : length left ≡ length given
  pub over : AreDriven reads drives combine given → (n : ℕ) → IsMarked left n → IsLeftOver reads drives combine left n
  pub waits : AreDriven reads drives combine given → OthersWait reads combine left order
  pub others : OthersAreLeft drives combine left order

pub settles_as : (reads drives : List (List ℕ)) (combine combine' given given' : List Bool) (order : List ℕ) (left : List Bool) → combine ≡ combine' → given ≡ given' → Settles reads drives combine given order left → Settles reads drives combine' given' order left
settles_as reads drives combine combine' given given' order left e f s = subst (λ g. Settles reads drives combine' g order left) f (subst (λ c. Settles reads drives c given order left) e s)

-- what a walk asks for
pub record Walkable (reads : List (List ℕ)) (left : List Bool) (drivers : List ℕ) : Type 0 where
  pub nets : AreNets (length left) reads
  pub size : length drivers ≡ length left
  pub items : (n : ℕ) → IsMarked left n → get_or drivers n 0 < length reads
  pub goes_on : (n : ℕ) → IsMarked left n → (k : ℕ) × Contains (ends_of reads (get_or drivers n 0)) k × IsMarked left k

pub walkable_as : (reads : List (List ℕ)) (left left' : List Bool) (drivers drivers' : List ℕ) → left' ≡ left → drivers' ≡ drivers → Walkable reads left drivers → Walkable reads left' drivers'
walkable_as reads left left' drivers drivers' e f w = subst (λ d. Walkable reads left' d) (sym f) (subst (λ l. Walkable reads l drivers) (sym e) w)

pub walked_as : (reads : List (List ℕ)) (left left' : List Bool) (drivers drivers' ns : List ℕ) → left' ≡ left → drivers' ≡ drivers → IsWalkedByNumber reads drivers' left' ns → IsWalkedByNumber reads drivers left ns
walked_as reads left left' drivers drivers' ns e f w = subst (λ d. IsWalkedByNumber reads d left ns) f (subst (λ l. IsWalkedByNumber reads drivers' l ns) e w)

module _ (file : File) (library : Library) (m : Model) (nets : ModelNets) (are : AreNetsOf file library m nets) where
  pub reads_are_nets : (given : List Bool) → given ≡ nets.given.items → AreNets (length given) nets.reads
  reads_are_nets given e = subst (λ n. AreNets n nets.reads) (sym (ap length e ∙ are.given.each_name)) are.reads_within

  pub drives_are_nets : (given : List Bool) → given ≡ nets.given.items → AreNets (length given) nets.drives
  drives_are_nets given e = subst (λ n. AreNets n nets.drives) (sym (ap length e ∙ are.given.each_name)) are.drives_within

  reads_length : length nets.reads ≡ length m.statements
  reads_length = rows_length (map (name_of m.names)) (λ (s : Located). reads file library s.what) nets.reads m.statements are.reads

  pub same_length : length nets.drives ≡ length nets.reads
  same_length = rows_length (map (name_of m.names)) (λ (s : Located). drives file library s.what) nets.drives m.statements are.drives ∙ sym reads_length

  pub combine_length : (combine : List Bool) → combine ≡ nets.combines.items → length combine ≡ length nets.reads
  combine_length combine e = ap length (e ∙ are.combines) ∙ (length-map m.statements (λ (s : Located). combines s.what) ∙ sym reads_length)

  module _ (driven : IsDrivenWhereRead file library m) (order : List ℕ) (left : List Bool) (s : Settles nets.reads nets.drives nets.combines.items nets.given.items order left) where
    over : (n : ℕ) → IsMarked left n → IsLeftOver nets.reads nets.drives nets.combines.items left n
    over = s.over (nets_are_driven file library m nets are driven)

    size : length left ≡ length m.names
    size = s.size ∙ are.given.each_name

    pub settled_order : ((n : ℕ) → IsMarked left n → ⊥) → IsModelOrder file library m order
    settled_order none = model_order file library m nets are order s.ordered (λ i c. one i (s.waits (nets_are_driven file library m nets are driven) i c))
      where
        one : (i : ℕ) → Contains order i ⊎ ((k : ℕ) × Contains (ends_of nets.reads i) k × IsMarked left k) → Contains order i
        one i (inl c) = c
        one i (inr w) = absurd (none w.0 w.2)

    module _ (drivers : List ℕ) (d : AreDrivers file library m drivers) where
      pub walkable : Walkable nets.reads left drivers
      walkable =
          record {
            nets = subst (λ n. AreNets n nets.reads) (sym size) are.reads_within;
            size = d.each ∙ sym size;
            items = λ n c.
                let o = over n c in
                let r = combining file library m nets are o.0 o.1 in
                omega (arith, driver_is file library m nets are left size drivers d n o c, slice_get_within m.statements o.0 r.0 r.1, reads_length);
            goes_on = λ n c.
                let o = over n c in
                (o.3.0, subst (λ i. Contains (ends_of nets.reads i) o.3.0) (sym (driver_is file library m nets are left size drivers d n o c)) o.3.1, o.3.2);
          }

      pub loop_within : (ns : List ℕ) → IsWalkedByNumber nets.reads drivers left ns → (k e : ℕ) → k < length ns → get_or ns k e < length m.names
      loop_within ns w k e h = walked_within file library m nets are left size drivers d over ns w (get_or ns k e) (Contains-get_or ns k e h)

      pub loop_once : (ns : List ℕ) → IsWalkedByNumber nets.reads drivers left ns → (i : ℕ) → count_by (λ k. k == i) ns ≤ 1
      loop_once ns w i = walked_once file library m nets are left size drivers d over ns w i

      pub loop_told : HasOneDriverEach file library m → (ns : List ℕ) → IsWalkedByNumber nets.reads drivers left ns → IsWalkedLoop file library m (map (name_of m.names) ns)
      loop_told one ns w = told file library m nets are left size drivers d over order one s.ordered s.others ns w
