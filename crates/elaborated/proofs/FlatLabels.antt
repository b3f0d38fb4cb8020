-- The labels of a flat netlist, by numbers and by names.
use Rattle.std.proofs.Common.{◌≡◌, refl, ◌∙◌, ap, ap₂, ℕ, zero, suc, List, [], ◌∷◌, ◌++◌, length, map, All, arith}
use Rattle.std.specs.List.{AllByRecursion, range_with_len}
use Rattle.std.proofs.lemmas.List.{map-append}
use Rattle.std.proofs.lemmas.List.Elements.{All-from_recursion, recursion_from_All}
use Rattle.netlist_spec.specs.Netlist.{Name}
use Rattle.netlist_spec.specs.Gates.{Machine}
use Rattle.netlist_spec.specs.Written.{Label, given, inner}
use Rattle.netlist_spec.proofs.OneValue.{All_append}
use Rattle.imp_text.specs.declared.names.NameId.{NameId}
use Rattle.blif_read.specs.View.{name_at}
use Rattle.blif_read.specs.Ids.{IsIdOf}
use Rattle.named_netlist.specs.Labels.{label_of, ids_in}
use Rattle.named_netlist.specs.declared.label.Label.{Label as NetLabel}
use Rattle.named_netlist.specs.declared.label.Label.TheVariants.{Given, Inner}
use Rattle.elaborated.specs.Flat.{at_gates}
use Rattle.elaborated.specs.Labels.{labels_of}
use Rattle.elaborated.proofs.DistinctNames.{at_gates-map, all_at_gates}

given_mapped : (all : List Name) (ids : List NameId) → map (label_of all) (map (λ n. Given n) ids) ≡ map (λ n. given n) (map (name_at all) ids)
given_mapped all [] = refl
given_mapped all (id ∷ ids) = ap (λ l. given (name_at all id) ∷ l) (given_mapped all ids)

inner_mapped : (all : List Name) (ks : List ℕ) → map (label_of all) (map (λ i. Inner i) ks) ≡ map (λ i. inner i) ks
inner_mapped all [] = refl
inner_mapped all (k ∷ ks) = ap (λ l. inner k ∷ l) (inner_mapped all ks)

pub labels_mapped : (all : List Name) (data_names latch_names : List NameId) (m : Machine) (output_names : List NameId)
    → map (label_of all) (labels_of data_names latch_names m output_names)
    ≡ map (λ n. given n) (map (name_at all) data_names) ++ map (λ n. given n) (map (name_at all) latch_names) ++ map (λ i. inner i) (range_with_len 0 (length m.net.gates))
    ++ map (λ n. given n) (at_gates m.net.leaves (map (name_at all) output_names) m.outputs)
labels_mapped all data_names latch_names m output_names =
    let a = map (λ n. Given n) data_names in
    let b = map (λ n. Given n) latch_names in
    let c = map (λ i. Inner i) (range_with_len 0 (length m.net.gates)) in
    let d = map (λ n. Given n) (at_gates m.net.leaves output_names m.outputs) in
    map-append (label_of all) ((a ++ b) ++ c) d
    ∙ ap₂ (λ (x y : List Label). x ++ y)
    (map-append (label_of all) (a ++ b) c ∙ ap₂ (λ (x y : List Label). x ++ y) (map-append (label_of all) a b ∙ ap₂ (λ (x y : List Label). x ++ y) (given_mapped all data_names) (given_mapped all latch_names)) (inner_mapped all (range_with_len 0 (length m.net.gates))))
    (given_mapped all (at_gates m.net.leaves output_names m.outputs) ∙ ap (map (λ n. given n)) (at_gates-map (name_at all) m.net.leaves output_names m.outputs))

abbrev HasIds : List Name → NetLabel → Type 0
HasIds all l = All (IsIdOf all) (ids_in l)

one_id : (all : List Name) (id : NameId) → IsIdOf all id → All (IsIdOf all) (id ∷ [])
one_id all id h zero d inside = h
one_id all id h (suc k) d inside = absurd (omega arith)

no_id : (all : List Name) → All (IsIdOf all) []
no_id all k d inside = absurd (omega arith)

given_within : (all : List Name) (ids : List NameId) → AllByRecursion (IsIdOf all) ids → AllByRecursion (HasIds all) (map (λ n. Given n) ids)
given_within all [] h = tt
given_within all (id ∷ ids) h = (one_id all id h.0, given_within all ids h.1)

inner_within : (all : List Name) (ks : List ℕ) → AllByRecursion (HasIds all) (map (λ i. Inner i) ks)
inner_within all [] = tt
inner_within all (k ∷ ks) = (no_id all, inner_within all ks)

pub labels_within : (all : List Name) (data_names latch_names : List NameId) (m : Machine) (output_names : List NameId) → All (IsIdOf all) data_names → All (IsIdOf all) latch_names → All (IsIdOf all) output_names
    → All (λ l. All (IsIdOf all) (ids_in l)) (labels_of data_names latch_names m output_names)
labels_within all data_names latch_names m output_names hd hl ho =
    let a = map (λ n. Given n) data_names in
    let b = map (λ n. Given n) latch_names in
    let c = map (λ i. Inner i) (range_with_len 0 (length m.net.gates)) in
    let d = map (λ n. Given n) (at_gates m.net.leaves output_names m.outputs) in
    All-from_recursion (HasIds all) (labels_of data_names latch_names m output_names)
    (All_append (HasIds all) ((a ++ b) ++ c) d
    (All_append (HasIds all) (a ++ b) c
    (All_append (HasIds all) a b (given_within all data_names (recursion_from_All (IsIdOf all) data_names hd)) (given_within all latch_names (recursion_from_All (IsIdOf all) latch_names hl)))
    (inner_within all (range_with_len 0 (length m.net.gates))))
    (given_within all (at_gates m.net.leaves output_names m.outputs) (all_at_gates (IsIdOf all) m.net.leaves output_names m.outputs (recursion_from_All (IsIdOf all) output_names ho))))
