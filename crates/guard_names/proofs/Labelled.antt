-- The labels of a guard, by numbers and by names.
use Rattle.std.proofs.Common.{◌≡◌, sym, ◌∙◌, ap, ap₂, subst, ℕ, zero, suc, ◌+◌, ◌*◌, ◌≤◌, List, [], ◌∷◌, ◌++◌, length, map, All, arith}
use Rattle.std.specs.List.{AllByRecursion, flat_map, range_with_len}
use Rattle.std.proofs.lemmas.List.{map-append, length-map}
use Rattle.std.proofs.lemmas.List.Elements.{All-from_recursion, recursion_from_All}
use Rattle.netlist_spec.specs.Netlist.{Name}
use Rattle.netlist_spec.specs.Elaborated.{Elaborated, HasElaboratedForm}
use Rattle.netlist_spec.specs.GateRanges.{Region}
use Rattle.netlist_spec.specs.Written.{Label, given, store, next, check, rail, inner}
use Rattle.imp_text.specs.declared.names.NameId.{NameId}
use Rattle.blif_read.specs.View.{name_at}
use Rattle.blif_read.specs.Ids.{IsIdOf}
use Rattle.gate_net.specs.Gate.{net_number}
use Rattle.gate_net.specs.Machine.{latch_row}
use Rattle.guard_spec.specs.Codes.{Code, IsCode, Mode, data_places}
use Rattle.guard_spec.specs.Words.{Words, Layout, IsPartition}
use Rattle.guard_laws.specs.Promised.{IsGuardOf}
use Rattle.guard_laws.specs.Places.{latches_of_words}
use Rattle.size_laws.specs.Labels.{word_labels}
use Rattle.named_netlist.specs.Labels.{label_of, ids_in}
use Rattle.named_netlist.specs.declared.label.Label.{Label as NetLabel}
use Rattle.named_netlist.specs.declared.label.Label.TheVariants.{Given, Inner, Check, Rail}
use Rattle.guard_names.specs.declared.labels.Kind.{Kind}
use Rattle.guard_names.specs.declared.labels.Kind.TheVariants.{Store as ForStore, Next as ForNext, Check as ForCheck}
use Rattle.guard_names.specs.declared.named.GuardNets.{GuardNets}
use Rattle.guard_names.specs.Labels.{IsRising, beside_gates, between, kind_label, places_from, state_labels, check_labels, shown_labels}
use Rattle.guard_names.specs.OfGuard.{CanLabel, output_numbers, own_nets, own_labels, guard_labels_of}
use Rattle.guard_names.specs.ToName.{guarded_of}
use Rattle.guard_names.proofs.Lists.{all_by, all_join, all_row}
use Rattle.guard_names.proofs.Rising.{all_beside}
use Rattle.guard_names.proofs.Between.{between_mapped, between_all}
use Rattle.guard_names.proofs.Counts.{few_words, short_words, places_long, checks_long}
use Rattle.guard_names.proofs.Mapped.{given_mapped, stores_mapped, nexts_mapped, checks_mapped, shown_mapped, beside_mapped}
use Rattle.guard_names.proofs.NamedGuard.{latch_count, leaves_are, outs_long, rises}

-- ---- by names

-- the labels of a guard, with names
abbrev pub labels_by_names : GuardNets → List Name → List Name → Layout → ℕ → List Label
labels_by_names g inputs outputs l columns =
    map (λ n. given n) inputs ++ word_labels store (λ w. length w + columns) l.state
    ++ between (λ i. inner i) g.net.leaves 0 (own_nets g)
    (word_labels next (λ w. length w + columns) l.state
    ++ beside_gates g.net.leaves (map (λ n. given n) outputs ++ word_labels check (λ w. columns) l.output ++ map rail (range_with_len 0 g.rails)) (output_numbers g))

pub labels_mapped : (all : List Name) (g : GuardNets) (inputs outputs : List NameId) (l : Layout) (columns : ℕ) → map (label_of all) (guard_labels_of g inputs outputs l columns) ≡ labels_by_names g (map (name_at all) inputs) (map (name_at all) outputs) l columns
labels_mapped all g inputs outputs l columns =
    map-append (label_of all) (map (λ n. Given n) inputs ++ state_labels ForStore columns l.state) (between (λ i. Inner i) g.net.leaves 0 (own_nets g) (own_labels g outputs l columns))
    ∙ ap₂ (λ (xs ys : List Label). xs ++ ys)
    (map-append (label_of all) (map (λ n. Given n) inputs) (state_labels ForStore columns l.state) ∙ ap₂ (λ (xs ys : List Label). xs ++ ys) (given_mapped all inputs) (stores_mapped all columns l.state))
    (between_mapped (label_of all) (λ i. Inner i) g.net.leaves 0 (own_nets g) (own_labels g outputs l columns)
    ∙ ap (λ (ls : List Label). between (λ i. inner i) g.net.leaves 0 (own_nets g) ls)
    (map-append (label_of all) (state_labels ForNext columns l.state) (beside_gates g.net.leaves (shown_labels outputs columns (length l.output) g.rails) (output_numbers g))
    ∙ ap₂ (λ (xs ys : List Label). xs ++ ys) (nexts_mapped all columns l.state)
    (beside_mapped (label_of all) g.net.leaves (shown_labels outputs columns (length l.output) g.rails) (output_numbers g)
    ∙ ap (λ (ls : List Label). beside_gates g.net.leaves ls (output_numbers g)) (shown_mapped all outputs columns l.output g.rails))))

-- ---- numbers of names

module _ (all : List Name) where
  abbrev HasIds : NetLabel → Type 0
  HasIds l = All (IsIdOf all) (ids_in l)

  one_id : (id : NameId) → IsIdOf all id → All (IsIdOf all) (id ∷ [])
  one_id id h zero d inside = h
  one_id id h (suc k) d inside = absurd (omega arith)

  no_id : All (IsIdOf all) []
  no_id k d inside = absurd (omega arith)

  given_within : (ids : List NameId) → AllByRecursion (IsIdOf all) ids → AllByRecursion HasIds (map (λ n. Given n) ids)
  given_within [] h = tt
  given_within (id ∷ ids) h = (one_id id h.0, given_within ids h.1)

  kind_within : (kind : Kind) (w i : ℕ) → HasIds (kind_label kind w i)
  kind_within ForStore w i = no_id
  kind_within ForNext w i = no_id
  kind_within ForCheck w i = no_id

  places_within : (kind : Kind) (columns first : ℕ) (words : Words) → AllByRecursion HasIds (places_from kind columns first words)
  places_within kind columns first [] = tt
  places_within kind columns first (w ∷ words) = all_join HasIds (map (kind_label kind first) (range_with_len 0 (length w + columns))) _ (all_row HasIds (kind_label kind first) (kind_within kind first) (length w + columns)) (places_within kind columns (first + 1) words)

  checks_within : (columns first n : ℕ) → AllByRecursion HasIds (flat_map (λ (word : ℕ). map (Check word) (range_with_len 0 columns)) (range_with_len first n))
  checks_within columns first zero = tt
  checks_within columns first (suc n) = all_join HasIds (map (Check first) (range_with_len 0 columns)) _ (all_row HasIds (Check first) (λ i. no_id) columns) (checks_within columns (first + 1) n)

  pub labels_within : (g : GuardNets) (inputs outputs : List NameId) (l : Layout) (columns : ℕ) → All (IsIdOf all) inputs → All (IsIdOf all) outputs → IsRising g.net.leaves (own_nets g) → All (λ l. All (IsIdOf all) (ids_in l)) (guard_labels_of g inputs outputs l columns)
  labels_within g inputs outputs l columns hd ho rising =
      All-from_recursion HasIds (guard_labels_of g inputs outputs l columns)
      (all_join HasIds (map (λ n. Given n) inputs ++ state_labels ForStore columns l.state) (between (λ i. Inner i) g.net.leaves 0 (own_nets g) (own_labels g outputs l columns))
      (all_join HasIds (map (λ n. Given n) inputs) (state_labels ForStore columns l.state) (given_within inputs (recursion_from_All (IsIdOf all) inputs hd)) (places_within ForStore columns 0 l.state))
      (between_all HasIds (λ i. Inner i) g.net.leaves 0 (own_nets g) (own_labels g outputs l columns) rising (λ i small. no_id)
      (all_join HasIds (state_labels ForNext columns l.state) (beside_gates g.net.leaves (shown_labels outputs columns (length l.output) g.rails) (output_numbers g)) (places_within ForNext columns 0 l.state)
      (all_beside HasIds g.net.leaves (shown_labels outputs columns (length l.output) g.rails) (output_numbers g)
      (all_join HasIds (map (λ n. Given n) outputs ++ check_labels columns (length l.output)) (map (λ i. Rail i) (range_with_len 0 g.rails))
      (all_join HasIds (map (λ n. Given n) outputs) (check_labels columns (length l.output)) (given_within outputs (recursion_from_All (IsIdOf all) outputs ho)) (checks_within columns 0 (length l.output)))
      (all_row HasIds (λ i. Rail i) (λ i. no_id) g.rails))))))

-- ---- what the labelling needs

pub state_long : (kind_columns : ℕ) (words : Words) (code : Code) → code.columns ≡ kind_columns → (length (state_labels ForStore kind_columns words) ≡ latches_of_words code words) × (length (state_labels ForNext kind_columns words) ≡ latches_of_words code words)
state_long columns words code same =
    let by_code : (k : ℕ) → code.columns ≡ k → (length (state_labels ForStore k words) ≡ latches_of_words code words) × (length (state_labels ForNext k words) ≡ latches_of_words code words)
    = λ k e. subst (λ (j : ℕ). (length (state_labels ForStore j words) ≡ latches_of_words code words) × (length (state_labels ForNext j words) ≡ latches_of_words code words)) e (
      sym (length-map (state_labels ForStore code.columns words) (label_of [])) ∙ ap (λ (ls : List Label). length ls) (stores_mapped [] code.columns words) ∙ places_long store code words,
      sym (length-map (state_labels ForNext code.columns words) (label_of [])) ∙ ap (λ (ls : List Label). length ls) (nexts_mapped [] code.columns words) ∙ places_long next code words,
    ) in
    by_code columns same

pub check_count : (columns : ℕ) (words : Words) → length (check_labels columns (length words)) ≡ length (word_labels check (λ w. columns) words)
check_count columns words = sym (length-map (check_labels columns (length words)) (label_of [])) ∙ ap (λ (ls : List Label). length ls) (checks_mapped [] columns words)

module _ (e : Elaborated) (form : HasElaboratedForm e) (code : Code) (is_code : IsCode code) (l : Layout) (state : IsPartition (length e.latch_names) (data_places code) l.state) (output : IsPartition (length e.output_names) (data_places code) l.output)
    (g : GuardNets) (regions : List Region) (mode : Mode) (radius : ℕ) (guard : IsGuardOf (guarded_of g e.machine.inputs regions) e.machine code mode radius g.rails l) where
  pub can_label : (inputs outputs columns : ℕ) → inputs ≡ length e.data_names → outputs ≡ length e.output_names → columns ≡ code.columns → CanLabel g inputs outputs l columns
  can_label inputs outputs columns inputs_are outputs_is columns_are =
      let long = state_long columns l.state code (sym columns_are) in
      let latches = latch_count e form code is_code l state output (guarded_of g e.machine.inputs regions) mode radius guard in
      let leaf = leaves_are e form code is_code l state output (guarded_of g e.machine.inputs regions) mode radius guard in
      let outs = outs_long e form code is_code l state output (guarded_of g e.machine.inputs regions) mode radius guard in
      let many = length-map g.latches.items latch_row in
      let shown = length-map g.outputs.items net_number in
      let checks : length (check_labels columns (length l.output)) ≡ length l.output * code.columns = check_count columns l.output ∙ ap (λ (k : ℕ). length (word_labels check (λ w. k) l.output)) columns_are ∙ checks_long check code.columns l.output in
      let few_columns = is_code.columns.1 in
      record {
        narrow = omega arith;
        few_state = let a = few_words (length e.latch_names) (data_places code) l.state state in let b = form.few_latches in omega arith;
        few_output = let a = few_words (length e.output_names) (data_places code) l.output output in let b = form.few_outputs in omega arith;
        short = all_by (λ w. length w ≤ data_places code) (λ w. length w ≤ 12) (λ w h. let a = is_code.rows.1 in omega arith) l.state (short_words (length e.latch_names) (data_places code) l.state state);
        leaves = let a = long.0 in omega arith;
        latches = let a = long.1 in omega arith;
        outputs = omega arith;
        rising = rises e form code is_code l state output (guarded_of g e.machine.inputs regions) mode radius guard;
      }
